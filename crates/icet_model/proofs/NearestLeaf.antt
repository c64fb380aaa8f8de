-- By depth the value of a bracket is the nearest of its leaves' pixels, from the front to the back.
use Rattle.std.proofs.Common.{◌≡◌, ℕ, Bool, true, false, cond, List, [], ◌∷◌, ◌++◌, map, get_or, Some, None, refl, sym, ap, ◌∙◌, arith}
use Rattle.std.specs.Prelude.{nat_le, filter}
use Rattle.std.proofs.lemmas.Bool.Decides.{nat_tests}
use Rattle.std.proofs.lemmas.List.{map-append}
use Rattle.icet_model.specs.declared.names.Mode.TheVariants.{Depth}
use Rattle.icet_model.specs.declared.bracket.Bracket.{Bracket, Empty, Leaf, Pair', more_of-Bracket}
use Rattle.icet_model.specs.Pixel.{FragmentView, Pixel, joined}
use Rattle.icet_model.specs.Bracket.{Images, leaves, value}
use Rattle.icet_model.specs.Composite.{nearer, nearest}

chosen : (f g h : FragmentView) → nearer f (Some (cond (nat_le g.z h.z) g h)) ≡ cond (nat_le (cond (nat_le f.z g.z) f g).z h.z) (cond (nat_le f.z g.z) f g) h
chosen f g h = go (nat_le f.z g.z) (nat_le g.z h.z) refl refl
  where
    go : (a b : Bool) → nat_le f.z g.z ≡ a → nat_le g.z h.z ≡ b → cond (nat_le f.z (cond b g h).z) f (cond b g h) ≡ cond (nat_le (cond a f g).z h.z) (cond a f g) h
    go true true p q = let e : nat_le f.z h.z ≡ true = grind (arith, nat_tests, p, q) in rw (p, e) refl
    go true false p q = refl
    go false true p q = rw (p, q) refl
    go false false p q = let e : nat_le f.z h.z ≡ false = grind (arith, nat_tests, p, q) in rw (e, q) refl

in_turn : (f : FragmentView) (a b : Pixel) → Some (nearer f (joined Depth a b)) ≡ joined Depth (Some (nearer f a)) b
in_turn f None None = refl
in_turn f None (Some h) = refl
in_turn f (Some g) None = refl
in_turn f (Some g) (Some h) = ap Some (chosen f g h)

pub nearest-append : (xs ys : List Pixel) → nearest (xs ++ ys) ≡ joined Depth (nearest xs) (nearest ys)
nearest-append [] ys = refl
nearest-append (None ∷ xs) ys = nearest-append xs ys
nearest-append (Some f ∷ xs) ys = ap (λ p. Some (nearer f p)) (nearest-append xs ys) ∙ in_turn f (nearest xs) (nearest ys)

alone : (p : Pixel) → p ≡ nearest (p ∷ [])
alone None = refl
alone (Some f) = refl

pub value_nearest : (images : Images) (b : Bracket) (t i : ℕ) → value Depth images b t i ≡ nearest (map (λ r. get_or (images r t) i None) (leaves b))
value_nearest images Empty t i = refl
value_nearest images (Leaf r) t i = alone (get_or (images r t) i None)
value_nearest images (Pair' s (more_of-Bracket f u) v (more_of-Bracket b w)) t i =
    ap (λ p. joined Depth p (value Depth images b t i)) (value_nearest images f t i)
    ∙ ap (joined Depth (nearest (map (λ r. get_or (images r t) i None) (leaves f)))) (value_nearest images b t i)
    ∙ sym (nearest-append (map (λ r. get_or (images r t) i None) (leaves f)) (map (λ r. get_or (images r t) i None) (leaves b)))
    ∙ ap nearest (sym (map-append (λ r. get_or (images r t) i None) (leaves f) (leaves b)))

-- ranks without a fragment may be left out
pub nearest-filter : (p : ℕ → Bool) (pixel : ℕ → Pixel) (ranks : List ℕ) → ((r : ℕ) → p r ≡ false → pixel r ≡ None) → nearest (map pixel (filter p ranks)) ≡ nearest (map pixel ranks)
nearest-filter p pixel [] h = refl
nearest-filter p pixel (r ∷ ranks) h = go (p r) refl (nearest-filter p pixel ranks h)
  where
    front : (x : Pixel) (xs ys : List Pixel) → nearest xs ≡ nearest ys → nearest (x ∷ xs) ≡ nearest (x ∷ ys)
    front None xs ys e = e
    front (Some f) xs ys e = ap (λ q. Some (nearer f q)) e

    go : (b : Bool) → p r ≡ b → nearest (map pixel (filter p ranks)) ≡ nearest (map pixel ranks) → nearest (map pixel (cond b (r ∷ filter p ranks) (filter p ranks))) ≡ nearest (pixel r ∷ map pixel ranks)
    go true e rest = front (pixel r) (map pixel (filter p ranks)) (map pixel ranks) rest
    go false e rest = rest ∙ ap (λ x. nearest (x ∷ map pixel ranks)) (sym (h r e))
