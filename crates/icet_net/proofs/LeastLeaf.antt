-- The nearest of ascending leaves is the least pair of depth and rank.
use Rattle.std.proofs.Common.{◌≡◌, ℕ, zero, suc, ◌<◌, ◌≤◌, List, [], ◌∷◌, map, get_or, Some, None, refl, sym, ap, ◌∙◌, arith, inl, inr}
use Rattle.std.specs.Prelude.{slice_get, slice_index_or, option_map, AllPairs}
use Rattle.std.proofs.lemmas.Bool.{cases_lt}
use Rattle.std.proofs.lemmas.Option.{slice_get-map, slice_get_within}
use Rattle.icet_model.specs.declared.bracket.Bracket.{Bracket}
use Rattle.icet_model.specs.declared.names.Mode.TheVariants.{Depth}
use Rattle.icet_model.specs.Pixel.{FragmentView, Pixel}
use Rattle.icet_model.specs.Bracket.{Images, leaves, value}
use Rattle.icet_model.specs.Composite.{nearest, ComesBefore}
use Rattle.icet_model.proofs.Nearest.{nearest_some, nearest_none}
use Rattle.icet_model.proofs.NearestLeaf.{value_nearest}
use Rattle.icet_net.specs.NearestLeaf.{HasAscendingLeaves, IsLeastOf}

at_place : (xs : List ℕ) (k x : ℕ) → slice_get xs k ≡ Some x → slice_index_or xs k x ≡ x
at_place [] k x e = absurd cc
at_place (y ∷ xs) zero x e = let h : y ≡ x = cc in h
at_place (y ∷ xs) (suc k) x e = at_place xs k x e

at_place_or : (xs : List ℕ) (k x d : ℕ) → slice_get xs k ≡ Some x → slice_index_or xs k d ≡ x
at_place_or [] k x d e = absurd cc
at_place_or (y ∷ xs) zero x d e = let h : y ≡ x = cc in h
at_place_or (y ∷ xs) (suc k) x d e = at_place_or xs k x d e

-- a later place of an ascending list has no lower number
no_lower : (ranks : List ℕ) → AllPairs (λ p q. p < q) ranks → (k j r q : ℕ) → slice_get ranks k ≡ Some r → slice_get ranks j ≡ Some q → k ≤ j → r ≤ q
no_lower ranks up k j r q a b l = elim (cases_lt k j) [
  | inl m ↦ (let h = up k j 0 m (slice_get_within ranks j q b) in let x = at_place_or ranks k r 0 a in let y = at_place_or ranks j q 0 b in omega (arith, h, x, y))
  | inr m ↦ (let e : k ≡ j = omega (arith, l, m) in let h : Some r ≡ Some q = sym a ∙ ap (slice_get ranks) e ∙ b in let s : r ≡ q = cc in omega (arith, s))
]

record Named (pixel : ℕ → Pixel) (ranks : List ℕ) (k : ℕ) (f : FragmentView) : Type 0 where
  rank : ℕ
  among : slice_get ranks k ≡ Some rank
  has : pixel rank ≡ Some f

named : (pixel : ℕ → Pixel) (ranks : List ℕ) (k : ℕ) (f : FragmentView) → slice_get (map pixel ranks) k ≡ Some (Some f) → Named pixel ranks k f
named pixel [] k f e = absurd cc
named pixel (r ∷ ranks) zero f e = record { rank = r; among = refl; has = let h : pixel r ≡ Some f = cc in h }
named pixel (r ∷ ranks) (suc k) f e = let n = named pixel ranks k f e in record { rank = n.rank; among = n.among; has = n.has }

mapped : (pixel : ℕ → Pixel) (ranks : List ℕ) (k r : ℕ) → slice_get ranks k ≡ Some r → slice_get (map pixel ranks) k ≡ Some (pixel r)
mapped pixel ranks k r e = slice_get-map pixel ranks k ∙ ap (option_map pixel) e

pub least_of : (pixel : ℕ → Pixel) (ranks : List ℕ) (f : FragmentView) → AllPairs (λ p q. p < q) ranks → nearest (map pixel ranks) ≡ Some f → IsLeastOf pixel ranks f
least_of pixel ranks f up e =
    let found = nearest_some (map pixel ranks) f e in
    let n = named pixel ranks found.0 f found.1.has in
    record { place = found.0; rank = n.rank; among = n.among; has = n.has; least = λ j q g b h. before found.0 j n.rank q g n.among b (found.1.least j g (mapped pixel ranks j q b ∙ ap Some h)) }
  where
    before : (k j r q : ℕ) (g : FragmentView) → slice_get ranks k ≡ Some r → slice_get ranks j ≡ Some q → ComesBefore f k g j → ComesBefore f r g q
    before k j r q g a b (inl nearer) = inl nearer
    before k j r q g a b (inr tie) = inr (tie.0, no_lower ranks up k j r q a b tie.1)

pub shows_least : (images : Images) (bracket : Bracket) (t i : ℕ) (f : FragmentView) → HasAscendingLeaves bracket → value Depth images bracket t i ≡ Some f → IsLeastOf (λ rank. get_or (images rank t) i None) (leaves bracket) f
shows_least images bracket t i f up e = least_of (λ rank. get_or (images rank t) i None) (leaves bracket) f up (sym (value_nearest images bracket t i) ∙ e)

pub shows_none : (images : Images) (bracket : Bracket) (t i k rank : ℕ) → value Depth images bracket t i ≡ None → slice_get (leaves bracket) k ≡ Some rank → get_or (images rank t) i None ≡ None
shows_none images bracket t i k rank e a =
    nearest_none (map (λ r. get_or (images r t) i None) (leaves bracket)) (sym (value_nearest images bracket t i) ∙ e) k (get_or (images rank t) i None) (mapped (λ r. get_or (images r t) i None) (leaves bracket) k rank a)
