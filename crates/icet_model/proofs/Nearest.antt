-- The nearest fragment is the least pair of depth and rank.
use Rattle.std.proofs.Common.{◌≡◌, ℕ, zero, suc, ◌<◌, ◌≤◌, Bool, true, false, cond, List, [], ◌∷◌, Some, None, refl, ap, subst, arith, inl, inr}
use Rattle.std.specs.Prelude.{nat_le, slice_get}
use Rattle.std.proofs.lemmas.Bool.{cases_lt}
use Rattle.std.proofs.lemmas.Bool.Decides.{nat_tests}
use Rattle.icet_model.specs.Pixel.{FragmentView, Pixel}
use Rattle.icet_model.specs.Composite.{nearer, nearest, ComesBefore, IsLeast}

pub nearest_none : (pixels : List Pixel) → nearest pixels ≡ None → (q : ℕ) (pixel : Pixel) → slice_get pixels q ≡ Some pixel → pixel ≡ None
nearest_none [] e q pixel at = absurd cc
nearest_none (None ∷ pixels) e zero pixel at = cc
nearest_none (None ∷ pixels) e (suc q) pixel at = nearest_none pixels e q pixel at
nearest_none (Some f ∷ pixels) e q pixel at = absurd cc

-- as near or nearer, and of the lowest rank
first_before : (f k : FragmentView) (q : ℕ) → f.z ≤ k.z → ComesBefore f 0 k q
first_before f k q l = elim (cases_lt f.z k.z) [ inl a ↦ inl a | inr b ↦ inr (omega arith, omega arith) ]

at_least : (g k : FragmentView) (r q : ℕ) → ComesBefore g r k q → g.z ≤ k.z
at_least g k r q (inl a) = omega arith
at_least g k r q (inr b) = omega (arith, b.0)

further : (g k : FragmentView) (r q : ℕ) → ComesBefore g r k q → ComesBefore g (suc r) k (suc q)
further g k r q (inl a) = inl a
further g k r q (inr b) = inr (b.0, omega (arith, b.1))

itself : (f k : FragmentView) (pixels : List Pixel) → slice_get (Some f ∷ pixels) 0 ≡ Some (Some k) → f ≡ k
itself f k pixels e = cc

-- the first fragment, before those behind it
front_least : (f g : FragmentView) (pixels : List Pixel) (r : ℕ) → f.z ≤ g.z → IsLeast pixels g r → IsLeast (Some f ∷ pixels) f 0
front_least f g pixels r l least = record { has = refl; least = go }
  where
    go : (q : ℕ) (k : FragmentView) → slice_get (Some f ∷ pixels) q ≡ Some (Some k) → ComesBefore f 0 k q
    go zero k at = first_before f k 0 (let e : f.z ≡ k.z = ap (λ x. x.z) (itself f k pixels at) in omega (arith, e))
    go (suc q) k at = first_before f k (suc q) (let h = at_least g k r q (least.least q k at) in omega (arith, h, l))

alone_least : (f : FragmentView) (pixels : List Pixel) → nearest pixels ≡ None → IsLeast (Some f ∷ pixels) f 0
alone_least f pixels none = record { has = refl; least = go }
  where
    go : (q : ℕ) (k : FragmentView) → slice_get (Some f ∷ pixels) q ≡ Some (Some k) → ComesBefore f 0 k q
    go zero k at = first_before f k 0 (let e : f.z ≡ k.z = ap (λ x. x.z) (itself f k pixels at) in omega (arith, e))
    go (suc q) k at = absurd (let e = nearest_none pixels none q (Some k) at in cc)

-- a nearer fragment behind
back_least : (f g : FragmentView) (pixels : List Pixel) (r : ℕ) → g.z < f.z → IsLeast pixels g r → IsLeast (Some f ∷ pixels) g (suc r)
back_least f g pixels r l least = record { has = least.has; least = go }
  where
    go : (q : ℕ) (k : FragmentView) → slice_get (Some f ∷ pixels) q ≡ Some (Some k) → ComesBefore g (suc r) k q
    go zero k at = inl (let e : f.z ≡ k.z = ap (λ x. x.z) (itself f k pixels at) in omega (arith, e, l))
    go (suc q) k at = further g k r q (least.least q k at)

behind_none : (g : FragmentView) (pixels : List Pixel) (r : ℕ) → IsLeast pixels g r → IsLeast (None ∷ pixels) g (suc r)
behind_none g pixels r least = record { has = least.has; least = go }
  where
    go : (q : ℕ) (k : FragmentView) → slice_get (None ∷ pixels) q ≡ Some (Some k) → ComesBefore g (suc r) k q
    go zero k at = absurd cc
    go (suc q) k at = further g k r q (least.least q k at)

pub nearest_some : (pixels : List Pixel) (f : FragmentView) → nearest pixels ≡ Some f → (r : ℕ) × IsLeast pixels f r
nearest_some [] f e = absurd cc
nearest_some (None ∷ pixels) f e = let h = nearest_some pixels f e in (suc h.0, behind_none f pixels h.0 h.1)
nearest_some (Some g ∷ pixels) f e = go (nearest pixels) refl (nearest_some pixels) e
  where
    go : (o : Pixel) → nearest pixels ≡ o → ((k : FragmentView) → nearest pixels ≡ Some k → (r : ℕ) × IsLeast pixels k r) → Some (nearer g o) ≡ Some f → (r : ℕ) × IsLeast (Some g ∷ pixels) f r
    go None none rest same = (0, subst (λ x. IsLeast (Some g ∷ pixels) x 0) (let e : g ≡ f = cc in e) (alone_least g pixels none))
    go (Some h) some rest same = choose (nat_le g.z h.z) refl same
      where
        choose : (b : Bool) → nat_le g.z h.z ≡ b → Some (cond b g h) ≡ Some f → (r : ℕ) × IsLeast (Some g ∷ pixels) f r
        choose true t same = let k = rest h some in (0, subst (λ x. IsLeast (Some g ∷ pixels) x 0) (let e : g ≡ f = cc in e) (front_least g h pixels k.0 (grind (arith, nat_tests, t)) k.1))
        choose false t same = let k = rest h some in (suc k.0, subst (λ x. IsLeast (Some g ∷ pixels) x (suc k.0)) (let e : h ≡ f = cc in e) (back_least g h pixels k.0 (grind (arith, nat_tests, t)) k.1))
