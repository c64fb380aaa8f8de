-- Weights of a covered spot sum up to the doubled area, and means by such weights stay within bounds and keep the order.
use Rattle.std.proofs.Common.{◌≡◌, ℕ, zero, suc, ◌+◌, ◌*◌, ◌/◌, ◌<◌, ◌≤◌, ℤ, pos, negsuc, ◌+ℤ◌, ◌<ℤ◌, ◌≤ℤ◌, neg_ℤ, unsigned_abs, Bool, true, false, ◌&&◌, ap, sym, refl, ◌∙◌, subst, arith}
use Rattle.std.proofs.lemmas.Int.{ints}
use Rattle.std.proofs.lemmas.Nat.{le-div}
use Rattle.std.proofs.Math.Nat.{mul-le-mul_left, div-le_of_le-mul, div-mul-le_self}
use Rattle.icet_scene_model.specs.declared.spot.Spot.{Spot}
use Rattle.icet_scene_model.specs.Triangles.{Triangle, Weights, by_sign, edge_value, is_top_or_left, is_inside, is_within, doubled_area, covers, weights}
use Rattle.icet_raster.specs.declared.edge.Spots.{Spots}
use Rattle.icet_raster.specs.Triangles.{AreSpotsOf}
use Rattle.icet_raster.proofs.EdgeValues.{edge-turned, weights-sum}
use Rattle.icet_raster.proofs.SignCases.{sign-above}

-- ---- sums
sum-mono : (w v u a b c a' b' c' : ℕ) → a ≤ a' → b ≤ b' → c ≤ c' → w * a + v * b + u * c ≤ w * a' + v * b' + u * c'
sum-mono w v u a b c a' b' c' f g h = omega (arith, mul-le-mul_left w f, mul-le-mul_left v g, mul-le-mul_left u h)

-- a sum by weights is at most the whole times the greatest value
pub sum-within : (w v u s a b c most : ℕ) → w + v + u ≡ s → a ≤ most → b ≤ most → c ≤ most → w * a + v * b + u * c ≤ s * most
sum-within w v u s a b c most e f g h = omega (arith, sum-mono w v u a b c most most most f g h, ap (λ t. t * most) e)

pub mean-within : (w v u s a b c most : ℕ) → w + v + u ≡ s → a ≤ most → b ≤ most → c ≤ most → (w * a + v * b + u * c) / s ≤ most
mean-within w v u s a b c most e f g h = div-le_of_le-mul s (sum-within w v u s a b c most e f g h)

-- the sum stays under 2^63
pub sum-small : (w v u s a b c : ℕ) → w + v + u ≡ s → s ≤ 549751619592 → a ≤ 16777214 → b ≤ 16777214 → c ≤ 16777214 → w * a + v * b + u * c < 9223372036854775808
sum-small w v u s a b c e l f g h =
    let m = sum-within w v u s a b c 16777214 e f g h in
    omega arith

pub mean-mono : (w v u s a b c a' b' c' : ℕ) → 0 < s → a ≤ a' → b ≤ b' → c ≤ c' → (w * a + v * b + u * c) / s ≤ (w * a' + v * b' + u * c') / s
mean-mono w v u s a b c a' b' c' l f g h =
    let m = sum-mono w v u a b c a' b' c' f g h in
    let n = div-mul-le_self (w * a + v * b + u * c) s in
    le-div _ _ s l (omega arith)

-- ---- the weights of a covered spot
and_one : (a b c : Bool) → (a && b && c) ≡ true → (a ≡ true) × (b ≡ true) × (c ≡ true)
and_one true true true e = (refl, refl, refl)
and_one true true false e = absurd (cc)
and_one true false true e = absurd (cc)
and_one true false false e = absurd (cc)
and_one false true true e = absurd (cc)
and_one false true false e = absurd (cc)
and_one false false true e = absurd (cc)
and_one false false false e = absurd (cc)

not_below : (v : ℤ) (t : Bool) → by_sign v false t true ≡ true → pos 0 ≤ℤ v
not_below (pos n) t e = omega (arith, ints)
not_below (negsuc n) t e = absurd (cc)

pub inside-not_below : (from to at : Spot) → is_inside from to at ≡ true → pos 0 ≤ℤ edge_value from to at
inside-not_below from to at e = not_below (edge_value from to at) (is_top_or_left from to) e

-- the three values and the area of a spot within a round triangle
pub record IsRound (a b c at : Spot) : Type 0 where
  pub first : pos 0 ≤ℤ edge_value b c at
  pub second : pos 0 ≤ℤ edge_value c a at
  pub third : pos 0 ≤ℤ edge_value a b at

pub within-round : (a b c at : Spot) → is_within a b c at ≡ true → IsRound a b c at
within-round a b c at e =
    let parts = and_one (is_inside a b at) (is_inside b c at) (is_inside c a at) e in
    record { first = inside-not_below b c at parts.1; second = inside-not_below c a at parts.2; third = inside-not_below a b at parts.0 }

magnitudes : (u v w s : ℤ) → (u +ℤ v) +ℤ w ≡ s → pos 0 ≤ℤ u → pos 0 ≤ℤ v → pos 0 ≤ℤ w → unsigned_abs u + unsigned_abs v + unsigned_abs w ≡ unsigned_abs s
magnitudes u v w s e f g h = omega (arith, ints)

magnitudes_below : (u v w s : ℤ) → (u +ℤ v) +ℤ w ≡ s → u ≤ℤ pos 0 → v ≤ℤ pos 0 → w ≤ℤ pos 0 → unsigned_abs u + unsigned_abs v + unsigned_abs w ≡ unsigned_abs s
magnitudes_below u v w s e f g h = omega (arith, ints)

turned_below : (v : ℤ) → pos 0 ≤ℤ neg_ℤ v → v ≤ℤ pos 0
turned_below v h = omega (arith, ints)

edge_below : (a b at : Spot) → pos 0 ≤ℤ edge_value b a at → edge_value a b at ≤ℤ pos 0
edge_below a b at h = turned_below (edge_value a b at) (subst (λ t. pos 0 ≤ℤ t) (edge-turned a b at) h)

some_above : (v : ℤ) → pos 0 <ℤ v → 0 < unsigned_abs v
some_above v h = omega (arith, ints)

some_below : (v : ℤ) → v <ℤ pos 0 → 0 < unsigned_abs v
some_below v h = omega (arith, ints)

by_area : (a b c at : Spot) (v : ℤ) → edge_value a b c ≡ v → by_sign v (is_within a c b at) false (is_within a b c at) ≡ true
    → (unsigned_abs (edge_value b c at) + unsigned_abs (edge_value c a at) + unsigned_abs (edge_value a b at) ≡ unsigned_abs (edge_value a b c)) × (0 < unsigned_abs (edge_value a b c))
by_area a b c at (pos zero) e h = absurd (cc)
by_area a b c at (pos (suc n)) e h =
    let r = within-round a b c at h in
    (magnitudes _ _ _ _ (weights-sum a b c at) r.first r.second r.third, some_above (edge_value a b c) (subst (λ t. pos 0 <ℤ t) (sym e) (omega (arith, ints))))
by_area a b c at (negsuc n) e h =
    let r = within-round a c b at h in
    (magnitudes_below _ _ _ _ (weights-sum a b c at) (edge_below b c at r.first) (edge_below c a at r.third) (edge_below a b at r.second), some_below (edge_value a b c) (subst (λ t. t <ℤ pos 0) (sym e) (omega (arith, ints))))

pub covered-weights : (t : Triangle) (at : Spot) → covers t at ≡ true
    → (unsigned_abs (edge_value t.b.spot t.c.spot at) + unsigned_abs (edge_value t.c.spot t.a.spot at) + unsigned_abs (edge_value t.a.spot t.b.spot at) ≡ unsigned_abs (doubled_area t)) × (0 < unsigned_abs (doubled_area t))
covered-weights t at e = by_area t.a.spot t.b.spot t.c.spot at (doubled_area t) refl e

-- ---- what the code works out
pub edge-same : (a b c x y z : Spot) → a ≡ x → b ≡ y → c ≡ z → edge_value a b c ≡ edge_value x y z
edge-same a b c x y z e f g = ap (λ t. edge_value t b c) e ∙ ap (λ t. edge_value x t c) f ∙ ap (λ t. edge_value x y t) g

pub covers-above : (t : Triangle) (at p : Spot) (s : Spots) (v : ℤ) → AreSpotsOf t s → p ≡ at → v ≡ edge_value s.a s.b s.c → pos 0 <ℤ v → is_within s.a s.b s.c p ≡ covers t at
covers-above t at p s v are e d h =
    let area : edge_value s.a s.b s.c ≡ doubled_area t = edge-same _ _ _ _ _ _ are.a are.b are.c in
    ap (λ u. is_within u s.b s.c p) are.a ∙ ap (λ u. is_within t.a.spot u s.c p) are.b ∙ ap (λ u. is_within t.a.spot t.b.spot u p) are.c ∙ ap (λ u. is_within t.a.spot t.b.spot t.c.spot u) e
    ∙ sym (sign-above (doubled_area t) (is_within t.a.spot t.c.spot t.b.spot at) false (is_within t.a.spot t.b.spot t.c.spot at) (subst (λ u. pos 0 <ℤ u) (d ∙ area) h))

pub weighed : (t : Triangle) (at : Spot) (s : Spots) (u v w x : ℤ) → AreSpotsOf t s → u ≡ edge_value s.b s.c at → v ≡ edge_value s.c s.a at → w ≡ edge_value s.a s.b at → x ≡ edge_value s.a s.b s.c
    → (unsigned_abs u ≡ unsigned_abs (edge_value t.b.spot t.c.spot at)) × (unsigned_abs v ≡ unsigned_abs (edge_value t.c.spot t.a.spot at)) × (unsigned_abs w ≡ unsigned_abs (edge_value t.a.spot t.b.spot at)) × (unsigned_abs x ≡ unsigned_abs (doubled_area t))
weighed t at s u v w x are d e f g =
    (ap unsigned_abs (d ∙ edge-same _ _ _ _ _ _ are.b are.c refl), ap unsigned_abs (e ∙ edge-same _ _ _ _ _ _ are.c are.a refl), ap unsigned_abs (f ∙ edge-same _ _ _ _ _ _ are.a are.b refl), ap unsigned_abs (g ∙ edge-same _ _ _ _ _ _ are.a are.b are.c))

pub whole_is : (t : Triangle) (at : Spot) (a b c s : ℕ) → covers t at ≡ true → a ≡ unsigned_abs (edge_value t.b.spot t.c.spot at) → b ≡ unsigned_abs (edge_value t.c.spot t.a.spot at) → c ≡ unsigned_abs (edge_value t.a.spot t.b.spot at) → s ≡ unsigned_abs (doubled_area t)
    → (a + b + c ≡ s) × (0 < s)
whole_is t at a b c s h d e f g =
    let w = covered-weights t at h in
    (omega (arith, w.0), omega (arith, w.1))

pub weights_are : (t : Triangle) (at : Spot) (w : Weights) → w.a ≡ unsigned_abs (edge_value t.b.spot t.c.spot at) → w.b ≡ unsigned_abs (edge_value t.c.spot t.a.spot at) → w.c ≡ unsigned_abs (edge_value t.a.spot t.b.spot at) → w.whole ≡ unsigned_abs (doubled_area t) → w ≡ weights t at
unfolding weights
weights_are t at w d e f g = ap (λ n. record { a = n; b = w.b; c = w.c; whole = w.whole }) d ∙ ap (λ n. record { a = unsigned_abs (edge_value t.b.spot t.c.spot at); b = n; c = w.c; whole = w.whole }) e ∙ ap (λ n. record { a = unsigned_abs (edge_value t.b.spot t.c.spot at); b = unsigned_abs (edge_value t.c.spot t.a.spot at); c = n; whole = w.whole }) f ∙ ap (λ n. record { a = unsigned_abs (edge_value t.b.spot t.c.spot at); b = unsigned_abs (edge_value t.c.spot t.a.spot at); c = unsigned_abs (edge_value t.a.spot t.b.spot at); whole = n }) g
