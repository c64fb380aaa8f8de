-- Shares: grown from one pixel to the next, and read off at a covered pixel.
use Rattle.std.proofs.Common.{◌≡◌, ℕ, suc, ◌+◌, ◌-◌, ◌*◌, ◌/◌, ◌<◌, ◌≤◌, ℤ, pos, negsuc, ◌+ℤ◌, ◌*ℤ◌, ◌<ℤ◌, ◌≤ℤ◌, neg_ℤ, unsigned_abs, to_z, of_z, w64, true, ap, sym, refl, ◌∙◌, subst, arith}
use Rattle.std.proofs.lemmas.Int.{ints}
use Rattle.std.proofs.lemmas.Nat.{div-mul-add}
use Rattle.icet_model.specs.Pixel.{FragmentView, IsFragment}
use Rattle.icet_scene_model.specs.declared.spot.Spot.{Spot}
use Rattle.icet_scene_model.specs.Triangles.{Weights as ModelWeights, centre, covers, doubled_area, edge_value, is_within, mean, mixed, shaded, weights}
use Rattle.icet_raster.specs.declared.shares.Share.{Share}
use Rattle.icet_raster.specs.declared.shades.Shades.{Shades}
use Rattle.icet_raster.specs.declared.walks.Walk.{Walk}
use Rattle.icet_raster.specs.declared.shading.Weights.{Weights}
use Rattle.icet_raster.specs.Shares.{AreShadesAt, AreSlopes, IsShare, IsShareAt, IsSlope, IsUpTo, growth, weighted}
use Rattle.icet_raster.specs.Triangles.{weights_of}
use Rattle.icet_raster.specs.Walks.{IsWalk, walked}
use Rattle.icet_raster.proofs.CornerWeights.{covered-weights, mean-mono, mean-within, within-round}
use Rattle.icet_raster.proofs.EdgeSteps.{edge-step}
use Rattle.icet_raster.proofs.SignCases.{sign-above}
use Rattle.icet_raster.proofs.SignedProducts.{add-mul}

-- ---- one share
-- two shares summed up, where the rests make no whole
pub grown-within : (whole : ℕ) (sum by q d n : ℤ) (r e : ℕ) → sum ≡ q *ℤ pos whole +ℤ pos r → by ≡ d *ℤ pos whole +ℤ pos e → n ≡ q +ℤ d → sum +ℤ by ≡ n *ℤ pos whole +ℤ pos (r + e)
grown-within whole sum by q d n r e f g h =
    let p = add-mul q d (pos whole) in
    let s : sum +ℤ by ≡ (q +ℤ d) *ℤ pos whole +ℤ pos (r + e) = omega (arith, ints) in
    s ∙ ap (λ t. t *ℤ pos whole +ℤ pos (r + e)) (sym h)

-- and where they make one more
pub grown-over : (whole : ℕ) (sum by q d n : ℤ) (r e : ℕ) → sum ≡ q *ℤ pos whole +ℤ pos r → by ≡ d *ℤ pos whole +ℤ pos e → n ≡ (q +ℤ d) +ℤ pos 1 → whole ≤ r + e → sum +ℤ by ≡ n *ℤ pos whole +ℤ pos (r + e - whole)
grown-over whole sum by q d n r e f g h l =
    let p = add-mul q d (pos whole) in
    let o = add-mul (q +ℤ d) (pos 1) (pos whole) in
    let s : sum +ℤ by ≡ ((q +ℤ d) +ℤ pos 1) *ℤ pos whole +ℤ pos (r + e - whole) = omega (arith, ints) in
    s ∙ ap (λ t. t *ℤ pos whole +ℤ pos (r + e - whole)) (sym h)

pub sum-fits : (q d : ℤ) → unsigned_abs q ≤ 8000000000000000000 → unsigned_abs d ≤ 422212465065983 → to_z w64 (of_z w64 (to_z w64 (of_z w64 q) +ℤ to_z w64 (of_z w64 d))) ≡ q +ℤ d
sum-fits q d h k = omega (arith, ints)

pub next-fits : (s t : ℤ) → s ≡ t → unsigned_abs t ≤ 8000422212465065983 → to_z w64 (of_z w64 (s +ℤ pos 1)) ≡ t +ℤ pos 1
next-fits s t e h = omega (arith, ints)

-- the share of a sum that isn't negative has its quotient
pub share-quotient : (whole n : ℕ) (s : Share) → IsShare whole (pos n) s → s.quotient ≡ pos (n / whole)
share-quotient whole n s is = by s.quotient s.rest is.sum_is is.rest
  where
    by : (q : ℤ) (r : ℕ) → pos n ≡ q *ℤ pos whole +ℤ pos r → r < whole → q ≡ pos (n / whole)
    by (pos k) r e l = let f : n ≡ k * whole + r = omega (arith, ints) in ap pos (sym (ap (λ m. m / whole) f ∙ div-mul-add k whole r l))
    by (negsuc k) r e l = absurd (omega (arith, ints))

-- ---- from one pixel to the next
weighted-step : (w : Walk) (x y a b c : ℕ) → IsWalk w → weighted w x y a b c +ℤ growth w a b c ≡ weighted w (x + 1) y a b c
weighted-step w x y a b c is =
    let f = edge-step w.b w.c x y (edge_value w.b w.c (centre x y)) w.step_a refl is.step_a in
    let g = edge-step w.c w.a x y (edge_value w.c w.a (centre x y)) w.step_b refl is.step_b in
    let h = edge-step w.a w.b x y (edge_value w.a w.b (centre x y)) w.step_c refl is.step_c in
    let p = sym (add-mul (edge_value w.b w.c (centre x y)) w.step_a (pos a)) ∙ ap (λ t. t *ℤ pos a) f in
    let q = sym (add-mul (edge_value w.c w.a (centre x y)) w.step_b (pos b)) ∙ ap (λ t. t *ℤ pos b) g in
    let r = sym (add-mul (edge_value w.a w.b (centre x y)) w.step_c (pos c)) ∙ ap (λ t. t *ℤ pos c) h in
    omega (arith, ints)

pub share-step : (w : Walk) (x y a b c : ℕ) (s d n : Share) → IsWalk w → IsShareAt w x y a b c s → IsSlope w a b c d
    → ((sum by : ℤ) → IsShare w.whole sum s → IsShare w.whole by d → IsShare w.whole (sum +ℤ by) n) → unsigned_abs n.quotient ≤ unsigned_abs s.quotient + 422212465065984 → IsShareAt w (x + 1) y a b c n
share-step w x y a b c s d n is at slope h l = record {
  share = subst (λ t. IsShare w.whole t n) (weighted-step w x y a b c is) (h _ _ at.share slope.share);
  small = omega (arith, at.small);
}

-- the growth of three values by its products
fits : (v : ℤ) → unsigned_abs v ≤ 8388576 → to_z w64 (of_z w64 v) ≡ v
fits v h = omega (arith, ints)

three-fit : (p q r s t : ℤ) → unsigned_abs p ≤ 140736940212864 → unsigned_abs q ≤ 140736940212864 → unsigned_abs r ≤ 140736940212864
    → s ≡ to_z w64 (of_z w64 p) +ℤ to_z w64 (of_z w64 q) → t ≡ to_z w64 (of_z w64 s) +ℤ to_z w64 (of_z w64 r) → to_z w64 (of_z w64 t) ≡ (p +ℤ q) +ℤ r
three-fit p q r s t h k l e f = omega (arith, ints)

pub growth-is : (w : Walk) (a b c : ℕ) (p q r s t : ℤ) → IsWalk w → unsigned_abs p ≤ 140736940212864 → unsigned_abs q ≤ 140736940212864 → unsigned_abs r ≤ 140736940212864
    → p ≡ to_z w64 (of_z w64 w.step_a) *ℤ pos a → q ≡ to_z w64 (of_z w64 w.step_b) *ℤ pos b → r ≡ to_z w64 (of_z w64 w.step_c) *ℤ pos c
    → s ≡ to_z w64 (of_z w64 p) +ℤ to_z w64 (of_z w64 q) → t ≡ to_z w64 (of_z w64 s) +ℤ to_z w64 (of_z w64 r) → to_z w64 (of_z w64 t) ≡ growth w a b c
growth-is w a b c p q r s t is h k l e f g m n =
    three-fit p q r s t h k l m n
    ∙ ap (λ i. (i +ℤ q) +ℤ r) (e ∙ ap (λ i. i *ℤ pos a) (fits w.step_a is.small_a))
    ∙ ap (λ i. (w.step_a *ℤ pos a +ℤ i) +ℤ r) (f ∙ ap (λ i. i *ℤ pos b) (fits w.step_b is.small_b))
    ∙ ap (λ i. (w.step_a *ℤ pos a +ℤ w.step_b *ℤ pos b) +ℤ i) (g ∙ ap (λ i. i *ℤ pos c) (fits w.step_c is.small_c))

-- ---- at a covered pixel
magnitude : (v : ℤ) → pos 0 ≤ℤ v → v ≡ pos (unsigned_abs v)
magnitude v h = omega (arith, ints)

products : (i j k a b c : ℕ) → (pos i *ℤ pos a +ℤ pos j *ℤ pos b) +ℤ pos k *ℤ pos c ≡ pos (i * a + j * b + k * c)
products i j k a b c = omega (arith, ints)

pub weighted-covered : (w : Walk) (x y a b c : ℕ) → IsWalk w → covers (walked w) (centre x y) ≡ true
    → weighted w x y a b c ≡ pos ((weights (walked w) (centre x y)).a * a + (weights (walked w) (centre x y)).b * b + (weights (walked w) (centre x y)).c * c)
unfolding weights
weighted-covered w x y a b c is covered =
    let at = centre x y in
    let above : pos 0 <ℤ doubled_area (walked w) = subst (λ t. pos 0 <ℤ t) is.whole (let l = is.some in omega (arith, ints)) in
    let within : is_within w.a w.b w.c at ≡ true = sym (sign-above (doubled_area (walked w)) (is_within w.a w.c w.b at) _ (is_within w.a w.b w.c at) above) ∙ covered in
    let r = within-round w.a w.b w.c at within in
    ap (λ t. (t *ℤ pos a +ℤ edge_value w.c w.a at *ℤ pos b) +ℤ edge_value w.a w.b at *ℤ pos c) (magnitude _ r.first)
    ∙ ap (λ t. (pos (unsigned_abs (edge_value w.b w.c at)) *ℤ pos a +ℤ t *ℤ pos b) +ℤ edge_value w.a w.b at *ℤ pos c) (magnitude _ r.second)
    ∙ ap (λ t. (pos (unsigned_abs (edge_value w.b w.c at)) *ℤ pos a +ℤ pos (unsigned_abs (edge_value w.c w.a at)) *ℤ pos b) +ℤ t *ℤ pos c) (magnitude _ r.third)
    ∙ products (unsigned_abs (edge_value w.b w.c at)) (unsigned_abs (edge_value w.c w.a at)) (unsigned_abs (edge_value w.a w.b at)) a b c

whole_same : (w : Walk) (x y : ℕ) → IsWalk w → (weights (walked w) (centre x y)).whole ≡ w.whole
unfolding weights
whole_same w x y is = sym (ap unsigned_abs is.whole)

weights-sum : (w : Walk) (x y : ℕ) → covers (walked w) (centre x y) ≡ true → ((weights (walked w) (centre x y)).a + (weights (walked w) (centre x y)).b + (weights (walked w) (centre x y)).c ≡ (weights (walked w) (centre x y)).whole) × (0 < (weights (walked w) (centre x y)).whole)
unfolding weights
weights-sum w x y covered = covered-weights (walked w) (centre x y) covered

-- the first share of a stretch
pub share-first : (w : Walk) (x y : ℕ) (v : Weights) (d e f a b c : ℕ) (s : Share) → IsWalk w → covers (walked w) (centre x y) ≡ true → weights_of v ≡ weights (walked w) (centre x y) → d ≡ a → e ≡ b → f ≡ c
    → IsShare v.whole (pos (v.a * d + v.b * e + v.c * f)) s → unsigned_abs s.quotient ≤ 16777214 → IsShareAt w x y a b c s
share-first w x y v d e f a b c s is covered same g h i share small =
    let by : ModelWeights → Type 0 = λ t. IsShare t.whole (pos (t.a * a + t.b * b + t.c * c)) s in
    let first = subst (λ n. IsShare v.whole (pos (v.a * n + v.b * e + v.c * f)) s) g share in
    let second = subst (λ n. IsShare v.whole (pos (v.a * a + v.b * n + v.c * f)) s) h first in
    let third = subst (λ n. IsShare v.whole (pos (v.a * a + v.b * b + v.c * n)) s) i second in
    let whole = subst by same third in
    record {
      share =
          subst (λ n. IsShare n (weighted w x y a b c) s) (whole_same w x y is)
          (subst (λ t. IsShare (weights (walked w) (centre x y)).whole t s) (sym (weighted-covered w x y a b c is covered)) whole);
      small = omega (arith, small);
    }

-- what a share stands for
share-mean : (w : Walk) (x y a b c : ℕ) (s : Share) → IsWalk w → covers (walked w) (centre x y) ≡ true → IsShareAt w x y a b c s → s.quotient ≡ pos (mean (weights (walked w) (centre x y)) a b c)
share-mean w x y a b c s is covered at =
    share-quotient (weights (walked w) (centre x y)).whole _ s
    (subst (λ t. IsShare (weights (walked w) (centre x y)).whole t s) (weighted-covered w x y a b c is covered)
    (subst (λ n. IsShare n (weighted w x y a b c) s) (sym (whole_same w x y is)) at.share))

up_to : (q : ℤ) (n most : ℕ) → q ≡ pos n → n ≤ most → most ≤ 16777214 → IsUpTo most (to_z w64 (of_z w64 q))
up_to q n most e l h = record { above = omega (arith, ints); within = omega (arith, ints) }

pub share-within : (w : Walk) (x y a b c : ℕ) (s : Share) (most : ℕ) → IsWalk w → covers (walked w) (centre x y) ≡ true → IsShareAt w x y a b c s → a ≤ most → b ≤ most → c ≤ most → most ≤ 16777214 → IsUpTo most (to_z w64 (of_z w64 s.quotient))
share-within w x y a b c s most is covered at f g h =
    let v = weights (walked w) (centre x y) in
    up_to s.quotient (mean v a b c) most (share-mean w x y a b c s is covered at) (mean-within v.a v.b v.c v.whole a b c most (weights-sum w x y covered).0 f g h)

read_number : (n m : ℕ) (q : ℤ) → q ≡ pos m → m ≤ 16777214 → pos n ≡ to_z w64 (of_z w64 q) → n ≡ m
read_number n m q e l h = omega (arith, ints)

share-read : (w : Walk) (x y a b c : ℕ) (s : Share) (n : ℕ) → IsWalk w → covers (walked w) (centre x y) ≡ true → IsShareAt w x y a b c s → a ≤ 16777214 → b ≤ 16777214 → c ≤ 16777214 → pos n ≡ to_z w64 (of_z w64 s.quotient)
    → n ≡ mean (weights (walked w) (centre x y)) a b c
share-read w x y a b c s n is covered at f g h =
    let v = weights (walked w) (centre x y) in
    read_number n (mean v a b c) s.quotient (share-mean w x y a b c s is covered at) (mean-within v.a v.b v.c v.whole a b c 16777214 (weights-sum w x y covered).0 f g h)

-- the greatest channels of a fragment
pub record HasSmall (f : FragmentView) : Type 0 where
  pub r : f.r ≤ 65535
  pub g : f.g ≤ 65535
  pub b : f.b ≤ 65535
  pub a : f.a ≤ 65535
  pub z : f.z ≤ 16777214

pub small : (f : FragmentView) → IsFragment f → HasSmall f
small f is = record {
  r = omega (arith, is.r_within, is.a_within);
  g = omega (arith, is.g_within, is.a_within);
  b = omega (arith, is.b_within, is.a_within);
  a = is.a_within;
  z = is.z_within;
}

wider : (n : ℕ) → n ≤ 65535 → n ≤ 16777214
wider n l = omega arith

-- the quotients are what the triangle gives
pub shades-shaded : (w : Walk) (x y : ℕ) (s : Shades) (r g b a z : ℕ) → IsWalk w → covers (walked w) (centre x y) ≡ true → AreShadesAt w x y s → IsFragment w.first → IsFragment w.second → IsFragment w.third
    → pos r ≡ to_z w64 (of_z w64 s.r.quotient) → pos g ≡ to_z w64 (of_z w64 s.g.quotient) → pos b ≡ to_z w64 (of_z w64 s.b.quotient) → pos a ≡ to_z w64 (of_z w64 s.a.quotient) → pos z ≡ to_z w64 (of_z w64 s.z.quotient)
    → record { r = r; g = g; b = b; a = a; z = z } ≡ shaded (walked w) (centre x y)
shades-shaded w x y s r g b a z is covered are f h i er eg eb ea ez =
    let v = weights (walked w) (centre x y) in
    let j = small w.first f in
    let k = small w.second h in
    let l = small w.third i in
    let one = share-read w x y w.first.r w.second.r w.third.r s.r r is covered are.r (wider _ j.r) (wider _ k.r) (wider _ l.r) er in
    let two = share-read w x y w.first.g w.second.g w.third.g s.g g is covered are.g (wider _ j.g) (wider _ k.g) (wider _ l.g) eg in
    let three = share-read w x y w.first.b w.second.b w.third.b s.b b is covered are.b (wider _ j.b) (wider _ k.b) (wider _ l.b) eb in
    let four = share-read w x y w.first.a w.second.a w.third.a s.a a is covered are.a (wider _ j.a) (wider _ k.a) (wider _ l.a) ea in
    let five = share-read w x y w.first.z w.second.z w.third.z s.z z is covered are.z j.z k.z l.z ez in
    cc

-- means of fragments are a fragment
pub shaded-fragment : (w : Walk) (x y : ℕ) → covers (walked w) (centre x y) ≡ true → IsFragment w.first → IsFragment w.second → IsFragment w.third → IsFragment (shaded (walked w) (centre x y))
shaded-fragment w x y covered f g h =
    let v = weights (walked w) (centre x y) in
    let s = weights-sum w x y covered in
    record {
      r_within = mean-mono v.a v.b v.c v.whole _ _ _ _ _ _ s.1 f.r_within g.r_within h.r_within;
      g_within = mean-mono v.a v.b v.c v.whole _ _ _ _ _ _ s.1 f.g_within g.g_within h.g_within;
      b_within = mean-mono v.a v.b v.c v.whole _ _ _ _ _ _ s.1 f.b_within g.b_within h.b_within;
      a_within = mean-within v.a v.b v.c v.whole _ _ _ _ s.0 f.a_within g.a_within h.a_within;
      z_within = mean-within v.a v.b v.c v.whole _ _ _ _ s.0 f.z_within g.z_within h.z_within;
    }
