-- Two triangles on the two sides of an edge that they share.
use Rattle.std.proofs.Common.{◌≡◌, ◌⊎◌, ℕ, zero, suc, ◌+◌, ◌<◌, ℤ, pos, negsuc, ◌+ℤ◌, ◌-ℤ◌, ◌*ℤ◌, ◌<ℤ◌, neg_ℤ, Bool, true, false, not, ◌&&◌, ap, sym, refl, ◌∙◌, subst, unsigned_abs, inl, inr, arith}
use Rattle.std.proofs.lemmas.Int.{ints}
use Rattle.icet_scene_model.specs.declared.spot.Spot.{Spot}
use Rattle.icet_scene_model.specs.Triangles.{Triangle, by_sign, edge_value, is_top_or_left, is_inside, is_within, doubled_area}
use Rattle.icet_scene_model.specs.Triangles as Model
use Rattle.icet_raster.specs.SharedEdge.{LiesBetween, Parts, AreOpposite, Corners, corners_of, AreCorners, ShareEdge}
use Rattle.icet_raster.proofs.SignedProducts.{sub-mul, differences}
use Rattle.icet_raster.proofs.EdgeValues.{edge-turned, area-round, area-turned, at-first, at-second, edge-mean}
use Rattle.icet_raster.proofs.SignCases.{sign-above, sign-below, sign-turned, above_by, none_by, above_product}

-- a triangle by its corners' spots
abbrev covers : Spot → Spot → Spot → Spot → Bool
covers a b c at = by_sign (edge_value a b c) (is_within a c b at) false (is_within a b c at)

abbrev covered_by : Corners → Spot → Bool
covered_by t at = covers t.a t.b t.c at

-- strictly between two spots: their mean with positive whole weights
record IsBetween (a b at : Spot) : Type 0 where
  near : ℕ
  far : ℕ
  near_some : 0 < near
  far_some : 0 < far
  x : pos (near + far) *ℤ at.x ≡ pos near *ℤ a.x +ℤ pos far *ℤ b.x
  y : pos (near + far) *ℤ at.y ≡ pos near *ℤ a.y +ℤ pos far *ℤ b.y

-- ---- tests
and_first : (a b : Bool) → (a && b) ≡ true → a ≡ true
and_first true b e = refl
and_first false b e = e

and_second : (a b : Bool) → (a && b) ≡ true → b ≡ true
and_second true b e = e
and_second false b e = absurd (cc)

round : (a b c : Bool) → (a && b && c) ≡ (b && c && a)
round true true true = refl
round true true false = refl
round true false true = refl
round true false false = refl
round false true true = refl
round false true false = refl
round false false true = refl
round false false false = refl

-- ---- the order of the corners
within-round : (a b c at : Spot) → is_within b c a at ≡ is_within a b c at
within-round a b c at = sym (round (is_inside a b at) (is_inside b c at) (is_inside c a at))

covers-round : (a b c at : Spot) → covers b c a at ≡ covers a b c at
covers-round a b c at =
    ap (λ v. by_sign v (is_within b a c at) false (is_within b c a at)) (area-round a b c)
    ∙ ap (λ t. by_sign (edge_value a b c) t false (is_within b c a at)) (sym (within-round b a c at) ∙ refl)
    ∙ ap (λ t. by_sign (edge_value a b c) (is_within a c b at) false t) (within-round a b c at)

pub covers-turned : (a b c at : Spot) → covers a c b at ≡ covers a b c at
covers-turned a b c at =
    ap (λ v. by_sign v (is_within a b c at) false (is_within a c b at)) (area-turned a b c)
    ∙ sign-turned (edge_value a b c) (is_within a b c at) false (is_within a c b at)

-- ---- the edge and the same edge turned round
difference-turned : (a b : ℤ) → a -ℤ b ≡ neg_ℤ (b -ℤ a)
difference-turned a b = omega (arith, ints)

apart_tests : (v w : ℤ) → by_sign v true (by_sign w false false true) false ≡ true → by_sign (neg_ℤ v) true (by_sign (neg_ℤ w) false false true) false ≡ true → ⊥
apart_tests (pos zero) (pos zero) e d = absurd (cc)
apart_tests (pos zero) (pos (suc m)) e d = absurd (cc)
apart_tests (pos zero) (negsuc m) e d = absurd (cc)
apart_tests (pos (suc n)) w e d = absurd (cc)
apart_tests (negsuc n) w e d = absurd (cc)

top_left-turned : (p q : Spot) → is_top_or_left q p ≡ by_sign (neg_ℤ (q.y -ℤ p.y)) true (by_sign (neg_ℤ (q.x -ℤ p.x)) false false true) false
top_left-turned p q =
    ap (λ v. by_sign v true (by_sign (p.x -ℤ q.x) false false true) false) (difference-turned p.y q.y)
    ∙ ap (λ w. by_sign (neg_ℤ (q.y -ℤ p.y)) true (by_sign w false false true) false) (difference-turned p.x q.x)

inside_apart : (v : ℤ) (s t : Bool) → (s ≡ true → t ≡ true → ⊥) → by_sign v false s true ≡ true → by_sign (neg_ℤ v) false t true ≡ true → ⊥
inside_apart (pos zero) s t h e d = h e d
inside_apart (pos (suc n)) s t h e d = absurd (cc)
inside_apart (negsuc n) s t h e d = absurd (cc)

-- no place is on the inner side of both
pub edges_apart : (p q at : Spot) → is_inside p q at ≡ true → is_inside q p at ≡ true → ⊥
edges_apart p q at e d =
    inside_apart (edge_value p q at) (is_top_or_left p q) (is_top_or_left q p)
    (λ f g. apart_tests (q.y -ℤ p.y) (q.x -ℤ p.x) f (sym (top_left-turned p q) ∙ g))
    e (sym (ap (λ v. by_sign v false (is_top_or_left q p) true) (edge-turned p q at)) ∙ d)

covers_right : (p q r at : Spot) → pos 0 <ℤ edge_value p q r → covers p q r at ≡ is_within p q r at
covers_right p q r at h = sign-above (edge_value p q r) (is_within p r q at) false (is_within p q r at) h

-- with the area negative, by the shared edge turned round
covers_left : (p q s at : Spot) → edge_value p q s <ℤ pos 0 → covers p q s at ≡ is_within q p s at
covers_left p q s at h = sign-below (edge_value p q s) (is_within p s q at) false (is_within p q s at) h ∙ within-round q p s at

first_of_three : (a b c : Bool) → (a && b && c) ≡ true → a ≡ true
first_of_three true b c e = refl
first_of_three false true true e = e
first_of_three false true false e = e
first_of_three false false true e = e
first_of_three false false false e = e

within-first : (a b c at : Spot) → is_within a b c at ≡ true → is_inside a b at ≡ true
within-first a b c at e = first_of_three (is_inside a b at) (is_inside b c at) (is_inside c a at) e

-- one on each side: no place is covered by both
none_by_both : (p q r s at : Spot) → pos 0 <ℤ edge_value p q r → edge_value p q s <ℤ pos 0 → covers p q r at ≡ true → covers p q s at ≡ true → ⊥
none_by_both p q r s at h k e d =
    edges_apart p q at (within-first p q r at (sym (covers_right p q r at h) ∙ e)) (within-first q p s at (sym (covers_left p q s at k) ∙ d))

-- ---- a place strictly between the shared corners
between-turned : (p q m : Spot) → IsBetween p q m → IsBetween q p m
between-turned p q m b =
    let e : b.far + b.near ≡ b.near + b.far = omega arith in
    record {
      near = b.far;
      far = b.near;
      near_some = b.far_some;
      far_some = b.near_some;
      x = ap (λ n. pos n *ℤ m.x) e ∙ b.x ∙ plus-comm (pos b.near *ℤ p.x) (pos b.far *ℤ q.x);
      y = ap (λ n. pos n *ℤ m.y) e ∙ b.y ∙ plus-comm (pos b.near *ℤ p.y) (pos b.far *ℤ q.y);
    }
  where
    plus-comm : (a b : ℤ) → a +ℤ b ≡ b +ℤ a
    plus-comm a b = omega (arith, ints)

on_line : (p q m : Spot) → IsBetween p q m → edge_value p q m ≡ pos 0
on_line p q m b =
    none_by (b.near + b.far) (edge_value p q m) (let l = b.near_some in omega arith)
    (edge-mean p q p q m b.near b.far b.x b.y
    ∙ ap (λ t. pos b.near *ℤ t +ℤ pos b.far *ℤ edge_value p q q) (at-first p q)
    ∙ ap (λ t. pos b.near *ℤ pos 0 +ℤ pos b.far *ℤ t) (at-second p q)
    ∙ none (pos b.near) (pos b.far))
  where
    none : (j k : ℤ) → j *ℤ pos 0 +ℤ k *ℤ pos 0 ≡ pos 0
    none j k = omega (arith, ints)

inner_next : (p q r m : Spot) → pos 0 <ℤ edge_value p q r → IsBetween p q m → pos 0 <ℤ edge_value q r m
inner_next p q r m h b =
    above_by (b.near + b.far) (edge_value q r m)
    (subst (λ t. pos 0 <ℤ t)
    (sym (edge-mean q r p q m b.near b.far b.x b.y
    ∙ ap (λ t. pos b.near *ℤ t +ℤ pos b.far *ℤ edge_value q r q) (area-round p q r)
    ∙ ap (λ t. pos b.near *ℤ edge_value p q r +ℤ pos b.far *ℤ t) (at-first q r)
    ∙ only (pos b.near *ℤ edge_value p q r) (pos b.far)))
    (above_product b.near (edge_value p q r) b.near_some h))
  where
    only : (j k : ℤ) → j +ℤ k *ℤ pos 0 ≡ j
    only j k = omega (arith, ints)

inner_last : (p q r m : Spot) → pos 0 <ℤ edge_value p q r → IsBetween p q m → pos 0 <ℤ edge_value r p m
inner_last p q r m h b =
    above_by (b.near + b.far) (edge_value r p m)
    (subst (λ t. pos 0 <ℤ t)
    (sym (edge-mean r p p q m b.near b.far b.x b.y
    ∙ ap (λ t. pos b.near *ℤ t +ℤ pos b.far *ℤ edge_value r p q) (at-second r p)
    ∙ ap (λ t. pos b.near *ℤ pos 0 +ℤ pos b.far *ℤ t) (sym (area-round r p q))
    ∙ only (pos b.far *ℤ edge_value p q r) (pos b.near)))
    (above_product b.far (edge_value p q r) b.far_some h))
  where
    only : (j k : ℤ) → k *ℤ pos 0 +ℤ j ≡ j
    only j k = omega (arith, ints)

within-between : (p q r m : Spot) → pos 0 <ℤ edge_value p q r → IsBetween p q m → is_within p q r m ≡ is_top_or_left p q
within-between p q r m h b =
    by_tests (is_inside p q m) (is_inside q r m) (is_inside r p m) (is_top_or_left p q)
    (ap (λ v. by_sign v false (is_top_or_left p q) true) (on_line p q m b))
    (sign-above (edge_value q r m) false (is_top_or_left q r) true (inner_next p q r m h b))
    (sign-above (edge_value r p m) false (is_top_or_left r p) true (inner_last p q r m h b))
  where
    by_tests : (a b c d : Bool) → a ≡ d → b ≡ true → c ≡ true → (a && b && c) ≡ d
    by_tests true true true d e f g = e
    by_tests false true true d e f g = e
    by_tests a false c d e f g = absurd (cc)
    by_tests a true false d e f g = absurd (cc)

exact_tests : (v w : ℤ) → (v ≡ pos 0 → w ≡ pos 0 → ⊥) → by_sign (neg_ℤ v) true (by_sign (neg_ℤ w) false false true) false ≡ not (by_sign v true (by_sign w false false true) false)
exact_tests (pos zero) (pos zero) h = absurd (h refl refl)
exact_tests (pos zero) (pos (suc m)) h = refl
exact_tests (pos zero) (negsuc m) h = refl
exact_tests (pos (suc n)) w h = refl
exact_tests (negsuc n) w h = refl

corners_differ : (p q r : Spot) → pos 0 <ℤ edge_value p q r → q.y -ℤ p.y ≡ pos 0 → q.x -ℤ p.x ≡ pos 0 → ⊥
unfolding edge_value
corners_differ p q r h e d = flat (q.x -ℤ p.x) (r.y -ℤ p.y) (q.y -ℤ p.y) (r.x -ℤ p.x) d e h
  where
    flat : (a b c d : ℤ) → a ≡ pos 0 → c ≡ pos 0 → pos 0 <ℤ (a *ℤ b -ℤ c *ℤ d) → ⊥
    flat a b c d e f h =
        let g = subst (λ t. pos 0 <ℤ (t *ℤ b -ℤ c *ℤ d)) e h in
        let i = subst (λ t. pos 0 <ℤ (pos 0 *ℤ b -ℤ t *ℤ d)) f g in
        omega (arith, ints)

-- one on each side: a place strictly between the shared corners is covered by exactly one
one_of_both : (p q r s m : Spot) → pos 0 <ℤ edge_value p q r → edge_value p q s <ℤ pos 0 → IsBetween p q m → covers p q s m ≡ not (covers p q r m)
one_of_both p q r s m h k b =
    covers_left p q s m k
    ∙ within-between q p s m (subst (λ t. pos 0 <ℤ t) (sym (edge-turned p q s)) (above_turned (edge_value p q s) k)) (between-turned p q m b)
    ∙ top_left-turned p q
    ∙ exact_tests (q.y -ℤ p.y) (q.x -ℤ p.x) (corners_differ p q r h)
    ∙ ap not (sym (within-between p q r m h b) ∙ sym (covers_right p q r m h))
  where
    above_turned : (v : ℤ) → v <ℤ pos 0 → pos 0 <ℤ neg_ℤ v
    above_turned v h = omega (arith, ints)

-- ---- strictly between, by coordinates
magnitude : (v : ℤ) → pos 0 <ℤ v → (pos (unsigned_abs v) ≡ v) × (0 < unsigned_abs v)
magnitude (pos n) h = (refl, omega (arith, ints))
magnitude (negsuc n) h = absurd (omega (arith, ints))

whole : (j k : ℕ) (a m b : ℤ) → pos j ≡ b -ℤ m → pos k ≡ m -ℤ a → pos (j + k) ≡ b -ℤ a
whole j k a m b e d = omega (arith, ints)

same_way : (a m b : ℤ) → (b -ℤ a) *ℤ m ≡ (b -ℤ m) *ℤ a +ℤ (m -ℤ a) *ℤ b
same_way a m b =
    let f = sub-mul b a m in
    let g = sub-mul b m a in
    let h = sub-mul m a b in
    omega (arith, ints)

other_way : (a m b c n d : ℤ) → (b -ℤ a) *ℤ (n -ℤ c) ≡ (d -ℤ c) *ℤ (m -ℤ a) → (b -ℤ a) *ℤ n ≡ (b -ℤ m) *ℤ c +ℤ (m -ℤ a) *ℤ d
other_way a m b c n d e =
    let i = differences b a n c in
    let j = differences d c m a in
    let f = sub-mul b a n in
    let g = sub-mul b m c in
    let h = sub-mul m a d in
    omega (arith, ints)

level : (p q m : Spot) → edge_value p q m ≡ pos 0 → (q.x -ℤ p.x) *ℤ (m.y -ℤ p.y) ≡ (q.y -ℤ p.y) *ℤ (m.x -ℤ p.x)
unfolding edge_value
level p q m e = same ((q.x -ℤ p.x) *ℤ (m.y -ℤ p.y)) ((q.y -ℤ p.y) *ℤ (m.x -ℤ p.x)) e
  where
    same : (a b : ℤ) → a -ℤ b ≡ pos 0 → a ≡ b
    same a b e = omega (arith, ints)

level-turned : (p q m : Spot) → edge_value p q m ≡ pos 0 → (q.y -ℤ p.y) *ℤ (m.x -ℤ p.x) ≡ (q.x -ℤ p.x) *ℤ (m.y -ℤ p.y)
level-turned p q m e = sym (level p q m e)

by_columns : (p q m : Spot) → edge_value p q m ≡ pos 0 → p.x <ℤ m.x → m.x <ℤ q.x → IsBetween p q m
by_columns p q m e l h =
    let j = magnitude (q.x -ℤ m.x) (omega (arith, ints)) in
    let k = magnitude (m.x -ℤ p.x) (omega (arith, ints)) in
    let n = whole (unsigned_abs (q.x -ℤ m.x)) (unsigned_abs (m.x -ℤ p.x)) p.x m.x q.x j.0 k.0 in
    record {
      near = unsigned_abs (q.x -ℤ m.x);
      far = unsigned_abs (m.x -ℤ p.x);
      near_some = j.1;
      far_some = k.1;
      x = ap (λ t. t *ℤ m.x) n ∙ same_way p.x m.x q.x ∙ ap (λ t. t *ℤ p.x +ℤ (m.x -ℤ p.x) *ℤ q.x) (sym j.0) ∙ ap (λ t. pos (unsigned_abs (q.x -ℤ m.x)) *ℤ p.x +ℤ t *ℤ q.x) (sym k.0);
      y = ap (λ t. t *ℤ m.y) n ∙ other_way p.x m.x q.x p.y m.y q.y (level p q m e) ∙ ap (λ t. t *ℤ p.y +ℤ (m.x -ℤ p.x) *ℤ q.y) (sym j.0) ∙ ap (λ t. pos (unsigned_abs (q.x -ℤ m.x)) *ℤ p.y +ℤ t *ℤ q.y) (sym k.0);
    }

by_rows : (p q m : Spot) → edge_value p q m ≡ pos 0 → p.y <ℤ m.y → m.y <ℤ q.y → IsBetween p q m
by_rows p q m e l h =
    let j = magnitude (q.y -ℤ m.y) (omega (arith, ints)) in
    let k = magnitude (m.y -ℤ p.y) (omega (arith, ints)) in
    let n = whole (unsigned_abs (q.y -ℤ m.y)) (unsigned_abs (m.y -ℤ p.y)) p.y m.y q.y j.0 k.0 in
    record {
      near = unsigned_abs (q.y -ℤ m.y);
      far = unsigned_abs (m.y -ℤ p.y);
      near_some = j.1;
      far_some = k.1;
      x = ap (λ t. t *ℤ m.x) n ∙ other_way p.y m.y q.y p.x m.x q.x (level-turned p q m e) ∙ ap (λ t. t *ℤ p.x +ℤ (m.y -ℤ p.y) *ℤ q.x) (sym j.0) ∙ ap (λ t. pos (unsigned_abs (q.y -ℤ m.y)) *ℤ p.x +ℤ t *ℤ q.x) (sym k.0);
      y = ap (λ t. t *ℤ m.y) n ∙ same_way p.y m.y q.y ∙ ap (λ t. t *ℤ p.y +ℤ (m.y -ℤ p.y) *ℤ q.y) (sym j.0) ∙ ap (λ t. pos (unsigned_abs (q.y -ℤ m.y)) *ℤ p.y +ℤ t *ℤ q.y) (sym k.0);
    }

line-turned : (p q m : Spot) → edge_value p q m ≡ pos 0 → edge_value q p m ≡ pos 0
line-turned p q m e = edge-turned p q m ∙ ap neg_ℤ e

between : (p q m : Spot) → LiesBetween p q m → IsBetween p q m
between p q m b = by b.inside
  where
    by : Parts p.x m.x q.x ⊎ Parts p.y m.y q.y → IsBetween p q m
    by (inl (inl h)) = by_columns p q m b.on_line h.0 h.1
    by (inl (inr h)) = between-turned q p m (by_columns q p m (line-turned p q m b.on_line) h.0 h.1)
    by (inr (inl h)) = by_rows p q m b.on_line h.0 h.1
    by (inr (inr h)) = between-turned q p m (by_rows q p m (line-turned p q m b.on_line) h.0 h.1)

-- ---- the corners in any order
any_order : (t : Corners) (p q r at : Spot) → AreCorners t p q r → covered_by t at ≡ covers p q r at
any_order t p q r at (inl (inl e)) = ap (λ t. covered_by t at) e
any_order t p q r at (inl (inr (inl e))) = ap (λ t. covered_by t at) e ∙ covers-round p q r at
any_order t p q r at (inl (inr (inr e))) = ap (λ t. covered_by t at) e ∙ sym (covers-round r p q at)
any_order t p q r at (inr (inl e)) = ap (λ t. covered_by t at) e ∙ turned_first p q r at
  where
    turned_first : (p q r at : Spot) → covers q p r at ≡ covers p q r at
    turned_first p q r at = sym (covers-round q p r at) ∙ covers-turned p q r at
any_order t p q r at (inr (inr (inl e))) = ap (λ t. covered_by t at) e ∙ covers-turned p q r at
any_order t p q r at (inr (inr (inr e))) = ap (λ t. covered_by t at) e ∙ covers-turned r p q at ∙ sym (covers-round r p q at)

swap_sides : (p q r : Spot) → edge_value p q r <ℤ pos 0 → pos 0 <ℤ edge_value q p r
swap_sides p q r h = subst (λ t. pos 0 <ℤ t) (sym (edge-turned p q r)) (turned (edge_value p q r) h)
  where
    turned : (v : ℤ) → v <ℤ pos 0 → pos 0 <ℤ neg_ℤ v
    turned v h = omega (arith, ints)

swap_back : (p q r : Spot) → pos 0 <ℤ edge_value p q r → edge_value q p r <ℤ pos 0
swap_back p q r h = subst (λ t. t <ℤ pos 0) (sym (edge-turned p q r)) (turned (edge_value p q r) h)
  where
    turned : (v : ℤ) → pos 0 <ℤ v → neg_ℤ v <ℤ pos 0
    turned v h = omega (arith, ints)

-- the first two corners exchanged
exchanged : (p q r at : Spot) → covers q p r at ≡ covers p q r at
exchanged p q r at = sym (covers-round q p r at) ∙ covers-turned p q r at

apart : (p q r s at : Spot) → AreOpposite p q r s → covers p q r at ≡ true → covers p q s at ≡ true → ⊥
apart p q r s at (inl h) e d = none_by_both p q r s at h.0 h.1 e d
apart p q r s at (inr h) e d = none_by_both q p r s at (swap_sides p q r h.0) (swap_back p q s h.1) (exchanged p q r at ∙ e) (exchanged p q s at ∙ d)

exactly : (p q r s m : Spot) → AreOpposite p q r s → IsBetween p q m → covers p q s m ≡ not (covers p q r m)
exactly p q r s m (inl h) b = one_of_both p q r s m h.0 h.1 b
exactly p q r s m (inr h) b = sym (exchanged p q s m) ∙ one_of_both q p r s m (swap_sides p q r h.0) (swap_back p q s h.1) (between-turned p q m b) ∙ ap not (exchanged p q r m)

pub never_both : (one other : Triangle) (shared : ShareEdge one other) (at : Spot) → Model.covers one at ≡ true → Model.covers other at ≡ true → ⊥
never_both one other shared at e d =
    apart shared.p shared.q shared.r shared.s at shared.opposite
    (sym (any_order (corners_of one) shared.p shared.q shared.r at shared.one_is) ∙ e)
    (sym (any_order (corners_of other) shared.p shared.q shared.s at shared.other_is) ∙ d)

pub exactly_one : (one other : Triangle) (shared : ShareEdge one other) (at : Spot) → LiesBetween shared.p shared.q at → Model.covers other at ≡ not (Model.covers one at)
exactly_one one other shared at b =
    any_order (corners_of other) shared.p shared.q shared.s at shared.other_is
    ∙ exactly shared.p shared.q shared.r shared.s at shared.opposite (between shared.p shared.q at b)
    ∙ ap not (sym (any_order (corners_of one) shared.p shared.q shared.r at shared.one_is))
