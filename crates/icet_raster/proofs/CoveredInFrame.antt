-- A covered spot lies among the corners, and so its pixel in the triangle's frame.
use Rattle.std.proofs.Common.{◌≡◌, ℕ, zero, suc, ◌+◌, ◌*◌, ℤ, pos, negsuc, ◌+ℤ◌, ◌-ℤ◌, ◌*ℤ◌, ◌<ℤ◌, ◌≤ℤ◌, neg_ℤ, true, false, ap, sym, refl, ◌∙◌, subst, arith, Some, None}
use Rattle.std.specs.Int.{int_gap}
use Rattle.std.proofs.lemmas.Int.{ints, clamps, by_lt_z}
use Rattle.icet_model.specs.declared.names.Rect.{Rect}
use Rattle.icet_scene_model.specs.declared.spot.Spot.{Spot}
use Rattle.icet_scene_model.specs.Triangles.{Triangle, centre, by_sign, edge_value, is_within, doubled_area, covers}
use Rattle.icet_scene_model.specs.Boxes.{HasPixel, between, bounds, frame, greatest, least, pixel_of}
use Rattle.icet_scene_model.specs.Raster.{Tri}
use Rattle.icet_raster.specs.Boxes.{CoversPixel}
use Rattle.icet_raster.specs.declared.edge.Spots.{Spots}
use Rattle.icet_raster.specs.Triangles.{AreSpotsOf}
use Rattle.icet_raster.proofs.SignedProducts.{mul-comm, mul-rot, sub-mul, differences}
use Rattle.icet_raster.proofs.EdgeValues.{edge-is, area-turned, weights-sum}
use Rattle.icet_raster.proofs.SignCases.{sign-other}
use Rattle.icet_raster.proofs.CornerWeights.{within-round, edge-same}
use Rattle.icet_raster.proofs.Hulls.{end_is}

-- the value of an edge by the way from the spot to its ends
relative : (a b p : Spot) → edge_value a b p ≡ (a.x -ℤ p.x) *ℤ (b.y -ℤ p.y) -ℤ (b.x -ℤ p.x) *ℤ (a.y -ℤ p.y)
relative a b p =
    let e = edge-is a b p in
    let f = differences a.x p.x b.y p.y in
    let g = differences b.x p.x a.y p.y in
    omega (arith, ints)

-- ---- the weighted mean of the corners is the spot itself
outer_swap : (a b c : ℤ) → (a *ℤ b) *ℤ c ≡ (c *ℤ b) *ℤ a
outer_swap a b c = mul-rot a b c ∙ ap (λ t. t *ℤ a) (mul-comm b c)

last_swap : (a b c : ℤ) → (a *ℤ b) *ℤ c ≡ (a *ℤ c) *ℤ b
last_swap a b c = ap (λ t. t *ℤ c) (mul-comm a b) ∙ outer_swap b a c ∙ mul-rot c a b ∙ mul-comm (a *ℤ b) c ∙ by a b c
  where
    by : (a b c : ℤ) → c *ℤ (a *ℤ b) ≡ (a *ℤ c) *ℤ b
    by a b c = ap (λ t. c *ℤ t) (mul-comm a b) ∙ mul-comm c (b *ℤ a) ∙ mul-rot b a c

columns_balance : (u v w x y z : ℤ) → ((v *ℤ z -ℤ w *ℤ y) *ℤ u +ℤ (w *ℤ x -ℤ u *ℤ z) *ℤ v) +ℤ (u *ℤ y -ℤ v *ℤ x) *ℤ w ≡ pos 0
columns_balance u v w x y z =
    let a = sub-mul (v *ℤ z) (w *ℤ y) u in
    let b = sub-mul (w *ℤ x) (u *ℤ z) v in
    let c = sub-mul (u *ℤ y) (v *ℤ x) w in
    let d = outer_swap v z u in
    let e = outer_swap w y u in
    let f = outer_swap w x v in
    none _ _ _ _ _ _ _ _ _ a b c d e f
  where
    none : (a b c d e f g h i : ℤ) → a ≡ d -ℤ e → b ≡ f -ℤ g → c ≡ h -ℤ i → d ≡ g → e ≡ h → f ≡ i → (a +ℤ b) +ℤ c ≡ pos 0
    none a b c d e f g h i j k l m n o = omega (arith, ints)

rows_balance : (u v w x y z : ℤ) → ((v *ℤ z -ℤ w *ℤ y) *ℤ x +ℤ (w *ℤ x -ℤ u *ℤ z) *ℤ y) +ℤ (u *ℤ y -ℤ v *ℤ x) *ℤ z ≡ pos 0
rows_balance u v w x y z =
    let a = sub-mul (v *ℤ z) (w *ℤ y) x in
    let b = sub-mul (w *ℤ x) (u *ℤ z) y in
    let c = sub-mul (u *ℤ y) (v *ℤ x) z in
    let d = last_swap v z x in
    let e = last_swap w y x in
    let f = last_swap u z y in
    none _ _ _ _ _ _ _ _ _ a b c d e f
  where
    none : (a b c d e f g h i : ℤ) → a ≡ d -ℤ e → b ≡ f -ℤ g → c ≡ h -ℤ i → d ≡ i → e ≡ f → g ≡ h → (a +ℤ b) +ℤ c ≡ pos 0
    none a b c d e f g h i j k l m n o = omega (arith, ints)

-- ---- so it doesn't lie to one side of all corners
more : (w u : ℤ) → pos 0 ≤ℤ w → pos 0 <ℤ u → w ≤ℤ (w *ℤ u)
more (pos n) (pos zero) h l = absurd (omega (arith, ints))
more (pos n) (pos (suc m)) h l = omega (arith, ints)
more (pos n) (negsuc m) h l = absurd (omega (arith, ints))
more (negsuc n) u h l = absurd (omega (arith, ints))

less : (w u : ℤ) → pos 0 ≤ℤ w → u <ℤ pos 0 → (w *ℤ u) ≤ℤ neg_ℤ w
less (pos n) (pos m) h l = absurd (omega (arith, ints))
less (pos n) (negsuc m) h l = omega (arith, ints)
less (negsuc n) u h l = absurd (omega (arith, ints))

not_all_above : (a b c s u v w : ℤ) → pos 0 ≤ℤ a → pos 0 ≤ℤ b → pos 0 ≤ℤ c → (a +ℤ b) +ℤ c ≡ s → pos 0 <ℤ s → (a *ℤ u +ℤ b *ℤ v) +ℤ c *ℤ w ≡ pos 0 → pos 0 <ℤ u → pos 0 <ℤ v → pos 0 <ℤ w → ⊥
not_all_above a b c s u v w h i j e l d f g k = clash _ _ _ _ _ _ _ e l d (more a u h f) (more b v i g) (more c w j k)
  where
    clash : (a b c s x y z : ℤ) → (a +ℤ b) +ℤ c ≡ s → pos 0 <ℤ s → (x +ℤ y) +ℤ z ≡ pos 0 → a ≤ℤ x → b ≤ℤ y → c ≤ℤ z → ⊥
    clash a b c s x y z e l d f g k = omega (arith, ints)

not_all_below : (a b c s u v w : ℤ) → pos 0 ≤ℤ a → pos 0 ≤ℤ b → pos 0 ≤ℤ c → (a +ℤ b) +ℤ c ≡ s → pos 0 <ℤ s → (a *ℤ u +ℤ b *ℤ v) +ℤ c *ℤ w ≡ pos 0 → u <ℤ pos 0 → v <ℤ pos 0 → w <ℤ pos 0 → ⊥
not_all_below a b c s u v w h i j e l d f g k = clash _ _ _ _ _ _ _ e l d (less a u h f) (less b v i g) (less c w j k)
  where
    clash : (a b c s x y z : ℤ) → (a +ℤ b) +ℤ c ≡ s → pos 0 <ℤ s → (x +ℤ y) +ℤ z ≡ pos 0 → x ≤ℤ neg_ℤ a → y ≤ℤ neg_ℤ b → z ≤ℤ neg_ℤ c → ⊥
    clash a b c s x y z e l d f g k = omega (arith, ints)

record IsAmong (a b c p : ℤ) : Type 0 where
  left : p <ℤ a → p <ℤ b → p <ℤ c → ⊥
  right : a <ℤ p → b <ℤ p → c <ℤ p → ⊥

up_from : (p a : ℤ) → p <ℤ a → pos 0 <ℤ (a -ℤ p)
up_from p a h = omega (arith, ints)

down_from : (p a : ℤ) → a <ℤ p → (a -ℤ p) <ℤ pos 0
down_from p a h = omega (arith, ints)

among_by : (p u v w a b c s : ℤ) → pos 0 ≤ℤ a → pos 0 ≤ℤ b → pos 0 ≤ℤ c → (a +ℤ b) +ℤ c ≡ s → pos 0 <ℤ s → (a *ℤ (u -ℤ p) +ℤ b *ℤ (v -ℤ p)) +ℤ c *ℤ (w -ℤ p) ≡ pos 0 → IsAmong u v w p
among_by p u v w a b c s h i j e l d = record {
  left = λ f g k. not_all_above a b c s (u -ℤ p) (v -ℤ p) (w -ℤ p) h i j e l d (up_from p u f) (up_from p v g) (up_from p w k);
  right = λ f g k. not_all_below a b c s (u -ℤ p) (v -ℤ p) (w -ℤ p) h i j e l d (down_from p u f) (down_from p v g) (down_from p w k);
}

-- the two balances, by edges
columns_at : (a b c p : Spot) → (edge_value b c p *ℤ (a.x -ℤ p.x) +ℤ edge_value c a p *ℤ (b.x -ℤ p.x)) +ℤ edge_value a b p *ℤ (c.x -ℤ p.x) ≡ pos 0
columns_at a b c p =
    ap (λ t. (t *ℤ (a.x -ℤ p.x) +ℤ edge_value c a p *ℤ (b.x -ℤ p.x)) +ℤ edge_value a b p *ℤ (c.x -ℤ p.x)) (relative b c p)
    ∙ ap (λ t. (((b.x -ℤ p.x) *ℤ (c.y -ℤ p.y) -ℤ (c.x -ℤ p.x) *ℤ (b.y -ℤ p.y)) *ℤ (a.x -ℤ p.x) +ℤ t *ℤ (b.x -ℤ p.x)) +ℤ edge_value a b p *ℤ (c.x -ℤ p.x)) (relative c a p)
    ∙ ap (λ t. (((b.x -ℤ p.x) *ℤ (c.y -ℤ p.y) -ℤ (c.x -ℤ p.x) *ℤ (b.y -ℤ p.y)) *ℤ (a.x -ℤ p.x) +ℤ ((c.x -ℤ p.x) *ℤ (a.y -ℤ p.y) -ℤ (a.x -ℤ p.x) *ℤ (c.y -ℤ p.y)) *ℤ (b.x -ℤ p.x)) +ℤ t *ℤ (c.x -ℤ p.x)) (relative a b p)
    ∙ columns_balance (a.x -ℤ p.x) (b.x -ℤ p.x) (c.x -ℤ p.x) (a.y -ℤ p.y) (b.y -ℤ p.y) (c.y -ℤ p.y)

rows_at : (a b c p : Spot) → (edge_value b c p *ℤ (a.y -ℤ p.y) +ℤ edge_value c a p *ℤ (b.y -ℤ p.y)) +ℤ edge_value a b p *ℤ (c.y -ℤ p.y) ≡ pos 0
rows_at a b c p =
    ap (λ t. (t *ℤ (a.y -ℤ p.y) +ℤ edge_value c a p *ℤ (b.y -ℤ p.y)) +ℤ edge_value a b p *ℤ (c.y -ℤ p.y)) (relative b c p)
    ∙ ap (λ t. (((b.x -ℤ p.x) *ℤ (c.y -ℤ p.y) -ℤ (c.x -ℤ p.x) *ℤ (b.y -ℤ p.y)) *ℤ (a.y -ℤ p.y) +ℤ t *ℤ (b.y -ℤ p.y)) +ℤ edge_value a b p *ℤ (c.y -ℤ p.y)) (relative c a p)
    ∙ ap (λ t. (((b.x -ℤ p.x) *ℤ (c.y -ℤ p.y) -ℤ (c.x -ℤ p.x) *ℤ (b.y -ℤ p.y)) *ℤ (a.y -ℤ p.y) +ℤ ((c.x -ℤ p.x) *ℤ (a.y -ℤ p.y) -ℤ (a.x -ℤ p.x) *ℤ (c.y -ℤ p.y)) *ℤ (b.y -ℤ p.y)) +ℤ t *ℤ (c.y -ℤ p.y)) (relative a b p)
    ∙ rows_balance (a.x -ℤ p.x) (b.x -ℤ p.x) (c.x -ℤ p.x) (a.y -ℤ p.y) (b.y -ℤ p.y) (c.y -ℤ p.y)

record IsAmid (a b c p : Spot) : Type 0 where
  columns : IsAmong a.x b.x c.x p.x
  rows : IsAmong a.y b.y c.y p.y

amid_by : (a b c p : Spot) → pos 0 <ℤ edge_value a b c → is_within a b c p ≡ true → IsAmid a b c p
amid_by a b c p l e =
    let r = within-round a b c p e in
    record {
      columns = among_by p.x a.x b.x c.x (edge_value b c p) (edge_value c a p) (edge_value a b p) (edge_value a b c) r.first r.second r.third (weights-sum a b c p) l (columns_at a b c p);
      rows = among_by p.y a.y b.y c.y (edge_value b c p) (edge_value c a p) (edge_value a b p) (edge_value a b c) r.first r.second r.third (weights-sum a b c p) l (rows_at a b c p);
    }

exchange : (a b c p : ℤ) → IsAmong a c b p → IsAmong a b c p
exchange a b c p h = record { left = λ f g k. h.left f k g; right = λ f g k. h.right f k g }

amid_of : (a b c p : Spot) (v : ℤ) → edge_value a b c ≡ v → by_sign v (is_within a c b p) false (is_within a b c p) ≡ true → IsAmid a b c p
amid_of a b c p (pos zero) e h = absurd (cc)
amid_of a b c p (pos (suc n)) e h = amid_by a b c p (subst (λ t. pos 0 <ℤ t) (sym e) (omega (arith, ints))) h
amid_of a b c p (negsuc n) e h =
    let f : edge_value a c b ≡ pos (suc n) = area-turned a b c ∙ ap neg_ℤ e in
    let g = amid_by a c b p (subst (λ t. pos 0 <ℤ t) (sym f) (omega (arith, ints))) h in
    record { columns = exchange a.x b.x c.x p.x g.columns; rows = exchange a.y b.y c.y p.y g.rows }

-- ---- the frame
least_at_most : (a b c p : ℤ) → IsAmong a b c p → least a b c ≤ℤ p
least_at_most a b c p h = by_lt_z p (least a b c) (λ l. absurd (h.left (omega (arith, ints, clamps)) (omega (arith, ints, clamps)) (omega (arith, ints, clamps)))) (λ l. l)

at_most_greatest : (a b c p : ℤ) → IsAmong a b c p → p ≤ℤ greatest a b c
at_most_greatest a b c p h = by_lt_z (greatest a b c) p (λ l. absurd (h.right (omega (arith, ints, clamps)) (omega (arith, ints, clamps)) (omega (arith, ints, clamps)))) (λ l. l)

pixel_at_most : (v : ℤ) (x : ℕ) → v ≤ℤ pos (16 * x + 8) → pixel_of v ≤ℤ pos x
unfolding pixel_of
pixel_at_most (pos n) x h = omega (arith, ints)
pixel_at_most (negsuc n) x h = omega (arith, ints)

at_most_pixel : (v : ℤ) (x : ℕ) → pos (16 * x + 8) ≤ℤ v → pos x ≤ℤ pixel_of v
unfolding pixel_of
at_most_pixel (pos n) x h = omega (arith, ints)
at_most_pixel (negsuc n) x h = absurd (omega (arith, ints))

has_between : (l t r b : ℤ) (x y : ℤ) → l ≤ℤ x → x <ℤ r → t ≤ℤ y → y <ℤ b → HasPixel (between l t r b) x y
has_between l t r b x y f g h i =
    let w = end_is l r (omega (arith, ints)) in
    let k = end_is t b (omega (arith, ints)) in
    record { left = f; right = omega (arith, ints); top = h; bottom = omega (arith, ints) }

in_frame : (t : Triangle) (x y : ℕ) → IsAmid t.a.spot t.b.spot t.c.spot (centre x y) → HasPixel (frame t) (pos x) (pos y)
in_frame t x y h =
    let l = pixel_at_most _ x (least_at_most _ _ _ _ h.columns) in
    let r = at_most_pixel _ x (at_most_greatest _ _ _ _ h.columns) in
    let u = pixel_at_most _ y (least_at_most _ _ _ _ h.rows) in
    let d = at_most_pixel _ y (at_most_greatest _ _ _ _ h.rows) in
    has_between _ _ _ _ (pos x) (pos y) l (after _ _ r) u (after _ _ d)
  where
    after : (a b : ℤ) → a ≤ℤ b → a <ℤ (b +ℤ pos 1)
    after a b h = omega (arith, ints)

area_some : (a b c p : Spot) (v : ℤ) → by_sign v (is_within a c b p) false (is_within a b c p) ≡ true → (box : Rect) → by_sign v (Some box) None (Some box) ≡ Some box
area_some a b c p (pos zero) e box = absurd (cc)
area_some a b c p (pos (suc n)) e box = refl
area_some a b c p (negsuc n) e box = refl

-- a covered pixel lies in the triangle's box
pub covered_in_box : (t : Triangle) (x y : ℕ) → covers t (centre x y) ≡ true → CoversPixel (bounds (Tri t)) x y
covered_in_box t x y e = record {
  rect = frame t;
  box_is = area_some t.a.spot t.b.spot t.c.spot (centre x y) (doubled_area t) e (frame t);
  pixel = in_frame t x y (amid_of t.a.spot t.b.spot t.c.spot (centre x y) (doubled_area t) refl e);
}

pixel_order : (v w : ℤ) → v ≤ℤ w → pixel_of v ≤ℤ pixel_of w
unfolding pixel_of
pixel_order (pos n) (pos m) h = omega (arith, ints)
pixel_order (pos n) (negsuc m) h = absurd (omega (arith, ints))
pixel_order (negsuc n) (pos m) h = omega (arith, ints)
pixel_order (negsuc n) (negsuc m) h = omega (arith, ints)

-- the first pixel doesn't lie behind the last
pub ends : (a b c : ℤ) → pixel_of (least a b c) ≤ℤ pixel_of (greatest a b c)
ends a b c = pixel_order (least a b c) (greatest a b c) (omega (arith, ints, clamps))

-- the box that the code works out
pub framed : (t : Triangle) (s : Spots) (v x y : ℤ) (w h : ℕ) → AreSpotsOf t s → v ≡ edge_value s.a s.b s.c → (v ≡ pos 0 → ⊥)
    → x ≡ pixel_of (least s.a.x s.b.x s.c.x) → w ≡ int_gap (pixel_of (least s.a.x s.b.x s.c.x)) (pixel_of (greatest s.a.x s.b.x s.c.x) +ℤ pos 1)
    → y ≡ pixel_of (least s.a.y s.b.y s.c.y) → h ≡ int_gap (pixel_of (least s.a.y s.b.y s.c.y)) (pixel_of (greatest s.a.y s.b.y s.c.y) +ℤ pos 1)
    → Some (record { x = x; y = y; w = w; h = h }) ≡ bounds (Tri t)
framed t s v x y w h are e ne ex ew ey eh =
    let area : v ≡ doubled_area t = e ∙ edge-same _ _ _ _ _ _ are.a are.b are.c in
    let box : record { x = x; y = y; w = w; h = h } ≡ box_by s.a s.b s.c =
    (ap (λ n. record { x = n; y = y; w = w; h = h }) ex ∙ ap (λ n. record { x = pixel_of (least s.a.x s.b.x s.c.x); y = n; w = w; h = h }) ey
    ∙ ap (λ n. record { x = pixel_of (least s.a.x s.b.x s.c.x); y = pixel_of (least s.a.y s.b.y s.c.y); w = n; h = h }) ew
    ∙ ap (λ n. record { x = pixel_of (least s.a.x s.b.x s.c.x); y = pixel_of (least s.a.y s.b.y s.c.y); w = int_gap (pixel_of (least s.a.x s.b.x s.c.x)) (pixel_of (greatest s.a.x s.b.x s.c.x) +ℤ pos 1); h = n }) eh) in
    ap Some (box ∙ ap (λ p. box_by p s.b s.c) are.a ∙ ap (λ p. box_by t.a.spot p s.c) are.b ∙ ap (λ p. box_by t.a.spot t.b.spot p) are.c)
    ∙ sym (sign-other (doubled_area t) (Some (frame t)) None (λ z. ne (area ∙ z)))
  where
    box_by : Spot → Spot → Spot → Rect
    box_by a b c = between (pixel_of (least a.x b.x c.x)) (pixel_of (least a.y b.y c.y)) (pixel_of (greatest a.x b.x c.x) +ℤ pos 1) (pixel_of (greatest a.y b.y c.y) +ℤ pos 1)
