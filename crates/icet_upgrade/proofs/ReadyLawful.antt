-- A lawful scene is lawful with its shapes ready drawn.
use Rattle.std.proofs.Common.{◌≡◌, ◌≢◌, ℕ, zero, suc, ◌+◌, ◌-◌, ◌*◌, ◌/◌, ◌<◌, ◌≤◌, min, Bool, true, false, cond, List, [], ◌∷◌, ◌++◌, length, map, Some, None, refl, sym, ap, ◌∙◌, subst, arith}
use Rattle.std.specs.Prelude.{◌&&◌, ◌==◌, nat_le, All, IfSome, filter, slice_get, unsigned_abs, if◌then◌else◌}
use Rattle.std.specs.List.{fold, flat_map, list_any, range_with_len}
use Rattle.std.proofs.lemmas.List.{length-map}
use Rattle.std.proofs.lemmas.List.Elements.{All-nil, All-cons, All-head, All-tail, All-map}
use Rattle.std.proofs.lemmas.List.FromFn.{length-map-range_with_len}
use Rattle.std.proofs.Math.Nat.{mul-le-mul_right, div-le_of_le-mul, div-mul-le_self}
use Rattle.std.proofs.lemmas.Nat.{le-div}
use Rattle.icet_model.specs.declared.limits.TheConstants.{MAX_PLACE, MAX_SIDE}
use Rattle.icet_model.specs.declared.names.Mode.{Mode}
use Rattle.icet_model.specs.declared.names.Mode.TheVariants.{Depth, Blend, WideBlend}
use Rattle.icet_model.specs.Pixel.{FragmentView, IsFragment, Pixel, blended, joined, joined_fragments, over_by}
use Rattle.icet_model.specs.Tiles.{Area, IsOnDisplay, TileView}
use Rattle.icet_scene.specs.Scenes.{IsLawfulScene}
use Rattle.icet_scene_model.specs.Jobs.{shapes_of}
use Rattle.icet_scene_model.specs.Lawful.{IsPaint, IsPainted, IsPaintedCorner, IsPaintedPoint, IsPaintedRow, IsPaintedTriangle, greatest_channel, is_blending}
use Rattle.icet_scene_model.specs.Raster.{Drawing, Point, Tri, Span, drawn, drawn_over, gives, visible}
use Rattle.icet_scene_model.specs.Ready.{Stretch, areas_of, bottom_end, holds_pixel, put_before, rank_spans, ready_scene, ready_shapes, right_end, row_spans, shown, shown_row, stretch_span, stretches}
use Rattle.icet_scene_model.specs.Scene.{Placed, SceneView, mode_of}
use Rattle.icet_scene_model.specs.Triangles.{Triangle, centre, covers, doubled_area, edge_value, mixed, shaded, weights}
use Rattle.icet_scene_model.specs.declared.spot.Spot.{Spot}
use Rattle.icet_raster.proofs.CornerWeights.{covered-weights, mean-mono, mean-within}
use Rattle.icet_upgrade.proofs.Ends.{all_ranged, bottom_within, right_within}
use Rattle.icet_upgrade.proofs.Runs.{by_test, eq_true}

-- ---- what a shape gives
if_drawn : (P : FragmentView → Type 0) (b : Bool) (f : FragmentView) → (b ≡ true → P f) → IfSome (cond b (Some f) None) P
if_drawn P true f h = h refl
if_drawn P false f h = tt

if_there : (P : FragmentView → Type 0) (b : Bool) (p : Pixel) → IfSome p P → IfSome (cond b p None) P
if_there P true p h = h
if_there P false p h = tt

one_of : (P : FragmentView → Type 0) (fs : List FragmentView) (i : ℕ) → All P fs → IfSome (slice_get fs i) P
one_of P [] i h = tt
one_of P (f ∷ fs) zero h = All-head P f fs h
one_of P (f ∷ fs) (suc i) h = one_of P fs i (All-tail P f fs h)

mixed-paint : (most u v w s : ℕ) (a b c : FragmentView) → u + v + w ≡ s → 0 < s → IsPaint most a → IsPaint most b → IsPaint most c → IsPaint most (mixed (record { a = u; b = v; c = w; whole = s }) a b c)
mixed-paint most u v w s a b c e some h k l = record {
  fragment = record {
    r_within = mean-mono u v w s a.r b.r c.r a.a b.a c.a some h.fragment.r_within k.fragment.r_within l.fragment.r_within;
    g_within = mean-mono u v w s a.g b.g c.g a.a b.a c.a some h.fragment.g_within k.fragment.g_within l.fragment.g_within;
    b_within = mean-mono u v w s a.b b.b c.b a.a b.a c.a some h.fragment.b_within k.fragment.b_within l.fragment.b_within;
    a_within = mean-within u v w s a.a b.a c.a 65535 e h.fragment.a_within k.fragment.a_within l.fragment.a_within;
    z_within = mean-within u v w s a.z b.z c.z 16777214 e h.fragment.z_within k.fragment.z_within l.fragment.z_within;
  };
  within = mean-within u v w s a.a b.a c.a most e h.within k.within l.within;
}

shaded-paint : (most : ℕ) (t : Triangle) (at : Spot) → IsPaintedTriangle most t → covers t at ≡ true → IsPaint most (shaded t at)
unfolding weights
shaded-paint most t at h e =
    let w = covered-weights t at e in
    mixed-paint most (unsigned_abs (edge_value t.b.spot t.c.spot at)) (unsigned_abs (edge_value t.c.spot t.a.spot at)) (unsigned_abs (edge_value t.a.spot t.b.spot at)) (unsigned_abs (doubled_area t))
    t.a.paint t.b.paint t.c.paint w.0 w.1 h.a.paint h.b.paint h.c.paint

gives-paint : (most : ℕ) (shape : Drawing) (x y : ℕ) → IsPainted most shape → IfSome (gives shape x y) (IsPaint most)
gives-paint most (Point px py paint) x y h = if_drawn (IsPaint most) ((px == x) && (py == y)) paint (λ e. h.painted)
gives-paint most (Tri t) x y h = if_drawn (IsPaint most) (covers t (centre x y)) (shaded t (centre x y)) (shaded-paint most t (centre x y) h)
gives-paint most (Span px py paints) x y h = if_there (IsPaint most) ((py == y) && nat_le px x) (slice_get paints (x - px)) (one_of (IsPaint most) paints (x - px) h.painted)

-- ---- what is drawn over another
shown-part : (most back shown : ℕ) → back ≤ most → back * shown / most ≤ shown
shown-part most back shown h = div-le_of_le-mul most (omega (arith, mul-le-mul_right shown h))

part-mono : (most one two shown : ℕ) → 0 < most → one ≤ two → one * shown / most ≤ two * shown / most
part-mono most one two shown l h =
    let m = mul-le-mul_right shown h in
    let n = div-mul-le_self (one * shown) most in
    le-div _ _ most l (omega (arith, m, n))

over-paint : (most : ℕ) (f g : FragmentView) → 0 < most → most ≤ 65535 → IsPaint most f → IsPaint most g → IsPaint most (over_by most f g)
over-paint most f g some few h k =
    let part = shown-part most g.a (most - min f.a most) k.within in
    let alpha : blended most f.a f.a g.a ≤ most = omega (arith, part, h.within) in
    let r = part-mono most g.r g.a (most - min f.a most) some k.fragment.r_within in
    let g' = part-mono most g.g g.a (most - min f.a most) some k.fragment.g_within in
    let b = part-mono most g.b g.a (most - min f.a most) some k.fragment.b_within in
    record {
      fragment = record {
        r_within = omega (arith, r, h.fragment.r_within);
        g_within = omega (arith, g', h.fragment.g_within);
        b_within = omega (arith, b, h.fragment.b_within);
        a_within = omega (arith, alpha, few);
        z_within = h.fragment.z_within;
      };
      within = alpha;
    }

-- joining keeps paints within the greatest channel
Joins : ℕ → Mode → Type 0
Joins most mode = (f g : FragmentView) → IsPaint most f → IsPaint most g → IsPaint most (joined_fragments mode f g)

by_depth : (most : ℕ) (b : Bool) (f g : FragmentView) → IsPaint most f → IsPaint most g → IsPaint most (cond b f g)
by_depth most true f g h k = h
by_depth most false f g h k = k

joined-paint : (most : ℕ) (mode : Mode) → Joins most mode → (front back : Pixel) → IfSome front (IsPaint most) → IfSome back (IsPaint most) → IfSome (joined mode front back) (IsPaint most)
unfolding Joins
joined-paint most mode j None back h k = k
joined-paint most mode j (Some f) None h k = h
joined-paint most mode j (Some f) (Some g) h k = j f g h k

visible-paint : (most : ℕ) (p : Pixel) → IfSome p (IsPaint most) → IfSome (visible p) (IsPaint most)
visible-paint most None h = tt
visible-paint most (Some f) h = if_clear (f.a == 0)
  where
    if_clear : (b : Bool) → IfSome (cond b None (Some f)) (IsPaint most)
    if_clear true = tt
    if_clear false = h

over-drawn : (most : ℕ) (mode : Mode) → Joins most mode → (before new : Pixel) → IfSome before (IsPaint most) → IfSome new (IsPaint most) → IfSome (drawn_over mode before new) (IsPaint most)
over-drawn most Depth j before new h k = joined-paint most Depth j before new h k
over-drawn most Blend j before new h k = joined-paint most Blend j (visible new) before (visible-paint most new k) h
over-drawn most WideBlend j before new h k = joined-paint most WideBlend j (visible new) before (visible-paint most new k) h

fold-paint : (most : ℕ) (mode : Mode) → Joins most mode → (shapes : List Drawing) (x y : ℕ) (p : Pixel) → IfSome p (IsPaint most) → All (IsPainted most) shapes
    → IfSome (fold (λ before shape. drawn_over mode before (gives shape x y)) p shapes) (IsPaint most)
fold-paint most mode j [] x y p h a = h
fold-paint most mode j (shape ∷ shapes) x y p h a =
    fold-paint most mode j shapes x y (drawn_over mode p (gives shape x y))
    (over-drawn most mode j p (gives shape x y) h (gives-paint most shape x y (All-head (IsPainted most) shape shapes a)))
    (All-tail (IsPainted most) shape shapes a)

-- a scene's channels fit how its mode joins
joins : (mode : Mode) (wide : Bool) → mode ≡ mode_of (is_blending mode) wide → Joins (greatest_channel wide) mode
unfolding Joins
joins Depth wide e f g h k = by_depth (greatest_channel wide) (nat_le f.z g.z) f g h k
joins Blend true e f g h k = absurd cc
joins Blend false e f g h k = over-paint 255 f g (omega arith) (omega arith) h k
joins WideBlend true e f g h k = over-paint 65535 f g (omega arith) (omega arith) h k
joins WideBlend false e f g h k = absurd cc

pub drawn-paint : (mode : Mode) (wide : Bool) (shapes : List Drawing) (x y : ℕ) → mode ≡ mode_of (is_blending mode) wide → All (IsPainted (greatest_channel wide)) shapes
    → IfSome (drawn mode shapes x y) (IsPaint (greatest_channel wide))
drawn-paint mode wide shapes x y e h = fold-paint (greatest_channel wide) mode (joins mode wide e) shapes x y None tt h

-- ---- runs
module _ (most y : ℕ) (row : y ≤ MAX_PLACE) where
  IsFitting : Stretch → Type 0
  IsFitting s = IsPaintedRow most s.column y s.paints

  alone-fits : (c : ℕ) (f : FragmentView) → c + 1 ≤ MAX_SIDE → IsPaint most f → IsFitting (record { column = c; paints = f ∷ [] })
  unfolding IsFitting
  alone-fits c f l h = record { row = row; some = omega arith; within = omega (arith, l); painted = All-cons (IsPaint most) f [] h (All-nil (IsPaint most)) }

  longer-fits : (c : ℕ) (f : FragmentView) (s : Stretch) → s.column ≡ c + 1 → IsPaint most f → IsFitting s → IsFitting (record { column = c; paints = f ∷ s.paints })
  unfolding IsFitting
  longer-fits c f s e h k = record { row = row; some = omega arith; within = omega (arith, e, k.within); painted = All-cons (IsPaint most) f s.paints h k.painted }

  put-fits : (c : ℕ) (f : FragmentView) (ss : List Stretch) → c + 1 ≤ MAX_SIDE → IsPaint most f → All IsFitting ss → All IsFitting (put_before c f ss)
  put-fits c f [] l h k = All-cons IsFitting (record { column = c; paints = f ∷ [] }) [] (alone-fits c f l h) k
  put-fits c f (s ∷ ss) l h k =
      by_test (s.column == c + 1) (All IsFitting) (record { column = c; paints = f ∷ s.paints } ∷ ss) (record { column = c; paints = f ∷ [] } ∷ s ∷ ss)
      (λ e. All-cons IsFitting (record { column = c; paints = f ∷ s.paints }) ss (longer-fits c f s (eq_true s.column (c + 1) e) h (All-head IsFitting s ss k)) (All-tail IsFitting s ss k))
      (λ e. All-cons IsFitting (record { column = c; paints = f ∷ [] }) (s ∷ ss) (alone-fits c f l h) k)

  stretches-fit : (c : ℕ) (ps : List Pixel) → c + length ps ≤ MAX_SIDE → All (λ p. IfSome p (IsPaint most)) ps → All IsFitting (stretches c ps)
  stretches-fit c [] l h = All-nil IsFitting
  stretches-fit c (None ∷ ps) l h = stretches-fit (c + 1) ps (omega (arith, l)) (All-tail (λ p. IfSome p (IsPaint most)) None ps h)
  stretches-fit c (Some f ∷ ps) l h =
      put-fits c f (stretches (c + 1) ps) (omega (arith, l)) (All-head (λ p. IfSome p (IsPaint most)) (Some f) ps h)
      (stretches-fit (c + 1) ps (omega (arith, l)) (All-tail (λ p. IfSome p (IsPaint most)) (Some f) ps h))

  pub fitting-row : (rank c : ℕ) (ps : List Pixel) → c + length ps ≤ MAX_SIDE → All (λ p. IfSome p (IsPaint most)) ps → All (λ (placed : Placed). IsPainted most placed.shape) (map (stretch_span rank y) (stretches c ps))
  unfolding IsFitting
  fitting-row rank c ps l h = All-map (λ (placed : Placed). IsPainted most placed.shape) (stretch_span rank y) (stretches c ps) (stretches-fit c ps l h)

-- ---- the scene
all_made : {X : Type 0} (P : X → Type 0) (f : ℕ → X) (xs : List ℕ) → ((x : ℕ) → P (f x)) → All P (map f xs)
all_made P f xs h = All-map P f xs (λ k d l. h _)

shown-paint : (most : ℕ) (b : Bool) (p : Pixel) → IfSome p (IsPaint most) → IfSome (cond b p None) (IsPaint most)
shown-paint most b p h = if_there (IsPaint most) b p h

own-painted : (most rank : ℕ) (shapes : List Placed) → All (λ (placed : Placed). IsPainted most placed.shape) shapes → All (IsPainted most) (shapes_of shapes rank)
own-painted most rank [] h = All-nil (IsPainted most)
own-painted most rank (p ∷ ps) h = go (own-painted most rank ps (All-tail (λ (placed : Placed). IsPainted most placed.shape) p ps h)) (p.rank == rank)
  where
    go : All (IsPainted most) (shapes_of ps rank) → (b : Bool)
        → All (IsPainted most) (map (λ (placed : Placed). placed.shape) (cond b (p ∷ filter (λ (placed : Placed). placed.rank == rank) ps) (filter (λ (placed : Placed). placed.rank == rank) ps)))
    go rest true = All-cons (IsPainted most) p.shape (shapes_of ps rank) (All-head (λ (placed : Placed). IsPainted most placed.shape) p ps h) rest
    go rest false = rest

rows-right : (scene : SceneView) → IsLawfulScene scene → right_end (areas_of scene) ≤ MAX_SIDE
rows-right scene h = right_within (areas_of scene) MAX_SIDE (All-map (λ a. a.x + a.w ≤ MAX_SIDE) (λ (t : TileView). t.area) scene.tiles (λ k d l. (h.layout.inside k d l).right))

rows-bottom : (scene : SceneView) → IsLawfulScene scene → bottom_end (areas_of scene) ≤ MAX_SIDE
rows-bottom scene h = bottom_within (areas_of scene) MAX_SIDE (All-map (λ a. a.y + a.h ≤ MAX_SIDE) (λ (t : TileView). t.area) scene.tiles (λ k d l. (h.layout.inside k d l).bottom))

module _ (scene : SceneView) (h : IsLawfulScene scene) where
  rank-painted : (rank : ℕ) → All (λ (placed : Placed). IsPainted (greatest_channel scene.wide) placed.shape) (rank_spans scene.mode (areas_of scene) (shapes_of scene.shapes rank) rank)
  rank-painted rank =
      let most = greatest_channel scene.wide in
      let shapes = shapes_of scene.shapes rank in
      let areas = areas_of scene in
      let own = own-painted most rank scene.shapes h.painted in
      let right = rows-right scene h in
      let bottom = rows-bottom scene h in
      all_ranged (λ (placed : Placed). IsPainted most placed.shape) (row_spans scene.mode areas shapes rank) 0 (bottom_end areas) (λ y l m.
      fitting-row most y (omega (arith, bottom, m)) rank 0 (shown_row scene.mode areas shapes y)
      (omega (arith, right, length-map-range_with_len (shown scene.mode areas shapes y) 0 (right_end areas)))
      (all_made (λ p. IfSome p (IsPaint most)) (shown scene.mode areas shapes y) (range_with_len 0 (right_end areas))
      (λ x. shown-paint most (list_any (holds_pixel x y) areas) (drawn scene.mode shapes x y) (drawn-paint scene.mode scene.wide shapes x y h.mode_is own))))

  rank-drawers : (rank : ℕ) → rank < scene.ranks → All (λ (placed : Placed). placed.rank < scene.ranks) (rank_spans scene.mode (areas_of scene) (shapes_of scene.shapes rank) rank)
  rank-drawers rank l =
      let shapes = shapes_of scene.shapes rank in
      let areas = areas_of scene in
      all_ranged (λ (placed : Placed). placed.rank < scene.ranks) (row_spans scene.mode areas shapes rank) 0 (bottom_end areas) (λ y p q.
      All-map (λ (placed : Placed). placed.rank < scene.ranks) (stretch_span rank y) (stretches 0 (shown_row scene.mode areas shapes y)) (λ k d m. l))

  pub ready-lawful : IsLawfulScene (ready_scene scene)
  unfolding ready_shapes
  ready-lawful = record {
    mode_is = h.mode_is;
    some = h.some;
    few = h.few;
    depth = h.depth;
    paint = h.paint;
    each = h.each;
    ascending = h.ascending;
    layout = h.layout;
    displays = h.displays;
    drawers = all_ranged (λ (placed : Placed). placed.rank < scene.ranks) (λ rank. rank_spans scene.mode (areas_of scene) (shapes_of scene.shapes rank) rank) 0 scene.ranks (λ rank l m. rank-drawers rank (omega (arith, m)));
    painted = all_ranged (λ (placed : Placed). IsPainted (greatest_channel scene.wide) placed.shape) (λ rank. rank_spans scene.mode (areas_of scene) (shapes_of scene.shapes rank) rank) 0 scene.ranks (λ rank l m. rank-painted rank);
    small = h.small;
  }
