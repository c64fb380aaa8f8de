-- A walk over a triangle: its corners in the other turn, and its edges' values from one pixel to the next.
use Rattle.std.proofs.Common.{◌≡◌, ℕ, ◌+◌, ◌*◌, ◌/◌, ◌≤◌, ℤ, pos, ◌+ℤ◌, ◌-ℤ◌, ◌*ℤ◌, ◌<ℤ◌, neg_ℤ, unsigned_abs, true, false, cond, ap, sym, ◌∙◌, subst, arith, Some, None}
use Rattle.std.proofs.lemmas.Int.{ints}
use Rattle.icet_scene_model.specs.declared.spot.Spot.{Spot}
use Rattle.icet_model.specs.Pixel.{FragmentView}
use Rattle.icet_scene_model.specs.Triangles.{Triangle, Weights, centre, edge_value, is_within, doubled_area, covers, weights, mean, mixed, shaded}
use Rattle.icet_scene_model.specs.Raster.{Tri, gives}
use Rattle.icet_raster.specs.declared.edge.Spots.{Spots}
use Rattle.icet_raster.specs.declared.walks.Values.{Values}
use Rattle.icet_raster.specs.declared.walks.Walk.{Walk}
use Rattle.icet_raster.specs.Triangles.{AreSpotsOf}
use Rattle.icet_raster.specs.Walks.{AreValues, IsWalk, walked}
use Rattle.icet_raster.proofs.EdgeValues.{edge-is, edge-turned, area-turned}
use Rattle.icet_raster.proofs.SignCases.{sign-none}
use Rattle.icet_raster.proofs.CoveredOnce.{covers-turned}
use Rattle.icet_raster.proofs.CornerWeights.{edge-same, weights_are, whole_is}

-- one pixel further in the row
pub edge-step : (from to : Spot) (x y : ℕ) (v d : ℤ) → v ≡ edge_value from to (centre x y) → d ≡ pos 16 *ℤ (from.y -ℤ to.y) → v +ℤ d ≡ edge_value from to (centre (x + 1) y)
edge-step from to x y v d e f =
    let g = edge-is from to (centre x y) in
    let h = edge-is from to (centre (x + 1) y) in
    omega (arith, ints)

pub step_small : (v d : ℤ) (x : ℕ) → unsigned_abs v ≤ 549751619592 + 8388576 * x → unsigned_abs d ≤ 8388576 → unsigned_abs (v +ℤ d) ≤ 549751619592 + 8388576 * (x + 1)
step_small v d x h k = omega (arith, ints)

-- ---- the last two corners exchanged
abbrev pub exchanged : Triangle → Triangle
exchanged t = record { a = t.a; b = t.c; c = t.b }

magnitude-turned : (v w : ℤ) → v ≡ neg_ℤ w → unsigned_abs v ≡ unsigned_abs w
magnitude-turned v w e = omega (arith, ints)

mean-exchanged : (w v u s a b c : ℕ) → (w * a + v * b + u * c) / s ≡ (w * a + u * c + v * b) / s
mean-exchanged w v u s a b c = ap (λ n. n / s) (let e : w * a + v * b + u * c ≡ w * a + u * c + v * b = omega arith in e)

weights-exchanged : (t : Triangle) (at : Spot) → weights (exchanged t) at ≡ record { a = (weights t at).a; b = (weights t at).c; c = (weights t at).b; whole = (weights t at).whole }
unfolding weights
weights-exchanged t at =
    sym (weights_are (exchanged t) at (record { a = (weights t at).a; b = (weights t at).c; c = (weights t at).b; whole = (weights t at).whole })
    (sym (magnitude-turned _ _ (edge-turned t.b.spot t.c.spot at)))
    (sym (magnitude-turned _ _ (edge-turned t.a.spot t.b.spot at)))
    (sym (magnitude-turned _ _ (edge-turned t.c.spot t.a.spot at)))
    (sym (magnitude-turned _ _ (area-turned t.a.spot t.b.spot t.c.spot))))

mixed-exchanged : (w : Weights) (a b c : FragmentView) → mixed w a b c ≡ mixed (record { a = w.a; b = w.c; c = w.b; whole = w.whole }) a c b
mixed-exchanged w a b c =
    ap (λ n. record { r = n; g = mean w a.g b.g c.g; b = mean w a.b b.b c.b; a = mean w a.a b.a c.a; z = mean w a.z b.z c.z }) (mean-exchanged w.a w.b w.c w.whole a.r b.r c.r)
    ∙ ap (λ n. record { r = mean v a.r c.r b.r; g = n; b = mean w a.b b.b c.b; a = mean w a.a b.a c.a; z = mean w a.z b.z c.z }) (mean-exchanged w.a w.b w.c w.whole a.g b.g c.g)
    ∙ ap (λ n. record { r = mean v a.r c.r b.r; g = mean v a.g c.g b.g; b = n; a = mean w a.a b.a c.a; z = mean w a.z b.z c.z }) (mean-exchanged w.a w.b w.c w.whole a.b b.b c.b)
    ∙ ap (λ n. record { r = mean v a.r c.r b.r; g = mean v a.g c.g b.g; b = mean v a.b c.b b.b; a = n; z = mean w a.z b.z c.z }) (mean-exchanged w.a w.b w.c w.whole a.a b.a c.a)
    ∙ ap (λ n. record { r = mean v a.r c.r b.r; g = mean v a.g c.g b.g; b = mean v a.b c.b b.b; a = mean v a.a c.a b.a; z = n }) (mean-exchanged w.a w.b w.c w.whole a.z b.z c.z)
  where
    v : Weights
    v = record { a = w.a; b = w.c; c = w.b; whole = w.whole }

pub gives-exchanged : (t : Triangle) (x y : ℕ) → gives (Tri t) x y ≡ gives (Tri (exchanged t)) x y
gives-exchanged t x y =
    ap (λ b. cond b (Some (shaded t (centre x y))) None) (sym (covers-turned t.a.spot t.b.spot t.c.spot (centre x y)))
    ∙ ap (λ f. cond (covers (exchanged t) (centre x y)) (Some f) None)
    (mixed-exchanged (weights t (centre x y)) t.a.paint t.b.paint t.c.paint ∙ ap (λ w. mixed w t.a.paint t.c.paint t.b.paint) (sym (weights-exchanged t (centre x y))))

-- ---- what the code works out
pub turned-above : (a b c : Spot) (v : ℤ) → v ≡ edge_value a b c → v <ℤ pos 0 → pos 0 <ℤ edge_value a c b
turned-above a b c v e h = let f = area-turned a b c in let g : edge_value a b c <ℤ pos 0 = subst (λ t. t <ℤ pos 0) e h in omega (arith, ints)

pub gives-turned : (t : Triangle) (s : Spots) (p q r : FragmentView) (w : Walk) → AreSpotsOf t s → p ≡ t.a.paint → q ≡ t.c.paint → r ≡ t.b.paint
    → walked w ≡ record { a = record { spot = s.a; paint = p }; b = record { spot = s.c; paint = q }; c = record { spot = s.b; paint = r } }
    → (x y : ℕ) → gives (Tri t) x y ≡ gives (Tri (walked w)) x y
gives-turned t s p q r w are e f g h x y =
    gives-exchanged t x y
    ∙ sym (ap (λ u. gives (Tri u) x y) (h
    ∙ ap (λ n. record { a = record { spot = n; paint = p }; b = record { spot = s.c; paint = q }; c = record { spot = s.b; paint = r } }) are.a
    ∙ ap (λ n. record { a = record { spot = t.a.spot; paint = p }; b = record { spot = n; paint = q }; c = record { spot = s.b; paint = r } }) are.c
    ∙ ap (λ n. record { a = record { spot = t.a.spot; paint = p }; b = record { spot = t.c.spot; paint = q }; c = record { spot = n; paint = r } }) are.b
    ∙ ap (λ n. record { a = record { spot = t.a.spot; paint = n }; b = record { spot = t.c.spot; paint = q }; c = record { spot = t.b.spot; paint = r } }) e
    ∙ ap (λ n. record { a = t.a; b = record { spot = t.c.spot; paint = n }; c = record { spot = t.b.spot; paint = r } }) f
    ∙ ap (λ n. record { a = t.a; b = t.c; c = record { spot = t.b.spot; paint = n } }) g))

pub gives-flat : (t : Triangle) (s : Spots) (v : ℤ) → AreSpotsOf t s → v ≡ edge_value s.a s.b s.c → v ≡ pos 0 → (x y : ℕ) → gives (Tri t) x y ≡ None
gives-flat t s v are e z x y =
    let flat : doubled_area t ≡ pos 0 = sym (edge-same _ _ _ _ _ _ are.a are.b are.c) ∙ sym e ∙ z in
    ap (λ b. cond b (Some (shaded t (centre x y))) None) (sign-none (doubled_area t) (is_within t.a.spot t.c.spot t.b.spot (centre x y)) false (is_within t.a.spot t.b.spot t.c.spot (centre x y)) flat)

pub walk-weights : (w : Walk) (v : Values) (x y : ℕ) (a b c : ℕ) → IsWalk w → AreValues w x y v → covers (walked w) (centre x y) ≡ true → a ≡ unsigned_abs v.a → b ≡ unsigned_abs v.b → c ≡ unsigned_abs v.c
    → (a + b + c ≡ w.whole) × (record { a = a; b = b; c = c; whole = w.whole } ≡ weights (walked w) (centre x y))
walk-weights w v x y a b c is are h e f g =
    let d = e ∙ ap unsigned_abs are.a in
    let i = f ∙ ap unsigned_abs are.b in
    let j = g ∙ ap unsigned_abs are.c in
    let k : w.whole ≡ unsigned_abs (doubled_area (walked w)) = ap unsigned_abs is.whole in
    ((whole_is (walked w) (centre x y) a b c w.whole h d i j k).0, weights_are (walked w) (centre x y) (record { a = a; b = b; c = c; whole = w.whole }) d i j k)
