-- The lines of a scene's text before its first tile are read as what they say.
use Rattle.std.proofs.Common.{◌≡◌, ◌≢◌, ℕ, ◌+◌, ◌<◌, ◌≤◌, ◌^◌, Bool, true, false, cond, List, [], ◌∷◌, ◌++◌, map, length, codes, Option, Some, None, refl, sym, ap, ◌∙◌, subst, arith}
use Rattle.std.specs.Prelude.{◌&&◌, ◌||◌, ◌==◌, not, nat_le, nat_lt, if◌then◌else◌, option_map}
use Rattle.std.specs.List.{list_any, range_with_len}
use Rattle.std.proofs.lemmas.Bool.Decides.{nat_tests}
use Rattle.icet_model.specs.declared.limits.TheConstants.{MAX_RANKS, MAX_TILES}
use Rattle.icet_model.specs.declared.names.Mode.{Mode as DrawMode}
use Rattle.icet_model.specs.declared.names.Mode.TheVariants.{Depth, Blend, WideBlend}
use Rattle.icet_model.specs.Pixel.{FragmentView}
use Rattle.icet_scene.specs.Scenes.{IsLawfulScene}
use Rattle.icet_scene_model.specs.Fields.{most_ranks, most_tiles, version_field}
use Rattle.icet_scene_model.specs.Lawful.{greatest_channel, is_blending}
use Rattle.icet_scene_model.specs.Printed.{natural, numeral, line_of, needs_second_version, version_of, is_clear, is_span, head_said, maxval_said, background_said, order_said, settings_said}
use Rattle.icet_scene_model.specs.Scene.{SceneView, Said, HeadIs, ModeIs, RanksAre, MaxvalIs, BackgroundIs, OrderIs, place_behind, version_in, blends_in, ranks_in, maxval_in, background_in, order_in, tiles_in, shapes_in, clear}
use Rattle.icet_scene_model.specs.SceneLines.{Says, line_behind, counts, stands, may_stand, has_room}
use Rattle.icet_text.specs.Numbers.{size_at}
use Rattle.icet_scene_model.specs.declared.keyword.Keyword.TheVariants.{Head, Background, Order, Tile}
use Rattle.icet_scene_text.proofs.NumeralWords.{AllFit, fit_natural, fit_writable, numbers_read, numerals_counted}
use Rattle.icet_scene_text.proofs.SingleLines.{line_read, ranks_read, background_read, order_read}
use Rattle.icet_scene_text.proofs.ShapeLines.{maxval_read}
use Rattle.icet_scene_text.proofs.TextLines.{AllSaid, behind, said_append, behind_append}

head_read : (v : ℕ) → 1 ≤ v → v ≤ 2 → line_behind [] (line_of (HeadIs v)) ≡ Says (HeadIs v)
head_read v l m =
    let fit : AllFit (version_field ∷ []) (natural v ∷ []) = record { first = fit_natural 1 2 v l m (omega arith); rest = tt } in
    let w = fit_writable (version_field ∷ []) (natural v ∷ []) fit in
    line_read [] (codes "icet-scene") (natural v ∷ []) Head (HeadIs v) refl w refl refl
    (ap (counts Head) (numerals_counted (natural v ∷ []) w)) refl
    (ap (option_map (λ ns. HeadIs (size_at ns 0))) (numbers_read (version_field ∷ []) (natural v ∷ []) fit)) refl

mode_read : (v : ℕ) (b : Bool) → line_behind (HeadIs v ∷ []) (line_of (ModeIs b)) ≡ Says (ModeIs b)
mode_read v true = refl
mode_read v false = refl

pub or_false : (a b : Bool) → (a || b) ≡ false → (a ≡ false) × (b ≡ false)
or_false true b e = absurd cc
or_false false b e = (refl, e)

pub or_true : (b : Bool) → (b || true) ≡ true
or_true true = refl
or_true false = refl

has_spans : SceneView → Bool
has_spans scene = list_any (λ placed. is_span placed.shape) scene.shapes

spans_second : (scene : SceneView) → list_any (λ placed. is_span placed.shape) scene.shapes ≡ true → version_of scene ≡ 2
spans_second scene e = ap (λ b. if (b || (scene.wide || (nat_lt 64 scene.ranks || nat_lt 16 (length scene.tiles)))) then 2 else 1) e

wide_second : (scene : SceneView) → scene.wide ≡ true → version_of scene ≡ 2
unfolding has_spans
wide_second scene e = ap (λ b. if (has_spans scene || (b || (nat_lt 64 scene.ranks || nat_lt 16 (length scene.tiles)))) then 2 else 1) e ∙ ap (λ b. if b then 2 else 1) (or_true (has_spans scene))

-- a version has room for the ranks and the tiles, and takes spans and wide channels where the scene has them
pub record HasVersion (scene : SceneView) (v : ℕ) : Type 0 where
  pub least : 1 ≤ v
  pub most : v ≤ 2
  pub ranks : scene.ranks ≤ most_ranks v
  pub tiles : length scene.tiles ≤ most_tiles v
  pub spans : list_any (λ placed. is_span placed.shape) scene.shapes ≡ true → v ≡ 2
  pub wide : scene.wide ≡ true → v ≡ 2

-- the second version has room for every scene
pub has_second : (scene : SceneView) → IsLawfulScene scene → HasVersion scene 2
has_second scene h = record { least = omega arith; most = omega arith; ranks = h.few; tiles = h.layout.few; spans = λ e. refl; wide = λ e. refl }

pub has_version : (scene : SceneView) → IsLawfulScene scene → HasVersion scene (version_of scene)
unfolding has_spans
has_version scene h = go (needs_second_version scene) refl
  where
    go : (b : Bool) → needs_second_version scene ≡ b → HasVersion scene (if b then 2 else 1)
    go true e = has_second scene h
    go false e =
        let rest = (or_false scene.wide (nat_lt 64 scene.ranks || nat_lt 16 (length scene.tiles)) (or_false (has_spans scene) (scene.wide || (nat_lt 64 scene.ranks || nat_lt 16 (length scene.tiles))) e).1).1 in
        let parts = or_false (nat_lt 64 scene.ranks) (nat_lt 16 (length scene.tiles)) rest in
        let few = parts.0 in
        let spans : list_any (λ placed. is_span placed.shape) scene.shapes ≡ true → 1 ≡ 2 = (λ t. sym (ap (λ b. if b then 2 else 1) e) ∙ spans_second scene t) in
        let wide : scene.wide ≡ true → 1 ≡ 2 = (λ t. sym (ap (λ b. if b then 2 else 1) e) ∙ wide_second scene t) in
        let small = parts.1 in
        record { least = omega arith; most = omega arith; ranks = grind (arith, nat_tests, few); tiles = grind (arith, nat_tests, small); spans = spans; wide = wide }

-- the first three lines, the newest first
pub headed : ℕ → SceneView → List Said
headed v scene = RanksAre scene.ranks ∷ ModeIs (is_blending scene.mode) ∷ HeadIs v ∷ []

pub head_says : (v : ℕ) (scene : SceneView) → HasVersion scene v → IsLawfulScene scene → AllSaid [] (head_said v scene)
head_says v scene fits h =
    record { first = head_read v fits.least fits.most; rest = record { first = mode_read v (is_blending scene.mode); rest = record { first = ranks_read (is_blending scene.mode) v scene.ranks h.some fits.ranks; rest = tt } } }

-- what the lines before the first tile say of the scene, with a background and an order
pub record Opened (v : ℕ) (scene : SceneView) (before : List Said) (back : FragmentView) (order : List ℕ) : Type 0 where
  pub version : version_in before ≡ v
  pub blends : blends_in before ≡ is_blending scene.mode
  pub ranks : ranks_in before ≡ scene.ranks
  pub maxval : maxval_in before ≡ greatest_channel scene.wide
  pub background : background_in before ≡ back
  pub order_is : order_in before ≡ order
  pub tiles : tiles_in before ≡ []
  pub shapes : shapes_in before ≡ []
  pub takes_order : (r : Bool) → may_stand (place_behind before) true r Order ≡ true
  pub takes_tile : (r : Bool) → may_stand (place_behind before) false r Tile ≡ true

maxval_says : (v : ℕ) (scene : SceneView) → HasVersion scene v → (w : Bool) → scene.wide ≡ w → AllSaid (headed v scene) (maxval_said w)
unfolding headed
maxval_says v scene fits true e = record { first = maxval_read v scene.ranks (is_blending scene.mode) (fits.wide e); rest = tt }
maxval_says v scene fits false e = tt

widened : (v : ℕ) (scene : SceneView) (w : Bool) → scene.wide ≡ w → Opened v scene (behind (headed v scene) (maxval_said w)) clear []
unfolding headed
widened v scene true e = record { version = refl; blends = refl; ranks = refl; maxval = sym (ap greatest_channel e); background = refl; order_is = refl; tiles = refl; shapes = refl; takes_order = λ r. refl; takes_tile = λ r. refl }
widened v scene false e = record { version = refl; blends = refl; ranks = refl; maxval = sym (ap greatest_channel e); background = refl; order_is = refl; tiles = refl; shapes = refl; takes_order = λ r. refl; takes_tile = λ r. refl }

takes_background : (v : ℕ) (scene : SceneView) (w b r : Bool) → may_stand (place_behind (behind (headed v scene) (maxval_said w))) b r Background ≡ true
unfolding headed
takes_background v scene true b r = refl
takes_background v scene false b r = refl

backdrop : Bool → FragmentView → List Said
backdrop c paint = if c then [] else BackgroundIs paint ∷ []

small_channel : (w : Bool) → greatest_channel w < 2 ^ 64
small_channel true = omega arith
small_channel false = omega arith

background_says : (scene : SceneView) (before : List Said) (c : Bool) → IsLawfulScene scene → maxval_in before ≡ greatest_channel scene.wide → stands before Background ≡ true → AllSaid before (backdrop c scene.background)
unfolding backdrop
background_says scene before true h m p = tt
background_says scene before false h m p = record { first = background_read before (greatest_channel scene.wide) scene.background m (small_channel scene.wide) h.paint h.depth p; rest = tt }

both : (a b : Bool) → (a && b) ≡ true → (a ≡ true) × (b ≡ true)
both true b e = (refl, e)
both false b e = absurd cc

is_zero : (n : ℕ) → (n == 0) ≡ true → n ≡ 0
is_zero n e = grind (arith, nat_tests, e)

paint_of : ℕ → ℕ → ℕ → ℕ → ℕ → FragmentView
paint_of r g b a z = record { r = r; g = g; b = b; a = a; z = z }

clear_is : (p : FragmentView) → is_clear p ≡ true → p.z ≡ 0 → clear ≡ p
unfolding paint_of
clear_is p e z =
    let parts = both (p.r == 0 && p.g == 0) (p.b == 0 && p.a == 0) e in
    let front = both (p.r == 0) (p.g == 0) parts.0 in
    let back = both (p.b == 0) (p.a == 0) parts.1 in
    sym (ap (λ r. paint_of r p.g p.b p.a p.z) (is_zero p.r front.0) ∙ ap (λ g. paint_of 0 g p.b p.a p.z) (is_zero p.g front.1) ∙ ap (λ b. paint_of 0 0 b p.a p.z) (is_zero p.b back.0) ∙ ap (λ a. paint_of 0 0 0 a p.z) (is_zero p.a back.1) ∙ ap (paint_of 0 0 0 0) z)

backed : (v : ℕ) (scene : SceneView) (before : List Said) (c : Bool) → IsLawfulScene scene → is_clear scene.background ≡ c → Opened v scene before clear [] → Opened v scene (behind before (backdrop c scene.background)) scene.background []
unfolding backdrop
backed v scene before true h e o = record { version = o.version; blends = o.blends; ranks = o.ranks; maxval = o.maxval; background = o.background ∙ clear_is scene.background e h.depth; order_is = o.order_is; tiles = o.tiles; shapes = o.shapes; takes_order = o.takes_order; takes_tile = o.takes_tile }
backed v scene before false h e o = record { version = o.version; blends = o.blends; ranks = o.ranks; maxval = o.maxval; background = refl; order_is = o.order_is; tiles = o.tiles; shapes = o.shapes; takes_order = λ r. refl; takes_tile = λ r. refl }

-- what all lines before the next one say of the scene, but for its tiles and shapes
pub record Kept (v : ℕ) (scene : SceneView) (before : List Said) : Type 0 where
  pub version : version_in before ≡ v
  pub blends : blends_in before ≡ is_blending scene.mode
  pub ranks : ranks_in before ≡ scene.ranks
  pub maxval : maxval_in before ≡ greatest_channel scene.wide
  pub background : background_in before ≡ scene.background
  pub order_is : (if is_blending scene.mode then order_in before else range_with_len 0 scene.ranks) ≡ scene.order

-- the next line may be the first tile
pub record Started (v : ℕ) (scene : SceneView) (before : List Said) : Type 0 where
  pub kept : Kept v scene before
  pub tiles : tiles_in before ≡ []
  pub shapes : shapes_in before ≡ []
  pub first : stands before Tile ≡ true

order_says : (v : ℕ) (scene : SceneView) (before : List Said) (b : Bool) → IsLawfulScene scene → is_blending scene.mode ≡ b → Opened v scene before scene.background [] → AllSaid before (order_said b scene.order)
order_says v scene before false h e o = tt
order_says v scene before true h e o = record { first = order_read before scene.ranks scene.order o.ranks h.some h.few h.each (ap (λ x. may_stand (place_behind before) x (has_room before) Order) (o.blends ∙ e) ∙ o.takes_order (has_room before)); rest = tt }

depth_of : (mode : DrawMode) → is_blending mode ≡ false → mode ≡ Depth
depth_of Depth e = refl
depth_of Blend e = absurd cc
depth_of WideBlend e = absurd cc

started : (v : ℕ) (scene : SceneView) (before : List Said) (b : Bool) → IsLawfulScene scene → is_blending scene.mode ≡ b → Opened v scene before scene.background [] → Started v scene (behind before (order_said b scene.order))
started v scene before false h e o = record {
  kept = record { version = o.version; blends = o.blends; ranks = o.ranks; maxval = o.maxval; background = o.background; order_is = ap (λ x. if x then order_in before else range_with_len 0 scene.ranks) e ∙ sym (h.ascending (depth_of scene.mode e)) };
  tiles = o.tiles;
  shapes = o.shapes;
  first = ap (λ x. may_stand (place_behind before) x (has_room before) Tile) (o.blends ∙ e) ∙ o.takes_tile (has_room before);
}
started v scene before true h e o = record {
  kept = record { version = o.version; blends = o.blends; ranks = o.ranks; maxval = o.maxval; background = o.background; order_is = ap (λ x. if x then scene.order else range_with_len 0 scene.ranks) e };
  tiles = o.tiles;
  shapes = o.shapes;
  first = refl;
}

-- the lines before the first tile, and what they say
pub record Opens (v : ℕ) (scene : SceneView) : Type 0 where
  pub said : AllSaid [] (head_said v scene ++ settings_said scene)
  pub now : Started v scene (behind [] (head_said v scene ++ settings_said scene))

pub scene_opens : (v : ℕ) (scene : SceneView) → HasVersion scene v → IsLawfulScene scene → Opens v scene
unfolding headed backdrop
scene_opens v scene fits h =
    let maxval = maxval_said scene.wide in
    let background = background_said scene.background in
    let order = order_said (is_blending scene.mode) scene.order in
    let before = behind (headed v scene) maxval in
    let wide = widened v scene scene.wide refl in
    let back = backed v scene before (is_clear scene.background) h refl wide in
    let inner : AllSaid before (background ++ order) = said_append before background order (background_says scene before (is_clear scene.background) h wide.maxval (takes_background v scene scene.wide (blends_in before) (has_room before))) (order_says v scene (behind before background) (is_blending scene.mode) h refl back) in
    let place : behind [] (head_said v scene ++ settings_said scene) ≡ behind (behind before background) order = behind_append (headed v scene) maxval (background ++ order) ∙ behind_append before background order in
    record {
      said = said_append [] (head_said v scene) (settings_said scene) (head_says v scene fits h) (said_append (headed v scene) maxval (background ++ order) (maxval_says v scene fits scene.wide refl) inner);
      now = subst (Started v scene) (sym place) (started v scene (behind before background) (is_blending scene.mode) h refl back);
    }
