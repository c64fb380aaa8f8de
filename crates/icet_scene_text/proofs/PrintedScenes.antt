-- The printed text of a lawful scene is read again as the same scene.
use Rattle.std.proofs.Common.{◌≡◌, ℕ, ◌≤◌, Bool, true, false, cond, List, [], ◌∷◌, ◌++◌, map, length, refl, sym, ap, ◌∙◌, subst, arith}
use Rattle.std.specs.Prelude.{nat_lt, if◌then◌else◌, All}
use Rattle.std.specs.List.{range_with_len}
use Rattle.std.proofs.lemmas.Bool.Decides.{nat_tests}
use Rattle.icet_model.specs.declared.limits.TheConstants.{MAX_SCENE_BYTES}
use Rattle.icet_model.specs.declared.names.Mode.{Mode}
use Rattle.icet_model.specs.Pixel.{FragmentView}
use Rattle.icet_model.specs.Tiles.{TileView}
use Rattle.icet_text.specs.Lines.{lines_of}
use Rattle.icet_scene.specs.Scenes.{IsLawfulScene}
use Rattle.icet_scene.proofs.Ends.{sized_small}
use Rattle.icet_scene_model.specs.Lawful.{greatest_channel, is_blending}
use Rattle.icet_scene_model.specs.Printed.{body_said, head_said, line_of, printed, said_by, settings_said, text_in, upgraded, version_of}
use Rattle.icet_scene_model.specs.Scene.{SceneView, Placed, Said, TileIs, Draws, EndIs, blends_in, ranks_in, maxval_in, background_in, order_in, tiles_in, shapes_in, scene_in, mode_of, is_wide, rank_pixels}
use Rattle.icet_scene_model.specs.Texts.{SceneText, Refused, text_behind, text_is, ended, sized}
use Rattle.icet_scene_model.specs.SceneLines.{is_taken, stands}
use Rattle.icet_scene_model.specs.declared.fault.SceneFault.TheVariants.{TooLong}
use Rattle.icet_scene_model.specs.declared.keyword.Keyword.TheVariants.{End, Tile}
use Rattle.icet_scene_text.proofs.NumeralWords.{Both}
use Rattle.icet_scene_text.proofs.ShapeLines.{end_read}
use Rattle.icet_scene_text.proofs.OpeningLines.{HasVersion, Started, has_second, has_version, scene_opens}
use Rattle.icet_scene_text.proofs.BodyLines.{AreTiles, AreDrawn, Drawn, Tiled, shapes_read, spans_of, tiles_read}
use Rattle.icet_scene_text.proofs.TextLines.{AllSaid, behind, behind_append, lines_back, said_append, texts_read}

wide_again : (w : Bool) → is_wide (greatest_channel w) ≡ w
wide_again true = refl
wide_again false = refl

-- the scene of what its lines say
built : Bool → ℕ → ℕ → FragmentView → List ℕ → List TileView → List Placed → SceneView
built b m n back order tiles shapes = record { mode = mode_of b (is_wide m); wide = is_wide m; ranks = n; background = back; order = if b then order else range_with_len 0 n; tiles = tiles; shapes = shapes }

with_parts : SceneView → Mode → Bool → List ℕ → SceneView
with_parts scene mode wide order = record { mode = mode; wide = wide; ranks = scene.ranks; background = scene.background; order = order; tiles = scene.tiles; shapes = scene.shapes }

scene_again : (v : ℕ) (scene : SceneView) (before : List Said) → IsLawfulScene scene → Drawn v scene before scene.shapes → scene_in before ≡ scene
unfolding built with_parts
scene_again v scene before h d =
    let blends = is_blending scene.mode in
    let most = greatest_channel scene.wide in
    ap (λ b. built b (maxval_in before) (ranks_in before) (background_in before) (order_in before) (tiles_in before) (shapes_in before)) d.kept.blends
    ∙ ap (λ m. built blends m (ranks_in before) (background_in before) (order_in before) (tiles_in before) (shapes_in before)) d.kept.maxval
    ∙ ap (λ n. built blends most n (background_in before) (order_in before) (tiles_in before) (shapes_in before)) d.kept.ranks
    ∙ ap (λ p. built blends most scene.ranks p (order_in before) (tiles_in before) (shapes_in before)) d.kept.background
    ∙ ap (λ ts. built blends most scene.ranks scene.background (order_in before) ts (shapes_in before)) d.tiles
    ∙ ap (λ ps. built blends most scene.ranks scene.background (order_in before) scene.tiles ps) d.shapes
    ∙ ap (λ w. with_parts scene (mode_of blends w) w (if blends then order_in before else range_with_len 0 scene.ranks)) (wide_again scene.wide)
    ∙ ap (with_parts scene (mode_of blends scene.wide) scene.wide) d.kept.order_is
    ∙ ap (λ m. with_parts scene m scene.wide scene.order) (sym h.mode_is)

-- the lines behind the opening, and what all lines say
record Closes (v : ℕ) (scene : SceneView) (before : List Said) : Type 0 where
  said : AllSaid before (body_said scene)
  all : ended (behind before (body_said scene)) ≡ SceneText scene

untiled : (v : ℕ) (scene : SceneView) (before : List Said) → Started v scene before → Tiled v scene before []
untiled v scene before s = record { kept = s.kept; tiles = s.tiles; shapes = s.shapes; next = λ e. s.first; body = λ l k e. absurd (omega (arith, l)) }

all_tiles : (v : ℕ) (scene : SceneView) → HasVersion scene v → IsLawfulScene scene → AreTiles v scene [] scene.tiles
all_tiles v scene fits h = record { few = omega (arith, fits.tiles); inside = h.layout.inside; displays = h.displays; distinct = h.layout.distinct; fresh = λ i d l. refl }

all_shapes : (v : ℕ) (scene : SceneView) → HasVersion scene v → IsLawfulScene scene → AreDrawn v scene scene.shapes
all_shapes v scene fits h = record { drawers = h.drawers; painted = h.painted; second = spans_of v scene scene.shapes fits.spans }

scene_closes : (v : ℕ) (scene : SceneView) (before : List Said) → HasVersion scene v → IsLawfulScene scene → Started v scene before → Closes v scene before
scene_closes v scene before fits h s =
    let tiles = map TileIs scene.tiles in
    let shapes = map Draws scene.shapes in
    let tiled = tiles_read v scene before [] scene.tiles h.few (untiled v scene before s) (all_tiles v scene fits h) in
    let now = tiled.rest in
    let undrawn : Drawn v scene (behind before tiles) [] = record { kept = now.kept; tiles = now.tiles; shapes = now.shapes; body = now.body h.layout.some } in
    let drawn = shapes_read v scene (behind before tiles) [] scene.shapes h.few undrawn (all_shapes v scene fits h) in
    let last = behind (behind before tiles) shapes in
    let end : AllSaid last (EndIs ∷ []) = record { first = end_read last (drawn.rest.body End refl); rest = tt } in
    let place : behind before (body_said scene) ≡ EndIs ∷ last = behind_append before tiles (shapes ++ EndIs ∷ []) ∙ behind_append (behind before tiles) shapes (EndIs ∷ []) in
    record {
      said = said_append before tiles (shapes ++ EndIs ∷ []) tiled.first (said_append (behind before tiles) shapes (EndIs ∷ []) drawn.first end);
      all = ap ended place ∙ ap sized (scene_again v scene last h drawn.rest) ∙ sized_small scene (rank_pixels scene) refl h.small;
    }

text_again : (v : ℕ) (scene : SceneView) → HasVersion scene v → IsLawfulScene scene → text_behind [] 1 (lines_of (text_in v scene)) ≡ SceneText scene
text_again v scene fits h =
    let opens = scene_opens v scene fits h in
    let opening = head_said v scene ++ settings_said scene in
    let closes = scene_closes v scene (behind [] opening) fits h opens.now in
    let said : AllSaid [] (opening ++ body_said scene) = said_append [] opening (body_said scene) opens.said closes.said in
    ap (text_behind [] 1) (lines_back [] (said_by v scene) said)
    ∙ texts_read [] 1 (said_by v scene) said
    ∙ ap ended (behind_append [] opening (body_said scene))
    ∙ closes.all

text_is_again : (v : ℕ) (scene : SceneView) → HasVersion scene v → IsLawfulScene scene → length (text_in v scene) ≤ MAX_SCENE_BYTES → text_is (text_in v scene) ≡ SceneText scene
text_is_again v scene fits h l = ap (λ b. cond b (Refused TooLong) (text_behind [] 1 (lines_of (text_in v scene)))) (short (length (text_in v scene)) l) ∙ text_again v scene fits h
  where
    short : (n : ℕ) → n ≤ MAX_SCENE_BYTES → nat_lt MAX_SCENE_BYTES n ≡ false
    short n l = grind (arith, nat_tests, l)

pub printed_again : (scene : SceneView) → IsLawfulScene scene → text_behind [] 1 (lines_of (printed scene)) ≡ SceneText scene
printed_again scene h = text_again (version_of scene) scene (has_version scene h) h

pub printed_is : (scene : SceneView) → IsLawfulScene scene → length (printed scene) ≤ MAX_SCENE_BYTES → text_is (printed scene) ≡ SceneText scene
printed_is scene h l = text_is_again (version_of scene) scene (has_version scene h) h l

pub upgraded_again : (scene : SceneView) → IsLawfulScene scene → text_behind [] 1 (lines_of (upgraded scene)) ≡ SceneText scene
upgraded_again scene h = text_again 2 scene (has_second scene h) h

pub upgraded_is : (scene : SceneView) → IsLawfulScene scene → length (upgraded scene) ≤ MAX_SCENE_BYTES → text_is (upgraded scene) ≡ SceneText scene
upgraded_is scene h l = text_is_again 2 scene (has_second scene h) h l
