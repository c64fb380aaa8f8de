use Rattle.std.proofs.Common.{◌≡◌, ◌∙◌, ℕ, List, map, ap, sym, subst, false}
use Rattle.icet_model.specs.Pixel.{FragmentView}
use Rattle.icet_model.specs.Tiles.{TileView}
use Rattle.icet_model.specs.declared.names.Mode.TheVariants.{Depth}
use Rattle.icet_scene.specs.Lines.{placed_of}
use Rattle.icet_scene.specs.Scenes.{IsLawfulScene, AreShapes}
use Rattle.icet_scene_model.specs.Scene.{Placed, SceneView}
use Rattle.icet_demo.specs.Demonstration.{demo_scene}
use Rattle.icet_demo.proofs.LawfulDemo.{demo_lawful}
use Rattle.icet_demo.proofs.scene.demo_scene.Goals as goal

-- a scene of 16 ranks by depth
abbrev of_parts : FragmentView → List ℕ → List TileView → List Placed → SceneView
of_parts background order tiles shapes = record { mode = Depth; wide = false; ranks = 16; background = background; order = order; tiles = tiles; shapes = shapes }

same : (seed : ℕ) (background : FragmentView) (order : List ℕ) (tiles : List TileView) (shapes : List Placed) → background ≡ (demo_scene seed).background → order ≡ (demo_scene seed).order → tiles ≡ (demo_scene seed).tiles → shapes ≡ (demo_scene seed).shapes → of_parts background order tiles shapes ≡ demo_scene seed
same seed background order tiles shapes b o t s i = of_parts (b i) (o i) (t i) (s i)

pub returns : goal.returns
returns c = same c.args.seed _ _ _ _ c.of.ensures (c.from_vec.ensures ∙ c.in_ok-order.ensures) c.in_ok-layout.ensures (ap (map placed_of) c.from_vec-2.ensures ∙ c.in_ok-shapes.ensures.shapes)

pub invariant_of-result : goal.invariant_of-result
invariant_of-result c = (
  subst IsLawfulScene (sym (same c.args.seed _ _ _ _ c.of.ensures (c.from_vec.ensures ∙ c.in_ok-order.ensures) c.in_ok-layout.ensures (ap (map placed_of) c.from_vec-2.ensures ∙ c.in_ok-shapes.ensures.shapes))) (demo_lawful c.args.seed),
  subst (AreShapes 16) (sym c.from_vec-2.ensures) c.in_ok-shapes.ensures.lawful,
)
