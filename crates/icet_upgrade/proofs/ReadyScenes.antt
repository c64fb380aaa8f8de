-- A scene that is made of a lawful scene's parts and its ready-drawn shapes.
use Rattle.std.proofs.Common.{◌≡◌, ℕ, ◌<◌, Bool, List, map, refl, sym, ap, ◌∙◌, subst, arith}
use Rattle.std.specs.Prelude.{All}
use Rattle.std.proofs.lemmas.List.{length-map}
use Rattle.icet_model.specs.declared.names.Mode.{Mode}
use Rattle.icet_model.specs.Pixel.{FragmentView}
use Rattle.icet_model.specs.Tiles.{TileView}
use Rattle.icet_raster.specs.declared.shape.Shape.{Shape}
use Rattle.icet_raster.specs.Shapes.{IsInRange}
use Rattle.icet_scene.specs.Lines.{placed_of}
use Rattle.icet_scene.specs.Scenes.{AreShapes, IsLawfulScene}
use Rattle.icet_scene_model.specs.Ready.{ready_scene, ready_shapes}
use Rattle.icet_scene_model.specs.Scene.{Placed, SceneView}
use Rattle.icet_upgrade.proofs.Orders.{at_mapped}
use Rattle.icet_upgrade.proofs.ReadyLawful.{ready-lawful}

all_unmapped : {X Y : Type 0} (P : Y → Type 0) (f : X → Y) (xs : List X) → All P (map f xs) → All (λ x. P (f x)) xs
all_unmapped P f xs h = λ k d l. subst P (at_mapped f xs k d) (h k (f d) (omega (arith, l, length-map xs f)))

abbrev of_parts : Mode → Bool → ℕ → FragmentView → List ℕ → List TileView → List Placed → SceneView
of_parts mode wide ranks background order tiles shapes = record { mode = mode; wide = wide; ranks = ranks; background = background; order = order; tiles = tiles; shapes = shapes }

pub ready_of_parts : (scene : SceneView) (mode : Mode) (wide : Bool) (ranks : ℕ) (background : FragmentView) (order : List ℕ) (tiles : List TileView) (shapes : List Placed)
    → mode ≡ scene.mode → wide ≡ scene.wide → ranks ≡ scene.ranks → background ≡ scene.background → order ≡ scene.order → tiles ≡ scene.tiles → shapes ≡ ready_shapes scene
    → of_parts mode wide ranks background order tiles shapes ≡ ready_scene scene
ready_of_parts scene mode wide ranks background order tiles shapes m w r b o t s = λ i. of_parts (m i) (w i) (r i) (b i) (o i) (t i) (s i)

pub are_shapes : (scene : SceneView) (shapes : List (ℕ × Shape)) → IsLawfulScene scene → map placed_of shapes ≡ ready_shapes scene → All (λ (shape : ℕ × Shape). IsInRange shape.1) shapes → AreShapes scene.ranks shapes
are_shapes scene shapes h e r = record {
  drawers = all_unmapped (λ (placed : Placed). placed.rank < scene.ranks) placed_of shapes (subst (All (λ (placed : Placed). placed.rank < scene.ranks)) (sym e) (ready-lawful scene h).drawers);
  in_range = r;
}
