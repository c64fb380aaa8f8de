-- Which scenes are lawful: exactly those that can be read from some text, of any length.
use Rattle.std.specs.Prelude.{◌≡◌, ℕ, ◌≤◌, ◌<◌, All, List}
use Rattle.std.specs.List.{range_with_len}
use Rattle.icet_model.specs.declared.limits.TheConstants.{MAX_RANKS, MAX_RANK_PIXELS}
use Rattle.icet_model.specs.declared.names.Mode.TheVariants.{Depth}
use Rattle.icet_model.specs.Tiles.{IsLayout}
use Rattle.icet_tiles.specs.Contributors.{HasEachOnce}
use Rattle.icet_raster.specs.declared.shape.Shape.{Shape}
use Rattle.icet_raster.specs.Shapes.{IsInRange}
use Rattle.icet_scene_model.specs.Lawful.{greatest_channel, is_blending, IsPaint, IsPainted}
use Rattle.icet_scene_model.specs.Scene.{SceneView, mode_of, rank_pixels}

-- what holds of a scene's view
pub record IsLawfulScene (scene : SceneView) : Type 0 where
  pub mode_is : scene.mode ≡ mode_of (is_blending scene.mode) scene.wide
  pub some : 1 ≤ scene.ranks
  pub few : scene.ranks ≤ MAX_RANKS
  pub depth : scene.background.z ≡ 0
  pub paint : IsPaint (greatest_channel scene.wide) scene.background
  pub each : HasEachOnce scene.ranks scene.order
  pub ascending : scene.mode ≡ Depth → scene.order ≡ range_with_len 0 scene.ranks
  pub layout : IsLayout scene.tiles
  pub displays : All (λ tile. tile.display < scene.ranks) scene.tiles
  pub drawers : All (λ placed. placed.rank < scene.ranks) scene.shapes
  pub painted : All (λ placed. IsPainted (greatest_channel scene.wide) placed.shape) scene.shapes
  pub small : rank_pixels scene ≤ MAX_RANK_PIXELS

-- what holds of the shapes of so many ranks
pub record AreShapes (ranks : ℕ) (shapes : List (ℕ × Shape)) : Type 0 where
  pub drawers : All (λ shape. shape.0 < ranks) shapes
  pub in_range : All (λ shape. IsInRange shape.1) shapes
