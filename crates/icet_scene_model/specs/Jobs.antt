-- What a job writes: the text of `composite`, from the scene alone.
use Rattle.std.specs.Prelude.{ℕ, ◌*◌, ◌==◌, List, map, filter, Option}
use Rattle.std.specs.List.{flat_map, range_with_len, zip}
use Rattle.icet_model.specs.declared.names.Rect.{Rect}
use Rattle.icet_model.specs.declared.bracket.Bracket.{Bracket}
use Rattle.icet_model.specs.Pixel.{Pixel}
use Rattle.icet_scene_model.specs.Raster.{Drawing, full_image}
use Rattle.icet_model.specs.Tiles.{TileView}
use Rattle.icet_model.specs.Composite.{plain_composite}
use Rattle.icet_scene_model.specs.Boxes.{box}
use Rattle.icet_scene_model.specs.Picture.{picture_text}
use Rattle.icet_scene_model.specs.Scene.{SceneView, Placed}

-- the shapes of a rank, in the order of the scene
abbrev pub shapes_of : List Placed → ℕ → List Drawing
shapes_of shapes rank = map (λ placed. placed.shape) (filter (λ placed. placed.rank == rank) shapes)

-- each rank's full image of a tile, by rank
abbrev pub full_images : SceneView → TileView → List (List Pixel)
full_images scene tile = map (λ rank. full_image scene.mode (shapes_of scene.shapes rank) tile.area) (range_with_len 0 scene.ranks)

-- the box of what each rank draws, by rank
abbrev pub boxes_of : SceneView → List (Option Rect)
boxes_of scene = map (λ rank. box (shapes_of scene.shapes rank)) (range_with_len 0 scene.ranks)

-- the pixels of a tile's picture: the plain composite of the full images, with the tile's bracket
abbrev pub plain_picture : SceneView → TileView → Bracket → List Pixel
plain_picture scene tile bracket = plain_composite scene.mode bracket (full_images scene tile) (tile.area.w * tile.area.h)

-- the picture texts of the tiles, in order, each tile with its bracket
abbrev pub composite_text : SceneView → List Bracket → List ℕ
composite_text scene brackets = flat_map (λ x. picture_text scene.wide scene.mode scene.background x.0.area.w x.0.area.h (plain_picture scene x.0 x.1)) (zip scene.tiles brackets)
