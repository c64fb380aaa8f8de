-- What compositing a scene makes: the pictures, and what the wires carry.
use Rattle.std.specs.Prelude.{ℕ, suc, ◌*◌, List, [], ◌∷◌, map, length}
use Rattle.std.specs.List.{range_with_len, zip}
use Rattle.icet_model.specs.declared.names.Mode.{Mode}
use Rattle.icet_model.specs.declared.bracket.Bracket.{Bracket}
use Rattle.icet_model.specs.declared.exchange.Exchange.{Exchange}
use Rattle.icet_model.specs.Pixel.{Pixel, DenseView}
use Rattle.icet_scene_model.specs.Raster.{Drawing, full_image}
use Rattle.icet_model.specs.Tiles.{Area, TileView as AreaTile}
use Rattle.icet_scene_model.specs.Boxes.{contributors}
use Rattle.icet_scene_model.specs.Scene.{SceneView}
use Rattle.icet_scene_model.specs.Jobs.{shapes_of, boxes_of, plain_picture}
use Rattle.icet_model.specs.Bracket.{Images}
use Rattle.icet_model.specs.Run.{Piece}
use Rattle.icet_model.specs.Plan.{PlanView, values}
use Rattle.icet_model.specs.Reading.{read_message}
use Rattle.icet_model.specs.Traffic.{PairTraffic, entries}
use Rattle.icet_interlace.specs.Interlace.{interlaced}
use Rattle.icet_multi.specs.declared.settings.Settings.{Settings}
use Rattle.icet_multi.specs.Direct.{TileView}
use Rattle.icet_multi.specs.Rules.{IsPlanBy, rule_of}
use Rattle.icet_multi.specs.Strategies.{tile_ranks}
use Rattle.icet_jobs.specs.Nets.{piece_images}

-- the contributors to each tile
abbrev pub who_of : SceneView → List (List ℕ)
who_of scene = map (λ tile. contributors (boxes_of scene) scene.order tile.area) scene.tiles

-- the tiles as a strategy sees them
abbrev pub scene_tiles : SceneView → List TileView
scene_tiles scene = tile_ranks scene.tiles (who_of scene)

-- a whole image of tile t as a piece, with its pixels dealt out to the strands
abbrev pub whole_piece : ℕ → Mode → List Drawing → Area → ℕ → Piece (List Pixel)
whole_piece strands mode shapes area t = record { tile = t; lo = 0; hi = area.w * area.h; content = interlaced strands (full_image mode shapes area) }

-- the images of these tiles, of which the first has the number t
abbrev pub pieces_from : ℕ → ℕ → Mode → List Drawing → List AreaTile → List (Piece (List Pixel))
pieces_from strands t mode shapes [] = []
pieces_from strands t mode shapes (tile ∷ tiles) = whole_piece strands mode shapes tile.area t ∷ pieces_from strands (suc t) mode shapes tiles

-- a rank's images, as it is given them
abbrev pub rank_image : ℕ → SceneView → ℕ → List (Piece (List Pixel))
rank_image strands scene rank = pieces_from strands 0 scene.mode (shapes_of scene.shapes rank) scene.tiles

abbrev pub rank_images : ℕ → SceneView → List (List (Piece (List Pixel)))
rank_images strands scene = map (rank_image strands scene) (range_with_len 0 scene.ranks)

-- the pixels of each rank's image of each tile, by position
abbrev pub images_of : ℕ → SceneView → Images
images_of strands scene = piece_images (rank_images strands scene)

-- the bracket of each tile, by the settings' strategy
abbrev pub brackets_of : Settings → SceneView → List Bracket
brackets_of settings scene = (rule_of settings).brackets scene.order (scene_tiles scene)

-- what the wires carry for a scene: the strategy's messages, with the values of their brackets over the interlaced images
abbrev pub composite_traffic : Settings → ℕ → SceneView → List (PairTraffic (List Pixel))
composite_traffic settings strands scene =
    let read = map (read_message (values scene.mode (images_of strands scene))) in
    entries scene.ranks (λ q r. read ((rule_of settings).messages scene.order (scene_tiles scene) q r))

-- the plain composite of each tile
abbrev pub plain_pictures : Settings → SceneView → List DenseView
plain_pictures settings scene = map (λ x. record { w = x.0.area.w; h = x.0.area.h; pixels = plain_picture scene x.0 x.1 }) (zip scene.tiles (brackets_of settings scene))

-- each rank's exchanges in the strategy's plan, by rank
abbrev pub exchanges_of : Settings → SceneView → List (List Exchange)
exchanges_of settings scene = map ((rule_of settings).exchanges scene.order (scene_tiles scene)) (range_with_len 0 (length scene.order))

-- the plan of a scene by the settings
abbrev pub IsPlanFor : Settings → SceneView → PlanView → Type 0
IsPlanFor settings scene plan = IsPlanBy (rule_of settings) scene.order (scene_tiles scene) plan
