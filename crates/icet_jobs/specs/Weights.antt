-- The weight of images: eight for each maximal run of drawn pixels, and eight for each drawn pixel.
use Rattle.std.specs.Prelude.{ℕ, List}
use Rattle.std.specs.List.{sum_by}
use Rattle.icet_model.specs.Pixel.{Pixel}
use Rattle.icet_model.specs.Run.{Piece}
use Rattle.icet_scene_model.specs.Scene.{SceneView}
use Rattle.icet_sparse.specs.Runs.{weight_of}
use Rattle.icet_jobs.specs.Composites.{rank_images}

-- of one image for each tile
abbrev pub image_weight : List (Piece (List Pixel)) → ℕ
image_weight image = sum_by (λ piece. weight_of piece.content) image

-- of all images
abbrev pub images_weight : List (List (Piece (List Pixel))) → ℕ
images_weight images = sum_by image_weight images

-- of all that the ranks of a scene draw, dealt out to the strands
abbrev pub scene_weight : ℕ → SceneView → ℕ
scene_weight strands scene = images_weight (rank_images strands scene)
