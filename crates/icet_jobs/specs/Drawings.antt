-- The slots that the ranks of a scene are drawn into.
use Rattle.std.specs.Prelude.{ℕ, List, None, Some, map, filter_map}
use Rattle.std.specs.List.{range_with_len}
use Rattle.icet_model.specs.Pixel.{Pixel}
use Rattle.icet_model.specs.Run.{Piece}
use Rattle.icet_scene_model.specs.Scene.{SceneView}
use Rattle.icet_jobs.specs.declared.drawing.Slot.{Slot}
use Rattle.icet_jobs.specs.Composites.{rank_image}

-- the slot of a rank with nothing drawn
abbrev pub empty_slot : ℕ → Slot
empty_slot rank = record { rank = rank; image = None }

-- one for each of so many ranks, in order
abbrev pub empty_slots : ℕ → List Slot
empty_slots ranks = map empty_slot (range_with_len 0 ranks)

-- the slot once its rank is drawn
abbrev pub drawn_slot : ℕ → SceneView → Slot → Slot
drawn_slot strands scene slot = record { rank = slot.rank; image = Some (rank_image strands scene slot.rank) }

-- the images of the slots that are drawn
abbrev pub images_in : List Slot → List (List (Piece (List Pixel)))
images_in slots = filter_map (λ slot. slot.image) slots
