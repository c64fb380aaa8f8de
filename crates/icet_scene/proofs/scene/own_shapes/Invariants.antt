use Rattle.std.proofs.Common.{◌≡◌, map, take}
use Rattle.std.specs.Prelude.{All}
use Rattle.icet_raster.specs.Shapes.{drawing_of, IsInRange}
use Rattle.icet_scene.specs.Lines.{placed_of}
use Rattle.icet_scene_model.specs.Jobs.{shapes_of}
use Rattle.icet_scene.proofs.scene.own_shapes.Given as goal

abbrev pub invariant-loop-drawer : goal.invariant-loop-drawer
invariant-loop-drawer l = (map drawing_of l.own.items ≡ shapes_of (map placed_of (take l.drawer-index l.shapes)) l.rank) × All IsInRange l.own.items
