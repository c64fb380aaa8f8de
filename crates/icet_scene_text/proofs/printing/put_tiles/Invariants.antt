use Rattle.std.proofs.Common.{take, ◌++◌, codes, Ok}
use Rattle.std.specs.List.{flat_map}
use Rattle.icet_base.specs.PenText.{Puts}
use Rattle.icet_model.specs.Tiles.{TileView}
use Rattle.icet_scene_model.specs.Printed.{line_of}
use Rattle.icet_scene_model.specs.Scene.{TileIs}
use Rattle.icet_scene_text.proofs.printing.put_tiles.Given as goal

abbrev pub invariant-loop-t : goal.invariant-loop-t
invariant-loop-t g l = Puts g.K.Sink.told l.initial.pen l.pen (Ok tt) (flat_map (λ (tile : TileView). line_of (TileIs tile) ++ codes "\n") (take l.t l.layout))
