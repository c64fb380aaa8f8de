use Rattle.std.proofs.Common.{take, length, Ok}
use Rattle.std.specs.List.{flat_map, range_with_len}
use Rattle.icet_base.specs.PenText.{Puts}
use Rattle.icet_summary.specs.Summaries.{finish, line_at}
use Rattle.icet_summary.proofs.text.put_tiles.Given as goal

abbrev pub invariant-loop-t : goal.invariant-loop-t
invariant-loop-t g l =
    Puts g.K.Sink.told l.initial.pen l.pen (Ok tt) (flat_map (line_at (finish l.wide l.mode l.background) l.pictures) (take l.t (range_with_len 0 (length l.pictures))))
