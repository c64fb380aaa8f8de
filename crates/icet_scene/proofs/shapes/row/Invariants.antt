use Rattle.std.proofs.Common.{length}
use Rattle.std.specs.Prelude.{All}
use Rattle.icet_scene_model.specs.Lawful.{IsPaint}
use Rattle.std.specs.Option.{option_copied}
use Rattle.icet_text.specs.Words.{words_behind}
use Rattle.icet_scene.proofs.Rows.{HasPaints}
use Rattle.icet_scene.proofs.shapes.row.Given as goal

abbrev pub invariant-loop-rest : goal.invariant-loop-rest
invariant-loop-rest l = HasPaints l.most l.room (words_behind (option_copied l.fn.words)) l.left l.is_premultiplied l.paints.items (words_behind (option_copied l.rest)) × All (IsPaint l.most) l.paints.items

abbrev pub decreases-loop-rest : goal.decreases-loop-rest
decreases-loop-rest l = length (words_behind (option_copied l.rest))
