use Rattle.icet_scene.proofs.Ends.{read_on}
use Rattle.icet_scene.proofs.read.read_lines.Goals as goal

pub loop-at-preserved : goal.loop-at-preserved
loop-at-preserved c = (read_on c.args.bytes.now c.loop-at.at c.line_at-next.result.1 c.loop-at.number c.loop-at.draft c.take_line.new.draft c.line_at-next.result.0.now c.loop-at.invariant.0 c.line_at-next.ensures.lines c.line_at-next.ensures.later c.line_at-next.ensures.within c.in_default.ensures.draft c.in_default.ensures.well, c.in_default.ensures.place)
