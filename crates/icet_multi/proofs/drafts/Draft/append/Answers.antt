use Rattle.std.proofs.Common.{◌∙◌, ◌++◌, [], ◌∷◌, ap}
use Rattle.icet_multi.proofs.Growing.{append_more}
use Rattle.icet_multi.proofs.drafts.Draft.append.Goals as goal

pub loop-i-preserved : goal.loop-i-preserved
loop-i-preserved c = c.in_ok-push.ensures.items ∙ (ap (λ z. z ++ c.op.result ∷ []) c.loop-i.invariant ∙ append_more c.args.self.now c.args.program.now c.loop-i.i c.op.result c.op.ensures)
