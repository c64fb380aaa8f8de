use Rattle.std.proofs.Common.{sym, length, ◌∙◌, ap, subst}
use Rattle.icet_rank.specs.Moves.{KeepsPairings}
use Rattle.icet_model.specs.Exchange.{exchanges}
use Rattle.icet_rank.proofs.BehindWork.{pends_after, nothing_due}
use Rattle.icet_rank.proofs.machine.RankMachine.step.Goals as goal

pub returns-clause-pending : goal.returns-clause-pending
returns-clause-pending g c = λ h. pends_after c.do_local_work.ensures.worked (c.swap_next.ensures.pending h)

pub returns-clause-none_left : goal.returns-clause-none_left
returns-clause-none_left g c = λ n. nothing_due c.swap_next.result (c.do_local_work.ensures.worked.counter ∙ (n ∙ ap (λ ops. length (exchanges ops)) (sym c.do_local_work.ensures.worked.job.ops))) c.swap_next.ensures.moved c.swap_next.ensures.pending

pub returns-clause-pairings : goal.returns-clause-pairings
returns-clause-pairings g c =
    let before = c.do_local_work.ensures.worked in
    let kept = c.swap_next.ensures.pairings in
    record {
      inboxes = subst (λ ports. KeepsPairings ports c.swap_next.new.self.inboxes) before.inboxes kept.inboxes;
      outboxes = subst (λ ports. KeepsPairings ports c.swap_next.new.self.outboxes) before.outboxes kept.outboxes;
    }
