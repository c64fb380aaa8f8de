use Rattle.std.proofs.Common.{sym, ◌∙◌, subst}
use Rattle.icet_model.specs.Ports.{port_views}
use Rattle.icet_rank.specs.Machine.{IsReadyToRun}
use Rattle.icet_net.proofs.HullPairs.{if_ok_then}
use Rattle.icet_net.proofs.Started.{can_start, program_at, is_started}
use Rattle.icet_net.proofs.starting.start.Goals as goal

pub new-requires-after_bounds : goal.new-requires-after_bounds
new-requires-after_bounds g c κs within =
    let p = c.args.plan.now in
    subst (λ ins. IsReadyToRun c.args.rank c.args.mode c.in_ok-program.program c.args.images ins (port_views g.O.Outbox.port c.into_ports-2.result.items)) (sym c.into_ports.ensures) (subst (λ outs. IsReadyToRun c.args.rank c.args.mode c.in_ok-program.program c.args.images c.args.ins outs) (sym c.into_ports-2.ensures) (can_start p c.ranks-ranks.ensures.plan c.args.rank c.args.mode c.in_ok-program.program c.args.images c.args.ins c.args.outs (c.in_ok-program.ensures ∙ program_at p.programs c.args.rank c.program.result.now c.program.ensures) c.requires.whole c.requires.ins c.requires.outs))

pub returns : goal.returns
returns g c =
    let p = c.args.plan.now in
    if_ok_then _ _ c.new.result (is_started p c.args.rank c.args.mode c.in_ok-program.program c.args.images c.args.ins c.args.outs (port_views g.I.Inbox.port c.into_ports.result.items) (port_views g.O.Outbox.port c.into_ports-2.result.items) (c.in_ok-program.ensures ∙ program_at p.programs c.args.rank c.program.result.now c.program.ensures) c.into_ports.ensures c.into_ports-2.ensures) c.new.ensures
