use Rattle.std.proofs.Common.{◌++◌, ◌∷◌, [], sym, ap, ◌∙◌}
use Rattle.icet_model.specs.Wires.{PortView}
use Rattle.icet_net.specs.Opening.{ports_of}
use Rattle.icet_rank.specs.Moves.{port_to}
use Rattle.icet_net.proofs.ClosePorts.{has_port, read_port, pair_taken}
use Rattle.icet_net.proofs.closing.close_one.Goals as goal

pub take_outbox-out-requires-clause-there : goal.take_outbox-out-requires-clause-there
take_outbox-out-requires-clause-there g c κs within = has_port _ _ _ c.requires.closable.out_is

pub take_inbox-inbox-requires-clause-there : goal.take_inbox-inbox-requires-clause-there
take_inbox-inbox-requires-clause-there g c κs within = has_port _ _ _ (ap (λ zs. port_to (ports_of zs c.args.to) c.args.from) c.take_outbox-out.ensures.inboxes ∙ c.requires.closable.inbox_is)

pub returns-clause-taken : goal.returns-clause-taken
returns-clause-taken g c = pair_taken _ _ _ c.args.from c.args.to (g.W.Out.Outbox.port c.take_outbox-out.result) (g.W.In.Inbox.port c.take_inbox-inbox.result) c.take_outbox-out.ensures.port c.take_outbox-out.ensures.inboxes c.take_inbox-inbox.ensures.port c.close_pair.ensures.taken

pub returns-clause-log : goal.returns-clause-log
returns-clause-log g c = c.close_pair.ensures.log ∙ ap (λ ms. g.W.Wires.log c.args.wires.now ++ record { from = c.args.from; to = c.args.to; messages = ms } ∷ []) (sym (read_port (λ (p : PortView). p.messages) [] _ c.args.to (g.W.Out.Outbox.port c.take_outbox-out.result) c.take_outbox-out.ensures.port))
