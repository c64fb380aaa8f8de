use Rattle.std.proofs.Common.{◌+◌, ◌++◌, [], ◌∷◌, sym, subst}
use Rattle.icet_net.specs.Opening.{AreNewPorts, IsOpenedPair, KeepsPortsBut}
use Rattle.icet_net.proofs.NewPorts.{skip_new, push_new, push_others, pushed_pair}
use Rattle.icet_net.proofs.porting.open_one.Goals as goal

pub returns-then-total-eq0-clause-outs : goal.returns-then-total-eq0-clause-outs
returns-then-total-eq0-clause-outs g c = λ count e h. skip_new count _ _ _ e c.if-total-eq0.true h

pub returns-then-total-eq0-clause-ins : goal.returns-then-total-eq0-clause-ins
returns-then-total-eq0-clause-ins g c = λ count e h. skip_new count _ _ _ e c.if-total-eq0.true h

pub returns-clause-outs : goal.returns-clause-outs
returns-clause-outs g c = λ count e h. subst (AreNewPorts count (c.args.to + 1)) (sym c.in_ok-push.ensures) (push_new count _ _ _ _ e c.in_ok-out.ensures.opened.out_is.messages c.in_ok-out.ensures.opened.out_is.room h)

pub returns-clause-ins : goal.returns-clause-ins
returns-clause-ins g c = λ count e h. subst (AreNewPorts count (c.args.from + 1)) (sym c.in_ok-push-2.ensures) (push_new count _ _ _ _ e c.in_ok-out.ensures.opened.inbox_is.messages c.in_ok-out.ensures.opened.inbox_is.room h)

pub returns-clause-out_others : goal.returns-clause-out_others
returns-clause-out_others g c = subst (KeepsPortsBut c.args.to c.args.outs.now) (sym c.in_ok-push.ensures) (push_others _ _ _)

pub returns-clause-in_others : goal.returns-clause-in_others
returns-clause-in_others g c = subst (KeepsPortsBut c.args.from c.args.ins.now) (sym c.in_ok-push-2.ensures) (push_others _ _ _)

pub returns-clause-paired : goal.returns-clause-paired
returns-clause-paired g c = λ a b l ho hi.
    let out = g.W.Out.Outbox.port c.in_ok-out.out in
    let inbox = g.W.In.Inbox.port c.in_ok-out.inbox in
    subst (λ outs. IsOpenedPair c.args.cap c.args.from c.args.to outs c.push-2.new.self) (sym c.in_ok-push.ensures)
    (subst (λ ins. IsOpenedPair c.args.cap c.args.from c.args.to (c.args.outs.now ++ (c.args.to, out) ∷ []) ins) (sym c.in_ok-push-2.ensures)
    (pushed_pair a b c.args.cap c.args.from c.args.to c.args.total c.args.outs.now c.args.ins.now out inbox ho hi c.in_ok-out.ensures.opened))
