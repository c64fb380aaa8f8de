use Rattle.std.proofs.Common.{◌≡◌, ◌≤◌, ℕ, ◌+◌, length, refl, sym, ap, ◌∙◌, subst, arith, rules}
use Rattle.std.proofs.lemmas.List.{length-replicate}
use Rattle.icet_net.specs.Opening.{AreNewPorts, ports_of}
use Rattle.icet_net.specs.Net.{messages_on}
use Rattle.icet_net.proofs.PairPlaces.{used_is}
use Rattle.icet_net.proofs.Reaching.{Opens, opens_none, opens_more, senders_more, senders_owed}
use Rattle.icet_net.proofs.porting.open_ports.Goals as goal

at_end : (from end n : ℕ) → end ≤ from → from ≤ end → end ≡ n → from ≡ n
at_end from end n l m e = omega arith

pub opening-init : goal.opening-init
opening-init g c =
    let e = rw c.ranks.ensures.ranks at c.in_ok-inboxes.ensures in
    record { pairs = c.new-pairs.ensures.items; opened = rw c.new-outboxes.ensures.items (opens_none _ _ _ e (ap length e ∙ length-replicate _ _)); log = refl; owed = search rules }

pub opening-preserved : goal.opening-preserved
opening-preserved g c =
    let i = c.opening.invariant in
    let e = c.in_ok-outs.ensures in
    record {
      pairs = senders_more c.args.plan.now _ _ c.opening.from e.pairs i.pairs;
      opened = subst (λ outs. Opens c.args.plan.now c.args.cap (c.opening.from + 1) c.open_from.new.inboxes.items outs) (sym c.in_ok-push.ensures.items) (opens_more _ _ _ _ _ _ _ i.opened e.in_count e.inboxes e.others e.outboxes e.paired);
      log = e.log ∙ i.log;
      owed = senders_owed c.args.plan.now c.opening.from _ _ _ e.owed i.owed;
    }

pub returns-clause-pairs : goal.returns-clause-pairs
returns-clause-pairs g c =
    let e = at_end _ _ _ c.opening-test.false c.opening.auto.from-end c.ranks-from-end.ensures.ranks in
    rw e at c.opening.invariant.pairs

pub returns-clause-inboxes : goal.returns-clause-inboxes
returns-clause-inboxes g c =
    let e = at_end _ _ _ c.opening-test.false c.opening.auto.from-end c.ranks-from-end.ensures.ranks in
    λ r l. subst (λ n. AreNewPorts (λ q. messages_on c.args.plan.now q r) n (ports_of c.opening.inboxes.items r)) e (c.opening.invariant.opened.new_ins r l)

pub returns-clause-outboxes : goal.returns-clause-outboxes
returns-clause-outboxes g c =
    let e = at_end _ _ _ c.opening-test.false c.opening.auto.from-end c.ranks-from-end.ensures.ranks in
    λ q l. c.opening.invariant.opened.new_outs q (rw e l)

pub returns-clause-paired : goal.returns-clause-paired
returns-clause-paired g c =
    let e = at_end _ _ _ c.opening-test.false c.opening.auto.from-end c.ranks-from-end.ensures.ranks in
    λ q r u. let s = used_is c.args.plan.now c.ranks-from-end.ensures.plan q r u in c.opening.invariant.opened.paired q r (rw e s.from) s.to u
