use Rattle.std.proofs.Common.{◌≡◌, ◌<◌, ◌≤◌, ℕ, length, ◌∙◌, subst, arith, rules}
use Rattle.icet_net.specs.Net.{messages_on}
use Rattle.icet_net.specs.Opening.{AreNewPorts}
use Rattle.icet_net.proofs.Reaching.{reaches_none, reaches_at, pairs_more, owed_more, total_is}
use Rattle.icet_net.proofs.porting.open_from.Goals as goal

at_end : (to end n : ℕ) → end ≤ to → to ≤ end → end ≡ n → to ≡ n
at_end to end n l m e = omega arith

pub reaching-init : goal.reaching-init
reaching-init g c = record { pairs = search rules; opened = grind (arith, reaches_none); log = search rules; owed = search rules }

pub reaching-preserved : goal.reaching-preserved
reaching-preserved g c =
    let i = c.reaching.invariant in
    let e = c.in_ok-open_one.ensures in
    let k = c.in_ok-counts.ensures in
    let l : c.reaching.to < length c.args.plan.now.programs = (let t = c.reaching-test.true in let r = c.ranks-to-end.ensures.ranks in omega (arith, t, r)) in
    let t = total_is c.args.plan.now c.args.from c.reaching.to _ _ _ l k.count k.counts c.index.ensures in
    record {
      pairs = pairs_more c.args.plan.now _ _ c.args.from c.reaching.to _ t e.pairs _ i.pairs;
      opened = reaches_at _ _ _ _ _ _ _ _ _ _ _ _ _ _ l k.count k.counts c.index.ensures c.index_mut.ensures.value i.opened e.ins e.outs e.out_others e.in_others e.paired;
      log = e.log ∙ i.log;
      owed = owed_more c.args.plan.now c.args.from c.reaching.to _ _ _ _ t e.owed i.owed;
    }

pub returns-clause-pairs : goal.returns-clause-pairs
returns-clause-pairs g c =
    let e = at_end _ _ _ c.reaching-test.false c.reaching.auto.to-end c.ranks-to-end.ensures.ranks in
    rw e at c.reaching.invariant.pairs

pub returns-clause-inboxes : goal.returns-clause-inboxes
returns-clause-inboxes g c =
    let e = at_end _ _ _ c.reaching-test.false c.reaching.auto.to-end c.ranks-to-end.ensures.ranks in
    λ r l. c.reaching.invariant.opened.reached r (rw e l)

pub returns-clause-outboxes : goal.returns-clause-outboxes
returns-clause-outboxes g c =
    let e = at_end _ _ _ c.reaching-test.false c.reaching.auto.to-end c.ranks-to-end.ensures.ranks in
    subst (λ n. AreNewPorts (λ r. messages_on c.args.plan.now c.args.from r) n c.reaching.outs) e c.reaching.invariant.opened.new_outs

pub returns-clause-paired : goal.returns-clause-paired
returns-clause-paired g c =
    let e = at_end _ _ _ c.reaching-test.false c.reaching.auto.to-end c.ranks-to-end.ensures.ranks in
    λ r l u. c.reaching.invariant.opened.paired r (rw e l) u
