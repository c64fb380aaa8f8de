use Rattle.std.proofs.Common.{◌<◌, ◌+◌, [], ◌∷◌, length, sym, ap, ◌∙◌, subst, arith, length-append}
use Rattle.icet_net.specs.Ranks.{AreWholeImages}
use Rattle.icet_net.specs.Opening.{AreNewPorts}
use Rattle.icet_net.specs.Net.{messages_on}
use Rattle.icet_net.proofs.Started.{drop_head, started_more}
use Rattle.icet_net.proofs.starting.machines_of.Goals as goal

pub start-requires-clause-whole : goal.start-requires-clause-whole
start-requires-clause-whole g c κs within =
    let i = c.starting.invariant in
    let l : c.starting.rank < length c.args.plan.now.programs = (let t = c.starting-test.true in let r = c.ranks-rank-end.ensures.ranks in omega (arith, t, r)) in
    subst (AreWholeImages c.args.plan.now.tiles.sizes) (drop_head _ _ c.starting.rank _ [] (sym i.images ∙ c.next_of.ensures.items)).0 (c.requires.whole c.starting.rank l)

pub start-requires-clause-ins : goal.start-requires-clause-ins
start-requires-clause-ins g c κs within =
    let i = c.starting.invariant in
    let l : c.starting.rank < length c.args.plan.now.programs = (let t = c.starting-test.true in let r = c.ranks-rank-end.ensures.ranks in omega (arith, t, r)) in
    subst (AreNewPorts (λ q. messages_on c.args.plan.now q c.starting.rank) (length c.args.plan.now.programs)) (drop_head _ _ c.starting.rank _ [] (sym i.ins ∙ c.next_of-in-starting.ensures.items)).0 (c.requires.inboxes c.starting.rank l)

pub start-requires-clause-outs : goal.start-requires-clause-outs
start-requires-clause-outs g c κs within =
    let i = c.starting.invariant in
    let l : c.starting.rank < length c.args.plan.now.programs = (let t = c.starting-test.true in let r = c.ranks-rank-end.ensures.ranks in omega (arith, t, r)) in
    subst (AreNewPorts (λ r. messages_on c.args.plan.now c.starting.rank r) (length c.args.plan.now.programs)) (drop_head _ _ c.starting.rank _ [] (sym i.outs ∙ c.next_of-in-starting-2.ensures.items)).0 (c.requires.outboxes c.starting.rank l)

pub starting-preserved : goal.starting-preserved
starting-preserved g c =
    let i = c.starting.invariant in
    let a = drop_head _ _ c.starting.rank _ [] (sym i.images ∙ c.next_of.ensures.items) in
    let b = drop_head _ _ c.starting.rank _ [] (sym i.ins ∙ c.next_of-in-starting.ensures.items) in
    let d = drop_head _ _ c.starting.rank _ [] (sym i.outs ∙ c.next_of-in-starting-2.ensures.items) in
    record {
      count = ap length c.in_ok-push.ensures.items ∙ (length-append c.starting.machines.items (c.in_ok-machine.machine ∷ []) ∙ ap (λ n. n + 1) i.count);
      images = sym a.1;
      ins = sym b.1;
      outs = sym d.1;
      images_long = let e = i.images_long in let f = c.next_of.ensures.len in omega (arith, e, f);
      ins_long = let e = i.ins_long in let f = c.next_of-in-starting.ensures.len in omega (arith, e, f);
      outs_long = let e = i.outs_long in let f = c.next_of-in-starting-2.ensures.len in omega (arith, e, f);
      started = started_more c.args.plan.now c.args.mode c.args.images.items c.args.inboxes.items c.args.outboxes.items c.starting.machines.items c.push.new.self.items c.starting.rank _ _ _ c.in_ok-machine.machine i.count c.in_ok-push.ensures.items a.0 b.0 d.0 c.in_ok-machine.ensures i.started;
    }
