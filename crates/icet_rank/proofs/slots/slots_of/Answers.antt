use Rattle.std.proofs.Common.{arith, subst, sym}
use Rattle.std.specs.List.{AllByRecursion}
use Rattle.std.proofs.lemmas.List.{take_all}
use Rattle.icet_rank.specs.Machine.{Names}
use Rattle.icet_rank.proofs.LocalWork.{more_named, named_before}
use Rattle.icet_rank.proofs.slots.slots_of.Goals as goal

pub loop-i-preserved : goal.loop-i-preserved
loop-i-preserved c = record {
  named = more_named c.args.program.now c.loop-i.i c.op.result c.loop-i.most c.named_by.result c.max-most.result c.op.ensures c.loop-i.invariant.named c.named_by.ensures.named (grind arith) (grind arith);
  least = λ n a.
      let before = named_before c.args.program.now c.loop-i.i c.op.result n c.op.ensures a in
      let l = c.loop-i.invariant.least n before.0 in
      let k = c.named_by.ensures.least n before.1 in
      grind (arith, l, k);
}

pub returns-clause-named : goal.returns-clause-named
returns-clause-named c =
    let l = c.loop-i-test.false in
    let e = c.len-i-end.ensures in
    subst (AllByRecursion (Names c.loop-i.most)) (take_all c.loop-i.i c.args.program.now (omega (arith, l, e))) c.loop-i.invariant.named

pub returns-clause-least : goal.returns-clause-least
returns-clause-least c = λ n a.
    let l = c.loop-i-test.false in
    let e = c.len-i-end.ensures in
    c.loop-i.invariant.least n (subst (AllByRecursion (Names n)) (sym (take_all c.loop-i.i c.args.program.now (omega (arith, l, e)))) a)
