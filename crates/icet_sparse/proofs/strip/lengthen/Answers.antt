use Rattle.std.proofs.Common.{◌-◌, ◌<◌, ◌∙◌, ap, length, arith}
use Rattle.icet_sparse.proofs.Growing.{drawn_le, last_longer, first_run, next_run}
use Rattle.icet_sparse.proofs.strip.lengthen.Goals.{else-blank-eq0-via-then-blank-eq0+else-not-is_empty, else-blank-eq0-via-else-blank-eq0}
use Rattle.icet_sparse.proofs.strip.lengthen.Goals as goal

pub overflow_add-index_mut : goal.overflow_add-index_mut
overflow_add-index_mut c =
    let rs = c.args.runs.now.items in
    let x = c.index_mut.result.now in
    let some : 0 < length rs = grind arith in
    let k = drawn_le rs (c.len-last.result - 1) x (omega arith) in
    let e = ap (λ y. y.drawn) c.index_mut.ensures.value in
    omega arith

pub returns-then-not-is_empty : goal.returns-then-not-is_empty
returns-then-not-is_empty c =
    let rs = c.args.runs.now.items in
    let some : 0 < length rs = grind arith in
    rw c.if-blank-eq0.true (last_longer rs c.index_mut.result.now c.args.drawn (c.len-last.result - 1) (omega arith) c.index_mut.ensures.value)

pub returns-else-blank-eq0 : goal.returns-else-blank-eq0
returns-else-blank-eq0 c = c.push_reserved.ensures.items ∙ (elim c.else-blank-eq0.branch [ else-blank-eq0-via-then-blank-eq0+else-not-is_empty w ↦ first_run c.args.runs.now.items c.args.blank c.args.drawn (grind arith) | else-blank-eq0-via-else-blank-eq0 w ↦ next_run c.args.runs.now.items c.args.blank c.args.drawn (omega arith) ])
