use Rattle.std.proofs.Common.{◌≡◌, length, ap, arith}
use Rattle.icet_sparse.proofs.Form.{few_runs, fragments_within, weight_is}
use Rattle.icet_sparse.proofs.shared.SharedStrip.weight.Goals as goal

pub overflow_mul-result : goal.overflow_mul-result
overflow_mul-result c = let s = c.self.inside in let f = few_runs s.runs.items s.fragments s.behind c.self.invariant in omega arith

pub overflow_mul-result-2 : goal.overflow_mul-result-2
overflow_mul-result-2 c = let s = c.self.inside in let f = fragments_within s.runs.items s.fragments s.behind c.self.invariant in omega arith

pub overflow_add-result : goal.overflow_add-result
overflow_add-result c =
    let s = c.self.inside in
    let r = few_runs s.runs.items s.fragments s.behind c.self.invariant in
    let f = fragments_within s.runs.items s.fragments s.behind c.self.invariant in
    omega arith

pub returns : goal.returns
returns c =
    let s = c.self.inside in
    let runs : c.len.result ≡ length s.runs.items = grind arith in
    let drawn = ap length c.as_slice.ensures in
    rw (← c.self.view_is, runs, drawn) (weight_is s.runs.items s.fragments s.behind c.self.invariant.canonical)
