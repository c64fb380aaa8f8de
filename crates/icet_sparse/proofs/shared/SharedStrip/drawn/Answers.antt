use Rattle.std.proofs.Common.{length, sym, ap, ◌∙◌, arith}
use Rattle.icet_sparse.specs.Runs.{fragments_of}
use Rattle.icet_sparse.proofs.Form.{fragments_are, fragments_within}
use Rattle.icet_sparse.proofs.shared.SharedStrip.drawn.Goals as goal

pub returns : goal.returns
returns c =
    let s = c.self.inside in
    ap length (c.as_slice.ensures ∙ sym (fragments_are s.runs.items s.fragments s.behind c.self.invariant.canonical.counted) ∙ ap fragments_of c.self.view_is)

pub overflow_cast-result : goal.overflow_cast-result
overflow_cast-result c =
    let s = c.self.inside in
    let few = fragments_within s.runs.items s.fragments s.behind c.self.invariant in
    omega (arith, few, ap length c.as_slice.ensures)
