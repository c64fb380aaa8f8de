use Rattle.std.proofs.Common.{◌∷◌, length, sym, ap, ◌∙◌}
use Rattle.icet_sparse.specs.Runs.{fragments_of}
use Rattle.icet_sparse.proofs.Form.{fragments_are}
use Rattle.icet_sparse.proofs.walk.Walk.fragments_left.Goals as goal

pub returns : goal.returns
returns c =
    let s = c.self.inside in
    ap length (sym (fragments_are (s.runs.under_way ∷ s.runs.later.now) s.fragments.now s.runs.behind c.self.invariant.counted) ∙ ap fragments_of c.self.view_is)
