use Rattle.std.proofs.Common.{sym, replicate, None, append_assoc}
use Rattle.std.proofs.lemmas.List.{replicate-append-replicate}
use Rattle.icet_model.specs.Pixel.{Pixel}
use Rattle.icet_sparse.specs.Runs.{run_pixels}
use Rattle.icet_sparse.proofs.strip.Strip.push_blank.Goals as goal

pub returns : goal.returns
returns c =
    let s = c.self.inside in
    rw (← c.self.view_is, ← replicate-append-replicate {A = Pixel} s.behind c.args.count None) (sym (append_assoc (run_pixels s.runs.items s.fragments.items) (replicate {A = Pixel} s.behind None) (replicate {A = Pixel} c.args.count None)))
