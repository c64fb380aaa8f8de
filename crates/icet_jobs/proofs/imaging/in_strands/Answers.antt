use Rattle.std.proofs.Common.{List, ap, sym, ◌∙◌}
use Rattle.icet_model.specs.Pixel.{Pixel}
use Rattle.icet_interlace.specs.Interlace.{interlaced_piece}
use Rattle.icet_interlace.proofs.Strands.{one_interlaced}
use Rattle.icet_jobs.proofs.imaging.in_strands.Goals as goal

pub returns-then-strands-eq1 : goal.returns-then-strands-eq1
returns-then-strands-eq1 c =
    let part = c.args.part in
    ap (λ (pixels : List Pixel). record part { content = pixels }) (sym (one_interlaced part.content)) ∙ ap (λ n. interlaced_piece n part) (sym c.if-strands-eq1.true)
