use Rattle.std.proofs.Common.{◌/◌, ◌∙◌, ap}
use Rattle.icet_raster.proofs.CornerWeights.{mean-within}
use Rattle.icet_raster.proofs.shading.mean.Goals as goal

pub returns-clause-most : goal.returns-clause-most
returns-clause-most c = λ most f g h.
    let w = c.args.weights in
    rw (c.quotient.ensures ∙ ap (λ n. n / w.whole) c.sum_of.ensures.value) (mean-within w.a w.b w.c w.whole c.args.a c.args.b c.args.c most c.requires.weights.sum f g h)
