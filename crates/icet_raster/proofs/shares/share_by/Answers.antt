use Rattle.std.proofs.Common.{unsigned_abs, ap, sym, subst, ◌∙◌, ◌≤◌, pos}
use Rattle.icet_raster.proofs.CornerWeights.{mean-within}
use Rattle.icet_raster.proofs.ShareSteps.{share-quotient}
use Rattle.icet_raster.proofs.shares.share_by.Goals as goal

pub returns-clause-small : goal.returns-clause-small
returns-clause-small c =
    let w = c.args.weights in
    let q = share-quotient w.whole c.sum_of.result c.share_of.result c.share_of.ensures.share in
    rw (q, c.sum_of.ensures.value) (mean-within w.a w.b w.c w.whole c.args.a c.args.b c.args.c 16777214 c.requires.weights.sum c.requires.a c.requires.b c.requires.c)
