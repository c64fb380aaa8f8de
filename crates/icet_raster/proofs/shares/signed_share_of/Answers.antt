use Rattle.std.proofs.Common.{◌≡◌, pos, neg_ℤ, unsigned_abs, subst, arith, rules}
use Rattle.std.proofs.lemmas.Int.{ints}
use Rattle.icet_raster.specs.Shares.{IsShare}
use Rattle.icet_raster.proofs.shares.signed_share_of.Goals as goal

pub returns-else-sum-ge0-clause-share : goal.returns-else-sum-ge0-clause-share
returns-else-sum-ge0-clause-share c =
    let n : c.unsigned_abs.result ≡ unsigned_abs c.args.sum = search rules in
    let same : neg_ℤ (pos c.unsigned_abs.result) ≡ c.args.sum = omega (arith, ints, c.if-sum-ge0.false) in
    subst (λ t. IsShare c.args.whole t c.opposite.result) same (c.opposite.ensures.share (pos c.unsigned_abs.result) c.share_of-share.ensures.share)
