use Rattle.std.proofs.Common.{subst}
use Rattle.icet_raster.specs.Shares.{IsShare}
use Rattle.icet_raster.proofs.ShareSteps.{growth-is}
use Rattle.icet_raster.proofs.shades.slope.Goals as goal

pub returns : goal.returns
returns c =
    let w = c.args.walk.now in
    let e = growth-is w c.args.a c.args.b c.args.c c.times.result c.times-2.result c.times-3.result c.plus.result c.plus-growth.result c.requires.walk c.times.ensures.small c.times-2.ensures.small c.times-3.ensures.small
    c.times.ensures.value c.times-2.ensures.value c.times-3.ensures.value c.plus.ensures.value c.plus-growth.ensures.value in
    record { share = subst (λ t. IsShare w.whole t c.signed_share_of.result) e c.signed_share_of.ensures.share; small = c.signed_share_of.ensures.small }
