use Rattle.std.proofs.Common.{◌≡◌, ◌+ℤ◌, pos, unsigned_abs, to_z, of_z, w64, arith}
use Rattle.std.proofs.lemmas.Int.{ints}
use Rattle.icet_raster.proofs.ShareSteps.{grown-over, grown-within, next-fits, sum-fits}
use Rattle.icet_raster.proofs.shares.grown.Goals as goal

pub returns-then-rest-whole-clause-share : goal.returns-then-rest-whole-clause-share
returns-then-rest-whole-clause-share c = λ sum by f g.
    let q = c.args.share.quotient in
    let d = c.args.slope.quotient in
    let n = next-fits _ (q +ℤ d) (sum-fits q d c.requires.small c.requires.slope_small) (omega (arith, ints, c.requires.small, c.requires.slope_small)) in
    record { sum_is = grown-over c.args.whole sum by q d _ _ _ f.sum_is g.sum_is n c.if-rest-whole.true; rest = omega (arith, f.rest, g.rest, c.if-rest-whole.true) }

pub returns-else-rest-whole-clause-share : goal.returns-else-rest-whole-clause-share
returns-else-rest-whole-clause-share c = λ sum by f g.
    let q = c.args.share.quotient in
    let d = c.args.slope.quotient in
    record { sum_is = grown-within c.args.whole sum by q d _ _ _ f.sum_is g.sum_is (sum-fits q d c.requires.small c.requires.slope_small); rest = omega (arith, c.if-rest-whole.false) }
