use Rattle.std.proofs.Common.{rules, arith}
use Rattle.icet_pixel.proofs.BlendedFits.{fits}
use Rattle.icet_pixel.proofs.pixel.channel.Goals as goal

pub overflow_cast-result : goal.overflow_cast-result
overflow_cast-result c =
    let alpha = c.ranges.alpha.fits in
    let back = c.ranges.back.fits in
    let sum = fits c.args.most c.args.alpha c.args.front c.args.back c.requires.most c.requires.front (omega (arith, alpha)) (omega (arith, back)) in
    rw (c.from-2.ensures, c.from-3.ensures, c.min.ensures, c.from.ensures) (search (rules, sum))
