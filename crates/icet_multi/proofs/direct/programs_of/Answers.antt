use Rattle.std.proofs.Common.{ap, length, arith}
use Rattle.icet_multi.proofs.Fewness.{program_short}
use Rattle.icet_multi.proofs.direct.programs_of.Goals as goal

pub of-requires : goal.of-requires
of-requires c =
    let short = program_short c.args.ranks c.loop-rank.rank c.args.tiles.now c.requires.ranks c.requires.few c.requires.tiles in
    let same = ap (λ ops. length ops) c.in_ok-ops.ensures in
    omega (arith, short, same)
