use Rattle.std.proofs.Common.{◌≡◌, pos, ◌+ℤ◌, refl, arith, w64, to_z, of_z}
use Rattle.std.specs.Int.{int_max, int_min}
use Rattle.std.proofs.lemmas.Int.{ints, clamps}
use Rattle.icet_tiles.proofs.area.overlap.Goals as goal

pub returns : goal.returns
returns c =
    let from : to_z w64 (of_z w64 c.max-from.result) ≡ int_max c.args.first c.args.other_first = omega (arith, ints, clamps) in
    let to : to_z w64 (of_z w64 c.min.result) ≡ int_min (c.args.first +ℤ pos c.args.count) (c.args.other_first +ℤ pos c.args.other_count) = omega (arith, ints, clamps) in
    rw (from, to) refl
