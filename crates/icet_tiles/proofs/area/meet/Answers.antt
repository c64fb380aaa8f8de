use Rattle.std.proofs.Common.{◌≡◌, arith, w32, to_z, of_z}
use Rattle.std.proofs.lemmas.Int.{ints}
use Rattle.icet_tiles.proofs.Meeting.{met_by_rows, apart_by_columns, meet_exactly}
use Rattle.icet_tiles.proofs.area.meet.Goals as goal

pub returns-then-overlap-clause-test : goal.returns-then-overlap-clause-test
returns-then-overlap-clause-test c =
    let x : to_z w32 (of_z w32 c.args.one.x) ≡ c.args.one.x = omega (arith, ints) in
    let y : to_z w32 (of_z w32 c.args.one.y) ≡ c.args.one.y = omega (arith, ints) in
    let other_x : to_z w32 (of_z w32 c.args.other.x) ≡ c.args.other.x = omega (arith, ints) in
    let other_y : to_z w32 (of_z w32 c.args.other.y) ≡ c.args.other.y = omega (arith, ints) in
    met_by_rows c.args.one c.args.other c.overlap.result c.overlap-then-overlap.result (rw (x, other_x) at c.overlap.ensures) c.if-overlap.true (rw (y, other_y) at c.overlap-then-overlap.ensures)

pub returns-then-overlap-clause-exact : goal.returns-then-overlap-clause-exact
returns-then-overlap-clause-exact c = meet_exactly _ c.args.one c.args.other (returns-then-overlap-clause-test c)

pub returns-else-overlap-clause-test : goal.returns-else-overlap-clause-test
returns-else-overlap-clause-test c =
    let x : to_z w32 (of_z w32 c.args.one.x) ≡ c.args.one.x = omega (arith, ints) in
    let other_x : to_z w32 (of_z w32 c.args.other.x) ≡ c.args.other.x = omega (arith, ints) in
    apart_by_columns c.args.one c.args.other c.overlap.result (rw (x, other_x) at c.overlap.ensures) c.if-overlap.false

pub returns-else-overlap-clause-exact : goal.returns-else-overlap-clause-exact
returns-else-overlap-clause-exact c = meet_exactly _ c.args.one c.args.other (returns-else-overlap-clause-test c)
