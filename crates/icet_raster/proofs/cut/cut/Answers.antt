use Rattle.std.proofs.Common.{◌≡◌, ℕ, ◌+◌, ◌<◌, ◌≤◌, ℤ, pos, ◌+ℤ◌, ◌-ℤ◌, ◌≤ℤ◌, ◌<ℤ◌, w32, to_z, of_z, arith}
use Rattle.std.specs.Int.{int_max, int_min}
use Rattle.std.proofs.lemmas.Int.{ints, clamps}
use Rattle.icet_raster.specs.Boxes.{IsSpan}
use Rattle.icet_raster.proofs.cut.cut.Goals as goal

-- both ends of the cut
cut_is : (first count from to other_count : ℕ) (other_first start end : ℤ) → start ≡ other_first -ℤ pos first → end ≡ start +ℤ pos other_count
    → pos from ≡ int_min (int_max start (pos 0)) (pos count) → pos to ≡ int_min (int_max end (pos 0)) (pos count)
    → (from ≤ to) × (to ≤ count) × ((p : ℕ) → p < count → other_first ≤ℤ pos (first + p) → pos (first + p) <ℤ (other_first +ℤ pos other_count) → (from ≤ p) × (p < to))
cut_is first count from to other_count other_first start end e f g h =
    (omega (arith, ints, clamps), omega (arith, ints, clamps), λ p l i j. (omega (arith, ints, clamps), omega (arith, ints, clamps)))

-- the numbers as the code has them
abbrev start_of : ℤ → ℕ → ℤ
start_of other_first first = to_z w32 (of_z w32 (to_z w32 (of_z w32 other_first) -ℤ to_z w32 first))

abbrev end_of : ℤ → ℕ → ℤ
end_of start other_count = to_z w32 (of_z w32 (to_z w32 (of_z w32 start) +ℤ to_z w32 other_count))

cut_by : (first count from to other_count : ℕ) (other_first : ℤ) → first + count ≤ 16384 → IsSpan other_first other_count
    → pos from ≡ int_min (int_max (start_of other_first first) (pos 0)) (pos count) → pos to ≡ int_min (int_max (end_of (to_z w32 (of_z w32 other_first) -ℤ to_z w32 first) other_count) (pos 0)) (pos count)
    → (from ≤ to) × (to ≤ count) × ((p : ℕ) → p < count → other_first ≤ℤ pos (first + p) → pos (first + p) <ℤ (other_first +ℤ pos other_count) → (from ≤ p) × (p < to))
cut_by first count from to other_count other_first l s g h =
    let a = s.least in
    let b = s.within in
    let e : start_of other_first first ≡ other_first -ℤ pos first = omega (arith, ints) in
    let f : end_of (to_z w32 (of_z w32 other_first) -ℤ to_z w32 first) other_count ≡ start_of other_first first +ℤ pos other_count = omega (arith, ints) in
    cut_is first count from to other_count other_first (start_of other_first first) (end_of (to_z w32 (of_z w32 other_first) -ℤ to_z w32 first) other_count) e f g h

pub returns-clause-order : goal.returns-clause-order
returns-clause-order c = (cut_by c.args.first c.args.count c.clamped.result c.clamped-2.result c.args.other_count c.args.other_first c.requires.range c.requires.other c.clamped.ensures c.clamped-2.ensures).0

pub returns-clause-within : goal.returns-clause-within
returns-clause-within c = (cut_by c.args.first c.args.count c.clamped.result c.clamped-2.result c.args.other_count c.args.other_first c.requires.range c.requires.other c.clamped.ensures c.clamped-2.ensures).1

pub returns-clause-inside : goal.returns-clause-inside
returns-clause-inside c = (cut_by c.args.first c.args.count c.clamped.result c.clamped-2.result c.args.other_count c.args.other_first c.requires.range c.requires.other c.clamped.ensures c.clamped-2.ensures).2
