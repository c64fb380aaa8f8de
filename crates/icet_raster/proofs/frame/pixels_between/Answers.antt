use Rattle.std.proofs.Common.{◌≡◌, ◌≤ℤ◌, ◌∙◌, ℕ, ℤ, pos, neg_ℤ, ◌+ℤ◌, ◌-ℤ◌, unsigned_abs, ap, arith, w32, to_z, of_z, rules}
use Rattle.std.proofs.lemmas.Int.{ints}
use Rattle.std.specs.Int.{int_gap}
use Rattle.icet_scene_model.specs.Boxes.{least, greatest, pixel_of}
use Rattle.icet_raster.specs.Boxes.{IsSpan}
use Rattle.icet_raster.proofs.CoveredInFrame.{ends}
use Rattle.icet_raster.proofs.Hulls.{gap_is}
use Rattle.icet_raster.proofs.frame.pixels_between.Goals as goal

-- from the first pixel up to the last, which doesn't lie before it
counted : (first last : ℤ) (count : ℕ) → first ≤ℤ last → neg_ℤ (pos 16384) ≤ℤ first → last ≤ℤ pos 16383 → count ≡ unsigned_abs ((last +ℤ pos 1) -ℤ first) → IsSpan first count × (count ≡ int_gap first (last +ℤ pos 1))
counted first last count h l g e =
    (record { least = l; some = omega (arith, ints); within = omega (arith, ints) }, e ∙ gap_is first (last +ℤ pos 1) (omega (arith, ints)))

pub returns-clause-first : goal.returns-clause-first
returns-clause-first c =
    let l : c.least_of.result ≡ least c.args.a c.args.b c.args.c = search rules in
    let e : to_z w32 (of_z w32 c.pixel_of-first.result) ≡ c.pixel_of-first.result = omega (arith, ints) in
    let f : to_z w32 (of_z w32 c.least_of.result) ≡ c.least_of.result = omega (arith, ints) in
    e ∙ c.pixel_of-first.ensures.value ∙ ap pixel_of (f ∙ l)

pub returns-clause-count : goal.returns-clause-count
returns-clause-count c =
    let l : c.least_of.result ≡ least c.args.a c.args.b c.args.c = search rules in
    let g : c.greatest_of.result ≡ greatest c.args.a c.args.b c.args.c = search rules in
    let f : to_z w32 (of_z w32 c.least_of.result) ≡ c.least_of.result = omega (arith, ints) in
    let h : to_z w32 (of_z w32 c.greatest_of.result) ≡ c.greatest_of.result = omega (arith, ints) in
    let first = c.pixel_of-first.ensures.value ∙ ap pixel_of (f ∙ l) in
    let last = c.pixel_of-last.ensures.value ∙ ap pixel_of (h ∙ g) in
    let d : c.abs_diff.result ≡ unsigned_abs ((c.pixel_of-last.result +ℤ pos 1) -ℤ c.pixel_of-first.result) = omega (arith, ints) in
    let o : c.pixel_of-first.result ≤ℤ c.pixel_of-last.result = rw (first, last) (ends c.args.a c.args.b c.args.c) in
    let n = counted c.pixel_of-first.result c.pixel_of-last.result c.abs_diff.result o c.pixel_of-first.ensures.least c.pixel_of-last.ensures.greatest d in
    n.1 ∙ ap (λ v. int_gap v (c.pixel_of-last.result +ℤ pos 1)) first ∙ ap (λ v. int_gap (pixel_of (least c.args.a c.args.b c.args.c)) (v +ℤ pos 1)) last

pub returns-clause-span : goal.returns-clause-span
returns-clause-span c =
    let l : c.least_of.result ≡ least c.args.a c.args.b c.args.c = search rules in
    let g : c.greatest_of.result ≡ greatest c.args.a c.args.b c.args.c = search rules in
    let e : to_z w32 (of_z w32 c.pixel_of-first.result) ≡ c.pixel_of-first.result = omega (arith, ints) in
    let f : to_z w32 (of_z w32 c.least_of.result) ≡ c.least_of.result = omega (arith, ints) in
    let h : to_z w32 (of_z w32 c.greatest_of.result) ≡ c.greatest_of.result = omega (arith, ints) in
    let first = c.pixel_of-first.ensures.value ∙ ap pixel_of (f ∙ l) in
    let last = c.pixel_of-last.ensures.value ∙ ap pixel_of (h ∙ g) in
    let d : c.abs_diff.result ≡ unsigned_abs ((c.pixel_of-last.result +ℤ pos 1) -ℤ c.pixel_of-first.result) = omega (arith, ints) in
    let o : c.pixel_of-first.result ≤ℤ c.pixel_of-last.result = rw (first, last) (ends c.args.a c.args.b c.args.c) in
    let n = counted c.pixel_of-first.result c.pixel_of-last.result c.abs_diff.result o c.pixel_of-first.ensures.least c.pixel_of-last.ensures.greatest d in
    rw e n.0
