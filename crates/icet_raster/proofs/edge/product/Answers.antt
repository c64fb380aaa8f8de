use Rattle.std.proofs.Common.{◌≡◌, ◌≤◌, ◌*ℤ◌, ℤ, unsigned_abs, FitsSigned, w64, to_z, of_z, arith}
use Rattle.std.proofs.lemmas.Int.{fits_signed_mul, to_z-of_z, unsigned_abs-mul}
use Rattle.std.proofs.lemmas.Nat.{mul-le}
use Rattle.icet_raster.proofs.edge.product.Goals as goal

there_and_back : (a b : ℤ) → FitsSigned w64 a → FitsSigned w64 b → unsigned_abs a ≤ 524286 → unsigned_abs b ≤ 524286 → to_z w64 (of_z w64 (to_z w64 (of_z w64 a) *ℤ to_z w64 (of_z w64 b))) ≡ a *ℤ b
there_and_back a b f g h k =
    let fits = fits_signed_mul w64 a b 524286 524286 h k (omega arith) in
    let e = to_z-of_z w64 a f in
    let d = to_z-of_z w64 b g in
    rw (e, d) (to_z-of_z w64 (a *ℤ b) fits)

pub returns-clause-value : goal.returns-clause-value
returns-clause-value c = there_and_back c.args.one c.args.other c.ranges.one c.ranges.other c.requires.one c.requires.other

pub returns-clause-small : goal.returns-clause-small
returns-clause-small c =
    let e = there_and_back c.args.one c.args.other c.ranges.one c.ranges.other c.requires.one c.requires.other in
    rw e (rw (unsigned_abs-mul c.args.one c.args.other) (omega (arith, mul-le (unsigned_abs c.args.one) (unsigned_abs c.args.other) 524286 524286 c.requires.one c.requires.other)))
