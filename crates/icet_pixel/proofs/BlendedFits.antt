-- A blended channel fits 16 bits, and the alpha of narrow pixels stays narrow.
use Rattle.std.proofs.Common.{ℕ, ◌-◌, ◌*◌, ◌/◌, ◌<◌, ◌≤◌, min, inl, inr, arith}
use Rattle.std.proofs.Math.Nat.{mul-le-mul_right, div-le_of_le-mul}
use Rattle.icet_model.specs.Pixel.{blended}
use Rattle.icet_pixel.specs.Blending.{IsOpaque}

-- what shows of the back is at most so many times what the front lets through
shown_within : (most steps back shown : ℕ) → back ≤ most * steps → back * shown / most ≤ steps * shown
shown_within most steps back shown h = div-le_of_le-mul most (omega (arith, mul-le-mul_right shown h))

narrow_fits : (alpha front back : ℕ) → front ≤ alpha → alpha ≤ 65535 → back ≤ 65535 → blended 255 alpha front back < 65536
narrow_fits alpha front back f a b = omega (arith, shown_within 255 257 back (255 - min alpha 255) (omega arith))

wide_fits : (alpha front back : ℕ) → front ≤ alpha → alpha ≤ 65535 → back ≤ 65535 → blended 65535 alpha front back < 65536
wide_fits alpha front back f a b = omega (arith, shown_within 65535 1 back (65535 - min alpha 65535) (omega arith))

pub fits : (most alpha front back : ℕ) → IsOpaque most → front ≤ alpha → alpha ≤ 65535 → back ≤ 65535 → blended most alpha front back < 65536
fits most alpha front back (inl e) f a b = rw e (narrow_fits alpha front back f a b)
fits most alpha front back (inr e) f a b = rw e (wide_fits alpha front back f a b)

pub narrow_stays : (front back : ℕ) → front ≤ 255 → back ≤ 255 → blended 255 front front back ≤ 255
narrow_stays front back f b = omega (arith, shown_within 255 1 back (255 - min front 255) (omega arith))
