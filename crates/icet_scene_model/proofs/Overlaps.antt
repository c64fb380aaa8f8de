-- Ranges and rectangles with something in both.
use Rattle.std.proofs.Common.{◌≡◌, ℤ, ◌≤ℤ◌, ◌<ℤ◌, true, refl, arith}
use Rattle.std.specs.Int.{int_max, int_min}
use Rattle.std.specs.Int.Signed.{lt_z}
use Rattle.std.proofs.lemmas.Int.{ints, clamps}
use Rattle.icet_model.specs.declared.names.Rect.{Rect}
use Rattle.icet_scene_model.specs.Boxes.{right_of, bottom_of, HasPixel, meets}

-- ranges with a number in both overlap
one_in_both : (a b c d z : ℤ) → a ≤ℤ z → z <ℤ b → c ≤ℤ z → z <ℤ d → lt_z (int_max a c) (int_min b d) ≡ true
one_in_both a b c d z p q r s = grind (arith, ints, clamps)

-- rectangles with a pixel in both meet
pub pixel_meets : (one other : Rect) (x y : ℤ) → HasPixel one x y → HasPixel other x y → meets one other ≡ true
pixel_meets one other x y g h =
    let across = one_in_both one.x (right_of one) other.x (right_of other) x g.left g.right h.left h.right in
    let down = one_in_both one.y (bottom_of one) other.y (bottom_of other) y g.top g.bottom h.top h.bottom in
    rw (across, down) refl
