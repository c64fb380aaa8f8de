-- Two rectangles meet exactly where some pixel lies in both.
use Rattle.std.proofs.Common.{◌≡◌, ℕ, ℤ, pos, ◌+ℤ◌, ◌≤ℤ◌, ◌<ℤ◌, Bool, true, false, ◌&&◌, ◌↔◌, IsTrue, refl, sym, ap, ◌∙◌, arith}
use Rattle.std.specs.Int.{int_max, int_min}
use Rattle.std.specs.Int.Signed.{lt_z}
use Rattle.std.proofs.lemmas.Int.{ints, clamps}
use Rattle.icet_model.specs.declared.names.Rect.{Rect}
use Rattle.icet_scene_model.specs.Boxes.{right_of, bottom_of, Meet, meets}
use Rattle.icet_scene_model.proofs.Overlaps.{pixel_meets}

-- the test whether two ranges share a number, each from its first on
abbrev pub overlap_of : ℤ → ℕ → ℤ → ℕ → Bool
overlap_of first count other_first other_count = lt_z (int_max first other_first) (int_min (first +ℤ pos count) (other_first +ℤ pos other_count))

-- the later start lies in both ranges
starts_in_both : (a b c d : ℤ) → lt_z (int_max a c) (int_min b d) ≡ true → (a ≤ℤ int_max a c) × (int_max a c <ℤ b) × (c ≤ℤ int_max a c) × (int_max a c <ℤ d)
starts_in_both a b c d h = (omega (arith, ints, clamps), omega (arith, ints, clamps), omega (arith, ints, clamps), omega (arith, ints, clamps))

both : (p q : Bool) → p && q ≡ true → (p ≡ true) × (q ≡ true)
both true q h = (refl, h)
both false q h = cc

-- the pixel at the later left edge and the lower top edge lies in both
meets_pixel : (one other : Rect) → meets one other ≡ true → Meet one other
meets_pixel one other h =
    let split = both _ _ h in
    let across = starts_in_both one.x (right_of one) other.x (right_of other) split.0 in
    let down = starts_in_both one.y (bottom_of one) other.y (bottom_of other) split.1 in
    record {
      x = int_max one.x other.x;
      y = int_max one.y other.y;
      in_one = record { left = across.0; right = across.1; top = down.0; bottom = down.1 };
      in_other = record { left = across.2; right = across.3; top = down.2; bottom = down.3 };
    }

pub meet_exactly : (answer : Bool) (one other : Rect) → answer ≡ meets one other → IsTrue answer ↔ Meet one other
meet_exactly answer one other e = (λ t. meets_pixel one other (sym e ∙ t), λ m. e ∙ pixel_meets one other m.x m.y m.in_one m.in_other)

-- where the columns overlap it is for the rows to say whether the rectangles meet, and else they don't
pub met_by_rows : (one other : Rect) (across down : Bool) → across ≡ overlap_of one.x one.w other.x other.w → across ≡ true → down ≡ overlap_of one.y one.h other.y other.h → down ≡ meets one other
met_by_rows one other across down a is d = d ∙ ap (λ b. b && overlap_of one.y one.h other.y other.h) (sym is ∙ a)

pub apart_by_columns : (one other : Rect) (across : Bool) → across ≡ overlap_of one.x one.w other.x other.w → across ≡ false → across ≡ meets one other
apart_by_columns one other across a is = is ∙ ap (λ b. b && overlap_of one.y one.h other.y other.h) (sym is ∙ a)
