-- The first place of a byte, as the search for it describes it.
use Rattle.std.proofs.Common.{◌≡◌, ℕ, Bool, true, false, List, Option, None, Some, length, get_or, refl, arith}
use Rattle.std.specs.Prelude.{◌==◌, nat_lt}
use Rattle.std.specs.List.{position}
use Rattle.std.proofs.lemmas.Bool.Decides.{nat_tests}
use Rattle.std.proofs.lemmas.List.Sums.{position_or_len_is}
use Rattle.memchr.specs.Find.{IsFirstByte, is_byte}

fails : (b : Bool) → ¬ (b ≡ true) → b ≡ false
fails true n = absurd (n refl)
fails false n = refl

-- the first place that the search found, or none
pub first_byte : (byte : ℕ) (xs : List ℕ) (r : Option ℕ) → IsFirstByte (is_byte byte) xs r → r ≡ position (λ b. b == byte) xs
first_byte byte xs None h =
    let e = position_or_len_is (λ b. b == byte) xs (length xs) 0 (omega arith) (λ k l. fails (get_or xs k 0 == byte) (h k (omega arith) l)) (λ l. absurd (omega (arith, l))) in
    let no : nat_lt (length xs) (length xs) ≡ false = grind (arith, nat_tests) in
    rw (e, no) refl
first_byte byte xs (Some at) h =
    let e = position_or_len_is (λ b. b == byte) xs at 0 (omega (arith, h.0.high)) (λ k l. fails (get_or xs k 0 == byte) (h.0.before k (omega arith) l)) (λ l. h.1) in
    let yes : nat_lt at (length xs) ≡ true = grind (arith, nat_tests, h.0.high) in
    rw (e, yes) refl
