-- Folding neighbours, one bracket at a time.
use Rattle.std.proofs.Common.{◌≡◌, ℕ, zero, suc, ◌+◌, ◌-◌, ◌<◌, ◌≤◌, List, [], ◌∷◌, ◌++◌, length, take, drop, get_or, refl, sym, ap, ◌∙◌, arith, add-one}
use Rattle.std.proofs.lemmas.List.{append-nil, append_assoc}
use Rattle.icet_model.specs.BracketFold.{left, left_from}
use Rattle.icet_model.specs.declared.bracket.Bracket.{Bracket}
use Rattle.icet_model.specs.declared.bracket.Bracket.TheVariants.{Pair}
use Rattle.icet_radixk.specs.Factors.{factor_at}
use Rattle.icet_radixk.specs.Radixk.{folded, folded_by, radix_fold}
use Rattle.icet_radixk.proofs.RoundSteps.{get_any}

drop_shorter : (k : ℕ) (xs : List Bracket) → length (drop k xs) ≤ length xs
drop_shorter zero xs = omega arith
drop_shorter (suc k) [] = omega arith
drop_shorter (suc k) (x ∷ xs) = let h = drop_shorter k xs in omega (arith, h)

-- how many folds are allowed doesn't matter where they are enough
folded_fuel : (m n k : ℕ) (xs : List Bracket) → length xs ≤ m → length xs ≤ n → folded_by m (suc k) xs ≡ folded_by n (suc k) xs
folded_fuel zero zero k xs l u = refl
folded_fuel zero (suc n) k [] l u = refl
folded_fuel zero (suc n) k (x ∷ xs) l u = absurd (omega (arith, l))
folded_fuel (suc m) zero k [] l u = refl
folded_fuel (suc m) zero k (x ∷ xs) l u = absurd (omega (arith, u))
folded_fuel (suc m) (suc n) k [] l u = refl
folded_fuel (suc m) (suc n) k (x ∷ xs) l u = let d = drop_shorter k xs in ap (λ z. left (take (suc k) (x ∷ xs)) ∷ z) (folded_fuel m n k (drop k xs) (omega (arith, d, l)) (omega (arith, d, u)))

-- the first fold
folded_step : (k : ℕ) → 0 < k → (x : Bracket) (xs : List Bracket) → folded k (x ∷ xs) ≡ left_from x (take (k - 1) xs) ∷ folded k (drop (k - 1) xs)
folded_step zero l x xs = absurd (omega (arith, l))
folded_step (suc k) l x xs =
    let e : k ≡ suc k - 1 = omega arith in
    let d = drop_shorter k xs in
    ap (λ z. left_from x (take k xs) ∷ z) (folded_fuel (length xs) (length (drop k xs)) k (drop k xs) d (omega arith))
    ∙ ap (λ z. left_from x (take z xs) ∷ folded (suc k) (drop z xs)) e

pub folded_pushed : (k : ℕ) → 0 < k → (all rest whole : List Bracket) (x b : Bracket) (xs new left_over : List Bracket) → all ++ folded k rest ≡ whole → rest ≡ x ∷ xs → b ≡ left_from x (take (k - 1) xs) → left_over ≡ drop (k - 1) xs → new ≡ all ++ b ∷ [] → new ++ folded k left_over ≡ whole
folded_pushed k l all rest whole x b xs new left_over past is b_is over put =
    ap (λ z. z ++ folded k left_over) put
    ∙ (append_assoc all (b ∷ []) (folded k left_over)
    ∙ ((λ j. all ++ b_is j ∷ folded k (over j))
    ∙ (ap (λ z. all ++ z) (sym (folded_step k l x xs)) ∙ (ap (λ z. all ++ folded k z) (sym is) ∙ past))))

pub folded_end : (k : ℕ) (all rest whole : List Bracket) → all ++ folded k rest ≡ whole → rest ≡ [] → all ≡ whole
folded_end k all rest whole past is = sym (append-nil all) ∙ (ap (λ z. all ++ folded k z) (sym is) ∙ past)

-- one more of those that are folded
pub left_more : (count i : ℕ) → i < count → (first whole next : Bracket) (old rest left_over : List Bracket) → left_from first (take count old) ≡ left_from whole (take (count - i) rest) → rest ≡ next ∷ left_over → left_from first (take count old) ≡ left_from (Pair whole next) (take (count - (i + 1)) left_over)
left_more count i l first whole next old rest left_over past is =
    let e : count - i ≡ suc (count - (i + 1)) = omega (arith, l) in
    past ∙ (λ j. left_from whole (take (e j) (is j)))

pub drop_more : (count i : ℕ) → i < count → (next : Bracket) (old rest left_over : List Bracket) → drop count old ≡ drop (count - i) rest → rest ≡ next ∷ left_over → drop count old ≡ drop (count - (i + 1)) left_over
drop_more count i l next old rest left_over past is =
    let e : count - i ≡ suc (count - (i + 1)) = omega (arith, l) in
    past ∙ (λ j. drop (e j) (is j))

take_none : (n : ℕ) → take {A = Bracket} n [] ≡ []
take_none zero = refl
take_none (suc n) = refl

drop_none : (n : ℕ) → drop {A = Bracket} n [] ≡ []
drop_none zero = refl
drop_none (suc n) = refl

pub left_none : (n : ℕ) (whole : Bracket) (rest : List Bracket) → rest ≡ [] → left_from whole (take n rest) ≡ whole
left_none n whole rest is = ap (λ z. left_from whole (take n z)) is ∙ ap (left_from whole) (take_none n)

pub left_zero : (count i : ℕ) → count ≤ i → (whole : Bracket) (rest : List Bracket) → left_from whole (take (count - i) rest) ≡ whole
left_zero count i l whole rest = let e : count - i ≡ 0 = omega (arith, l) in ap (λ n. left_from whole (take n rest)) e

pub drop_zero : (count i : ℕ) → count ≤ i → (rest : List Bracket) → drop (count - i) rest ≡ rest
drop_zero count i l rest = let e : count - i ≡ 0 = omega (arith, l) in ap (λ n. drop n rest) e

pub drop_empty : (n : ℕ) (rest : List Bracket) → rest ≡ [] → drop n rest ≡ rest
drop_empty n rest is = ap (drop n) is ∙ (drop_none n ∙ sym is)

-- one factor more
pub fold_more : (fs : List ℕ) (i : ℕ) (leaves old new : List Bracket) (k : ℕ) → i < length fs → k ≡ get_or fs i 0 → old ≡ radix_fold (factor_at fs) i leaves → new ≡ folded k old → new ≡ radix_fold (factor_at fs) (i + 1) leaves
fold_more fs i leaves old new k l k_is past is = is ∙ ((λ j. folded ((k_is ∙ get_any fs i 0 1 l) j) (past j)) ∙ rw add-one refl)

pub step_pair : (count i : ℕ) → i < count → (first whole next longer : Bracket) (old rest left_over : List Bracket) → left_from first (take count old) ≡ left_from whole (take (count - i) rest) → rest ≡ next ∷ left_over → longer ≡ Pair whole next → left_from first (take count old) ≡ left_from longer (take (count - (i + 1)) left_over)
step_pair count i l first whole next longer old rest left_over past is e = left_more count i l first whole next old rest left_over past is ∙ ap (λ z. left_from z (take (count - (i + 1)) left_over)) (sym e)
