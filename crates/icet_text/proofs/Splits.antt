-- A text cut at the first place of a byte: a line at its first space, a text at its first newline.
use Rattle.std.proofs.Common.{◌≡◌, ℕ, suc, ◌+◌, ◌<◌, ◌≤◌, Bool, true, false, cond, List, [], ◌∷◌, length, take, drop, refl, sym, ap, ◌∙◌, arith, Some, None}
use Rattle.std.specs.Prelude.{◌==◌, nat_lt}
use Rattle.std.specs.List.{slice_split, onto_first, position, position_or_len}
use Rattle.std.proofs.lemmas.List.Splits.{slice_split_first}
use Rattle.std.proofs.lemmas.Bool.Decides.{nat_tests}
use Rattle.icet_text.specs.Lines.{lines_of, words_of}

some_at : (b : Bool) (n at : ℕ) → cond b (Some n) None ≡ Some at → (b ≡ true) × (n ≡ at)
some_at true n at e = (refl, cc)
some_at false n at e = absurd cc

none_at : (b : Bool) (n : ℕ) → cond b (Some n) None ≡ None → b ≡ false
none_at true n e = absurd cc
none_at false n e = refl

-- the first place where the test passes
pub position_some : (p : ℕ → Bool) (xs : List ℕ) (at : ℕ) → position p xs ≡ Some at → (position_or_len p xs ≡ at) × (position_or_len p xs < length xs)
position_some p xs at e =
    let h = some_at (nat_lt (position_or_len p xs) (length xs)) (position_or_len p xs) at e in
    (h.1, grind (arith, nat_tests, h.0))

pub position_none : (p : ℕ → Bool) (xs : List ℕ) → position p xs ≡ None → length xs ≤ position_or_len p xs
position_none p xs e =
    let h = none_at (nat_lt (position_or_len p xs) (length xs)) (position_or_len p xs) e in
    grind (arith, nat_tests, h)

-- a list where the test passes nowhere is the one part
pub split_whole : (p : ℕ → Bool) (xs : List ℕ) → length xs ≤ position_or_len p xs → slice_split p xs ≡ xs ∷ []
split_whole p [] l = refl
split_whole p (x ∷ xs) l = go (p x) refl (split_whole p xs)
  where
    go : (b : Bool) → p x ≡ b → (length xs ≤ position_or_len p xs → slice_split p xs ≡ xs ∷ []) → slice_split p (x ∷ xs) ≡ (x ∷ xs) ∷ []
    go true e rest = absurd (let z : position_or_len p (x ∷ xs) ≡ 0 = rw e refl in omega (arith, z))
    go false e rest =
        let z : position_or_len p (x ∷ xs) ≡ 1 + position_or_len p xs = rw e refl in
        let s : slice_split p (x ∷ xs) ≡ onto_first x (slice_split p xs) = rw e refl in
        s ∙ ap (onto_first x) (rest (omega (arith, z)))

-- the words of a line with no space
pub words_none : (line : List ℕ) → position (λ b. b == 32) line ≡ None → words_of line ≡ line ∷ []
words_none line e = split_whole (λ b. b == 32) line (position_none (λ b. b == 32) line e)

-- the words of a line whose first space stands at this place
pub words_some : (line : List ℕ) (at : ℕ) → position (λ b. b == 32) line ≡ Some at → words_of line ≡ take at line ∷ words_of (drop (at + 1) line)
words_some line at e =
    let h = position_some (λ b. b == 32) line at e in
    slice_split_first (λ b. b == 32) line 0 h.1 ∙ ap (λ n. take n line ∷ words_of (drop (n + 1) line)) h.0

lines_whole : (xs : List ℕ) (x : ℕ) → length (x ∷ xs) ≤ position_or_len (λ b. b == 10) (x ∷ xs) → lines_of (x ∷ xs) ≡ (x ∷ xs) ∷ []
lines_whole [] x l = go (x == 10) refl
  where
    go : (b : Bool) → (x == 10) ≡ b → lines_of (x ∷ []) ≡ (x ∷ []) ∷ []
    go true e = absurd (let z : position_or_len (λ b. b == 10) (x ∷ []) ≡ 0 = rw e refl in omega (arith, z))
    go false e = rw e refl
lines_whole (y ∷ ys) x l = go (x == 10) refl (lines_whole ys y)
  where
    go : (b : Bool) → (x == 10) ≡ b → (length (y ∷ ys) ≤ position_or_len (λ b. b == 10) (y ∷ ys) → lines_of (y ∷ ys) ≡ (y ∷ ys) ∷ []) → lines_of (x ∷ y ∷ ys) ≡ (x ∷ y ∷ ys) ∷ []
    go true e rest = absurd (let z : position_or_len (λ b. b == 10) (x ∷ y ∷ ys) ≡ 0 = rw e refl in omega (arith, z))
    go false e rest =
        let z : position_or_len (λ b. b == 10) (x ∷ y ∷ ys) ≡ 1 + position_or_len (λ b. b == 10) (y ∷ ys) = rw e refl in
        let s : lines_of (x ∷ y ∷ ys) ≡ onto_first x (lines_of (y ∷ ys)) = rw e refl in
        s ∙ ap (onto_first x) (rest (omega (arith, z)))

lines_cut : (xs : List ℕ) → position_or_len (λ b. b == 10) xs < length xs → lines_of xs ≡ take (position_or_len (λ b. b == 10) xs) xs ∷ lines_of (drop (position_or_len (λ b. b == 10) xs + 1) xs)
lines_cut [] l = absurd (omega arith)
lines_cut (x ∷ xs) l = go (x == 10) refl (lines_cut xs)
  where
    go : (b : Bool) → (x == 10) ≡ b → (position_or_len (λ b. b == 10) xs < length xs → lines_of xs ≡ take (position_or_len (λ b. b == 10) xs) xs ∷ lines_of (drop (position_or_len (λ b. b == 10) xs + 1) xs)) → lines_of (x ∷ xs) ≡ take (position_or_len (λ b. b == 10) (x ∷ xs)) (x ∷ xs) ∷ lines_of (drop (position_or_len (λ b. b == 10) (x ∷ xs) + 1) (x ∷ xs))
    go true e rest =
        let z : position_or_len (λ b. b == 10) (x ∷ xs) ≡ 0 = rw e refl in
        let s : lines_of (x ∷ xs) ≡ [] ∷ lines_of xs = rw e refl in
        s ∙ ap (λ n. take n (x ∷ xs) ∷ lines_of (drop (n + 1) (x ∷ xs))) (sym z)
    go false e rest =
        let z : position_or_len (λ b. b == 10) (x ∷ xs) ≡ suc (position_or_len (λ b. b == 10) xs) = rw e (omega arith) in
        let s : lines_of (x ∷ xs) ≡ onto_first x (lines_of xs) = rw e refl in
        let l' : position_or_len (λ b. b == 10) xs < length xs = omega (arith, z) in
        s ∙ ap (onto_first x) (rest l')
        ∙ ap (λ n. (x ∷ take (position_or_len (λ b. b == 10) xs) xs) ∷ lines_of (drop n (x ∷ xs))) (let e : suc (position_or_len (λ b. b == 10) xs + 1) ≡ suc (position_or_len (λ b. b == 10) xs) + 1 = omega arith in e)
        ∙ ap (λ n. take n (x ∷ xs) ∷ lines_of (drop (n + 1) (x ∷ xs))) (sym z)

-- the lines of a text with no newline
pub lines_none : (text : List ℕ) → 0 < length text → position (λ b. b == 10) text ≡ None → lines_of text ≡ text ∷ []
lines_none [] l e = absurd (omega arith)
lines_none (x ∷ xs) l e = lines_whole xs x (position_none (λ b. b == 10) (x ∷ xs) e)

-- the lines of a text whose first newline stands at this place
pub lines_some : (text : List ℕ) (at : ℕ) → position (λ b. b == 10) text ≡ Some at → lines_of text ≡ take at text ∷ lines_of (drop (at + 1) text)
lines_some text at e =
    let h = position_some (λ b. b == 10) text at e in
    lines_cut text h.1 ∙ ap (λ n. take n text ∷ lines_of (drop (n + 1) text)) h.0
