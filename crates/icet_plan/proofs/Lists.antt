-- Lists: what holds of each element, filters, and one list split in two ways.
use Rattle.std.proofs.Common.{◌≡◌, ℕ, zero, suc, ◌<◌, ◌≤◌, Bool, true, false, cond, List, [], ◌∷◌, ◌++◌, map, length, take, drop, refl, ap, subst, arith, Some, None}
use Rattle.std.specs.List.{AllByRecursion, filter, slice_get}

pub all_weaker : {X : Type 0} (P Q : X → Type 0) → ((x : X) → P x → Q x) → (xs : List X) → AllByRecursion P xs → AllByRecursion Q xs
all_weaker P Q f [] h = tt
all_weaker P Q f (x ∷ xs) h = (f x h.0, all_weaker P Q f xs h.1)

pub all_take : {X : Type 0} (P : X → Type 0) (n : ℕ) (xs : List X) → AllByRecursion P xs → AllByRecursion P (take n xs)
all_take P zero xs h = tt
all_take P (suc n) [] h = tt
all_take P (suc n) (x ∷ xs) h = (h.0, all_take P n xs h.1)

pub all_drop : {X : Type 0} (P : X → Type 0) (n : ℕ) (xs : List X) → AllByRecursion P xs → AllByRecursion P (drop n xs)
all_drop P zero xs h = h
all_drop P (suc n) [] h = tt
all_drop P (suc n) (x ∷ xs) h = all_drop P n xs h.1

pub all_get : {X : Type 0} (P : X → Type 0) (xs : List X) (n : ℕ) (x : X) → slice_get xs n ≡ Some x → AllByRecursion P xs → P x
all_get P [] n x e h = absurd (cc)
all_get P (y ∷ xs) zero x e h = subst P (cc) h.0
all_get P (y ∷ xs) (suc n) x e h = all_get P xs n x e h.1

-- what holds of each that passes
pub all_filter : {X : Type 0} (P Q : X → Type 0) (p : X → Bool) → ((x : X) → p x ≡ true → P x → Q x) → (xs : List X) → AllByRecursion P xs → AllByRecursion Q (filter p xs)
all_filter P Q p f [] h = tt
all_filter {X} P Q p f (x ∷ xs) h = go (p x) refl (all_filter P Q p f xs h.1)
  where
    go : (b : Bool) → p x ≡ b → AllByRecursion Q (filter p xs) → AllByRecursion Q (cond b (x ∷ filter p xs) (filter p xs))
    go true e r = (f x e h.0, r)
    go false e r = r

pub all_map : {X Y : Type 0} (P : Y → Type 0) (f : X → Y) (xs : List X) → AllByRecursion (λ x. P (f x)) xs → AllByRecursion P (map f xs)
all_map P f [] h = tt
all_map P f (x ∷ xs) h = (h.0, all_map P f xs h.1)

pub filter-append : {X : Type 0} (p : X → Bool) (xs ys : List X) → filter p (xs ++ ys) ≡ filter p xs ++ filter p ys
filter-append p [] ys = refl
filter-append p (x ∷ xs) ys = go (p x) (filter-append p xs ys)
  where
    go : (b : Bool) → filter p (xs ++ ys) ≡ filter p xs ++ filter p ys → cond b (x ∷ filter p (xs ++ ys)) (filter p (xs ++ ys)) ≡ cond b (x ∷ filter p xs) (filter p xs) ++ filter p ys
    go true e = ap (λ r. x ∷ r) e
    go false e = e

abbrev pub IfHead : {X : Type 0} → (X → Type 0) → List X → Type 0
IfHead P [] = ⊥
IfHead P (x ∷ xs) = P x

-- one list split in two ways: the element behind the shorter front lies in the longer front
pub behind_front : {X : Type 0} (P : X → Type 0) (a b c d : List X) → a ++ b ≡ c ++ d → length c < length a → AllByRecursion P a → IfHead P d
behind_front P [] b c d e l h = absurd (omega arith)
behind_front P (x ∷ a) b [] d e l h = subst (IfHead P) e h.0
behind_front P (x ∷ a) b (y ∷ c) d e l h = behind_front P a b c d (cc) (omega arith) h.1

pub slice_first : {X : Type 0} (c d : ℕ) (xs : List X) (x : X) (rest : List X) → drop c (take d xs) ≡ x ∷ rest → (slice_get xs c ≡ Some x) × (c < d)
slice_first c zero xs x rest e = absurd (go c e)
  where
    go : (c : ℕ) → drop c [] ≡ x ∷ rest → ⊥
    go zero e = cc
    go (suc c) e = cc
slice_first c (suc d) [] x rest e = absurd (go c e)
  where
    go : (c : ℕ) → drop c [] ≡ x ∷ rest → ⊥
    go zero e = cc
    go (suc c) e = cc
slice_first zero (suc d) (y ∷ xs) x rest e = (cc, omega arith)
slice_first (suc c) (suc d) (y ∷ xs) x rest e = let h = slice_first c d xs x rest e in (h.0, omega (arith, h.1))

-- the part from c to d and the rest are all from c
pub slice_rest : {X : Type 0} (c d : ℕ) (xs : List X) → c ≤ d → drop c xs ≡ drop c (take d xs) ++ drop d xs
slice_rest zero zero xs l = refl
slice_rest (suc c) zero xs l = absurd (omega arith)
slice_rest zero (suc d) [] l = refl
slice_rest (suc c) (suc d) [] l = refl
slice_rest zero (suc d) (x ∷ xs) l = ap (λ r. x ∷ r) (slice_rest zero d xs (omega arith))
slice_rest (suc c) (suc d) (x ∷ xs) l = slice_rest c d xs (omega arith)

pub slice_front : {X : Type 0} (c d : ℕ) (xs : List X) → c ≤ d → take d xs ≡ take c xs ++ drop c (take d xs)
slice_front zero d xs l = refl
slice_front (suc c) zero xs l = absurd (omega arith)
slice_front (suc c) (suc d) [] l = refl
slice_front (suc c) (suc d) (x ∷ xs) l = ap (λ r. x ∷ r) (slice_front c d xs (omega arith))

pub take_past_suc : {X : Type 0} (es : List X) (c : ℕ) → slice_get es c ≡ None → take (suc c) es ≡ take c es
take_past_suc [] zero h = refl
take_past_suc [] (suc c) h = refl
take_past_suc (f ∷ es) zero h = absurd (cc)
take_past_suc (f ∷ es) (suc c) h = ap (λ r. f ∷ r) (take_past_suc es c h)

pub slice_get_append : {X : Type 0} (xs ys : List X) (j : ℕ) → j < length xs → slice_get (xs ++ ys) j ≡ slice_get xs j
slice_get_append [] ys j l = absurd (omega arith)
slice_get_append (x ∷ xs) ys zero l = refl
slice_get_append (x ∷ xs) ys (suc j) l = slice_get_append xs ys j (omega arith)

pub all_front : {X : Type 0} (P : X → Type 0) (xs ys : List X) → AllByRecursion P (xs ++ ys) → AllByRecursion P xs
all_front P [] ys h = tt
all_front P (x ∷ xs) ys h = (h.0, all_front P xs ys h.1)

pub all_back : {X : Type 0} (P : X → Type 0) (xs ys : List X) → AllByRecursion P (xs ++ ys) → AllByRecursion P ys
all_back P [] ys h = h
all_back P (x ∷ xs) ys h = all_back P xs ys h.1
