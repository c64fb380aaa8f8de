-- Lists, as all crates need them.
use Rattle.std.proofs.Common.{◌≡◌, ℕ, zero, suc, ◌+◌, ◌<◌, Bool, true, false, List, [], ◌∷◌, ◌++◌, map, length, take, get_or, refl, ap, ◌∙◌, arith, Some, add-one}
use Rattle.std.specs.Prelude.{◌||◌, AllPairs, slice_get}
use Rattle.std.specs.List.{AllByRecursion, All, list_any, range_with_len}
use Rattle.std.proofs.lemmas.List.Elements.{All-head, All-tail}

-- nothing holds two elements of a list without any
pub no_pairs : {X : Type 0} (R : X → X → Type 0) → AllPairs R []
no_pairs R i j d l m = absurd (omega arith)

-- what holds of each element, said one after the other
pub all_in_turn : {X : Type 0} (P : X → Type 0) (xs : List X) → All P xs → AllByRecursion P xs
all_in_turn P [] h = tt
all_in_turn P (x ∷ xs) h = (All-head P x xs h, all_in_turn P xs (All-tail P x xs h))

-- what holds of each element holds of the one of a place
pub all_at : {X : Type 0} (P : X → Type 0) (xs : List X) (k : ℕ) (d : X) → AllByRecursion P xs → k < length xs → P (get_or xs k d)
all_at P [] k d a l = absurd (omega (arith, l))
all_at P (x ∷ xs) zero d a l = a.0
all_at P (x ∷ xs) (suc k) d a l = all_at P xs k d a.1 (omega (arith, l))

-- an element is the same whatever is given for places beyond the list
pub any_default : {X : Type 0} (xs : List X) (i : ℕ) (d e : X) → i < length xs → get_or xs i d ≡ get_or xs i e
any_default [] i d e l = absurd (omega (arith, l))
any_default (x ∷ xs) zero d e l = refl
any_default (x ∷ xs) (suc i) d e l = any_default xs i d e (omega (arith, l))

-- the front with one more element
pub take_next_suc : {X : Type 0} (xs : List X) (i : ℕ) (x : X) → slice_get xs i ≡ Some x → take (suc i) xs ≡ take i xs ++ x ∷ []
take_next_suc [] i x h = absurd (cc)
take_next_suc {X} (y ∷ ys) zero x h = let e : y ≡ x = cc in ap (λ (z : X). z ∷ []) e
take_next_suc (y ∷ ys) (suc i) x h = ap (λ zs. y ∷ zs) (take_next_suc ys i x h)

-- one entry more of a list that is made of a range
made_next : {X : Type 0} (f : ℕ → X) (first n : ℕ) → map f (range_with_len first (suc n)) ≡ map f (range_with_len first n) ++ f (first + n) ∷ []
made_next f first zero = ap (λ k. f k ∷ []) (let e : first ≡ first + 0 = omega arith in e)
made_next f first (suc n) = ap (λ ys. f first ∷ ys) (made_next f (first + 1) n ∙ ap (λ k. map f (range_with_len (first + 1) n) ++ f k ∷ []) (let e : first + 1 + n ≡ first + suc n = omega arith in e))

pub made_more : {X : Type 0} (f : ℕ → X) (n : ℕ) → map f (range_with_len 0 (n + 1)) ≡ map f (range_with_len 0 n) ++ f n ∷ []
made_more f n = rw add-one (made_next f 0 n ∙ ap (λ k. map f (range_with_len 0 n) ++ f k ∷ []) (let z : 0 + n ≡ n = omega arith in z))

-- a test that some element passes, where the last one is looked at first
or_swapped : (x y z : Bool) → (x || (y || z)) ≡ (y || (x || z))
or_swapped true true z = refl
or_swapped true false z = refl
or_swapped false y z = refl

pub any_last : {X : Type 0} (p : X → Bool) (xs : List X) (y : X) → list_any p (xs ++ y ∷ []) ≡ (p y || list_any p xs)
any_last p [] y = refl
any_last p (x ∷ xs) y = ap (λ b. p x || b) (any_last p xs y) ∙ or_swapped (p x) (p y) (list_any p xs)
