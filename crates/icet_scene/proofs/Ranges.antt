-- Numbers in a row.
use Rattle.std.proofs.Common.{◌≡◌, ℕ, zero, suc, ◌+◌, List, [], ◌∷◌, ◌++◌, length, Some, ap, ◌∙◌, arith, add-one}
use Rattle.std.specs.List.{range_with_len, slice_get}

more_from : (a n : ℕ) → range_with_len a (suc n) ≡ range_with_len a n ++ (a + n) ∷ []
more_from a zero = ap (λ x. x ∷ []) (let e : a ≡ a + 0 = omega arith in e)
more_from a (suc n) = ap (λ xs. a ∷ xs) (more_from (a + 1) n) ∙ ap (λ x. (a ∷ range_with_len (a + 1) n) ++ x ∷ []) (let e : a + 1 + n ≡ a + suc n = omega arith in e)

pub range_more : (n : ℕ) → range_with_len 0 (n + 1) ≡ range_with_len 0 n ++ n ∷ []
range_more n = ap (range_with_len 0) (add-one n) ∙ more_from 0 n ∙ ap (λ x. range_with_len 0 n ++ x ∷ []) (let e : 0 + n ≡ n = omega arith in e)

-- a list of one element
pub one_element : {X : Type 0} (xs : List X) (x : X) → length xs ≡ 1 → slice_get xs 0 ≡ Some x → xs ≡ x ∷ []
one_element [] x l e = absurd cc
one_element (y ∷ []) x l e = let same : y ≡ x = cc in ap (λ z. z ∷ []) same
one_element (y ∷ z ∷ xs) x l e = absurd (omega arith)
