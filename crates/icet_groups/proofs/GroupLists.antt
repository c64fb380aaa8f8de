-- Lists of groups grow by one rank or one group.
use Rattle.std.proofs.Common.{◌≡◌, ℕ, zero, suc, ◌+◌, Bool, cond, List, [], ◌∷◌, ◌++◌, map, sym, ap, ◌∙◌, arith, add-one}
use Rattle.std.proofs.lemmas.List.Elements.{filter-append}
use Rattle.std.proofs.lemmas.List.FromFn.{map-range_with_len_more}
use Rattle.std.proofs.lemmas.List.{map-append}
use Rattle.std.specs.Prelude.{filter}
use Rattle.std.specs.List.{range_with_len}

pub range_more : (a n : ℕ) → range_with_len a (suc n) ≡ range_with_len a n ++ (a + n) ∷ []
range_more a zero = ap (λ z. z ∷ []) (let e : a ≡ a + 0 = omega arith in e)
range_more a (suc n) =
    let e : a + 1 + n ≡ a + suc n = omega arith in
    ap (λ z. a ∷ z) (range_more (a + 1) n) ∙ ap (λ z. a ∷ range_with_len (a + 1) n ++ z ∷ []) e

pub members_more : (p : ℕ → Bool) (r : ℕ) (old new : List ℕ) → old ≡ filter p (range_with_len 0 r) → new ≡ old ++ cond (p r) (r ∷ []) [] → new ≡ filter p (range_with_len 0 (r + 1))
members_more p r old new h k =
    let e : 0 + r ≡ r = omega arith in
    rw add-one (k ∙ (ap (λ z. z ++ cond (p r) (r ∷ []) []) h ∙ (sym (filter-append p (range_with_len 0 r) (r ∷ [])) ∙ (ap (λ z. filter p (range_with_len 0 r ++ z ∷ [])) (sym e) ∙ ap (filter p) (sym (range_more 0 r))))))

pub lists_more : {V : Type 0} (f : V → List ℕ) (g : ℕ → List ℕ) (t : ℕ) (old new : List V) (x : V) → new ≡ old ++ x ∷ [] → map f old ≡ map g (range_with_len 0 t) → f x ≡ g t → map f new ≡ map g (range_with_len 0 (t + 1))
lists_more f g t old new x e h k =
    ap (map f) e ∙ (map-append f old (x ∷ []) ∙ (ap (λ z. z ++ f x ∷ []) h ∙ (ap (λ z. map g (range_with_len 0 t) ++ z ∷ []) k ∙ sym (map-range_with_len_more g 0 t t (omega arith)))))
