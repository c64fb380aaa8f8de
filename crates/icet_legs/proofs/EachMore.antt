-- One list more.
use Rattle.std.proofs.Common.{◌≡◌, ℕ, zero, suc, ◌+◌, ◌*◌, ◌<◌, ◌≤◌, List, ◌++◌, length, length-append, refl, sym, ap, ◌∙◌, arith, add-one}
use Rattle.std.proofs.lemmas.List.{append_assoc}
use Rattle.icet_plan.specs.Each.{each}

pub each_more : {V : Type 0} (f : ℕ → List V) (i : ℕ) → each f (i + 1) ≡ each f i ++ f i
each_more f i = rw add-one refl

pub each_same : {V : Type 0} (f h : ℕ → List V) (k : ℕ) → ((b : ℕ) → b < k → f b ≡ h b) → each f k ≡ each h k
each_same f h zero e = refl
each_same f h (suc k) e = ap (λ z. z ++ f k) (each_same f h k (λ b l. e b (omega arith))) ∙ ap (λ z. each h k ++ z) (e k (omega arith))

pub each_length : {V : Type 0} (f : ℕ → List V) (n k : ℕ) → ((i : ℕ) → i < k → length (f i) ≤ n) → length (each f k) ≤ n * k
each_length f n zero h = omega arith
each_length f n (suc k) h = let a = each_length f n k (λ i l. h i (omega arith)) in let b = h k (omega arith) in let e = length-append (each f k) (f k) in omega (arith, a, b, e)

pub each_pushed : {V : Type 0} (f : ℕ → List V) (i : ℕ) (start old new : List V) → old ≡ start ++ each f i → new ≡ old ++ f i → new ≡ start ++ each f (i + 1)
each_pushed f i start old new h k = k ∙ (ap (λ z. z ++ f i) h ∙ (append_assoc start (each f i) (f i) ∙ ap (λ z. start ++ z) (sym (each_more f i))))
