-- Lists one behind the other: their images, and exchanges that rise.
use Rattle.std.proofs.Common.{◌≡◌, ◌≢◌, ℕ, zero, suc, ◌<◌, ◌≤◌, List, [], ◌∷◌, ◌++◌, refl, ap, ◌∙◌, arith, ⊎_elim}
use Rattle.std.proofs.lemmas.List.{append-nil}
use Rattle.std.specs.Prelude.{◌⊎◌}
use Rattle.std.specs.List.{AllByRecursion}
use Rattle.icet_model.specs.declared.exchange.Exchange.{Exchange}
use Rattle.icet_model.specs.Exchange.{Follows, IsRising}
use Rattle.icet_plan.specs.Each.{each}
use Rattle.icet_plan.proofs.Lists.{all_weaker}
use Rattle.icet_plan.proofs.Segments.{all_append}

-- an image of lists that goes through appending
pub each_image : {A B : Type 0} (g : List A → List B) → g [] ≡ [] → ((xs ys : List A) → g (xs ++ ys) ≡ g xs ++ g ys) → (f : ℕ → List A) (h : ℕ → List B) (k : ℕ) → ((b : ℕ) → b < k → g (f b) ≡ h b) → g (each f k) ≡ each h k
each_image g nil append f h zero same = nil
each_image g nil append f h (suc k) same = append (each f k) (f k) ∙ (ap (λ z. z ++ g (f k)) (each_image g nil append f h k (λ b l. same b (omega (arith, l)))) ∙ ap (λ z. each h k ++ z) (same k (omega arith)))

pub each_none : {A : Type 0} (f : ℕ → List A) (k : ℕ) → ((b : ℕ) → b < k → f b ≡ []) → each f k ≡ []
each_none f zero none = refl
each_none f (suc k) none = ap (λ z. z ++ f k) (each_none f k (λ b l. none b (omega (arith, l)))) ∙ none k (omega arith)

-- where all but one are empty
pub each_one : {A : Type 0} (f : ℕ → List A) (t k : ℕ) → t < k → ((b : ℕ) → b < k → b ≢ t → f b ≡ []) → each f k ≡ f t
each_one f t zero l none = absurd (omega (arith, l))
each_one f t (suc k) l none = ⊎_elim
    (λ (s : k ≡ t). ap (λ z. z ++ f k) (each_none f k (λ b m. none b (omega (arith, m)) (λ e. absurd (omega (arith, e, m, s))))) ∙ ap f s)
    (λ (n : k ≢ t). ap (λ z. each f k ++ z) (none k (omega arith) n) ∙ (append-nil (each f k) ∙ each_one f t k (omega (arith, n, l)) (λ b m. none b (omega (arith, m)))))
    (let s : (k ≡ t) ⊎ (k ≢ t) = grind arith in s)

pub rising_both : (xs ys : List Exchange) → IsRising xs → IsRising ys → AllByRecursion (λ e. AllByRecursion (Follows e) ys) xs → IsRising (xs ++ ys)
rising_both [] ys f g h = g
rising_both (e ∷ xs) ys f g h = (all_append (Follows e) xs ys f.0 h.0, rising_both xs ys f.1 g h.1)

module _ (P : ℕ → Exchange → Type 0) (f : ℕ → List Exchange) where
  before : (k j : ℕ) → j ≤ k → ((b : ℕ) → b ≤ k → AllByRecursion (P b) (f b)) → ((a : ℕ) (e x : Exchange) → a < k → P a e → P k x → Follows e x) → AllByRecursion (λ e. AllByRecursion (Follows e) (f k)) (each f j)
  before k zero l all follow = tt
  before k (suc j) l all follow =
      all_append (λ e. AllByRecursion (Follows e) (f k)) (each f j) (f j) (before k j (omega (arith, l)) all follow)
      (all_weaker (P j) (λ e. AllByRecursion (Follows e) (f k)) (λ e p. all_weaker (P k) (Follows e) (λ x q. follow j e x (omega (arith, l)) p q) (f k) (all k (omega arith))) (f j) (all j (omega (arith, l))))

  -- lists that rise, of which each may stand behind all before it
  pub rising_each : (k : ℕ) → ((b : ℕ) → b < k → IsRising (f b)) → ((b : ℕ) → b < k → AllByRecursion (P b) (f b)) → ((a b : ℕ) (e x : Exchange) → a < b → b < k → P a e → P b x → Follows e x) → IsRising (each f k)
  rising_each zero rise all follow = tt
  rising_each (suc k) rise all follow =
      rising_both (each f k) (f k)
      (rising_each k (λ b l. rise b (omega (arith, l))) (λ b l. all b (omega (arith, l))) (λ a b e x l m. follow a b e x l (omega (arith, m))))
      (rise k (omega arith))
      (before k k (omega arith) (λ b l. all b (omega (arith, l))) (λ a e x l p q. follow a k e x l (omega arith) p q))
