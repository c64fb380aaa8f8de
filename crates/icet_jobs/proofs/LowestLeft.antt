-- The lowest rank that has an exchange left, as a position.
use Rattle.std.proofs.Common.{◌≡◌, ℕ, zero, suc, ◌+◌, ◌<◌, Bool, true, false, not, cond, length, get_or, position, Some, None, refl, sym, ap, ◌∙◌, arith, lt-ltb, le-ltb, nat_lt, ◌++◌, codes, decimal}
use Rattle.std.specs.List.{range_with_len, prefix_len}
use Rattle.std.proofs.lemmas.List.{length-map}
use Rattle.std.proofs.lemmas.List.FromFn.{length-range_with_len}
use Rattle.icet_model.specs.Exchange.{of_rank, exchanges}
use Rattle.icet_model.specs.Core.{AllDone}
use Rattle.icet_model.specs.Replay.{last_line, lowest_left}
use Rattle.icet_plan.specs.Keeps.{CoreView, all_of, IsLowestLeft}

module _ (p : ℕ → Bool) where
  -- the first number that passes
  prefix_at : (first n r : ℕ) → r < n → p (first + r) ≡ true → ((q : ℕ) → q < r → p (first + q) ≡ false) → prefix_len (λ x. not (p x)) (range_with_len first n) ≡ r
  prefix_at first zero r l passes fails = absurd (omega arith)
  prefix_at first (suc n) zero l passes fails = ap (λ b. cond (not b) (1 + prefix_len (λ x. not (p x)) (range_with_len (first + 1) n)) 0) (ap p (let e : first ≡ first + 0 = omega arith in e) ∙ passes)
  prefix_at first (suc n) (suc r) l passes fails =
      ap (λ b. cond (not b) (1 + prefix_len (λ x. not (p x)) (range_with_len (first + 1) n)) 0) (ap p (let e : first ≡ first + 0 = omega arith in e) ∙ fails 0 (omega arith))
      ∙ ap (λ m. 1 + m) (prefix_at (first + 1) n r (omega arith) (ap p (let e : first + 1 + r ≡ first + suc r = omega arith in e) ∙ passes) (λ q h. ap p (let e : first + 1 + q ≡ first + suc q = omega arith in e) ∙ fails (suc q) (omega arith)))
      ∙ (let e : 1 + r ≡ suc r = omega arith in e)

  -- no number passes
  prefix_all : (first n : ℕ) → ((q : ℕ) → q < n → p (first + q) ≡ false) → prefix_len (λ x. not (p x)) (range_with_len first n) ≡ n
  prefix_all first zero fails = refl
  prefix_all first (suc n) fails =
      ap (λ b. cond (not b) (1 + prefix_len (λ x. not (p x)) (range_with_len (first + 1) n)) 0) (ap p (let e : first ≡ first + 0 = omega arith in e) ∙ fails 0 (omega arith))
      ∙ ap (λ m. 1 + m) (prefix_all (first + 1) n (λ q h. ap p (let e : first + 1 + q ≡ first + suc q = omega arith in e) ∙ fails (suc q) (omega arith)))
      ∙ (let e : 1 + n ≡ suc n = omega arith in e)

  position_at : (n r : ℕ) → r < n → p r ≡ true → ((q : ℕ) → q < r → p q ≡ false) → position p (range_with_len 0 n) ≡ Some r
  position_at n r l passes fails =
      ap (λ m. cond (nat_lt m (length (range_with_len 0 n))) (Some m) None) (prefix_at 0 n r l (ap p (let e : 0 + r ≡ r = omega arith in e) ∙ passes) (λ q h. ap p (let e : 0 + q ≡ q = omega arith in e) ∙ fails q h))
      ∙ ap (λ b. cond b (Some r) None) (ap (nat_lt r) (length-range_with_len 0 n) ∙ lt-ltb r n l)

  no_position : (n : ℕ) → ((q : ℕ) → q < n → p q ≡ false) → position p (range_with_len 0 n) ≡ None
  no_position n fails =
      ap (λ m. cond (nat_lt m (length (range_with_len 0 n))) (Some m) None) (prefix_all 0 n (λ q h. ap p (let e : 0 + q ≡ q = omega arith in e) ∙ fails q h))
      ∙ ap (λ b. cond b (Some n) None) (ap (nat_lt n) (length-range_with_len 0 n) ∙ le-ltb n n (omega arith))

lowest_is : (core : CoreView) (r : ℕ) → IsLowestLeft core r → lowest_left (all_of core) core.done ≡ Some r
lowest_is core r is =
    position_at (λ q. nat_lt (get_or core.done q 0) (length (of_rank (all_of core) q))) (length (all_of core)) r (omega (arith, is.ranked, length-map core.plan.programs exchanges)) (lt-ltb _ _ is.left)
    (λ q h. le-ltb _ _ (omega (arith, is.lowest q h)))

none_is_left : (core : CoreView) → AllDone (all_of core) core.done → lowest_left (all_of core) core.done ≡ None
none_is_left core all = no_position (λ q. nat_lt (get_or core.done q 0) (length (of_rank (all_of core) q))) (length (all_of core)) (λ q h. le-ltb _ _ (omega (arith, all q)))

-- the last line where a rank has exchanges left
pub unfinished_line : (core : CoreView) (r n : ℕ) → IsLowestLeft core r → n ≡ r → (codes "unfinished " ++ decimal n) ++ codes "\n" ≡ last_line (lowest_left (all_of core) core.done)
unfinished_line core r n is same = ap (λ k. (codes "unfinished " ++ decimal k) ++ codes "\n") same ∙ ap last_line (sym (lowest_is core r is))

-- the last line where none has
pub finished_line : (core : CoreView) → AllDone (all_of core) core.done → codes "finished\n" ≡ last_line (lowest_left (all_of core) core.done)
finished_line core all = ap last_line (sym (none_is_left core all))
