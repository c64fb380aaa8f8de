-- The display keeps every position once, where one final piece alone holds it.
use Rattle.std.proofs.Common.{◌≡◌, ℕ, zero, suc, ◌+◌, ◌<◌, ◌≤◌, Bool, true, false, cond, List, [], ◌∷◌, ◌++◌, length, refl, sym, ap, ◌∙◌, arith, eq-eqb, ne_eqb, ⊎_elim, length-append}
use Rattle.std.proofs.lemmas.Bool.Decides.{nat_tests}
use Rattle.std.specs.Prelude.{◌==◌, ◌&&◌, ◌⊎◌, ◌≢◌, nat_lt, not}
use Rattle.std.specs.List.{filter}
use Rattle.icet_legs.proofs.Tests.{and_parts, below_test, past_test}
use Rattle.icet_legs.specs.Collect.{Final, final_kept, final_piece, hands_in}
use Rattle.icet_legs.specs.Team.{Team}
use Rattle.icet_model.specs.Run.{Piece}
use Rattle.icet_model.specs.declared.bracket.Bracket.{Bracket}
use Rattle.icet_plan.proofs.Lists.{filter-append}
use Rattle.icet_plan.specs.Each.{each}

abbrev bit : Bool → ℕ
bit true = 1
bit false = 0

module _ (g : Team) (f : Final) (test : Piece Bracket → Bool) (o : ℕ) (inside : o < g.n) (holds : f.holds o ≡ true) (only : (b : ℕ) → b < g.n → f.holds b ≡ true → test (final_piece g f b) ≡ (b == o)) where
  abbrev keeps : ℕ → List (Piece Bracket)
  keeps b = cond (hands_in f b) (final_piece g f b ∷ []) []

  one : (x y : Bool) (p : Piece Bracket) → (x ≡ true → test p ≡ y) → length (filter test (cond x (p ∷ []) [])) ≡ bit (y && x)
  one true true p h = rw (h refl) refl
  one true false p h = rw (h refl) refl
  one false true p h = refl
  one false false p h = refl

  counted : (k : ℕ) → k ≤ g.n → length (filter test (each keeps k)) ≡ bit (nat_lt o k && hands_in f o)
  counted zero l = sym (ap (λ z. bit (z && hands_in f o)) (past_test o 0 (omega arith)))
  counted (suc k) l =
      let ih = counted k (omega arith) in
      let split : length (filter test (each keeps (suc k))) ≡ length (filter test (each keeps k)) + length (filter test (keeps k)) = ap (λ xs. length xs) (filter-append test (each keeps k) (keeps k)) ∙ length-append (filter test (each keeps k)) (filter test (keeps k)) in
      let last = one (hands_in f k) (k == o) (final_piece g f k) (λ t. only k (omega arith) (and_parts (f.holds k) (not (k == f.shows)) t).0) in
      ⊎_elim
      (λ (s : k ≡ o).
      let a : bit (nat_lt o k && hands_in f o) ≡ 0 = ap (λ z. bit (z && hands_in f o)) (past_test o k (omega (arith, s))) in
      let b : bit ((k == o) && hands_in f k) ≡ bit (hands_in f o) = ap (λ z. bit (z && hands_in f k)) (eq-eqb k o s) ∙ ap (λ z. bit (hands_in f z)) s in
      let c : bit (nat_lt o (suc k) && hands_in f o) ≡ bit (hands_in f o) = ap (λ z. bit (z && hands_in f o)) (below_test o (suc k) (omega (arith, s))) in
      omega (arith, split, ih, last, a, b, c))
      (λ (n : k ≢ o).
      let b : bit ((k == o) && hands_in f k) ≡ 0 = ap (λ z. bit (z && hands_in f k)) (ne_eqb k o n) in
      let same : nat_lt o k ≡ nat_lt o (suc k) = grind (arith, nat_tests) in
      let c : bit (nat_lt o k && hands_in f o) ≡ bit (nat_lt o (suc k) && hands_in f o) = ap (λ z. bit (z && hands_in f o)) same in
      omega (arith, split, ih, last, b, c))
      (let s : (k ≡ o) ⊎ (k ≢ o) = grind arith in s)

  pub kept_once : f.shows < g.n → length (filter test (final_kept g f f.shows)) ≡ 1
  kept_once l =
      let own = cond (f.holds f.shows) (final_piece g f f.shows ∷ []) [] in
      let shown : final_kept g f f.shows ≡ own ++ each keeps g.n = ap (λ z. cond z (own ++ each keeps g.n) []) (eq-eqb f.shows f.shows refl) in
      let split : length (filter test (own ++ each keeps g.n)) ≡ length (filter test own) + length (filter test (each keeps g.n)) = ap (λ xs. length xs) (filter-append test own (each keeps g.n)) ∙ length-append (filter test own) (filter test (each keeps g.n)) in
      let first = one (f.holds f.shows) (f.shows == o) (final_piece g f f.shows) (only f.shows l) in
      let all = counted g.n (omega arith) ∙ ap (λ z. bit (z && hands_in f o)) (below_test o g.n inside) in
      ap (λ xs. length (filter test xs)) shown ∙ ⊎_elim
      (λ (s : f.shows ≡ o).
      let a : bit ((f.shows == o) && f.holds f.shows) ≡ 1 = ap (λ z. bit (z && f.holds f.shows)) (eq-eqb f.shows o s) ∙ (ap (λ z. bit (f.holds z)) s ∙ ap (λ z. bit z) holds) in
      let b : bit (hands_in f o) ≡ 0 = ap (λ z. bit (f.holds o && not z)) (eq-eqb o f.shows (sym s)) ∙ ap (λ z. bit (z && false)) holds in
      omega (arith, split, first, all, a, b))
      (λ (n : f.shows ≢ o).
      let a : bit ((f.shows == o) && f.holds f.shows) ≡ 0 = ap (λ z. bit (z && f.holds f.shows)) (ne_eqb f.shows o n) in
      let b : bit (hands_in f o) ≡ 1 = ap (λ z. bit (f.holds o && not z)) (ne_eqb o f.shows (λ z. n (sym z))) ∙ ap (λ z. bit (z && true)) holds in
      omega (arith, split, first, all, a, b))
      (let s : (f.shows ≡ o) ⊎ (f.shows ≢ o) = grind arith in s)
