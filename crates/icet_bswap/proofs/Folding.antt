-- The folding is a round of merges, and the swappers behind it are a leg.
use Rattle.std.proofs.Common.{◌≡◌, ℕ, ◌+◌, ◌-◌, ◌*◌, ◌/◌, ◌%◌, ◌<◌, ◌≤◌, Bool, true, false, cond, refl, ap, ◌∙◌, arith, Option, Some, None, eqb-true, eq-eqb, ⊎_elim}
use Rattle.std.proofs.lemmas.Bool.Decides.{nat_tests}
use Rattle.std.specs.Prelude.{◌==◌, nat_lt, option_and_then}
use Rattle.std.proofs.Common.{◌≡◌, ℕ, ◌+◌, ◌-◌, ◌*◌, ◌%◌, ◌<◌, ◌≤◌, Bool, true, false, cond, refl, ap, ◌∙◌, arith, Option, Some, None, eqb-true, eq-eqb, ne_eqb}
use Rattle.std.proofs.lemmas.Bool.Decides.{nat_tests}
use Rattle.std.specs.Prelude.{◌==◌, ◌&&◌, nat_lt}
use Rattle.icet_bswap.specs.Bswap.{folding, seat, swapper, swappers}
use Rattle.icet_legs.proofs.Merges.{IsMerge, gives_says}
use Rattle.icet_legs.proofs.Tests.{and_parts, below_test, past_test, split}
use Rattle.icet_legs.specs.Team.{IsTeam, Team}

-- the folding of binary swap is such a round
pub is_folding : (g : Team) (e : ℕ) → 2 * e ≤ g.n → IsMerge g (folding g e)
is_folding g e l = record {
  inside = λ p t. let f = and_parts (p % 2 == 0) (nat_lt p (2 * e)) t in let a = eqb-true (p % 2) 0 f.0 in let b = below p (2 * e) f.1 in omega (arith, a, b, l);
  not_both = λ p h.
      let f = gives_says (folding g e) p h in
      let t = and_parts ((p - 1) % 2 == 0) (nat_lt (p - 1) (2 * e)) f.taking in
      let a = eqb-true ((p - 1) % 2) 0 t.0 in
      let b = f.back in
      ap (λ z. z && nat_lt p (2 * e)) (ne_eqb (p % 2) 0 (λ k. absurd (omega (arith, a, b, k))));
  moves = omega arith;
}
  where
    below : (a b : ℕ) → nat_lt a b ≡ true → a < b
    below a b h = grind (arith, nat_tests)

pub below_is : (a b : ℕ) → nat_lt a b ≡ true → a < b
below_is a b h = grind (arith, nat_tests)

past_is : (a b : ℕ) → nat_lt a b ≡ false → b ≤ a
past_is a b h = grind (arith, nat_tests)

pub seat_low : (e s : ℕ) → s < e → seat e s ≡ 2 * s
seat_low e s l = ap (λ z. cond z (2 * s) (s + e)) (below_test s e l)

pub seat_high : (e s : ℕ) → e ≤ s → seat e s ≡ s + e
seat_high e s l = ap (λ z. cond z (2 * s) (s + e)) (past_test s e l)

module _ (g : Team) (e : ℕ) (fits : 2 * e ≤ g.n) where
  pub sits : (s : ℕ) → s < g.n - e → (seat e s < g.n) × (swapper e (seat e s) ≡ Some s)
  sits s l = ⊎_elim
      (λ (b : s < e).
      let q = seat_low e s b in
      let even : (2 * s) % 2 ≡ 0 = omega arith in
      let half : (2 * s) / 2 ≡ s = omega arith in (
        omega (arith, q, b, fits),
        ap (swapper e) q ∙ (ap (λ z. cond z (cond ((2 * s) % 2 == 0) (Some ((2 * s) / 2)) None) (Some (2 * s - e))) (below_test (2 * s) (2 * e) (omega (arith, b)))
            ∙ (ap (λ z. cond z (Some ((2 * s) / 2)) None) (eq-eqb ((2 * s) % 2) 0 even) ∙ ap (λ z. Some z) half)),
      ))
      (λ (b : e ≤ s).
      let q = seat_high e s b in
      let d : s + e - e ≡ s = omega arith in (
        omega (arith, q, l),
        ap (swapper e) q ∙ (ap (λ z. cond z (cond ((s + e) % 2 == 0) (Some ((s + e) / 2)) None) (Some (s + e - e))) (past_test (s + e) (2 * e) (omega (arith, b))) ∙ ap (λ z. Some z) d),
      ))
      (split s e)

  pub swaps : (p s : ℕ) → p < g.n → swapper e p ≡ Some s → (seat e s ≡ p) × (s < g.n - e)
  swaps p s l h = go (nat_lt p (2 * e)) refl (p % 2 == 0) refl h
    where
      go : (x : Bool) → nat_lt p (2 * e) ≡ x → (y : Bool) → (p % 2 == 0) ≡ y → cond x (cond y (Some (p / 2)) None) (Some (p - e)) ≡ Some s → (seat e s ≡ p) × (s < g.n - e)
      go true x true y h =
          let b = below_is p (2 * e) x in
          let a = eqb-true (p % 2) 0 y in
          let v : p / 2 ≡ s = cc in
          let low : s < e = omega (arith, v, a, b) in
          (seat_low e s low ∙ omega (arith, v, a), omega (arith, low, fits))
      go true x false y h = absurd (cc)
      go false x y z h =
          let b = past_is p (2 * e) x in
          let v : p - e ≡ s = cc in
          (seat_high e s (omega (arith, v, b)) ∙ omega (arith, v, b), omega (arith, v, b, l))

  module _ (team : IsTeam g) where
    pub swappers_team : IsTeam (swappers g e)
    swappers_team = record {
      back = λ s l. let k = sits s l in ap (option_and_then (swapper e)) (team.back (seat e s) k.0) ∙ k.1;
      forth = λ r s h. forth r s (g.pos r) refl h;
    }
      where
        forth : (r s : ℕ) (o : Option ℕ) → g.pos r ≡ o → option_and_then (swapper e) o ≡ Some s → (g.who (seat e s) ≡ r) × (s < g.n - e)
        forth r s None k h = absurd (cc)
        forth r s (Some p) k h =
            let place = team.forth r p k in
            let w = swaps p s place.1 h in
            (ap g.who w.0 ∙ place.0, w.1)
