-- The final pieces hold every position exactly once, and so do the pieces that the display keeps.
use Rattle.std.proofs.Common.{◌≡◌, ℕ, ◌+◌, ◌-◌, ◌*◌, ◌%◌, ◌^◌, ◌<◌, ◌≤◌, true, false, length, refl, sym, ap, ◌∙◌, subst, arith, Option, Some, None, eqb-true, eq-eqb}
use Rattle.std.proofs.lemmas.Bool.Decides.{nat_tests}
use Rattle.std.proofs.lemmas.Nat.{mod-mul-add}
use Rattle.std.specs.Prelude.{◌==◌, ◌&&◌, nat_le, nat_lt}
use Rattle.std.specs.List.{filter}
use Rattle.icet_model.specs.Plan.{has_place}
use Rattle.icet_legs.specs.Team.{Team, IsTeam, by_pos}
use Rattle.icet_legs.specs.Collect.{Final, Holds, OneHolds, final_piece, final_kept}
use Rattle.icet_legs.specs.Radix.{stride}
use Rattle.icet_legs.proofs.Tests.{and_parts, and_both}
use Rattle.icet_legs.proofs.Covers.{Has, Owner, owner_of}
use Rattle.icet_legs.proofs.Once.{kept_once}
use Rattle.icet_bswap.specs.Bswap.{IsSwap, seat, swapper, swappers, range, finals}
use Rattle.icet_bswap.proofs.Folding.{sits, swaps}
use Rattle.icet_bswap.proofs.HalvingIsRadix.{twos, stride_twos, range_is, same_test}
use Rattle.icet_bswap.proofs.LegRuns.{two_e, many, factors}

reaches : (a b : ℕ) → a ≤ b → nat_le a b ≡ true
reaches a b l = grind (arith, nat_tests)

reached : (a b : ℕ) → nat_le a b ≡ true → a ≤ b
reached a b l = grind (arith, nat_tests)

passes : (a b : ℕ) → a < b → nat_lt a b ≡ true
passes a b l = grind (arith, nat_tests)

passed : (a b : ℕ) → nat_lt a b ≡ true → a < b
passed a b l = grind (arith, nat_tests)

module _ (g : Team) (team : IsTeam g) (m e shows : ℕ) (is : IsSwap g m e shows) where
  abbrev h : Team
  h = swappers g e

  abbrev f : Final
  f = finals g m e shows

  pub one_holds : (x : ℕ) → x < g.size → OneHolds g.n f x
  one_holds x l =
      let own : Owner h twos m (factors g m e shows is) x l m = owner_of h twos m (factors g m e shows is) x l m in
      let o = own.owner in
      let n = many g m e shows is in
      let w = stride_twos m in
      let b = own.below in
      let low : o < g.n - e = omega (arith, b, w, n) in
      let at = sits g e (two_e g m e shows is) o low in
      let here = own.there o (small o (omega (arith, b, w))) in
      let r = range_is h m n m o in
      record {
        at = seat e o;
        within = at.0;
        final = ap (by_pos false (λ s. true)) at.1;
        holds = record {
          from = subst (λ z. by_pos 0 (λ s. (range g.size m s).0) z ≤ x) (sym at.1) (subst (λ (z : ℕ × ℕ). z.0 ≤ x) r here.from);
          to = subst (λ z. x < by_pos 0 (λ s. (range g.size m s).1) z) (sym at.1) (subst (λ (z : ℕ × ℕ). x < z.1) r here.to);
        };
        only = λ c k v s. only c k own (swapper e c) refl s.from s.to;
      }
    where
      small : (s : ℕ) → s < 2 ^ m → s % stride twos m ≡ s
      small s b = let z : s ≡ 0 * 2 ^ m + s = omega arith in ap (λ w. s % w) (stride_twos m) ∙ (ap (λ y. y % 2 ^ m) z ∙ mod-mul-add 0 (2 ^ m) s b)

      only : (c : ℕ) → c < g.n → (own : Owner h twos m (factors g m e shows is) x l m) → (o : Option ℕ) → swapper e c ≡ o → by_pos 0 (λ s. (range g.size m s).0) o ≤ x → x < by_pos 0 (λ s. (range g.size m s).1) o → c ≡ seat e own.owner
      only c k own None w from to = absurd (omega (arith, to))
      only c k own (Some s) w from to =
          let z = swaps g e (two_e g m e shows is) c s k w in
          let n = many g m e shows is in
          let r = range_is h m n m s in
          let has : Has h twos m (factors g m e shows is) x l m s = record { from = subst (λ (y : ℕ × ℕ). y.0 ≤ x) (sym r) from; to = subst (λ (y : ℕ × ℕ). x < y.1) (sym r) to } in
          let i : s ≡ own.owner = sym (small s (let y = z.1 in omega (arith, y, n))) ∙ own.only s has in
          sym z.0 ∙ ap (seat e) i

  -- the display keeps each position of the tile once
  pub keeps_once : (x : ℕ) → x < g.size → length (filter (has_place g.tile x) (final_kept g f shows)) ≡ 1
  keeps_once x l = let o = one_holds x l in kept_once g f (has_place g.tile x) o.at o.within o.final (λ b k w. is_at o b k w) is.shown
    where
      is_at : (o : OneHolds g.n f x) (b : ℕ) → b < g.n → f.holds b ≡ true → has_place g.tile x (final_piece g f b) ≡ (b == o.at)
      is_at o b k v = same_test ((g.tile == g.tile) && (nat_le (f.lo b) x && nat_lt x (f.hi b))) (b == o.at)
          (λ t.
          let y = and_parts (nat_le (f.lo b) x) (nat_lt x (f.hi b)) (and_parts (g.tile == g.tile) (nat_le (f.lo b) x && nat_lt x (f.hi b)) t).1 in
          eq-eqb b o.at (o.only b k v (record { from = reached (f.lo b) x y.0; to = passed x (f.hi b) y.1 })))
          (λ t.
          let s = eqb-true b o.at t in
          let here : Holds f x b = subst (Holds f x) (sym s) o.holds in
          and_both (g.tile == g.tile) (nat_le (f.lo b) x && nat_lt x (f.hi b)) (eq-eqb g.tile g.tile refl)
          (and_both (nat_le (f.lo b) x) (nat_lt x (f.hi b)) (reaches (f.lo b) x here.from) (passes x (f.hi b) here.to)))
