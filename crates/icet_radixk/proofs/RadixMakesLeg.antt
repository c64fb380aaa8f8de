-- All that a plan needs of a leg of radix-k.
use Rattle.std.proofs.Common.{◌≡◌, ◌≢◌, ℕ, zero, suc, ◌+◌, ◌-◌, ◌*◌, ◌/◌, ◌%◌, ◌<◌, ◌≤◌, Bool, true, false, cond, List, [], ◌∷◌, ◌++◌, length, refl, sym, ap, ◌∙◌, subst, arith, Option, Some, None, eqb-true, eq-eqb}
use Rattle.std.proofs.lemmas.Bool.{eqb-false}
use Rattle.std.proofs.lemmas.Bool.Decides.{nat_tests}
use Rattle.std.proofs.lemmas.Nat.{div-mul-add, mod-mul-add}
use Rattle.std.specs.Prelude.{◌==◌, ◌&&◌, nat_le, nat_lt}
use Rattle.std.specs.List.{AllByRecursion, filter, slice_get}
use mathlib.Core.Path.{fun_ext}
use Rattle.icet_model.specs.declared.bracket.Bracket.{Bracket}
use Rattle.icet_model.specs.declared.exchange.Kind.TheVariants.{Send, Take}
use Rattle.icet_model.specs.declared.exchange.Op.TheVariants.{Swap}
use Rattle.icet_model.specs.Run.{MessageView, Piece}
use Rattle.icet_model.specs.Fit.{Tiles}
use Rattle.icet_model.specs.Plan.{bracket_carrier, has_place}
use Rattle.icet_plan.proofs.Segments.{Does, IsPart, does_both, does_nothing, parts_join}
use Rattle.icet_plan.proofs.SingleSteps.{Ran, does_as}
use Rattle.icet_plan.proofs.PlanRows.{Anyhow}
use Rattle.icet_legs.specs.Team.{Team, IsTeam, by_pos, by_pair}
use Rattle.icet_legs.specs.Group.{Group, digit, group_cuts, group_joins, group_ops, group_messages, group_sends, group_swap, group_takes, member}
use Rattle.icet_legs.specs.Collect.{Final, collect_messages, collect_ops, final_kept, final_messages, final_ops, final_piece}
use Rattle.icet_legs.specs.Radix.{group_at, radix_messages, radix_of, radix_ops, range_of, stride}
use Rattle.icet_plan.specs.Each.{each}
use Rattle.icet_legs.proofs.Tests.{and_both, and_parts}
use Rattle.icet_legs.proofs.Positions.{OnTiles}
use Rattle.icet_legs.proofs.Digits.{member_digit}
use Rattle.icet_legs.proofs.Groups.{IsGroup}
use Rattle.icet_legs.proofs.Collects.{IsFinal, collected}
use Rattle.icet_legs.proofs.CollectMatched.{collect_part}
use Rattle.icet_legs.proofs.Radixes.{AreFactors, in_size, is_group, radix_block, radix_part, radix_rounds}
use Rattle.icet_legs.proofs.Covers.{Has, Owner, owner_of}
use Rattle.icet_legs.proofs.Once.{kept_once}
use Rattle.icet_legs.proofs.Others.{AreOther, others_both, others_collect, others_each}
use Rattle.icet_legs.proofs.LegFacts.{MakesLeg, final_carries}
use Rattle.icet_legs.proofs.Loads.{LoadNothing, nothing_both, nothing_collect, nothing_group}
use Rattle.icet_model.specs.declared.exchange.Op.{Op}
use Rattle.icet_radixk.proofs.RadixLegInOrder.{radix_in_order}
use Rattle.icet_radixk.specs.Radixk.{AreFactorsOf, radix_finals, radix_leg_kept, radix_leg_messages, radix_leg_ops}
use Rattle.icet_radixk.proofs.Folded.{bracket_is, factors_are}

-- a round of groups is between different members
others_group : (g : Team) (u : Group) → IsGroup g u → (p : ℕ) → p < g.n → AreOther g p (group_ops g u p)
others_group g u is p l =
    others_both g p (each (group_cuts u p) (u.k - 1) ++ each (group_sends g u p) u.k) (each (group_takes g u p) u.k ++ each group_joins (u.k - 1))
    (others_both g p (each (group_cuts u p) (u.k - 1)) (each (group_sends g u p) u.k) (others_each g p (group_cuts u p) (u.k - 1) (λ b m. tt)) (others_each g p (group_sends g u p) u.k (λ h m. send h m (h == digit u.w u.k p) refl)))
    (others_both g p (each (group_takes g u p) u.k) (each group_joins (u.k - 1)) (others_each g p (group_takes g u p) u.k (λ h m. take h m (h == digit u.w u.k p) refl)) (others_each g p group_joins (u.k - 1) (λ b m. tt)))
  where
    away : (h : ℕ) → h < u.k → (h == digit u.w u.k p) ≡ false → member u.w u.k p h ≢ p
    away h m k e = eqb-false h (digit u.w u.k p) k (sym (member_digit u.w u.k p h is.wide m) ∙ ap (digit u.w u.k) e)

    send : (h : ℕ) → h < u.k → (t : Bool) → (h == digit u.w u.k p) ≡ t → AreOther g p (cond t [] (Swap (group_swap g u Send (member u.w u.k p h) p h) h ∷ []))
    send h m true k = tt
    send h m false k = (record { at = member u.w u.k p h; peer = refl; within = is.inside p h l m; other = away h m k }, tt)

    take : (h : ℕ) → h < u.k → (t : Bool) → (h == digit u.w u.k p) ≡ t → AreOther g p (cond t [] (Swap (group_swap g u Take (member u.w u.k p h) p (digit u.w u.k p)) h ∷ []))
    take h m true k = tt
    take h m false k = (record { at = member u.w u.k p h; peer = refl; within = is.inside p h l m; other = away h m k }, tt)

none_to : (f : ℕ → ℕ → List (MessageView Bracket)) (o u : Option ℕ) → u ≡ None → by_pair f o u ≡ []
none_to f None u e = refl
none_to f (Some a) u e = ap (by_pos [] (f a)) e

module _ (g : Team) (team : IsTeam g) (factor : ℕ → ℕ) (q : ℕ) (of : AreFactorsOf g.n factor q) (shows : ℕ) (shown : shows < g.n) where
  factors : AreFactors g factor q
  factors = factors_are g factor q of

  abbrev f : Final
  f = radix_finals g factor q shows

  part : IsPart (radix_leg_ops g factor q shows) (2 * (g.first + 0)) (2 * suc (g.first + q))
  part = parts_join (radix_ops g factor q) (collect_ops g f) (2 * (g.first + 0)) (2 * (g.first + q)) (2 * suc (g.first + q)) (radix_part g factor q factors team q (omega arith)) (collect_part g team f shown)

  others_rounds : (k : ℕ) → k ≤ q → (r p : ℕ) → g.pos r ≡ Some p → AreOther g p (radix_ops g factor k r)
  others_rounds zero l r p e = tt
  others_rounds (suc k) l r p e = others_both g p (radix_ops g factor k r) (by_pos [] (group_ops g (group_at g factor k)) (g.pos r)) (others_rounds k (omega arith) r p e)
      (subst (λ o. AreOther g p (by_pos [] (group_ops g (group_at g factor k)) o)) (sym e) (others_group g (group_at g factor k) (is_group g factor q factors k (omega arith)) p (team.forth r p e).1))

  none_rounds : (k r : ℕ) → g.pos r ≡ None → radix_ops g factor k r ≡ []
  none_rounds zero r e = refl
  none_rounds (suc k) r e = ap (λ z. z ++ by_pos [] (group_ops g (group_at g factor k)) (g.pos r)) (none_rounds k r e) ∙ ap (by_pos [] (group_ops g (group_at g factor k))) e

  none_ops : (r : ℕ) → g.pos r ≡ None → radix_leg_ops g factor q shows r ≡ []
  none_ops r e = ap (λ z. z ++ collect_ops g f r) (none_rounds q r e) ∙ ap (by_pos [] (final_ops g f)) e

  none_taken : (k a r : ℕ) → g.pos r ≡ None → radix_messages g factor k a r ≡ []
  none_taken zero a r e = refl
  none_taken (suc k) a r e = ap (λ z. z ++ by_pair (group_messages g (group_at g factor k)) (g.pos a) (g.pos r)) (none_taken k a r e) ∙ none_to (group_messages g (group_at g factor k)) (g.pos a) (g.pos r) e

  none_sent : (k a r : ℕ) → g.pos a ≡ None → radix_messages g factor k a r ≡ []
  none_sent zero a r e = refl
  none_sent (suc k) a r e = ap (λ z. z ++ by_pair (group_messages g (group_at g factor k)) (g.pos a) (g.pos r)) (none_sent k a r e) ∙ ap (λ o. by_pair (group_messages g (group_at g factor k)) o (g.pos r)) e

  taken_none : (a r : ℕ) → g.pos r ≡ None → radix_leg_messages g factor q shows a r ≡ []
  taken_none a r e = ap (λ z. z ++ collect_messages g f a r) (none_taken q a r e) ∙ none_to (final_messages g f) (g.pos a) (g.pos r) e

  sent_none : (a r : ℕ) → g.pos a ≡ None → radix_leg_messages g factor q shows a r ≡ []
  sent_none a r e = ap (λ z. z ++ collect_messages g f a r) (none_sent q a r e) ∙ ap (λ o. by_pair (final_messages g f) o (g.pos r)) e

  loads_at : (ops : ℕ → List Op) → ((p : ℕ) → LoadNothing (ops p)) → (o : Option ℕ) → LoadNothing (by_pos [] ops o)
  loads_at ops h None = tt
  loads_at ops h (Some p) = h p

  loads_rounds : (k r : ℕ) → LoadNothing (radix_ops g factor k r)
  loads_rounds zero r = tt
  loads_rounds (suc k) r = nothing_both (radix_ops g factor k r) (by_pos [] (group_ops g (group_at g factor k)) (g.pos r)) (loads_rounds k r) (loads_at (group_ops g (group_at g factor k)) (nothing_group g (group_at g factor k)) (g.pos r))

  no_loads : (r : ℕ) → LoadNothing (radix_leg_ops g factor q shows r)
  no_loads r = nothing_both (radix_ops g factor q r) (collect_ops g f r) (loads_rounds q r) (loads_at (final_ops g f) (nothing_collect g f) (g.pos r))

  small : (n k : ℕ) → n < k → n % k ≡ n
  small n k l = let z : n ≡ 0 * k + n = omega arith in ap (λ y. y % k) z ∙ mod-mul-add 0 k n l

  -- what a participant has in the end carries the bracket of the whole
  whole_is : (p : ℕ) → p < g.n → radix_of g factor q p ≡ f.content
  whole_is p l =
      let s = stride factor q in
      let n = of.product in
      let none : (x : ℕ) → x < s → x / s ≡ 0 = λ x b. (let z : x ≡ 0 * s + x = omega arith in ap (λ y. y / s) z ∙ div-mul-add 0 s x b) in
      radix_block g factor q factors q p 0 (none p (omega (arith, l, n)) ∙ sym (none 0 (omega (arith, l, n)))) ∙ bracket_is g factor q factors n

  module _ (tiles : Tiles) (on : OnTiles tiles g) (display : slice_get tiles.displays g.tile ≡ Some (g.who shows)) where
    is_final : IsFinal tiles g f
    is_final = record {
      shown = shown;
      display = display;
      tile = on.tile;
      ranges = λ a k. let z = in_size g factor q factors q a in (z.ordered, let y = z.capped in let s = on.size in omega (arith, y, s));
    }

    outside : (r : ℕ) (before : ℕ → Option (Piece Bracket)) → g.pos r ≡ None → Does (bracket_carrier tiles.sizes r) r tiles (radix_leg_ops g factor q shows r) (λ a. radix_leg_messages g factor q shows a r) before before (λ a. radix_leg_messages g factor q shows r a) []
    outside r before e = subst (λ xs. Does (bracket_carrier tiles.sizes r) r tiles xs (λ a. radix_leg_messages g factor q shows a r) before before (λ a. radix_leg_messages g factor q shows r a) []) (sym (none_ops r e))
        (does_as (bracket_carrier tiles.sizes r) r tiles [] (λ a. []) (λ a. radix_leg_messages g factor q shows a r) before before (λ a. []) (λ a. radix_leg_messages g factor q shows r a) [] (fun_ext (λ a. sym (taken_none a r e))) (fun_ext (λ a. sym (sent_none r a e)))
        (does_nothing (bracket_carrier tiles.sizes r) r tiles before))

    runs : (r : ℕ) (before : ℕ → Option (Piece Bracket)) → ((p : ℕ) → g.pos r ≡ Some p → before 0 ≡ Some (record { tile = g.tile; lo = 0; hi = g.size; content = g.leaf p })) → (o : Option ℕ) → g.pos r ≡ o → Ran (bracket_carrier tiles.sizes r) r tiles (Anyhow (bracket_carrier tiles.sizes r) r tiles) (radix_leg_ops g factor q shows r) (λ a. radix_leg_messages g factor q shows a r) before (λ a. radix_leg_messages g factor q shows r a) (by_pos [] (final_kept g f) o)
    runs r before has None e = record { after = before; does = outside r before e; holds = tt }
    runs r before has (Some p) e =
        let past = radix_rounds g factor q factors team tiles on r q (omega arith) before has in
        let place = team.forth r p e in
        let last = collected tiles g team f is_final r p e past.after (λ t. past.holds p e ∙ ap (λ b. Some (record { tile = g.tile; lo = (range_of factor g.size q p).0; hi = (range_of factor g.size q p).1; content = b })) (whole_is p place.1)) in
        record {
          after = last.after;
          does = does_both (bracket_carrier tiles.sizes r) r tiles (radix_ops g factor q r) (collect_ops g f r) (λ a. radix_messages g factor q a r) (λ a. collect_messages g f a r) before past.after last.after (λ a. radix_messages g factor q r a) (λ a. collect_messages g f r a) [] (final_kept g f p) past.does
              (subst (λ o. Does (bracket_carrier tiles.sizes r) r tiles (by_pos [] (final_ops g f) o) (λ a. by_pair (final_messages g f) (g.pos a) o) past.after last.after (λ a. by_pair (final_messages g f) o (g.pos a)) (final_kept g f p)) (sym e) last.does);
          holds = tt;
        }

    inside : (lo hi i : ℕ) → lo ≤ i → i < hi → (nat_le lo i && nat_lt i hi) ≡ true
    inside lo hi i a b = grind (arith, nat_tests)

    lies : (lo hi i : ℕ) → (nat_le lo i && nat_lt i hi) ≡ true → (lo ≤ i) × (i < hi)
    lies lo hi i t = let z = and_parts (nat_le lo i) (nat_lt i hi) t in (low lo i z.0, high i hi z.1)
      where
        low : (a b : ℕ) → nat_le a b ≡ true → a ≤ b
        low a b t = grind (arith, nat_tests)

        high : (a b : ℕ) → nat_lt a b ≡ true → a < b
        high a b t = grind (arith, nat_tests)

    same_test : (a b : Bool) → (a ≡ true → b ≡ true) → (b ≡ true → a ≡ true) → a ≡ b
    same_test true b h k = sym (h refl)
    same_test false true h k = k refl
    same_test false false h k = refl

    -- one participant alone has a position in the end
    once : (i : ℕ) → i < g.size → length (filter (has_place g.tile i) (final_kept g f shows)) ≡ 1
    once i l =
        let own : Owner g factor q factors i l q = owner_of g factor q factors i l q in
        let n = of.product in
        let o = own.owner in
        let b = own.below in
        kept_once g f (has_place g.tile i) o (omega (arith, b, n)) refl (λ a m w.
        same_test (has_place g.tile i (final_piece g f a)) (a == o)
        (λ t.
        let z = lies (f.lo a) (f.hi a) i (and_parts (g.tile == g.tile) (nat_le (f.lo a) i && nat_lt i (f.hi a)) t).1 in
        let has : Has g factor q factors i l q a = record { from = z.0; to = z.1 } in
        eq-eqb a o (sym (small a (stride factor q) (omega (arith, m, n))) ∙ own.only a has))
        (λ t.
        let s = eqb-true a o t in
        let z = own.there a (small a (stride factor q) (omega (arith, m, n)) ∙ s) in
        and_both (g.tile == g.tile) (nat_le (f.lo a) i && nat_lt i (f.hi a)) (eq-eqb g.tile g.tile refl) (inside (f.lo a) (f.hi a) i z.from z.to))) shown

    pub radix_makes_leg : MakesLeg tiles g shows f.content (2 * (g.first + 0)) (2 * suc (g.first + q)) (radix_leg_ops g factor q shows) (radix_leg_messages g factor q shows) (radix_leg_kept g factor q shows)
    radix_makes_leg = record {
      part = part;
      others = λ r p e. others_both g p (radix_ops g factor q r) (collect_ops g f r) (others_rounds q (omega arith) r p e) (subst (λ o. AreOther g p (by_pos [] (final_ops g f) o)) (sym e) (others_collect g f shown p (team.forth r p e).1));
      outside = none_ops;
      no_loads = no_loads;
      in_order = λ r. radix_in_order g team factor q of shows shown r;
      runs = λ r before has. runs r before has (g.pos r) refl;
      carries = λ r. kept_of (g.pos r);
      once = λ i l. ap (λ o. length (filter (has_place g.tile i) (by_pos [] (final_kept g f) o))) (team.back shows shown) ∙ once i l;
    }
      where
        kept_of : (o : Option ℕ) → AllByRecursion (λ x. (x.tile ≡ g.tile) × (x.content ≡ f.content)) (by_pos [] (final_kept g f) o)
        kept_of None = tt
        kept_of (Some p) = final_carries g f p
