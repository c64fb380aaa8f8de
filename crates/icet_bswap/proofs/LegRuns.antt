-- The whole leg of binary swap: it is matched, and each rank does what is said with exactly the messages that are said.
use Rattle.std.proofs.Common.{◌≡◌, ℕ, suc, ◌+◌, ◌-◌, ◌*◌, ◌%◌, ◌^◌, ◌<◌, ◌≤◌, Bool, true, false, List, [], ◌++◌, refl, sym, ap, ◌∙◌, subst, arith, Option, Some, None, eqb-true, ⊎_elim}
use Rattle.std.specs.Prelude.{◌==◌, nat_lt, option_and_then}
use Rattle.std.specs.List.{slice_get}
use mathlib.Core.Path.{fun_ext}
use Rattle.icet_model.specs.declared.bracket.Bracket.{Bracket}
use Rattle.icet_model.specs.declared.exchange.Op.{Op}
use Rattle.icet_model.specs.Run.{Carrier, Piece, MessageView}
use Rattle.icet_model.specs.Fit.{Tiles}
use Rattle.icet_model.specs.Plan.{bracket_carrier}
use Rattle.icet_plan.specs.Each.{each}
use Rattle.icet_plan.proofs.Segments.{Does, does_nothing, does_both, IsPart, parts_join}
use Rattle.icet_plan.proofs.SingleSteps.{does_as}
use Rattle.icet_legs.specs.Team.{Team, IsTeam, by_pos, by_pair}
use Rattle.icet_legs.specs.Merge.{merge_gives, merge_ops, merge_messages, merged}
use Rattle.icet_legs.specs.Collect.{Final, final_ops, final_messages, final_kept, collect_ops, collect_messages}
use Rattle.icet_legs.specs.Radix.{range_of, radix_of, radix_ops, radix_messages}
use Rattle.icet_legs.proofs.Tests.{and_parts, split}
use Rattle.icet_legs.proofs.Positions.{OnTiles}
use Rattle.icet_legs.proofs.Merges.{IsMerge, gives_says, merge_round, merge_part}
use Rattle.icet_legs.proofs.Collects.{IsFinal, collected}
use Rattle.icet_legs.proofs.CollectMatched.{collect_part}
use Rattle.icet_legs.proofs.Radixes.{AreFactors, in_size, radix_part, radix_rounds}
use Rattle.icet_bswap.specs.Bswap.{IsSwap, folding, seat, swapper, swappers, range, swap_ops, swap_messages, bswap_bracket, finals, leg_ops, leg_messages, leg_kept, bswap_ops, bswap_messages, bswap_kept}
use Rattle.icet_bswap.proofs.Folding.{below_is, is_folding, seat_low, seat_high, swaps, swappers_team}
use Rattle.icet_bswap.proofs.HalvingIsRadix.{twos, are_twos, range_is, held_is, rounds_are}
use Rattle.icet_bswap.proofs.Exchanged.{exchanged}
use Rattle.icet_bswap.proofs.WholeBracket.{whole_is}

none_to : {V : Type 0} (f : ℕ → ℕ → List V) (o : Option ℕ) → by_pair f o None ≡ []
none_to f None = refl
none_to f (Some a) = refl

module _ (g : Team) (m e shows : ℕ) (is : IsSwap g m e shows) where
  abbrev h : Team
  h = swappers g e

  abbrev f : Final
  f = finals g m e shows

  pub two_e : 2 * e ≤ g.n
  two_e = let c = is.count in let l = is.few in omega (arith, c, l)

  pub many : h.n ≡ 2 ^ m
  many = let c = is.count in omega (arith, c)

  pub factors : AreFactors h twos m
  factors = are_twos h m many

  -- the three parts in a row are the leg
  abbrev parts_ops : ℕ → List Op
  parts_ops r = (by_pos [] (merge_ops g (folding g e)) (g.pos r) ++ radix_ops h twos m r) ++ collect_ops g f r

  abbrev parts_messages : ℕ → ℕ → List (MessageView Bracket)
  parts_messages q r = (by_pair (merge_messages g (folding g e)) (g.pos q) (g.pos r) ++ radix_messages h twos m q r) ++ collect_messages g f q r

  ops_row : (o : Option ℕ) → (by_pos [] (merge_ops g (folding g e)) o ++ by_pos [] (λ s. each (λ i. swap_ops h i s) m) (option_and_then (swapper e) o)) ++ by_pos [] (final_ops g f) o ≡ by_pos [] (leg_ops g m e shows) o
  ops_row None = refl
  ops_row (Some p) = refl

  pub ops_are : (r : ℕ) → parts_ops r ≡ bswap_ops g m e shows r
  ops_are r = ap (λ z. (by_pos [] (merge_ops g (folding g e)) (g.pos r) ++ z) ++ collect_ops g f r) (rounds_are h m many r m (h.pos r) refl) ∙ ops_row (g.pos r)

  messages_row : (o u : Option ℕ) → (by_pair (merge_messages g (folding g e)) o u ++ by_pair (λ s t. each (λ i. swap_messages h i s t) m) (option_and_then (swapper e) o) (option_and_then (swapper e) u)) ++ by_pair (final_messages g f) o u ≡ by_pair (leg_messages g m e shows) o u
  messages_row None u = refl
  messages_row (Some a) None = ap (λ z. z ++ []) (none_to (λ s t. each (λ i. swap_messages h i s t) m) (swapper e a))
  messages_row (Some a) (Some b) = refl

  pub messages_are : (q r : ℕ) → parts_messages q r ≡ bswap_messages g m e shows q r
  messages_are q r = ap (λ z. (by_pair (merge_messages g (folding g e)) (g.pos q) (g.pos r) ++ z) ++ collect_messages g f q r) (exchanged h m many q r m (omega arith) (h.pos q) (h.pos r) refl refl) ∙ messages_row (g.pos q) (g.pos r)

  module _ (team : IsTeam g) where
    merging : IsMerge g (folding g e)
    merging = is_folding g e two_e

    pub swapping : IsTeam h
    swapping = swappers_team g e two_e team

    -- it is matched, and takes the rounds from the first to the one of the collection
    pub leg_part : IsPart (bswap_ops g m e shows) (2 * g.first) (2 * suc (suc (g.first + m)))
    leg_part =
        let a : suc g.first + 0 ≡ suc g.first = omega arith in
        let b : suc g.first + m ≡ suc (g.first + m) = omega arith in
        let rounds : IsPart (radix_ops h twos m) (2 * suc g.first) (2 * suc (g.first + m)) = subst (λ x. IsPart (radix_ops h twos m) (2 * x) (2 * suc (g.first + m))) a (subst (λ x. IsPart (radix_ops h twos m) (2 * (suc g.first + 0)) (2 * x)) b (radix_part h twos m factors swapping m (omega arith))) in
        let first : IsPart (λ r. by_pos [] (merge_ops g (folding g e)) (g.pos r)) (2 * g.first) (2 * suc g.first) = merge_part g team (folding g e) merging in
        let last : IsPart (collect_ops g f) (2 * suc (g.first + m)) (2 * suc (suc (g.first + m))) = collect_part g team f is.shown in
        let two = parts_join (λ r. by_pos [] (merge_ops g (folding g e)) (g.pos r)) (radix_ops h twos m) (2 * g.first) (2 * suc g.first) (2 * suc (g.first + m)) first rounds in
        subst (λ ops. IsPart ops (2 * g.first) (2 * suc (suc (g.first + m)))) (fun_ext ops_are)
        (parts_join (λ r. by_pos [] (merge_ops g (folding g e)) (g.pos r) ++ radix_ops h twos m r) (collect_ops g f) (2 * g.first) (2 * suc (g.first + m)) (2 * suc (suc (g.first + m))) two last)

    -- a swapper gives nothing in the folding
    pub keeps_own : (p s : ℕ) → seat e s ≡ p → merge_gives (folding g e) p ≡ false
    keeps_own p s k = go (merge_gives (folding g e) p) refl
      where
        go : (b : Bool) → merge_gives (folding g e) p ≡ b → b ≡ false
        go false w = refl
        go true w =
            absurd (let gives = gives_says (folding g e) p w in
            let t = and_parts ((p - 1) % 2 == 0) (nat_lt (p - 1) (2 * e)) gives.taking in
            let even = eqb-true ((p - 1) % 2) 0 t.0 in
            let low = below_is (p - 1) (2 * e) t.1 in
            let back = gives.back in
            ⊎_elim
            (λ (b : s < e). let z = seat_low e s b in omega (arith, z, k, even, back))
            (λ (b : e ≤ s). let z = seat_high e s b in omega (arith, z, k, even, back, low, b)) (split s e))

    module _ (tiles : Tiles) (on : OnTiles tiles g) (display : slice_get tiles.displays g.tile ≡ Some (g.who shows)) where
      abbrev full : Bracket → Piece Bracket
      full b = record { tile = g.tile; lo = 0; hi = g.size; content = b }

      finals_in : (a : ℕ) (o : Option ℕ) → (by_pos 0 (λ s. (range g.size m s).0) o ≤ by_pos 0 (λ s. (range g.size m s).1) o) × (by_pos 0 (λ s. (range g.size m s).1) o ≤ g.size)
      finals_in a None = (omega arith, omega arith)
      finals_in a (Some s) =
          let z = in_size h twos m factors m s in
          let r = range_is h m many m s in (
            subst (λ (x : ℕ × ℕ). x.0 ≤ x.1) r z.ordered,
            subst (λ (x : ℕ × ℕ). x.1 ≤ g.size) r z.capped,
          )

      pub is_final : IsFinal tiles g f
      is_final = record {
        shown = is.shown;
        display = display;
        tile = on.tile;
        ranges = λ a k. let z = finals_in a (swapper e a) in (z.0, let y = z.1 in let s = on.size in omega (arith, y, s));
      }

      -- what rank r does in the leg, from these slots
      pub record LegRan (r : ℕ) (before : ℕ → Option (Piece Bracket)) : Type 0 where
        pub after : ℕ → Option (Piece Bracket)
        pub does : Does (bracket_carrier tiles.sizes r) r tiles (bswap_ops g m e shows r) (λ q. bswap_messages g m e shows q r) before after (λ q. bswap_messages g m e shows r q) (bswap_kept g m e shows r)

      abbrev into : (ℕ → ℕ → List (MessageView Bracket)) → ℕ → ℕ → List (MessageView Bracket)
      into ms r q = ms q r

      outside : (r : ℕ) (before : ℕ → Option (Piece Bracket)) → g.pos r ≡ None → LegRan r before
      outside r before k = record {
        after = before;
        does = subst (λ o. Does (bracket_carrier tiles.sizes r) r tiles (by_pos [] (leg_ops g m e shows) o) (λ q. by_pair (leg_messages g m e shows) (g.pos q) o) before before (λ q. by_pair (leg_messages g m e shows) o (g.pos q)) (by_pos [] (leg_kept g m e shows) o)) (sym k)
            (does_as (bracket_carrier tiles.sizes r) r tiles [] (λ q. []) (λ q. by_pair (leg_messages g m e shows) (g.pos q) None) before before (λ q. []) (λ q. []) [] (fun_ext (λ q. sym (none_to (leg_messages g m e shows) (g.pos q)))) refl
            (does_nothing (bracket_carrier tiles.sizes r) r tiles before));
      }

      module _ (r p : ℕ) (k : g.pos r ≡ Some p) (before : ℕ → Option (Piece Bracket)) (has : before 0 ≡ Some (full (g.leaf p))) where
        abbrev c : Carrier Bracket
        c = bracket_carrier tiles.sizes r

        place : (g.who p ≡ r) × (p < g.n)
        place = team.forth r p k

        -- behind the folding a swapper has its own
        sits_at : (s : ℕ) → h.pos r ≡ Some s → (seat e s ≡ p) × (s < g.n - e)
        sits_at s w = swaps g e two_e p s place.1 (sym (ap (option_and_then (swapper e)) k) ∙ w)

        inside : LegRan r before
        inside =
            let past = merge_round tiles g team on (folding g e) merging r p k before (λ w. has) (λ w. has) in
            let onh : OnTiles tiles h = record { tile = on.tile; size = on.size } in
            let mid = radix_rounds h twos m factors swapping tiles onh r m (omega arith) past.after (λ s w.
            let z = sits_at s w in
            past.holds (keeps_own p s z.0) has ∙ ap (λ x. Some (full (merged (folding g e) x))) (sym z.0)) in
            let last = collected tiles g team f is_final r p k mid.after (λ w. final (swapper e p) refl w (λ s x. mid.holds s (ap (option_and_then (swapper e)) k ∙ x))) in
            let two = does_both c r tiles (merge_ops g (folding g e) p) (radix_ops h twos m r) (λ q. by_pair (merge_messages g (folding g e)) (g.pos q) (Some p)) (λ q. radix_messages h twos m q r) before past.after mid.after (λ q. by_pair (merge_messages g (folding g e)) (Some p) (g.pos q)) (λ q. radix_messages h twos m r q) [] [] past.does mid.does in
            let three = does_both c r tiles (merge_ops g (folding g e) p ++ radix_ops h twos m r) (final_ops g f p) (λ q. by_pair (merge_messages g (folding g e)) (g.pos q) (Some p) ++ radix_messages h twos m q r) (λ q. by_pair (final_messages g f) (g.pos q) (Some p)) before mid.after last.after (λ q. by_pair (merge_messages g (folding g e)) (Some p) (g.pos q) ++ radix_messages h twos m r q) (λ q. by_pair (final_messages g f) (Some p) (g.pos q)) [] (final_kept g f p) two last.does in
            let by_rank : Does c r tiles (parts_ops r) (λ q. parts_messages q r) before last.after (λ q. parts_messages r q) (by_pos [] (leg_kept g m e shows) (g.pos r)) =
            subst (λ o. Does c r tiles ((by_pos [] (merge_ops g (folding g e)) o ++ radix_ops h twos m r) ++ by_pos [] (final_ops g f) o) (λ q. (by_pair (merge_messages g (folding g e)) (g.pos q) o ++ radix_messages h twos m q r) ++ by_pair (final_messages g f) (g.pos q) o) before last.after (λ q. (by_pair (merge_messages g (folding g e)) o (g.pos q) ++ radix_messages h twos m r q) ++ by_pair (final_messages g f) o (g.pos q)) (by_pos [] (leg_kept g m e shows) o)) (sym k) three in
            record {
              after = last.after;
              does = subst (λ ops. Does c r tiles ops (λ q. bswap_messages g m e shows q r) before last.after (λ q. bswap_messages g m e shows r q) (bswap_kept g m e shows r)) (ops_are r)
                  (does_as c r tiles (parts_ops r) (into parts_messages r) (into (bswap_messages g m e shows) r) before last.after (parts_messages r) (bswap_messages g m e shows r) (bswap_kept g m e shows r) (fun_ext (λ q. messages_are q r)) (fun_ext (messages_are r)) by_rank);
            }
          where
            -- the final piece of a swapper
            final : {sl : Option (Piece Bracket)} (o : Option ℕ) → swapper e p ≡ o → by_pos false (λ s. true) o ≡ true → ((s : ℕ) → o ≡ Some s → sl ≡ Some (record { tile = g.tile; lo = (range_of twos g.size m s).0; hi = (range_of twos g.size m s).1; content = radix_of h twos m s })) → sl ≡ Some (record { tile = g.tile; lo = by_pos 0 (λ s. (range g.size m s).0) o; hi = by_pos 0 (λ s. (range g.size m s).1) o; content = bswap_bracket g e })
            final None w t y = absurd (cc)
            final (Some s) w t y =
                let z = swaps g e two_e p s place.1 w in
                let a = range_is h m many m s in
                let n = many in
                let b : radix_of h twos m s ≡ bswap_bracket g e = held_is h m many m s ∙ whole_is g m e is.count is.few s (let l = z.1 in omega (arith, l, n)) in
                y s refl ∙ (λ j. Some (record { tile = g.tile; lo = (a j).0; hi = (a j).1; content = b j }))

      pub leg_runs : (r : ℕ) (before : ℕ → Option (Piece Bracket)) → ((p : ℕ) → g.pos r ≡ Some p → before 0 ≡ Some (full (g.leaf p))) → LegRan r before
      leg_runs r before has = go (g.pos r) refl
        where
          go : (o : Option ℕ) → g.pos r ≡ o → LegRan r before
          go None k = outside r before k
          go (Some p) k = inside r p k before (has p k)
