-- Behind round 0: each group's leg goes on from its members' folds, and all groups work at once.
use Rattle.std.proofs.Common.{◌≡◌, ◌≢◌, ℕ, zero, suc, ◌+◌, ◌*◌, ◌^◌, ◌<◌, ◌≤◌, List, [], ◌∷◌, map, length, get_or, refl, sym, ap, ◌∙◌, subst, arith, Option, Some, None, ⊎_elim, inl, inr}
use Rattle.std.proofs.lemmas.List.{length-map}
use Rattle.std.proofs.lemmas.List.FromFn.{length-map-range_with_len}
use Rattle.std.specs.Prelude.{◌⊎◌}
use Rattle.std.specs.List.{AllByRecursion, filter}
use mathlib.Core.Path.{fun_ext}
use Rattle.icet_model.specs.declared.bracket.Bracket.{Bracket}
use Rattle.icet_model.specs.declared.exchange.Kind.{Kind}
use Rattle.icet_model.specs.declared.exchange.Kind.TheVariants.{Send, Take}
use Rattle.icet_model.specs.declared.exchange.Exchange.{Exchange}
use Rattle.icet_model.specs.declared.exchange.Op.{Op}
use Rattle.icet_model.specs.Exchange.{IsRising, exchanges, heading, key, key_of, sends_to, takes_from}
use Rattle.icet_model.specs.Matched.{HasPeerIn}
use Rattle.icet_model.specs.Plan.{bracket_carrier}
use Rattle.icet_model.specs.Run.{Carrier, Local, run}
use Rattle.icet_plan.specs.Each.{each}
use Rattle.icet_plan.proofs.CarrierImages.{local_same}
use Rattle.icet_plan.proofs.FlowIsOne.{AreMatched}
use Rattle.icet_plan.proofs.Lists.{all_weaker}
use Rattle.icet_plan.proofs.LocalRuns.{exchanges-append}
use Rattle.icet_plan.proofs.PlanFlows.{matched_programs, of_program}
use Rattle.icet_plan.proofs.PlanRows.{parts_beside}
use Rattle.icet_plan.proofs.Segments.{AreWithin, Does, IsPart, all_append, does_nothing, from_slots}
use Rattle.icet_plan.proofs.SingleSteps.{Ran, does_as, ran_each}
use Rattle.icet_groups.specs.Tiles.{TileView}
use Rattle.icet_legs.specs.Leg.{AreRanks, IsInRounds, IsLeg, IsLegOf, IsTileOf, leg_programs}
use Rattle.icet_legs.specs.Team.{IsTeam, Team, by_pair, by_pos, loaded, place_in}
use Rattle.icet_legs.specs.TileStrategy.{TileStrategy, kept_of, leaves_of, messages_of, ops_of}
use Rattle.icet_legs.proofs.LegAlone.{is_program, same_exchanges}
use Rattle.icet_legs.proofs.ListTeams.{all_get_or, leaves_are, list_team, slice_at}
use Rattle.icet_legs.proofs.Loads.{LoadNothing}
use Rattle.icet_multi.specs.Direct.{tile_bracket}
use Rattle.icet_multi.specs.Rules.{tile_of}
use Rattle.icet_multi.proofs.DirectRuns.{Slots, nothing}
use Rattle.icet_multi.proofs.OnTiles.{tiles_of}
use Rattle.icet_multi.specs.FilledSlot.{RunsLeg, leaf_piece}
use Rattle.icet_multi.specs.Reduce.{block_brackets, block_tile, display_in, group_team}
use Rattle.icet_multi.specs.Reduced.{team_for}
use Rattle.icet_multi.proofs.BlocksRun.{HoldsBefore, get_mapped}
use Rattle.icet_multi.proofs.EachOf.{each_none}
use Rattle.icet_multi.proofs.FilledLegs.{legs_begin}
use Rattle.icet_multi.proofs.GroupMembers.{AreSeats, group_apart, one_group, stands}

-- the leg of the group of tile t
pub record IsLegAt (s : TileStrategy) (ranks : ℕ) (tiles : List TileView) (groups : List (List ℕ)) (t : ℕ) : Type 0 where
  pub rounds : ℕ
  pub few : rounds < 2 ^ 16
  pub is_leg : IsLeg (tiles_of tiles) ranks (group_team tiles groups t) rounds (s.bracket (block_brackets (tile_of tiles t) (get_or groups t []))) (ops_of s (group_team tiles groups t) (display_in tiles groups t)) (messages_of s (group_team tiles groups t) (display_in tiles groups t)) (kept_of s (group_team tiles groups t) (display_in tiles groups t))

module _ (s : TileStrategy) (ranks : ℕ) (tiles : List TileView) (groups : List (List ℕ)) (are : AreSeats ranks tiles groups) (t : ℕ) (l : t < length tiles) where
  abbrev tile_here : TileView
  tile_here = tile_of tiles t

  abbrev group_here : List ℕ
  group_here = get_or groups t []

  abbrev team_here : Team
  team_here = group_team tiles groups t

  team_is : IsTeam team_here
  team_is = list_team group_here (block_brackets tile_here group_here) t tile_here.size 1 (group_apart ranks tiles groups are t)

  brackets_long : length (block_brackets tile_here group_here) ≡ length group_here
  brackets_long = length-map-range_with_len (λ j. tile_bracket (block_tile tile_here group_here j)) 0 (length group_here)

  ranked_here : AreRanks ranks team_here
  ranked_here p k = all_get_or (λ r. r < ranks) group_here p 0 (are.for.are t l).within k

  module _ (programs : List (List Op)) (bracket : Bracket) (rounds : ℕ) (of : IsLegOf s (team_for t tile_here group_here) tile_here.display programs bracket rounds) where
    display_is : display_in tiles groups t ≡ of.shows
    display_is = ap (λ d. by_pos 0 (λ p. p) (place_in group_here d)) (sym of.display_is) ∙ ap (by_pos 0 (λ p. p)) (team_is.back of.shows of.shown)

    is_tile : IsTileOf (tiles_of tiles) team_here of.shows
    is_tile =
        let none : TileView = record { size = 0; display = 0; contributors = [] } in
        let a = length-map tiles (λ (z : TileView). z.size) in
        let b = length-map tiles (λ (z : TileView). z.display) in
        record {
          tile = omega (arith, l, a);
          size = sym (get_mapped (λ z. z.size) tiles t none 0 l);
          display = slice_at (tiles_of tiles).displays t 0 (omega (arith, l, b)) ∙ ap (λ z. Some z) (get_mapped (λ z. z.display) tiles t none 0 l ∙ sym of.display_is);
        }

    said : IsLeg (tiles_of tiles) ranks team_here (s.rounds team_here.n) (s.bracket (leaves_of team_here)) (ops_of s team_here of.shows) (messages_of s team_here of.shows) (kept_of s team_here of.shows)
    said = of.is_leg (tiles_of tiles) ranks is_tile ranked_here

    placed : IsLeg (tiles_of tiles) ranks team_here (s.rounds team_here.n) (s.bracket (block_brackets tile_here group_here)) (ops_of s team_here (display_in tiles groups t)) (messages_of s team_here (display_in tiles groups t)) (kept_of s team_here (display_in tiles groups t))
    placed =
        subst (λ d. IsLeg (tiles_of tiles) ranks team_here (s.rounds team_here.n) (s.bracket (block_brackets tile_here group_here)) (ops_of s team_here d) (messages_of s team_here d) (kept_of s team_here d)) (sym display_is)
        (subst (λ ys. IsLeg (tiles_of tiles) ranks team_here (s.rounds team_here.n) (s.bracket ys) (ops_of s team_here of.shows) (messages_of s team_here of.shows) (kept_of s team_here of.shows)) (leaves_are group_here (block_brackets tile_here group_here) t tile_here.size 1 brackets_long) said)

    pub leg_at : IsLegAt s ranks tiles groups t
    leg_at = record { rounds = s.rounds team_here.n; few = of.few; is_leg = placed }

keys_of : (first rounds : ℕ) (e : Exchange) → IsInRounds first rounds e → (2 * first ≤ key e) × (key e < 2 * (first + rounds))
keys_of first rounds e w = go e.kind refl
  where
    go : (k : Kind) → e.kind ≡ k → (2 * first ≤ key e) × (key e < 2 * (first + rounds))
    go Send h = let z : key e ≡ 2 * e.round = ap (key_of e.round) h in let a = w.from in let b = w.to in (omega (arith, z, a), omega (arith, z, b))
    go Take h = let z : key e ≡ 2 * e.round + 1 = ap (key_of e.round) h in let a = w.from in let b = w.to in (omega (arith, z, a), omega (arith, z, b))

-- programs without exchanges
pub silent_part : (ops : ℕ → List Op) (l u : ℕ) → l ≤ u → ((r : ℕ) → exchanges (ops r) ≡ []) → IsPart ops l u
silent_part ops l u o none = record {
  ordered = o;
  matched = record {
    rising = λ r. subst IsRising (sym (none r)) tt;
    pairs = λ q r. ap (λ es. map heading (filter (sends_to r) es)) (none q) ∙ sym (ap (λ es. map heading (filter (takes_from q) es)) (none r));
  };
  within = λ r. subst (AreWithin l u) (sym (none r)) tt;
}

module _ (s : TileStrategy) (loads : (g : Team) (shows r : ℕ) → LoadNothing (ops_of s g shows r)) (ranks : ℕ) (tiles : List TileView) (groups : List (List ℕ)) (are : AreSeats ranks tiles groups) (legs : (t : ℕ) → t < length tiles → 0 < length (tile_of tiles t).contributors → IsLegAt s ranks tiles groups t) where
  abbrev group : ℕ → List ℕ
  group t = get_or groups t []

  abbrev team : ℕ → Team
  team t = group_team tiles groups t

  abbrev shows : ℕ → ℕ
  shows t = display_in tiles groups t

  abbrev ops : ℕ → ℕ → List Op
  ops t r = ops_of s (team t) (shows t) r

  is_team : (t : ℕ) → IsTeam (team t)
  is_team t = list_team (group t) (block_brackets (tile_of tiles t) (group t)) t (tile_of tiles t).size 1 (group_apart ranks tiles groups are t)

  -- where a rank has a seat, some contribute
  some : (t p : ℕ) → t < length tiles → p < length (group t) → 0 < length (tile_of tiles t).contributors
  some t p l m = let f = (are.for.are t l).few in omega (arith, f, m)

  -- a rank without a seat does nothing
  none_ops : (t r : ℕ) → place_in (group t) r ≡ None → ops t r ≡ []
  none_ops t r e = ap (by_pos [] (s.program (team t) (shows t))) e

  none_sent : (t q r : ℕ) → place_in (group t) q ≡ None → messages_of s (team t) (shows t) q r ≡ []
  none_sent t q r e = ap (λ o. by_pair (s.messages (team t) (shows t)) o (place_in (group t) r)) e

  none_taken : (t q r : ℕ) → place_in (group t) r ≡ None → messages_of s (team t) (shows t) q r ≡ []
  none_taken t q r e = go (place_in (group t) q)
    where
      go : (o : Option ℕ) → by_pair (s.messages (team t) (shows t)) o (place_in (group t) r) ≡ []
      go None = refl
      go (Some a) = ap (by_pos [] (s.messages (team t) (shows t) a)) e

  none_kept : (t r : ℕ) → place_in (group t) r ≡ None → kept_of s (team t) (shows t) r ≡ []
  none_kept t r e = ap (by_pos [] (s.kept (team t) (shows t))) e

  -- a rank with a seat does something in no other group
  others : (t u r p : ℕ) → place_in (group t) r ≡ Some p → u ≢ t → ops u r ≡ []
  others t u r p at n = go (place_in (group u) r) refl
    where
      go : (o : Option ℕ) → place_in (group u) r ≡ o → by_pos [] (s.program (team u) (shows u)) o ≡ []
      go None e = refl
      go (Some q) e = absurd (n (one_group ranks tiles groups are u t r q p e at).0)

  -- ---- matched

  ranked : (t : ℕ) → t < length tiles → AreRanks ranks (team t)
  ranked t l p k = all_get_or (λ r. r < ranks) (group t) p 0 (are.for.are t l).within k

  module _ (t : ℕ) (l : t < length tiles) (h : 0 < length (tile_of tiles t).contributors) where
    abbrev leg : IsLegAt s ranks tiles groups t
    leg = legs t l h

    row : (r : ℕ) → exchanges (loaded (team t) (ops t) r) ≡ exchanges (ops t r)
    row r = same_exchanges (team t) (ops t) r

    at : (r : ℕ) → exchanges (get_or (leg_programs ranks (team t) (ops t)) r []) ≡ exchanges (ops t r)
    at r = ap exchanges (is_program (team t) (is_team t) ranks (ranked t l) (ops t) leg.is_leg.outside r) ∙ row r

    leg_matched : AreMatched (ops t)
    leg_matched = let m = matched_programs (leg_programs ranks (team t) (ops t)) leg.is_leg.matched in record {
      rising = λ r. subst IsRising (at r) (m.rising r);
      pairs = λ q r. sym (ap (λ es. map heading (filter (sends_to r) es)) (at q)) ∙ (m.pairs q r ∙ ap (λ es. map heading (filter (takes_from q) es)) (at r));
    }

    leg_part : IsPart (ops t) 2 (2 * (1 + 2 ^ 16))
    leg_part = record {
      ordered = omega arith;
      matched = leg_matched;
      within = λ r. all_weaker (IsInRounds 1 leg.rounds) (λ e. (2 ≤ key e) × (key e < 2 * (1 + 2 ^ 16))) (λ e w. let k = keys_of 1 leg.rounds e w in let a = k.0 in let b = k.1 in let f = leg.few in (omega (arith, a), omega (arith, b, f))) (exchanges (ops t r)) (leg.is_leg.within r);
    }

    leg_peers : (r : ℕ) → AllByRecursion (HasPeerIn ranks r) (exchanges (ops t r))
    leg_peers r =
        let n : length (map exchanges (leg_programs ranks (team t) (ops t))) ≡ ranks = length-map (leg_programs ranks (team t) (ops t)) exchanges ∙ length-map-range_with_len (loaded (team t) (ops t)) 0 ranks in
        subst (λ k. AllByRecursion (HasPeerIn k r) (exchanges (ops t r))) n
        (subst (AllByRecursion (HasPeerIn (length (map exchanges (leg_programs ranks (team t) (ops t)))) r)) (of_program (leg_programs ranks (team t) (ops t)) r ∙ at r) (leg.is_leg.matched.peers r))

  -- where nobody contributes, nobody has a seat
  nobody : (t r : ℕ) → t < length tiles → length (tile_of tiles t).contributors ≡ 0 → place_in (group t) r ≡ None
  nobody t r l e = go (group t) (let f = (are.for.are t l).few in let z : length (group t) ≡ 0 = omega (arith, e, f) in z)
    where
      go : (xs : List ℕ) → length xs ≡ 0 → place_in xs r ≡ None
      go [] z = refl
      go (x ∷ xs) z = absurd (omega (arith, z))

  or_none : (n : ℕ) → (0 < n) ⊎ (n ≡ 0)
  or_none n = grind arith

  part : (t : ℕ) → t < length tiles → IsPart (ops t) 2 (2 * (1 + 2 ^ 16))
  part t l = ⊎_elim
      (λ (c : 0 < length (tile_of tiles t).contributors). leg_part t l c)
      (λ (e : length (tile_of tiles t).contributors ≡ 0). silent_part (ops t) 2 (2 * (1 + 2 ^ 16)) (omega arith) (λ r. ap exchanges (none_ops t r (nobody t r l e))))
      (or_none (length (tile_of tiles t).contributors))

  peers : (t r : ℕ) → t < length tiles → AllByRecursion (HasPeerIn ranks r) (exchanges (ops t r))
  peers t r l = ⊎_elim
      (λ (c : 0 < length (tile_of tiles t).contributors). leg_peers t l c r)
      (λ (e : length (tile_of tiles t).contributors ≡ 0). subst (λ xs. AllByRecursion (HasPeerIn ranks r) (exchanges xs)) (sym (none_ops t r (nobody t r l e))) tt)
      (or_none (length (tile_of tiles t).contributors))

  -- all legs at once
  beside : (k : ℕ) → k ≤ length tiles → IsPart (λ r. each (λ t. ops t r) k) 2 (2 * (1 + 2 ^ 16))
  beside zero l = silent_part (λ r. []) 2 (2 * (1 + 2 ^ 16)) (omega arith) (λ r. refl)
  beside (suc k) l = parts_beside (λ r. each (λ t. ops t r) k) (ops k) 2 (2 * (1 + 2 ^ 16)) (beside k (omega (arith, l))) (part k (omega (arith, l))) (λ r. alone r (place_in (group k) r) refl)
    where
      alone : (r : ℕ) (o : Option ℕ) → place_in (group k) r ≡ o → (exchanges (each (λ t. ops t r) k) ≡ []) ⊎ (exchanges (ops k r) ≡ [])
      alone r None e = inr (ap exchanges (none_ops k r e))
      alone r (Some p) e = inl (ap exchanges (each_none (λ t. ops t r) k (λ b m. others k b r p e (λ z. absurd (omega (arith, z, m))))))

  pub legs_part : IsPart (λ r. each (λ t. ops t r) (length tiles)) 2 (2 * (1 + 2 ^ 16))
  legs_part = beside (length tiles) (omega arith)

  pub legs_peers : (r : ℕ) → AllByRecursion (HasPeerIn ranks r) (exchanges (each (λ t. ops t r) (length tiles)))
  legs_peers r = from (length tiles) (omega arith)
    where
      from : (k : ℕ) → k ≤ length tiles → AllByRecursion (HasPeerIn ranks r) (exchanges (each (λ t. ops t r) k))
      from zero l = tt
      from (suc k) l = subst (AllByRecursion (HasPeerIn ranks r)) (sym (exchanges-append (each (λ t. ops t r) k) (ops k r))) (all_append (HasPeerIn ranks r) (exchanges (each (λ t. ops t r) k)) (exchanges (ops k r)) (from k (omega (arith, l))) (peers k r (omega (arith, l))))

  -- ---- what each rank does

  module _ (r : ℕ) where
    abbrev c : Carrier Bracket
    c = bracket_carrier (tiles_of tiles).sizes r

    abbrev From : ℕ → Slots → Type 0
    From n sl = (t p : ℕ) → n ≤ t → t < length tiles → place_in (group t) r ≡ Some p → sl 0 ≡ Some (leaf_piece (team t) p)

    one_runs : (t : ℕ) → t < length tiles → (sl : Slots) → From t sl → Ran c r (tiles_of tiles) (From (suc t)) (ops t r) (λ q. messages_of s (team t) (shows t) q r) sl (λ q. messages_of s (team t) (shows t) r q) (kept_of s (team t) (shows t) r)
    one_runs t l sl i = go (place_in (group t) r) refl
      where
        go : (o : Option ℕ) → place_in (group t) r ≡ o → Ran c r (tiles_of tiles) (From (suc t)) (ops t r) (λ q. messages_of s (team t) (shows t) q r) sl (λ q. messages_of s (team t) (shows t) r q) (kept_of s (team t) (shows t) r)
        go None e = record {
          after = sl;
          does = subst (λ xs. Does c r (tiles_of tiles) xs (λ q. messages_of s (team t) (shows t) q r) sl sl (λ q. messages_of s (team t) (shows t) r q) (kept_of s (team t) (shows t) r)) (sym (none_ops t r e))
              (subst (λ ks. Does c r (tiles_of tiles) [] (λ q. messages_of s (team t) (shows t) q r) sl sl (λ q. messages_of s (team t) (shows t) r q) ks) (sym (none_kept t r e))
              (does_as c r (tiles_of tiles) [] nothing (λ q. messages_of s (team t) (shows t) q r) sl sl nothing (λ q. messages_of s (team t) (shows t) r q) [] (fun_ext (λ q. sym (none_taken t q r e))) (fun_ext (λ q. sym (none_sent t r q e))) (does_nothing c r (tiles_of tiles) sl)));
          holds = λ u p k m at. i u p (omega (arith, k)) m at;
        }
        go (Some p) e =
            let st = stands ranks tiles groups are t r p e in
            let leg = legs t l (some t p l st.1) in
            let size : (team t).size ≡ get_or (tiles_of tiles).sizes t 0 = sym (get_mapped (λ z. z.size) tiles t (record { size = 0; display = 0; contributors = [] }) 0 l) in
            let ran : RunsLeg (tiles_of tiles) r (ops t r) (messages_of s (team t) (shows t)) (kept_of s (team t) (shows t)) sl = legs_begin (tiles_of tiles) ranks (team t) leg.rounds (s.bracket (block_brackets (tile_of tiles t) (group t))) (ops t) (messages_of s (team t) (shows t)) (kept_of s (team t) (shows t)) leg.is_leg size r p e (loads (team t) (shows t) r) sl (i t p (omega arith) l e) in
            let end : Local Bracket = run c r (λ q. messages_of s (team t) (shows t) q r) (ops t r) (from_slots c r sl) in
            record {
              after = end.slots;
              does = record { fits = ran.fits; does = local_same end (record { slots = end.slots; kept = kept_of s (team t) (shows t) r; sent = λ q. messages_of s (team t) (shows t) r q; used = λ q. length (messages_of s (team t) (shows t) q r) }) refl ran.keeps ran.sends ran.takes };
              holds = λ u q k m at. absurd (let z = (one_group ranks tiles groups are t u r p q e at).0 in omega (arith, z, k));
            }

    pub legs_run : (sl : Slots) → HoldsBefore ranks tiles groups are r (length tiles) sl → Ran c r (tiles_of tiles) (From (length tiles)) (each (λ t. ops t r) (length tiles)) (λ q. each (λ t. messages_of s (team t) (shows t) q r) (length tiles)) sl (λ q. each (λ t. messages_of s (team t) (shows t) r q) (length tiles)) (each (λ t. kept_of s (team t) (shows t) r) (length tiles))
    legs_run sl holds = ran_each c r (tiles_of tiles) From (λ t. ops t r) (λ t q. messages_of s (team t) (shows t) q r) (λ t q. messages_of s (team t) (shows t) r q) (λ t. kept_of s (team t) (shows t) r) (length tiles) (λ t u l i. one_runs t l u i) sl (λ t p k m at. holds t p m at)
