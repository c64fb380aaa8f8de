-- The programs of reduce make a plan with the rule's messages and order.
use Rattle.std.proofs.Common.{◌≡◌, ◌≢◌, ℕ, ◌+◌, ◌*◌, ◌^◌, ◌<◌, ◌≤◌, Bool, true, false, cond, List, [], ◌∷◌, ◌++◌, length, length-append, get_or, refl, sym, ap, ◌∙◌, subst, arith, eq-eqb, ne_eqb, Option, Some, None, ⊎_elim}
use Rattle.std.proofs.lemmas.Bool.Decides.{nat_tests}
use Rattle.std.proofs.lemmas.List.{append-nil, get_or_past, length-map}
use Rattle.std.proofs.lemmas.List.FromFn.{get_or-map-range_with_len, length-map-range_with_len}
use Rattle.std.specs.Prelude.{◌==◌, ◌&&◌, ◌⊎◌, nat_le, nat_lt, not}
use Rattle.std.specs.List.{AllByRecursion, filter}
use mathlib.Core.Path.{fun_ext}
use Rattle.icet_model.specs.declared.bracket.Bracket.{Bracket}
use Rattle.icet_model.specs.declared.bracket.Bracket.TheVariants.{Empty}
use Rattle.icet_model.specs.declared.exchange.Op.{Op}
use Rattle.icet_model.specs.Exchange.{IsRising, exchanges, of_rank}
use Rattle.icet_model.specs.Flow.{program}
use Rattle.icet_model.specs.Matched.{HasPeerIn}
use Rattle.icet_model.specs.Plan.{IsPlan, PlanView, bracket_carrier, bracket_flow, has_place, plan_exchanges}
use Rattle.icet_model.specs.Run.{MessageView, Piece}
use Rattle.icet_plan.specs.Each.{each}
use Rattle.icet_plan.proofs.Assemble.{DoesAll, plan_flow, plan_matched, plan_sound}
use Rattle.icet_plan.proofs.FlowIsOne.{AreMatched}
use Rattle.icet_plan.proofs.Lists.{all_map, all_weaker, filter-append}
use Rattle.icet_plan.proofs.LocalRuns.{exchanges-append}
use Rattle.icet_plan.proofs.PlanFlows.{of_program}
use Rattle.icet_plan.proofs.Segments.{Does, IsPart, all_append, does_both, parts_join}
use Rattle.icet_plan.proofs.SingleSteps.{does_as}
use Rattle.icet_groups.specs.Tiles.{IsTile, TileView}
use Rattle.icet_legs.specs.Team.{Team, by_pos, place_in}
use Rattle.icet_legs.specs.TileStrategy.{TileStrategy, kept_of, messages_of, ops_of}
use Rattle.icet_legs.proofs.ListTeams.{all_get_or}
use Rattle.icet_legs.proofs.Loads.{LoadNothing}
use Rattle.icet_legs.proofs.LegsInRow.{all_each}
use Rattle.icet_multi.specs.Direct.{folds, messages_for, sending, sends_for, takes_for}
use Rattle.icet_multi.specs.Rules.{tile_of}
use Rattle.icet_multi.proofs.DirectRuns.{Slots, nothing}
use Rattle.icet_multi.proofs.Distinct.{has_none}
use Rattle.icet_multi.proofs.OnTiles.{tiles_of}
use Rattle.icet_multi.specs.Reduce.{block_brackets, block_tile, by_block, display_in, group_team, reduce_bracket, reduce_exchanges, reduce_messages}
use Rattle.icet_multi.specs.Reduced.{block_ops, blank_ops, blanking, folding, group_ops, handing, reduce_plan, reduce_program}
use Rattle.icet_multi.proofs.BlanksRun.{blank_kept, blank_piece, blanks_run, blanks_silent}
use Rattle.icet_multi.proofs.BlocksMatched.{block_exchanges, blocks_part, blocks_peers, none_by_block}
use Rattle.icet_multi.proofs.BlocksRun.{blocks_run, get_mapped}
use Rattle.icet_multi.proofs.EachOf.{each_image, each_none, each_one}
use Rattle.icet_multi.proofs.GroupMembers.{AreSeats, block_is, stands}
use Rattle.icet_multi.proofs.GroupsRun.{IsLegAt, legs_part, legs_peers, legs_run, silent_part}

neither : (b : Bool) → cond {A = List Op} b [] [] ≡ []
neither true = refl
neither false = refl

-- pieces of another tile don't hold the position
elsewhere : (t i u : ℕ) (ps : List (Piece Bracket)) → u ≢ t → AllByRecursion (λ p. p.tile ≡ u) ps → filter (has_place t i) ps ≡ []
elsewhere t i u [] n h = refl
elsewhere t i u (p ∷ ps) n h =
    ap (λ b. cond (b && (nat_le p.lo i && nat_lt i p.hi)) (p ∷ filter (has_place t i) ps) (filter (has_place t i) ps)) (ne_eqb p.tile t (λ e. n (sym h.0 ∙ e)))
    ∙ elsewhere t i u ps n h.1

-- of the pieces of all tiles those of one hold its positions
of_one : (kept : ℕ → List (Piece Bracket)) (t i k : ℕ) → t < k → ((u : ℕ) → u < k → AllByRecursion (λ p. p.tile ≡ u) (kept u)) → filter (has_place t i) (each kept k) ≡ filter (has_place t i) (kept t)
of_one kept t i k l h =
    each_image (filter (has_place t i)) refl (filter-append (has_place t i)) kept (λ u. filter (has_place t i) (kept u)) k (λ u m. refl)
    ∙ each_one (λ u. filter (has_place t i) (kept u)) t k l (λ u m n. elsewhere t i u (kept u) n (h u m))

module _ (s : TileStrategy) (loads : (g : Team) (shows r : ℕ) → LoadNothing (ops_of s g shows r)) (ranks : ℕ) (tiles : List TileView) (groups : List (List ℕ)) (are : AreSeats ranks tiles groups) (legs : (t : ℕ) → t < length tiles → 0 < length (tile_of tiles t).contributors → IsLegAt s ranks tiles groups t) where
  abbrev plan : PlanView
  plan = reduce_plan s ranks tiles groups

  abbrev count : ℕ
  count = length tiles

  abbrev group : ℕ → List ℕ
  group t = get_or groups t []

  abbrev block : ℕ → ℕ → TileView
  block t j = block_tile (tile_of tiles t) (group t) j

  abbrev legs_of : ℕ → List Op
  legs_of r = each (λ t. ops_of s (group_team tiles groups t) (display_in tiles groups t) r) count

  abbrev blanks_of : ℕ → List Op
  blanks_of r = each (λ t. blanking t (tile_of tiles t) r) count

  abbrev legs_kept : ℕ → List (Piece Bracket)
  legs_kept r = each (λ t. kept_of s (group_team tiles groups t) (display_in tiles groups t) r) count

  abbrev blanks_kept : ℕ → List (Piece Bracket)
  blanks_kept r = each (λ t. blank_kept t (tile_of tiles t) r) count

  abbrev kept : ℕ → List (Piece Bracket)
  kept r = legs_kept r ++ blanks_kept r

  -- ---- a rank beyond those of the plan has nothing to do

  module _ (r : ℕ) (past : ranks ≤ r) where
    no_sending : (t j : ℕ) → t < count → j < length (group t) → sending t (block t j) r ≡ []
    no_sending t j l m =
        let is = block_is ranks (tile_of tiles t) (group t) (are.for.are t l) j m in
        let away = has_none r (block t j).contributors (all_weaker (λ c. c < ranks) (λ c. r ≢ c) (λ c b e. absurd (omega (arith, b, past, e))) (block t j).contributors is.contributors) in
        ap (λ b. cond (b && not (r == (block t j).display)) (handing t (block t j)) []) away

    no_folding : (t j : ℕ) → t < count → j < length (group t) → folding t (block t j) r ≡ []
    no_folding t j l m =
        let d = (block_is ranks (tile_of tiles t) (group t) (are.for.are t l) j m).display in
        ap (λ b. cond b (folds t (block t j) (block t j).contributors) []) (ne_eqb (block t j).display r (λ e. absurd (omega (arith, d, past, e))))

    no_leg : (t : ℕ) → t < count → ops_of s (group_team tiles groups t) (display_in tiles groups t) r ≡ []
    no_leg t l = go (place_in (group t) r) refl
      where
        go : (o : Option ℕ) → place_in (group t) r ≡ o → by_pos [] (s.program (group_team tiles groups t) (display_in tiles groups t)) o ≡ []
        go None e = refl
        go (Some p) e = absurd (let f = stands ranks tiles groups are t r p e in let a = f.0 in let b = all_get_or (λ q. q < ranks) (group t) p 0 (are.for.are t l).within f.1 in omega (arith, a, b, past))

    no_blank : (t : ℕ) → t < count → blanking t (tile_of tiles t) r ≡ []
    no_blank t l =
        let d = (are.for.are t l).tile.display in
        ap (λ b. cond (nat_lt 0 (length (tile_of tiles t).contributors)) [] (cond b (blank_ops t) [])) (ne_eqb (tile_of tiles t).display r (λ e. absurd (omega (arith, d, past, e))))
        ∙ neither (nat_lt 0 (length (tile_of tiles t).contributors))

    beyond : reduce_program s tiles groups r ≡ []
    beyond =
        let a : by_block (λ t x. sending t x r) tiles groups ≡ [] = none_by_block tiles groups (λ t x. sending t x r) no_sending in
        let b : by_block (λ t x. folding t x r) tiles groups ≡ [] = none_by_block tiles groups (λ t x. folding t x r) no_folding in
        let d : legs_of r ≡ [] = each_none (λ t. ops_of s (group_team tiles groups t) (display_in tiles groups t) r) count no_leg in
        let e : blanks_of r ≡ [] = each_none (λ t. blanking t (tile_of tiles t) r) count no_blank in
        λ i. (a i ++ b i) ++ (d i ++ e i)

  many : length plan.programs ≡ ranks
  many = length-map-range_with_len (reduce_program s tiles groups) 0 ranks

  is_program : (r : ℕ) → program plan.programs r ≡ reduce_program s tiles groups r
  is_program r = ⊎_elim
      (λ (l : r < ranks). get_or-map-range_with_len (reduce_program s tiles groups) 0 ranks r r [] l (omega arith))
      (λ (l : ranks ≤ r). get_or_past plan.programs r [] (omega (arith, l, many)) ∙ sym (beyond r l))
      (let z : (r < ranks) ⊎ (ranks ≤ r) = grind arith in z)

  -- ---- matched

  part : IsPart (reduce_program s tiles groups) 0 (2 * (1 + 2 ^ 16))
  part =
      parts_join (block_ops tiles groups) (group_ops s tiles groups) 0 2 (2 * (1 + 2 ^ 16)) (blocks_part ranks tiles groups are)
      (parts_join legs_of blanks_of 2 (2 * (1 + 2 ^ 16)) (2 * (1 + 2 ^ 16)) (legs_part s loads ranks tiles groups are legs) (silent_part blanks_of (2 * (1 + 2 ^ 16)) (2 * (1 + 2 ^ 16)) (omega arith) (λ r. blanks_silent tiles r)))

  matched : AreMatched (program plan.programs)
  matched = let m = part.matched in record {
    rising = λ r. subst (λ xs. IsRising (exchanges xs)) (sym (is_program r)) (m.rising r);
    pairs = λ q r. rw (is_program q) (rw (is_program r) (m.pairs q r));
  }

  program_exchanges : (r : ℕ) → exchanges (reduce_program s tiles groups r) ≡ exchanges (block_ops tiles groups r) ++ exchanges (legs_of r)
  program_exchanges r =
      exchanges-append (block_ops tiles groups r) (group_ops s tiles groups r)
      ∙ ap (λ z. exchanges (block_ops tiles groups r) ++ z) (exchanges-append (legs_of r) (blanks_of r) ∙ (ap (λ z. exchanges (legs_of r) ++ z) (blanks_silent tiles r) ∙ append-nil (exchanges (legs_of r))))

  peers : (r : ℕ) → AllByRecursion (HasPeerIn ranks r) (exchanges (reduce_program s tiles groups r))
  peers r = subst (AllByRecursion (HasPeerIn ranks r)) (sym (program_exchanges r)) (all_append (HasPeerIn ranks r) (exchanges (block_ops tiles groups r)) (exchanges (legs_of r)) (blocks_peers ranks tiles groups are r) (legs_peers s loads ranks tiles groups are legs r))

  -- ---- what each rank does

  abbrev taken : ℕ → ℕ → List (MessageView Bracket)
  taken r q = reduce_messages s tiles groups q r

  abbrev sent : ℕ → ℕ → List (MessageView Bracket)
  sent r q = reduce_messages s tiles groups r q

  runs : (r : ℕ) (sl : Slots) → (after : Slots) × Does (bracket_carrier (tiles_of tiles).sizes r) r (tiles_of tiles) (reduce_program s tiles groups r) (taken r) sl after (sent r) (kept r)
  runs r sl =
      let c = bracket_carrier (tiles_of tiles).sizes r in
      let leg_msgs : ℕ → ℕ → List (MessageView Bracket) = λ q p. each (λ t. messages_of s (group_team tiles groups t) (display_in tiles groups t) q p) count in
      let block_msgs : ℕ → ℕ → List (MessageView Bracket) = λ q p. by_block (λ t x. messages_for t x q p) tiles groups in
      let first = blocks_run ranks tiles groups are r sl in
      let second = legs_run s loads ranks tiles groups are legs r first.after first.holds in
      let third = blanks_run tiles r second.after in
      let behind = does_both c r (tiles_of tiles) (legs_of r) (blanks_of r) (λ q. leg_msgs q r) nothing first.after second.after third.0 (λ q. leg_msgs r q) nothing (legs_kept r) (blanks_kept r) second.does third.1 in (
        third.0,
        does_as c r (tiles_of tiles) (reduce_program s tiles groups r) (λ q. block_msgs q r ++ (leg_msgs q r ++ [])) (taken r) sl third.0 (λ q. block_msgs r q ++ (leg_msgs r q ++ [])) (sent r) (kept r)
            (fun_ext (λ q. ap (λ z. block_msgs q r ++ z) (append-nil (leg_msgs q r))))
            (fun_ext (λ q. ap (λ z. block_msgs r q ++ z) (append-nil (leg_msgs r q))))
            (does_both c r (tiles_of tiles) (block_ops tiles groups r) (group_ops s tiles groups r) (λ q. block_msgs q r) (λ q. leg_msgs q r ++ []) sl first.after third.0 (λ q. block_msgs r q) (λ q. leg_msgs r q ++ []) [] (kept r) first.does behind),
      )

  all_do : DoesAll plan (reduce_messages s tiles groups) kept
  all_do = record {
    matched = matched;
    peers = λ r. subst (λ xs. AllByRecursion (HasPeerIn (length plan.programs) r) (exchanges xs)) (sym (is_program r)) (subst (λ k. AllByRecursion (HasPeerIn k r) (exchanges (reduce_program s tiles groups r))) (sym many) (peers r));
    after = λ r. (runs r (λ _. None)).0;
    does = λ r. subst (λ xs. Does (bracket_carrier plan.tiles.sizes r) r plan.tiles xs (taken r) (λ _. None) (runs r (λ _. None)).0 (sent r) (kept r)) (sym (is_program r)) (runs r (λ _. None)).1;
  }

  -- ---- what is kept

  or_none : (n : ℕ) → (0 < n) ⊎ (n ≡ 0)
  or_none n = grind arith

  nat_lt_some : (n : ℕ) → 0 < n → nat_lt 0 n ≡ true
  nat_lt_some n l = grind (arith, nat_tests, l)

  nat_lt_none : (n : ℕ) → n ≡ 0 → nat_lt 0 n ≡ false
  nat_lt_none n e = grind (arith, nat_tests, e)

  no_seat : (t r : ℕ) → t < count → length (tile_of tiles t).contributors ≡ 0 → place_in (group t) r ≡ None
  no_seat t r l e = go (group t) (let f = (are.for.are t l).few in let z : length (group t) ≡ 0 = omega (arith, e, f) in z)
    where
      go : (xs : List ℕ) → length xs ≡ 0 → place_in xs r ≡ None
      go [] z = refl
      go (x ∷ xs) z = absurd (omega (arith, z))

  -- the bracket of a tile
  bracket_at : (t : ℕ) → t < count → get_or plan.brackets t Empty ≡ reduce_bracket s (tile_of tiles t) (group t)
  bracket_at t l = get_or-map-range_with_len (λ u. reduce_bracket s (tile_of tiles u) (group u)) 0 count t t Empty l (omega arith)

  abbrev Carries : ℕ → Piece Bracket → Type 0
  Carries t p = (p.tile ≡ t) × (p.content ≡ get_or plan.brackets t Empty)

  leg_carries : (t r : ℕ) → t < count → AllByRecursion (Carries t) (kept_of s (group_team tiles groups t) (display_in tiles groups t) r)
  leg_carries t r l = ⊎_elim
      (λ (c : 0 < length (tile_of tiles t).contributors).
      let b : reduce_bracket s (tile_of tiles t) (group t) ≡ s.bracket (block_brackets (tile_of tiles t) (group t)) = ap (λ z. cond z (s.bracket (block_brackets (tile_of tiles t) (group t))) Empty) (nat_lt_some (length (tile_of tiles t).contributors) c) in
      all_weaker (λ p. (p.tile ≡ t) × (p.content ≡ s.bracket (block_brackets (tile_of tiles t) (group t)))) (Carries t) (λ p h. (h.0, h.1 ∙ (sym b ∙ sym (bracket_at t l)))) (kept_of s (group_team tiles groups t) (display_in tiles groups t) r) ((legs t l c).is_leg.carries r))
      (λ (e : length (tile_of tiles t).contributors ≡ 0). subst (AllByRecursion (Carries t)) (sym (ap (by_pos [] (s.kept (group_team tiles groups t) (display_in tiles groups t))) (no_seat t r l e))) tt)
      (or_none (length (tile_of tiles t).contributors))

  blank_carries : (t r : ℕ) → t < count → AllByRecursion (Carries t) (blank_kept t (tile_of tiles t) r)
  blank_carries t r l = go (nat_lt 0 (length (tile_of tiles t).contributors)) refl ((tile_of tiles t).display == r)
    where
      go : (a : Bool) → nat_lt 0 (length (tile_of tiles t).contributors) ≡ a → (b : Bool) → AllByRecursion (Carries t) (cond a [] (cond b (blank_piece t (tile_of tiles t) ∷ []) []))
      go true e b = tt
      go false e false = tt
      go false e true = ((refl, sym (bracket_at t l ∙ ap (λ z. cond z (s.bracket (block_brackets (tile_of tiles t) (group t))) Empty) e)), tt)

  carries : (r : ℕ) → AllByRecursion (λ p. get_or plan.brackets p.tile Empty ≡ p.content) (kept r)
  carries r =
      all_append (λ p. get_or plan.brackets p.tile Empty ≡ p.content) (legs_kept r) (blanks_kept r)
      (all_each (λ p. get_or plan.brackets p.tile Empty ≡ p.content) (λ t. kept_of s (group_team tiles groups t) (display_in tiles groups t) r) count (λ t l. right t (kept_of s (group_team tiles groups t) (display_in tiles groups t) r) (leg_carries t r l)))
      (all_each (λ p. get_or plan.brackets p.tile Empty ≡ p.content) (λ t. blank_kept t (tile_of tiles t) r) count (λ t l. right t (blank_kept t (tile_of tiles t) r) (blank_carries t r l)))
    where
      right : (t : ℕ) (ps : List (Piece Bracket)) → AllByRecursion (Carries t) ps → AllByRecursion (λ p. get_or plan.brackets p.tile Empty ≡ p.content) ps
      right t ps h = all_weaker (Carries t) (λ p. get_or plan.brackets p.tile Empty ≡ p.content) (λ p h. ap (λ z. get_or plan.brackets z Empty) h.0 ∙ sym h.1) ps h

  -- a tile's display keeps each of its positions once
  module _ (t i : ℕ) (l : t < count) (u : i < (tile_of tiles t).size) where
    abbrev d : ℕ
    d = (tile_of tiles t).display

    legs_here : filter (has_place t i) (legs_kept d) ≡ filter (has_place t i) (kept_of s (group_team tiles groups t) (display_in tiles groups t) d)
    legs_here = of_one (λ v. kept_of s (group_team tiles groups v) (display_in tiles groups v) d) t i count l (λ v m. all_weaker (Carries v) (λ p. p.tile ≡ v) (λ p h. h.0) (kept_of s (group_team tiles groups v) (display_in tiles groups v) d) (leg_carries v d m))

    blanks_here : filter (has_place t i) (blanks_kept d) ≡ filter (has_place t i) (blank_kept t (tile_of tiles t) d)
    blanks_here = of_one (λ v. blank_kept v (tile_of tiles v) d) t i count l (λ v m. all_weaker (Carries v) (λ p. p.tile ≡ v) (λ p h. h.0) (blank_kept v (tile_of tiles v) d) (blank_carries v d m))

    display_at : get_or plan.tiles.displays t 0 ≡ d
    display_at = get_mapped (λ z. z.display) tiles t (record { size = 0; display = 0; contributors = [] }) 0 l

    by_leg : 0 < length (tile_of tiles t).contributors → length (filter (has_place t i) (kept_of s (group_team tiles groups t) (display_in tiles groups t) d)) + length (filter (has_place t i) (blank_kept t (tile_of tiles t) d)) ≡ 1
    by_leg c =
        let one : length (filter (has_place t i) (kept_of s (group_team tiles groups t) (display_in tiles groups t) d)) ≡ 1 = ap (λ z. length (filter (has_place t i) (kept_of s (group_team tiles groups t) (display_in tiles groups t) z))) (sym display_at) ∙ (legs t l c).is_leg.once i u in
        let none : length (filter (has_place t i) (blank_kept t (tile_of tiles t) d)) ≡ 0 = ap (λ z. length (filter (has_place t i) (cond z [] (cond (d == d) (blank_piece t (tile_of tiles t) ∷ []) [])))) (nat_lt_some (length (tile_of tiles t).contributors) c) in
        omega (arith, one, none)

    by_blank : length (tile_of tiles t).contributors ≡ 0 → length (filter (has_place t i) (kept_of s (group_team tiles groups t) (display_in tiles groups t) d)) + length (filter (has_place t i) (blank_kept t (tile_of tiles t) d)) ≡ 1
    by_blank e =
        let none : length (filter (has_place t i) (kept_of s (group_team tiles groups t) (display_in tiles groups t) d)) ≡ 0 = ap (λ o. length (filter (has_place t i) (by_pos [] (s.kept (group_team tiles groups t) (display_in tiles groups t)) o))) (no_seat t d l e) in
        let one : length (filter (has_place t i) (blank_kept t (tile_of tiles t) d)) ≡ 1 =
        ap (λ z. length (filter (has_place t i) (cond z [] (cond (d == d) (blank_piece t (tile_of tiles t) ∷ []) [])))) (nat_lt_none (length (tile_of tiles t).contributors) e)
        ∙ (ap (λ z. length (filter (has_place t i) (cond z (blank_piece t (tile_of tiles t) ∷ []) []))) (eq-eqb d d refl)
        ∙ (ap (λ z. length (cond (z && (nat_le 0 i && nat_lt i (tile_of tiles t).size)) (blank_piece t (tile_of tiles t) ∷ []) [])) (eq-eqb t t refl)
        ∙ ap (λ z. length (cond z (blank_piece t (tile_of tiles t) ∷ []) [])) (inside (tile_of tiles t).size u))) in
        omega (arith, one, none)
      where
        inside : (size : ℕ) → i < size → (nat_le 0 i && nat_lt i size) ≡ true
        inside size m = grind (arith, nat_tests)

    kept_once : length (filter (has_place t i) (kept d)) ≡ 1
    kept_once =
        ap (λ z. length z) (filter-append (has_place t i) (legs_kept d) (blanks_kept d))
        ∙ (length-append (filter (has_place t i) (legs_kept d)) (filter (has_place t i) (blanks_kept d))
        ∙ (ap (λ z. length z + length (filter (has_place t i) (blanks_kept d))) legs_here
        ∙ (ap (λ z. length (filter (has_place t i) (kept_of s (group_team tiles groups t) (display_in tiles groups t) d)) + length z) blanks_here
        ∙ ⊎_elim by_leg by_blank (or_none (length (tile_of tiles t).contributors)))))

  sizes_many : length plan.tiles.sizes ≡ count
  sizes_many = length-map tiles (λ x. x.size)

  once : (t i : ℕ) → t < length plan.tiles.sizes → i < get_or plan.tiles.sizes t 0 → length (filter (has_place t i) (kept (get_or plan.tiles.displays t 0))) ≡ 1
  once t i l u =
      let m : t < count = omega (arith, l, sizes_many) in
      let size : get_or plan.tiles.sizes t 0 ≡ (tile_of tiles t).size = get_mapped (λ z. z.size) tiles t (record { size = 0; display = 0; contributors = [] }) 0 m in
      let k : i < (tile_of tiles t).size = omega (arith, u, size) in
      ap (λ z. length (filter (has_place t i) (kept z))) (display_at t i m k) ∙ kept_once t i m k

  pub reduced_is_plan : AllByRecursion (IsTile ranks) tiles → IsPlan plan
  reduced_is_plan each_tile = record {
    formed = record {
      displays = length-map tiles (λ x. x.display) ∙ sym sizes_many;
      brackets = length-map-range_with_len (λ t. reduce_bracket s (tile_of tiles t) (group t)) 0 count ∙ sym sizes_many;
      shown = all_map (λ d. d < length plan.programs) (λ x. x.display) tiles (all_weaker (IsTile ranks) (λ x. x.display < length plan.programs) (λ x i. let d = i.display in omega (arith, d, many)) tiles each_tile);
    };
    matched = plan_matched plan (reduce_messages s tiles groups) kept all_do;
    sound = plan_sound plan (reduce_messages s tiles groups) kept all_do once carries;
  }

  leg_exchanges : (r k : ℕ) → exchanges (each (λ t. ops_of s (group_team tiles groups t) (display_in tiles groups t) r) k) ≡ each (λ t. exchanges (ops_of s (group_team tiles groups t) (display_in tiles groups t) r)) k
  leg_exchanges r k = each_image exchanges refl exchanges-append (λ t. ops_of s (group_team tiles groups t) (display_in tiles groups t) r) (λ t. exchanges (ops_of s (group_team tiles groups t) (display_in tiles groups t) r)) k (λ t l. refl)

  program_by_rule : (r : ℕ) → exchanges (reduce_program s tiles groups r) ≡ reduce_exchanges s tiles groups r
  program_by_rule r =
      program_exchanges r
      ∙ (ap (λ z. z ++ exchanges (legs_of r)) (block_exchanges ranks tiles groups are r)
      ∙ ap (λ z. (by_block (λ t x. sends_for t x r) tiles groups ++ by_block (λ t x. takes_for t x r) tiles groups) ++ z) (leg_exchanges r count))

  pub reduced_messages : (q r : ℕ) → bracket_flow plan q r ≡ reduce_messages s tiles groups q r
  reduced_messages = plan_flow plan (reduce_messages s tiles groups) kept all_do

  pub reduced_exchanges : (r : ℕ) → of_rank (plan_exchanges plan) r ≡ reduce_exchanges s tiles groups r
  reduced_exchanges r = of_program plan.programs r ∙ (ap exchanges (is_program r) ∙ program_by_rule r)
