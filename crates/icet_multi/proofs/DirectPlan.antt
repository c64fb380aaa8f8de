-- The direct programs make a plan with the strategy's messages and order.
use Rattle.std.proofs.Common.{◌≡◌, ℕ, zero, suc, ◌+◌, ◌<◌, ◌≤◌, cond, List, [], ◌∷◌, ◌++◌, map, length, get_or, refl, sym, ap, ◌∙◌, subst, arith, ne_eqb, ⊎_elim, Some, None}
use Rattle.std.specs.Prelude.{Result, Ok, Err, IfOk, ◌==◌, ◌&&◌, ◌⊎◌, ◌≢◌, not}
use Rattle.std.specs.List.{AllByRecursion, range_with_len, slice_get, filter}
use Rattle.std.proofs.lemmas.List.{length-map, get_or_past}
use Rattle.std.proofs.lemmas.List.FromFn.{length-range_with_len}
use Rattle.icet_model.specs.declared.exchange.Op.TheVariants.{Load, Swap, Keep}
use Rattle.icet_model.specs.Exchange.{IsRising, exchanges}
use Rattle.icet_model.specs.Matched.{HasPeerIn}
use Rattle.icet_model.specs.Flow.{program}
use Rattle.icet_model.specs.Plan.{PlanView, IsPlan, has_place, bracket_carrier}
use Rattle.icet_plan.proofs.Lists.{all_weaker, all_map}
use Rattle.icet_plan.proofs.FlowIsOne.{AreMatched}
use Rattle.icet_plan.proofs.Segments.{Does}
use Rattle.icet_plan.proofs.PlanFlows.{of_program}
use Rattle.icet_plan.proofs.Assemble.{DoesAll, plan_matched, plan_flow, plan_sound}
use Rattle.icet_multi.specs.Direct.{TileView, tile_bracket, direct_messages, send_of, folds, sending, sendings, showing, showings, direct_program, direct_plan, IsTile, AreTiles, IsDirect}
use Rattle.icet_multi.proofs.ByTile.{none_by_tile}
use Rattle.icet_multi.proofs.Distinct.{Apart, EachOnce, apart_from_pairs, has_none}
use Rattle.icet_multi.proofs.OnTiles.{all_on}
use Rattle.icet_multi.proofs.DirectRuns.{kept_from, direct_runs}
use Rattle.icet_multi.proofs.DirectMatched.{program_exchanges, direct_matched, direct_peers}
use Rattle.icet_multi.proofs.DirectKept.{kept_once, kept_carries}

get_listed : {V : Type 0} (f : ℕ → V) (d : V) (n first k : ℕ) → k < n → get_or (map f (range_with_len first n)) k d ≡ f (first + k)
get_listed f d zero first k l = absurd (omega arith)
get_listed f d (suc n) first zero l = ap f (let z : first ≡ first + 0 = omega arith in z)
get_listed f d (suc n) first (suc k) l = get_listed f d n (first + 1) k (omega arith) ∙ ap f (let z : first + 1 + k ≡ first + suc k = omega arith in z)

-- a rank beyond those of the plan has nothing to do
no_sendings : (n t : ℕ) (xs : List TileView) (r : ℕ) → n ≤ r → AllByRecursion (IsTile n) xs → sendings t xs r ≡ []
no_sendings n t xs r l h = none_by_tile (λ m x. sending m x r) t xs (all_weaker (IsTile n) (λ x. (m : ℕ) → sending m x r ≡ []) (λ x i m.
    let away = has_none r x.contributors (all_weaker (λ c. c < n) (λ c. r ≢ c) (λ c b e. absurd (omega (arith, b, l, e))) x.contributors i.contributors) in
    ap (λ b. cond (b && not (r == x.display)) (Load m 0 ∷ Swap (send_of m x) 0 ∷ []) []) away) xs h)

no_showings : (n t : ℕ) (xs : List TileView) (r : ℕ) → n ≤ r → AllByRecursion (IsTile n) xs → showings t xs r ≡ []
no_showings n t xs r l h = none_by_tile (λ m x. showing m x r) t xs (all_weaker (IsTile n) (λ x. (m : ℕ) → showing m x r ≡ []) (λ x i m.
    let d = i.display in
    ap (λ b. cond b (folds m x x.contributors ++ Keep 0 ∷ []) []) (ne_eqb x.display r (λ e. absurd (omega (arith, d, l, e))))) xs h)

record TileAt (xs : List TileView) (k : ℕ) : Type 0 where
  tile : TileView
  is : slice_get xs k ≡ Some tile

tile_at : (xs : List TileView) (k : ℕ) → k < length xs → TileAt xs k
tile_at [] k l = absurd (omega arith)
tile_at (x ∷ xs) zero l = record { tile = x; is = refl }
tile_at (x ∷ xs) (suc k) l = let h = tile_at xs k (omega arith) in record { tile = h.tile; is = h.is }

read_at : (f : TileView → ℕ) (xs : List TileView) (k : ℕ) (x : TileView) → slice_get xs k ≡ Some x → get_or (map f xs) k 0 ≡ f x
read_at f [] k x e = absurd (cc)
read_at f (y ∷ xs) zero x e = ap f (let s : y ≡ x = cc in s)
read_at f (y ∷ xs) (suc k) x e = read_at f xs k x e

module _ (n : ℕ) (xs : List TileView) (are : AreTiles n xs) where
  abbrev plan : PlanView
  plan = direct_plan n xs

  apart : Apart (λ x y. x.display ≢ y.display) xs
  apart = apart_from_pairs (λ x y. x.display ≢ y.display) xs are.displays

  once : EachOnce xs
  once = all_weaker (IsTile n) (λ x. Apart (λ a b. a ≢ b) x.contributors) (λ x i. apart_from_pairs (λ a b. a ≢ b) x.contributors i.distinct) xs are.each

  count : length plan.programs ≡ n
  count = length-map (range_with_len 0 n) (direct_program xs) ∙ length-range_with_len 0 n

  is_program : (r : ℕ) → program plan.programs r ≡ direct_program xs r
  is_program r = ⊎_elim
      (λ (l : r < n). get_listed (direct_program xs) [] n 0 r l ∙ ap (direct_program xs) (let z : 0 + r ≡ r = omega arith in z))
      (λ (l : n ≤ r). get_or_past plan.programs r [] (omega (arith, l, count)) ∙ (sym (no_showings n 0 xs r l are.each) ∙ ap (λ ops. ops ++ showings 0 xs r) (sym (no_sendings n 0 xs r l are.each))))
      (let s : (r < n) ⊎ (n ≤ r) = grind arith in s)

  runs : (r : ℕ) → Does (bracket_carrier plan.tiles.sizes r) r plan.tiles (program plan.programs r) (λ p. direct_messages xs p r) (λ _. None) (direct_runs plan.tiles plan.brackets r xs (all_on xs) once (λ _. None)).after (direct_messages xs r) (kept_from 0 xs r)
  runs r = subst (λ ops. Does (bracket_carrier plan.tiles.sizes r) r plan.tiles ops (λ p. direct_messages xs p r) (λ _. None) (direct_runs plan.tiles plan.brackets r xs (all_on xs) once (λ _. None)).after (direct_messages xs r) (kept_from 0 xs r)) (sym (is_program r)) (direct_runs plan.tiles plan.brackets r xs (all_on xs) once (λ _. None)).does

  matched : AreMatched (program plan.programs)
  matched = let m = direct_matched xs apart once in record {
    rising = λ r. subst (λ ops. IsRising (exchanges ops)) (sym (is_program r)) (m.rising r);
    pairs = λ q r. rw (is_program q) (rw (is_program r) (m.pairs q r));
  }

  all_do : DoesAll plan (direct_messages xs) (kept_from 0 xs)
  all_do = record {
    matched = matched;
    peers = λ r. subst (λ ops. AllByRecursion (HasPeerIn (length plan.programs) r) (exchanges ops)) (sym (is_program r)) (subst (λ k. AllByRecursion (HasPeerIn k r) (exchanges (direct_program xs r))) (sym count) (direct_peers n xs are.each r));
    after = λ r. (direct_runs plan.tiles plan.brackets r xs (all_on xs) once (λ _. None)).after;
    does = runs;
  }

  one_place : (t i : ℕ) → t < length plan.tiles.sizes → i < get_or plan.tiles.sizes t 0 → length (filter (has_place t i) (kept_from 0 xs (get_or plan.tiles.displays t 0))) ≡ 1
  one_place t i l u =
      let h = tile_at xs t (omega (arith, l, length-map xs (λ x. x.size))) in
      let shown : get_or plan.tiles.displays t 0 ≡ h.tile.display = read_at (λ x. x.display) xs t h.tile h.is in
      let inside : i < h.tile.size = let s = read_at (λ x. x.size) xs t h.tile h.is in omega (arith, s, u) in
      ap (λ k. length (filter (has_place k i) (kept_from 0 xs (get_or plan.tiles.displays t 0)))) (let z : t ≡ 0 + t = omega arith in z)
      ∙ kept_once (get_or plan.tiles.displays t 0) 0 t i xs h.tile h.is (sym shown) inside

  pub direct_is_plan : IsPlan plan
  direct_is_plan = record {
    formed = record {
      displays = length-map xs (λ x. x.display) ∙ sym (length-map xs (λ x. x.size));
      brackets = length-map xs tile_bracket ∙ sym (length-map xs (λ x. x.size));
      shown = all_map (λ d. d < length plan.programs) (λ x. x.display) xs (all_weaker (IsTile n) (λ x. x.display < length plan.programs) (λ x i. let d = i.display in omega (arith, d, count)) xs are.each);
    };
    matched = plan_matched plan (direct_messages xs) (kept_from 0 xs) all_do;
    sound = plan_sound plan (direct_messages xs) (kept_from 0 xs) all_do one_place (λ r. kept_carries r plan.tiles plan.brackets 0 xs (all_on xs));
  }

  pub direct_is_direct : IsDirect n xs plan
  direct_is_direct = record {
    sizes = refl;
    displays = refl;
    brackets = refl;
    programs = count;
    messages = plan_flow plan (direct_messages xs) (kept_from 0 xs) all_do;
    order = λ r l. of_program plan.programs r ∙ (ap exchanges (is_program r) ∙ program_exchanges xs r);
  }

-- what holds of the value that an Ok answer is equal to
pub ok_holds : {T E : Type 0} (P : T → Type 0) (v : T) (r : Result T E) → IfOk r (λ p. p ≡ v) → P v → IfOk r P
ok_holds P v (Ok x) e h = subst P (sym e) h
ok_holds P v (Err x) e h = tt
