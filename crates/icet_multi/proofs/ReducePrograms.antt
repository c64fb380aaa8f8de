-- The programs of reduce, put together from drafts, and the plan of them.
use Rattle.std.proofs.Common.{◌≡◌, ℕ, zero, suc, ◌+◌, ◌-◌, ◌*◌, ◌^◌, ◌<◌, ◌≤◌, Bool, true, false, cond, List, [], ◌∷◌, ◌++◌, map, length, length-append, get_or, take, drop, refl, sym, ap, ◌∙◌, subst, arith, Option, Some, None}
use Rattle.std.proofs.lemmas.List.FromFn.{length-map-range_with_len}
use Rattle.std.specs.Prelude.{◌==◌, nat_lt, Result, Ok, Err, IfOk}
use Rattle.std.specs.List.{AllByRecursion, range_with_len}
use Rattle.icet_model.specs.declared.bracket.Bracket.{Bracket}
use Rattle.icet_model.specs.declared.exchange.Op.{Op}
use Rattle.icet_model.specs.Plan.{IsPlan, PlanView}
use Rattle.icet_plan.specs.Each.{each}
use Rattle.icet_plan.specs.declared.plan.Leg.{Leg}
use Rattle.icet_groups.specs.Blocks.{block_start}
use Rattle.icet_groups.specs.Seats.{groups_of}
use Rattle.icet_groups.specs.Tiles.{AreTiles, IsTile, TileView}
use Rattle.icet_legs.specs.Team.{by_pos, place_in}
use Rattle.icet_legs.specs.TileStrategy.{TileStrategy}
use Rattle.icet_legs.proofs.EachMore.{each_length}
use Rattle.icet_legs.proofs.ListTeams.{all_get_or, list_team}
use Rattle.icet_legs.proofs.ListTeams as lists
use Rattle.icet_multi.specs.declared.settings.Single.{Single}
use Rattle.icet_multi.specs.Direct.{folds, hands_in, joins, sending}
use Rattle.icet_multi.specs.Rules.{IsPlanBy, strategy_of, tile_of}
use Rattle.icet_multi.specs.Sequential.{IsShown}
use Rattle.icet_multi.specs.Reduce.{block_tile, reduce_brackets, reduce_rule}
use Rattle.icet_multi.specs.Reduced.{AllHaveSeats, AreGroupLegs, AreGroupsFor, HaveGrown, HaveSeats, all_blanks, all_folds, all_legs, all_ops, all_sends, blank_ops, blanking, folding, handing, leg_part, programs_in, reduce_plan, reduce_program}
use Rattle.icet_multi.proofs.GroupLegs.{brackets_are, have_seats, leg_for, legs_are}
use Rattle.icet_multi.proofs.GroupMembers.{AreSeats}
use Rattle.icet_multi.proofs.GroupsRun.{IsLegAt}
use Rattle.icet_multi.proofs.Growing.{both_grown, listed}
use Rattle.icet_multi.proofs.ReducedPlan.{reduced_exchanges, reduced_is_plan, reduced_messages}
use Rattle.icet_multi.proofs.SeatsFor.{groups_for}
use Rattle.icet_multi.proofs.StrategyLoads.{loads_nothing}

-- each rank has done all that it is to do
pub record AreDone (ranks : ℕ) (ops : ℕ → List Op) (drafts : List (List Op)) : Type 0 where
  pub many : length drafts ≡ ranks
  pub done : (r : ℕ) → r < ranks → get_or drafts r [] ≡ ops r

pub all_done : (ranks : ℕ) (tiles : List TileView) (groups : List (List ℕ)) (programs : List (List (List Op))) (start sent folded joined shown : List (List Op)) → length start ≡ ranks → ((r : ℕ) → get_or start r [] ≡ []) → HaveGrown (all_sends tiles groups) start sent → HaveGrown (all_folds tiles groups) sent folded → HaveGrown (all_legs groups programs) folded joined → HaveGrown (all_blanks tiles) joined shown → AreDone ranks (all_ops tiles groups programs) shown
all_done ranks tiles groups programs start sent folded joined shown many none a b d e =
    let first = both_grown (all_sends tiles groups) (all_folds tiles groups) start sent folded a b in
    let second = both_grown (all_legs groups programs) (all_blanks tiles) folded joined shown d e in
    let whole = both_grown (λ r. all_sends tiles groups r ++ all_folds tiles groups r) (λ r. all_legs groups programs r ++ all_blanks tiles r) start folded shown first second in
    record {
      many = whole.same ∙ many;
      done = λ r l. whole.grown r (omega (arith, l, many)) ∙ ap (λ z. z ++ all_ops tiles groups programs r) (none r);
    }

pub programs_are : (ranks : ℕ) (ops : ℕ → List Op) (drafts : List (List Op)) → AreDone ranks ops drafts → drafts ≡ map ops (range_with_len 0 ranks)
programs_are ranks ops drafts h = listed ops drafts [] ranks h.many h.done

-- ---- how long programs are

send_length : (t : ℕ) (x : TileView) (r : ℕ) → length (sending t x r) ≤ 2
send_length t x r = go (hands_in x r)
  where
    go : (b : Bool) → length (cond b (handing t x) []) ≤ 2
    go true = omega arith
    go false = omega arith

joins_length : (t : ℕ) (x : TileView) (cs : List ℕ) → length (joins t x cs) ≡ 2 * length cs
joins_length t x [] = omega arith
joins_length t x (c ∷ cs) = let h = joins_length t x cs in omega (arith, h)

folds_length : (t : ℕ) (x : TileView) (cs : List ℕ) → length (folds t x cs) ≤ 1 + 2 * length cs
folds_length t x [] = omega arith
folds_length t x (c ∷ cs) = let h = joins_length t x cs in omega (arith, h)

part_length : (n m : ℕ) (xs : List ℕ) → length (take n (drop m xs)) ≤ length xs
part_length n m xs = let a = shorter n (drop m xs) in let b = rest m xs in omega (arith, a, b)
  where
    shorter : (n : ℕ) (xs : List ℕ) → length (take n xs) ≤ length xs
    shorter zero xs = omega arith
    shorter (suc n) [] = omega arith
    shorter (suc n) (x ∷ xs) = let h = shorter n xs in omega (arith, h)

    rest : (m : ℕ) (xs : List ℕ) → length (drop m xs) ≤ length xs
    rest zero xs = omega arith
    rest (suc m) [] = omega arith
    rest (suc m) (x ∷ xs) = let h = rest m xs in omega (arith, h)

fold_length : (t : ℕ) (x : TileView) (group : List ℕ) (j r : ℕ) → length x.contributors ≤ 256 → length (folding t (block_tile x group j) r) ≤ 513
fold_length t x group j r few = go ((block_tile x group j).display == r)
  where
    go : (b : Bool) → length (cond b (folds t (block_tile x group j) (block_tile x group j).contributors) []) ≤ 513
    go true =
        let a = folds_length t (block_tile x group j) (block_tile x group j).contributors in
        let n = length x.contributors in
        let g = length group in
        let b = part_length (block_start n g (suc j) - block_start n g j) (block_start n g j) x.contributors in
        omega (arith, a, b, few)
    go false = omega arith

blank_length : (t : ℕ) (x : TileView) (r : ℕ) → length (blanking t x r) ≤ 2
blank_length t x r = go (nat_lt 0 (length x.contributors)) (x.display == r)
  where
    go : (a b : Bool) → length (cond a [] (cond b (blank_ops t) [])) ≤ 2
    go true b = omega arith
    go false true = omega arith
    go false false = omega arith

module _ (ranks : ℕ) (tiles : List TileView) (groups : List (List ℕ)) (programs : List (List (List Op))) (low : ranks ≤ 256) (many : length tiles ≤ 64) (for : AreGroupsFor ranks tiles groups) (count : length programs ≡ length tiles) (seats : AllHaveSeats ranks groups programs) (r : ℕ) where
  known : (t : ℕ) → t < length tiles → length (tile_of tiles t).contributors ≤ 256
  known t l = let k = (for.are t l).known in omega (arith, k, low)

  group_small : (t : ℕ) → t < length tiles → length (get_or groups t []) ≤ 256
  group_small t l = let f = (for.are t l).few in let k = known t l in omega (arith, f, k)

  sends_short : length (all_sends tiles groups r) ≤ 512 * length tiles
  sends_short = each_length (λ t. each (λ j. sending t (block_tile (tile_of tiles t) (get_or groups t []) j) r) (length (get_or groups t []))) 512 (length tiles) (λ t l.
      let a = each_length (λ j. sending t (block_tile (tile_of tiles t) (get_or groups t []) j) r) 2 (length (get_or groups t [])) (λ j m. send_length t (block_tile (tile_of tiles t) (get_or groups t []) j) r) in
      let b = group_small t l in
      omega (arith, a, b))

  folds_short : length (all_folds tiles groups r) ≤ 131328 * length tiles
  folds_short = each_length (λ t. each (λ j. folding t (block_tile (tile_of tiles t) (get_or groups t []) j) r) (length (get_or groups t []))) 131328 (length tiles) (λ t l.
      let a = each_length (λ j. folding t (block_tile (tile_of tiles t) (get_or groups t []) j) r) 513 (length (get_or groups t [])) (λ j m. fold_length t (tile_of tiles t) (get_or groups t []) j r (known t l)) in
      let b = group_small t l in
      omega (arith, a, b))

  leg_short : (t : ℕ) → t < length programs → length (leg_part (get_or groups t []) (get_or programs t []) r) ≤ 1048576
  leg_short t l = go (place_in (get_or groups t []) r) refl
    where
      s : HaveSeats ranks (get_or groups t []) (get_or programs t [])
      s = seats.are t l

      go : (o : Option ℕ) → place_in (get_or groups t []) r ≡ o → length (by_pos [] (λ p. get_or (get_or programs t []) p []) o) ≤ 1048576
      go None e = omega arith
      go (Some p) e =
          let f = (list_team (get_or groups t []) [] 0 0 0 (lists.apart_from_pairs (get_or groups t []) s.distinct)).forth r p e in
          let m = f.1 in
          let n = s.each in
          let h = all_get_or (λ ops. length ops < 2 ^ 20) (get_or programs t []) p [] s.short (omega (arith, m, n)) in
          omega (arith, h)

  legs_short : length (all_legs groups programs r) ≤ 1048576 * length programs
  legs_short = each_length (λ t. leg_part (get_or groups t []) (get_or programs t []) r) 1048576 (length programs) (λ t l. leg_short t l)

  blanks_short : length (all_blanks tiles r) ≤ 2 * length tiles
  blanks_short = each_length (λ t. blanking t (tile_of tiles t) r) 2 (length tiles) (λ t l. blank_length t (tile_of tiles t) r)

  pub ops_short : length (all_ops tiles groups programs r) < 2 ^ 32
  ops_short =
      let a = length-append (all_sends tiles groups r ++ all_folds tiles groups r) (all_legs groups programs r ++ all_blanks tiles r) in
      let b = length-append (all_sends tiles groups r) (all_folds tiles groups r) in
      let d = length-append (all_legs groups programs r) (all_blanks tiles r) in
      omega (arith, a, b, d, sends_short, folds_short, legs_short, blanks_short, many, count)

pub all_short : (ranks : ℕ) (tiles : List TileView) (groups : List (List ℕ)) (programs : List (List (List Op))) → ranks ≤ 256 → length tiles ≤ 64 → AreGroupsFor ranks tiles groups → length programs ≡ length tiles → AllHaveSeats ranks groups programs → (drafts : List (List Op)) → AreDone ranks (all_ops tiles groups programs) drafts → AllByRecursion (λ ops. length ops < 2 ^ 32) drafts
all_short ranks tiles groups programs low many for count seats drafts h = all_at drafts (λ r l.
    let e = ap (λ xs. length xs) (h.done r (let m = h.many in omega (arith, l, m))) in
    let s = ops_short ranks tiles groups programs low many for count seats r in
    omega (arith, e, s))
  where
    all_at : (xs : List (List Op)) → ((r : ℕ) → r < length xs → length (get_or xs r []) < 2 ^ 32) → AllByRecursion (λ ops. length ops < 2 ^ 32) xs
    all_at [] h = tt
    all_at (x ∷ xs) h = (h 0 (omega arith), all_at xs (λ r l. h (suc r) (omega (arith, l))))

-- every tile's ranks are some of so many
pub tiles_known : (ranks now : ℕ) (tiles : List TileView) (groups : List (List ℕ)) → AreGroupsFor ranks tiles groups → now ≡ ranks → AllByRecursion (IsTile now) tiles
tiles_known ranks now tiles groups for same = subst (λ n. AllByRecursion (IsTile n) tiles) (sym same) (each_of tiles (λ t l. (for.are t l).tile))
  where
    each_of : (xs : List TileView) → ((t : ℕ) → t < length xs → IsTile ranks (tile_of xs t)) → AllByRecursion (IsTile ranks) xs
    each_of [] h = tt
    each_of (x ∷ xs) h = (h 0 (omega arith), each_of xs (λ t l. h (suc t) (omega (arith, l))))

-- ---- the plan

module _ (single : Single) (k : ℕ) (order : List ℕ) (tiles : List TileView) (are : AreTiles (length order) tiles) (shown : AllByRecursion (IsShown (length order)) tiles) (gs : List (List ℕ)) (gs_are : gs ≡ groups_of (length order) tiles) where
  abbrev s : TileStrategy
  s = strategy_of single k

  abbrev ranks : ℕ
  ranks = length order

  seats : AreSeats ranks tiles gs
  seats = subst (AreSeats ranks tiles) (sym gs_are) (groups_for ranks tiles are shown)

  pub have_groups : AreGroupsFor ranks tiles gs
  have_groups = seats.for

  module _ (legs : List Leg) (made : AreGroupLegs s tiles gs (length tiles) legs) where
    pub legs_have_seats : (ls : List Leg) → ls ≡ legs → AllHaveSeats ranks gs (programs_in ls)
    legs_have_seats ls e = subst (λ z. AllHaveSeats ranks gs (programs_in z)) (sym e) (have_seats s ranks tiles gs seats legs made)

    legs_for : (t : ℕ) → t < length tiles → 0 < length (tile_of tiles t).contributors → IsLegAt s ranks tiles gs t
    legs_for t l some = leg_for s ranks tiles gs seats legs made t l some

    same_ops : (r : ℕ) → all_ops tiles gs (programs_in legs) r ≡ reduce_program s tiles gs r
    same_ops r = ap (λ z. (all_sends tiles gs r ++ all_folds tiles gs r) ++ (z ++ all_blanks tiles r)) (legs_are s ranks tiles gs seats legs made r)

    same_programs : (n first : ℕ) → map (all_ops tiles gs (programs_in legs)) (range_with_len first n) ≡ map (reduce_program s tiles gs) (range_with_len first n)
    same_programs zero first = refl
    same_programs (suc n) first = λ i. same_ops first i ∷ same_programs n (first + 1) i

    module _ (ls : List Leg) (ls_are : ls ≡ legs) (ps : List (List Op)) (ss ds : List ℕ) (bs : List Bracket) (programs : ps ≡ map (all_ops tiles gs (programs_in ls)) (range_with_len 0 ranks)) (sizes : ss ≡ map (λ x. x.size) tiles) (displays : ds ≡ map (λ x. x.display) tiles) (brackets : bs ≡ map (λ leg. leg.bracket) legs) where
      abbrev plan : PlanView
      plan = record { tiles = record { sizes = ss; displays = ds }; brackets = bs; programs = ps }

      plan_is : plan ≡ reduce_plan s ranks tiles gs
      plan_is =
          let p : ps ≡ map (reduce_program s tiles gs) (range_with_len 0 ranks) = programs ∙ (ap (λ z. map (all_ops tiles gs (programs_in z)) (range_with_len 0 ranks)) ls_are ∙ same_programs ranks 0) in
          let b : bs ≡ reduce_brackets s tiles gs = brackets ∙ brackets_are s ranks tiles gs seats legs made in
          λ i. record { tiles = record { sizes = sizes i; displays = displays i }; brackets = b i; programs = p i }

      pub is_plan : IsPlan plan
      is_plan = subst IsPlan (sym plan_is) (reduced_is_plan s (loads_nothing single k) ranks tiles gs seats legs_for are.each)

      pub plan_ranks : length ps ≡ ranks
      plan_ranks = ap (λ z. length z) programs ∙ length-map-range_with_len (all_ops tiles gs (programs_in ls)) 0 ranks

      by_rule : (p : PlanView) → p ≡ plan → IsPlanBy (reduce_rule s) order tiles p
      by_rule p e =
          let whole : p ≡ reduce_plan s ranks tiles (groups_of ranks tiles) = e ∙ (plan_is ∙ ap (reduce_plan s ranks tiles) gs_are) in
          let fresh : AreSeats ranks tiles (groups_of ranks tiles) = subst (AreSeats ranks tiles) gs_are seats in
          let fresh_legs : (t : ℕ) → t < length tiles → 0 < length (tile_of tiles t).contributors → IsLegAt s ranks tiles (groups_of ranks tiles) t = λ t l some. subst (λ z. IsLegAt s ranks tiles z t) gs_are (legs_for t l some) in
          subst (IsPlanBy (reduce_rule s) order tiles) (sym whole) (record {
            sizes = refl;
            displays = refl;
            brackets = refl;
            programs = length-map-range_with_len (reduce_program s tiles (groups_of ranks tiles)) 0 ranks;
            messages = reduced_messages s (loads_nothing single k) ranks tiles (groups_of ranks tiles) fresh fresh_legs;
            exchanges = λ r l. reduced_exchanges s (loads_nothing single k) ranks tiles (groups_of ranks tiles) fresh fresh_legs r;
          })

      pub plan_by_rule : {E : Type 0} (r : Result PlanView E) → IfOk r (λ p. p ≡ plan) → IfOk r (IsPlanBy (reduce_rule s) order tiles)
      plan_by_rule (Ok p) h = by_rule p h
      plan_by_rule (Err e) h = tt

pub ok_same : {X E : Type 0} (f : X → List (List Op)) (a b : List (List Op)) → a ≡ b → (r : Result X E) → IfOk r (λ x. f x ≡ a) → IfOk r (λ x. f x ≡ b)
ok_same f a b e (Ok x) h = h ∙ e
ok_same f a b e (Err z) h = tt
