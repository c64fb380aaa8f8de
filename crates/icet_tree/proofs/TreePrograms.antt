-- Steps of the builder.
use Rattle.std.proofs.Common.{◌≡◌, ℕ, suc, ◌+◌, ◌-◌, ◌*◌, ◌^◌, ◌<◌, ◌≤◌, Bool, true, false, cond, List, [], ◌∷◌, ◌++◌, map, length, length-append, refl, sym, ap, ◌∙◌, arith, add-one, Option, Some, None}
use Rattle.std.specs.Prelude.{◌==◌, ◌≢◌, is_some, AllPairs}
use Rattle.std.specs.List.{range_with_len}
use Rattle.icet_model.proofs.Lists.{made_more}
use Rattle.icet_model.specs.declared.exchange.Kind.TheVariants.{Send, Take}
use Rattle.icet_model.specs.declared.exchange.Op.TheVariants.{Join, Swap}
use Rattle.icet_plan.specs.Each.{each}
use Rattle.icet_legs.specs.declared.range.Range.{Range}
use Rattle.icet_legs.specs.Collect.{final_ops, final_over, lo_of, hi_of}
use Rattle.icet_model.specs.declared.bracket.Bracket.{Bracket}
use Rattle.icet_model.specs.declared.exchange.Op.{Op}
use Rattle.icet_legs.specs.Leg.{IsLegOf}
use Rattle.icet_legs.specs.Pairing.{tree}
use Rattle.icet_legs.specs.Powers.{ceil_log2}
use Rattle.icet_legs.specs.TileStrategy.{leaves_of}
use Rattle.icet_legs.specs.Task.{IsTask, IsTaskOf, TaskView, task_team}
use Rattle.icet_legs.specs.Team.{Team, team_of}
use Rattle.icet_legs.proofs.ListTeams.{apart_from_pairs, leaves_are, list_team}
use Rattle.icet_legs.proofs.PowersOfTwo.{ceil_least}
use Rattle.icet_tree.proofs.TreeStrategy.{tree_is_leg}
use Rattle.icet_legs.proofs.EachMore.{each_length}
use Rattle.icet_legs.proofs.RangeLists.{range_pushed}
use Rattle.icet_legs.proofs.SameFinals.{final_length, same_final_ops}
use Rattle.icet_tree.specs.Ranges.{AreTreeRanges}
use Rattle.icet_tree.specs.Tree.{gives, takes, tree_final, tree_ops, tree_program, tree_strategy, tree_swap}

abbrev at_first : ℕ → ℕ → Option Range
at_first pixels a = cond (a == 0) (Some (record { lo = 0; hi = pixels })) None

-- one range more
pub range_more : (n pixels : ℕ) (old new : List (Option Range)) → AreTreeRanges n pixels old → new ≡ old ++ at_first pixels n ∷ [] → AreTreeRanges (n + 1) pixels new
range_more n pixels old new past is = let r = range_pushed n (at_first pixels) old new past.count past.are is in record { count = r.0; are = r.1 }

-- the collection with these ranges is the tree's
pub finals_are : (x : TaskView) → IsTask x → (levels : ℕ) (ranges : List (Option Range)) → AreTreeRanges (length x.participants) x.pixels ranges → (p : ℕ) → p < length x.participants → final_ops (task_team x) (final_over ranges (x.first + levels) x.shows) p ≡ final_ops (task_team x) (tree_final (task_team x) levels x.shows) p
finals_are x is levels ranges are p l = same_final_ops (task_team x) (final_over ranges (x.first + levels) x.shows) (tree_final (task_team x) levels x.shows) (record {
  round = refl;
  shows = refl;
  holds = λ a m. ap is_some (are.are a m) ∙ held (a == 0);
  lo = λ a m w. ap lo_of (are.are a m) ∙ low (a == 0);
  hi = λ a m w. ap hi_of (are.are a m) ∙ high (a == 0) (sym (ap is_some (are.are a m) ∙ held (a == 0)) ∙ w);
}) is.shown p l
  where
    all_if : Bool → Option Range
    all_if t = cond t (Some (record { lo = 0; hi = x.pixels })) None

    held : (t : Bool) → is_some (all_if t) ≡ t
    held true = refl
    held false = refl

    low : (t : Bool) → lo_of (all_if t) ≡ 0
    low true = refl
    low false = refl

    high : (t : Bool) → t ≡ true → hi_of (all_if t) ≡ x.pixels
    high true w = refl
    high false w = absurd (cc)

-- a whole program, from no operations on
pub program_is : (x : TaskView) → IsTask x → (levels : ℕ) (ranges : List (Option Range)) → AreTreeRanges (length x.participants) x.pixels ranges → (p : ℕ) → p < length x.participants → (start old new : List Op) → start ≡ [] → old ≡ start ++ each (λ i. tree_ops (task_team x) i p) levels → new ≡ old ++ final_ops (task_team x) (final_over ranges (x.first + levels) x.shows) p → new ≡ tree_program (task_team x) levels x.shows p
program_is x is levels ranges are p l start old new none first last =
    last
    ∙ (ap (λ z. z ++ final_ops (task_team x) (final_over ranges (x.first + levels) x.shows) p) (first ∙ ap (λ z. z ++ each (λ i. tree_ops (task_team x) i p) levels) none)
    ∙ ap (λ z. each (λ i. tree_ops (task_team x) i p) levels ++ z) (finals_are x is levels ranges are p l))

-- how long a program is
pub program_length : (g : Team) (q shows p : ℕ) → length (tree_program g q shows p) ≤ 2 * q + 1 + 2 * g.n
program_length g q shows p =
    let a = each_length (λ i. tree_ops g i p) 2 q (λ i l. round i) in
    let b = final_length g (tree_final g q shows) p in
    let e = length-append (each (λ i. tree_ops g i p) q) (final_ops g (tree_final g q shows) p) in
    omega (arith, a, b, e)
  where
    round : (i : ℕ) → length (tree_ops g i p) ≤ 2
    round i = go (gives g.n (2 ^ i) p) (takes g.n (2 ^ i) p)
      where
        go : (x y : Bool) → length (cond x (Swap (tree_swap g i Send (p - 2 ^ i)) 0 ∷ []) (cond y (Swap (tree_swap g i Take (p + 2 ^ i)) 1 ∷ Join 0 1 0 ∷ []) [])) ≤ 2
        go true y = omega arith
        go false true = omega arith
        go false false = omega arith

pub listed_more : {V : Type 0} (f : ℕ → V) (n : ℕ) → map f (range_with_len 0 (n + 1)) ≡ map f (range_with_len 0 n) ++ f n ∷ []
listed_more = made_more

pub each_more : {V : Type 0} (f : ℕ → List V) (i : ℕ) → each f (i + 1) ≡ each f i ++ f i
each_more f i = rw add-one refl

pub levels_low : (n : ℕ) → 0 < n → n ≤ 256 → ceil_log2 n ≤ 8
levels_low n some low = ceil_least n some 8 (omega (arith, low))

-- the leg as it is put together
pub leg_made : (participants : List ℕ) (leaves copied : List Bracket) (tile pixels display first : ℕ) (x : TaskView) → IsTask x → IsTaskOf participants tile pixels display first x → AllPairs (λ a b. a ≢ b) participants → length leaves ≡ length participants → (levels : ℕ) → levels ≡ ceil_log2 (length x.participants) → (programs : List (List Op)) → programs ≡ map (tree_program (task_team x) levels x.shows) (range_with_len 0 (length x.participants)) → (bracket : Bracket) → bracket ≡ tree copied → copied ≡ leaves → (rounds : ℕ) → rounds ≡ levels + 1 → IsLegOf tree_strategy (team_of participants leaves tile pixels first) display programs bracket rounds
leg_made participants leaves copied tile pixels display first x is of distinct many levels levels_are programs programs_are bracket bracket_is copies rounds rounds_are =
    let g : Team = team_of participants leaves tile pixels first in
    let count : length x.participants ≡ length participants = ap (λ z. length z) of.participants_are in
    let level : levels ≡ ceil_log2 (length participants) = levels_are ∙ ap ceil_log2 count in
    let low = is.low in
    let seen = is.shown in
    let shown : x.shows < length participants = omega (arith, seen, count) in
    let leaf : leaves_of g ≡ leaves = leaves_are participants leaves tile pixels first many in
    record {
      shows = x.shows;
      shown = shown;
      display_is = of.display_is;
      programs_are = programs_are ∙ (λ j. map (tree_program (team_of (of.participants_are j) leaves (of.tile_is j) (of.pixels_are j) (of.first_is j)) (level j) x.shows) (range_with_len 0 (length (of.participants_are j))));
      bracket_is = bracket_is ∙ (ap tree copies ∙ ap tree (sym leaf));
      rounds_are = rounds_are ∙ (let z : levels + 1 ≡ suc (ceil_log2 (length participants)) = omega (arith, level) in z);
      few = let b = levels_low g.n (omega (arith, shown)) (omega (arith, low, count)) in omega (arith, b);
      short = λ p l. let a = program_length g (ceil_log2 g.n) x.shows p in let b = levels_low g.n (omega (arith, shown)) (omega (arith, low, count)) in omega (arith, a, b, low, count);
      is_leg = λ tiles ranks shown_by ranked. tree_is_leg g (list_team participants leaves tile pixels first (apart_from_pairs participants distinct)) x.shows shown tiles shown_by ranks ranked;
    }

pub program_short : (x : TaskView) → IsTask x → (levels : ℕ) → levels ≤ 8 → (p : ℕ) (ops : List Op) → ops ≡ tree_program (task_team x) levels x.shows p → length ops < 2 ^ 16
program_short x is levels few p ops e = let a = program_length (task_team x) levels x.shows p in let l = is.low in let n = ap (λ z. length z) e in omega (arith, a, l, n, few)
