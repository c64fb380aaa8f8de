-- The leg of radix-k as it is put together.
use Rattle.std.proofs.Common.{◌≡◌, ℕ, suc, ◌+◌, ◌<◌, ◌≤◌, List, map, length, refl, sym, ap, ◌∙◌, subst, arith}
use Rattle.std.specs.Prelude.{◌≢◌, AllPairs, Result, Ok, Err, IfOk}
use Rattle.icet_plan.specs.declared.plan.Leg.{Leg}
use Rattle.std.specs.List.{range_with_len}
use Rattle.icet_model.specs.declared.bracket.Bracket.{Bracket}
use Rattle.icet_model.specs.declared.exchange.Op.{Op}
use Rattle.icet_legs.specs.Leg.{IsExchangePlan, IsLegOf}
use Rattle.icet_legs.specs.Task.{IsTask, IsTaskOf, TaskView, task_team}
use Rattle.icet_legs.specs.Team.{Team, team_of}
use Rattle.icet_legs.specs.TileStrategy.{leaves_of}
use Rattle.icet_legs.proofs.ListTeams.{apart_from_pairs, leaves_are, list_team}
use Rattle.icet_radixk.specs.Factors.{factor_at, factors}
use Rattle.icet_radixk.specs.Radixk.{radix_bracket, radix_program, radix_strategy}
use Rattle.icet_radixk.specs.Round.{IsSplitBy}
use Rattle.icet_radixk.proofs.FactorLists.{are_factors, factors_of, few_factors}
use Rattle.icet_radixk.proofs.RadixStrategy.{radix_is_leg}
use Rattle.icet_radixk.proofs.RoundSteps.{bounds, few_rounds, program_length}

pub is_split_by : (x : TaskView) (k : ℕ) (fs : List ℕ) → IsTask x → fs ≡ factors k (length x.participants) → IsSplitBy x fs
is_split_by x k fs is e =
    let s = is.shown in
    let some : 0 < length x.participants = omega (arith, s) in
    subst (IsSplitBy x) (sym e) (record {
      task = is;
      factors = factors_of k (length x.participants) some;
      few = few_factors k (length x.participants) (factors k (length x.participants)) (are_factors k (length x.participants) some);
    })

pub leg_made : (participants : List ℕ) (leaves copied : List Bracket) (tile pixels display first k : ℕ) (x : TaskView) (fs : List ℕ) → IsTask x → IsTaskOf participants tile pixels display first x → fs ≡ factors k (length x.participants) → AllPairs (λ a b. a ≢ b) participants → length leaves ≡ length participants → (programs : List (List Op)) → programs ≡ map (radix_program (task_team x) (factor_at fs) (length fs) x.shows) (range_with_len 0 (length x.participants)) → (bracket : Bracket) → bracket ≡ radix_bracket (factor_at fs) (length fs) copied → copied ≡ leaves → (rounds : ℕ) → rounds ≡ length fs + 1 → IsLegOf (radix_strategy k) (team_of participants leaves tile pixels first) display programs bracket rounds
leg_made participants leaves copied tile pixels display first k x fs is of fs_are distinct many programs programs_are bracket bracket_is copies rounds rounds_are =
    let g : Team = team_of participants leaves tile pixels first in
    let count : length x.participants ≡ length participants = ap (λ z. length z) of.participants_are in
    let split : fs ≡ factors k (length participants) = fs_are ∙ ap (factors k) count in
    let low = is.low in
    let seen = is.shown in
    let shown : x.shows < length participants = omega (arith, seen, count) in
    let leaf : leaves_of g ≡ leaves = leaves_are participants leaves tile pixels first many in
    let long : length (leaves_of g) ≡ length participants = ap (λ z. length z) leaf ∙ many in
    let folds : fs ≡ factors k (length (leaves_of g)) = split ∙ ap (factors k) (sym long) in
    let by : IsSplitBy x fs = is_split_by x k fs is fs_are in
    record {
      shows = x.shows;
      shown = shown;
      display_is = of.display_is;
      programs_are = programs_are ∙ (λ j. map (radix_program (team_of (of.participants_are j) leaves (of.tile_is j) (of.pixels_are j) (of.first_is j)) (factor_at (split j)) (length (split j)) x.shows) (range_with_len 0 (length (of.participants_are j))));
      bracket_is = bracket_is ∙ (λ j. radix_bracket (factor_at (folds j)) (length (folds j)) ((copies ∙ sym leaf) j));
      rounds_are = let r : length fs ≡ length (factors k (length participants)) = ap (λ z. length z) split in rounds_are ∙ (let z : length fs + 1 ≡ suc (length (factors k (length participants))) = omega (arith, r) in z);
      few = let r : length fs ≡ length (factors k (length participants)) = ap (λ z. length z) split in let f = few_rounds x fs by in omega (arith, f, r);
      short = λ p l.
          let a = program_length g (factor_at (factors k g.n)) (length (factors k g.n)) x.shows p (λ i m.
          let r : length fs ≡ length (factors k (length participants)) = ap (λ z. length z) split in
          let b = (bounds x fs by i (omega (arith, m, r))).0 in
          subst (λ z. factor_at z i ≤ 256) split (omega (arith, b, low))) in
          let r : length fs ≡ length (factors k (length participants)) = ap (λ z. length z) split in
          let f = few_rounds x fs by in
          omega (arith, a, f, r, low, count);
      is_leg = λ tiles ranks shown_by ranked. radix_is_leg k g (list_team participants leaves tile pixels first (apart_from_pairs participants distinct)) x.shows shown tiles shown_by ranks ranked;
    }

pub all_some : (x : TaskView) (fs : List ℕ) → IsSplitBy x fs → (i : ℕ) → 0 < factor_at fs i
all_some x fs is = is.factors.many

pub leg_done : {Z : Type 0} (participants : List ℕ) (leaves : List Bracket) (tile pixels display first k : ℕ) (x : TaskView) (fs : List ℕ) → IsTask x → IsTaskOf participants tile pixels display first x → fs ≡ factors k (length x.participants) → AllPairs (λ a b. a ≢ b) participants → length leaves ≡ length participants → (r : Result Leg Z)
    → IfOk r (λ leg. leg.programs.items ≡ map (radix_program (task_team x) (factor_at fs) (length fs) x.shows) (range_with_len 0 (length x.participants)))
    → IfOk r (λ leg. leg.bracket ≡ radix_bracket (factor_at fs) (length fs) leaves)
    → IfOk r (λ leg. leg.rounds ≡ length fs + 1)
    → IfOk r (IsExchangePlan (radix_strategy k) (team_of participants leaves tile pixels first) display)
leg_done participants leaves tile pixels display first k x fs is of fs_are distinct many (Ok leg) p b n = leg_made participants leaves leaves tile pixels display first k x fs is of fs_are distinct many leg.programs.items p leg.bracket b refl leg.rounds n
leg_done participants leaves tile pixels display first k x fs is of fs_are distinct many (Err z) p b n = tt
