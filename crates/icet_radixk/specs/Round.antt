-- One participant's round of groups.
use Rattle.std.specs.Prelude.{map, ◌-◌, ◌≡◌, ℕ, ◌<◌, ◌≤◌, ◌+◌, ◌^◌, List, Option, Some, None, get_or, length}
use Rattle.icet_model.specs.declared.bracket.Bracket.TheVariants.{Empty}
use Rattle.std.specs.List.{range_with_len}
use Rattle.icet_model.specs.declared.bracket.Bracket.{Bracket}
use Rattle.icet_model.specs.declared.exchange.Op.{Op}
use Rattle.icet_plan.specs.Each.{each}
use Rattle.icet_legs.specs.Group.{Group, group_cuts, group_ops, group_sends, group_takes, member}
use Rattle.icet_legs.specs.declared.range.Range.{Range}
use Rattle.icet_legs.specs.Radix.{group_at, range_of, stride}
use Rattle.icet_radixk.specs.Factors.{factor_at}
use Rattle.icet_radixk.specs.Radixk.{AreFactorsOf, radix_bracket, radix_program}
use Rattle.icet_legs.specs.Task.{IsTask, TaskView, task_team}
use Rattle.icet_radixk.specs.declared.round.Round.{Round}
use Rattle.icet_model.specs.declared.limits.TheConstants.{MAX_RANKS}

-- a round of a participant of the task
pub record IsRound (x : TaskView) (r : Round) : Type 0 where
  pub task : IsTask x
  pub place : r.p < length x.participants
  pub number : r.number < 2 ^ 16
  pub wide : 0 < r.stride
  pub many : 0 < r.factor
  pub low : r.factor ≤ MAX_RANKS
  pub inside : (h : ℕ) → h < r.factor → member r.stride r.factor r.p h < length x.participants
  pub order : r.own.lo ≤ r.own.hi

-- the round as one of groups: of what the participants have only the range of this one matters
abbrev pub round_group : TaskView → Round → Group
round_group x r = record {
  w = r.stride;
  k = r.factor;
  round = x.first + r.number;
  lo = λ p. r.own.lo;
  hi = λ p. r.own.hi;
  content = λ p. Empty;
}

-- a task whose participants are split by these factors
pub record IsSplitBy (x : TaskView) (fs : List ℕ) : Type 0 where
  pub task : IsTask x
  pub factors : AreFactorsOf (length x.participants) (factor_at fs) (length fs)
  pub few : length fs < length x.participants

-- round i of the participant at position p, by these factors
pub record IsRoundOf (x : TaskView) (fs : List ℕ) (i p : ℕ) (r : Round) : Type 0 where
  pub is_round : IsRound x r
  pub place : r.p ≡ p
  pub number : r.number ≡ i
  pub stride_is : r.stride ≡ stride (factor_at fs) i
  pub factor_is : r.factor ≡ factor_at fs i
  pub own : (r.own.lo, r.own.hi) ≡ range_of (factor_at fs) x.pixels i p

-- the ranges of the final pieces of n positions
pub record AreFinals (n pixels : ℕ) (fs : List ℕ) (ranges : List (Option Range)) : Type 0 where
  pub count : length ranges ≡ n
  pub are : (a : ℕ) → a < n → get_or ranges a None ≡ Some (record { lo = (range_of (factor_at fs) pixels (length fs) a).0; hi = (range_of (factor_at fs) pixels (length fs) a).1 })

-- what the participant of a round does in it: cuts, sends, takes and joins; the sends and takes one by one
abbrev pub round_cuts : TaskView → Round → List Op
round_cuts x r = each (group_cuts (round_group x r) r.p) (r.factor - 1)

abbrev pub round_send : TaskView → Round → ℕ → List Op
round_send x r h = group_sends (task_team x) (round_group x r) r.p h

abbrev pub round_sends : TaskView → Round → List Op
round_sends x r = each (group_sends (task_team x) (round_group x r) r.p) r.factor

abbrev pub round_take : TaskView → Round → ℕ → List Op
round_take x r h = group_takes (task_team x) (round_group x r) r.p h

abbrev pub round_takes : TaskView → Round → List Op
round_takes x r = each (group_takes (task_team x) (round_group x r) r.p) r.factor

abbrev pub round_ops : TaskView → Round → List Op
round_ops x r = group_ops (task_team x) (round_group x r) r.p

-- all rounds of the participant at position p, its whole program, and the programs of all
abbrev pub rounds_by : TaskView → List ℕ → ℕ → List Op
rounds_by x fs p = each (λ i. group_ops (task_team x) (group_at (task_team x) (factor_at fs) i) p) (length fs)

abbrev pub program_by : TaskView → List ℕ → ℕ → List Op
program_by x fs p = radix_program (task_team x) (factor_at fs) (length fs) x.shows p

abbrev pub programs_by : TaskView → List ℕ → List (List Op)
programs_by x fs = map (radix_program (task_team x) (factor_at fs) (length fs) x.shows) (range_with_len 0 (length x.participants))

abbrev pub bracket_by : List ℕ → List Bracket → Bracket
bracket_by fs leaves = radix_bracket (factor_at fs) (length fs) leaves
