use Rattle.icet_plan.proofs.WrongPlans.{takes_first, twice_in_a_round, takes_in_vain, takes_another_range, never_filled, kept_twice, another_bracket}
use Rattle.icet_plan.proofs.laws.wrong_plans.Goals as goal

pub returns-clause-takes_first : goal.returns-clause-takes_first
returns-clause-takes_first c = takes_first

pub returns-clause-twice_in_a_round : goal.returns-clause-twice_in_a_round
returns-clause-twice_in_a_round c = twice_in_a_round

pub returns-clause-takes_in_vain : goal.returns-clause-takes_in_vain
returns-clause-takes_in_vain c = takes_in_vain

pub returns-clause-takes_another_range : goal.returns-clause-takes_another_range
returns-clause-takes_another_range c = takes_another_range

pub returns-clause-never_filled : goal.returns-clause-never_filled
returns-clause-never_filled c = never_filled

pub returns-clause-kept_twice : goal.returns-clause-kept_twice
returns-clause-kept_twice c = kept_twice

pub returns-clause-another_bracket : goal.returns-clause-another_bracket
returns-clause-another_bracket c = another_bracket
