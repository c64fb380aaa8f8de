use Rattle.std.proofs.Common.{◌∙◌, ap, arith, length, subst, sym}
use Rattle.icet_legs.specs.Task.{StandsIn}
use Rattle.icet_multi.specs.Rules.{strategy_of}
use Rattle.icet_multi.proofs.GroupLegs.{brackets_many, group_leg_ok}
use Rattle.icet_multi.proofs.legs.joining.Goals as goal

pub folds_of-requires-clause-low : goal.folds_of-requires-clause-low
folds_of-requires-clause-low c = let k = c.requires.group.known in let f = c.requires.group.few in omega (arith, k, f, c.requires.low)

pub folds_of-requires-clause-few : goal.folds_of-requires-clause-few
folds_of-requires-clause-few c = let k = c.requires.group.known in omega (arith, k, c.requires.low)

pub exchange_plan-requires-clause-low : goal.exchange_plan-requires-clause-low
exchange_plan-requires-clause-low c = let k = c.requires.group.known in let f = c.requires.group.few in omega (arith, k, f, c.requires.low)

pub exchange_plan-requires-clause-leaves : goal.exchange_plan-requires-clause-leaves
exchange_plan-requires-clause-leaves c = ap (λ z. length z) (c.deref.ensures.value ∙ c.in_ok-folds.ensures) ∙ brackets_many c.args.tile.now c.args.group.now

pub exchange_plan-requires-clause-display : goal.exchange_plan-requires-clause-display
exchange_plan-requires-clause-display c = subst (StandsIn c.args.group.now) (sym c.display.ensures) (c.requires.group.shown c.requires.some)

pub returns : goal.returns
returns c = group_leg_ok (strategy_of c.args.single c.args.k) c.args.t c.args.tile.now c.args.group.now _ _ _ c.requires.some (c.deref.ensures.value ∙ c.in_ok-folds.ensures) c.size.ensures c.display.ensures c.exchange_plan.result c.exchange_plan.ensures
