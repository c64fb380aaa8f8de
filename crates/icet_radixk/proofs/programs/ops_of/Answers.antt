use Rattle.icet_radixk.proofs.RoundSteps.{program_is, program_short}
use Rattle.icet_radixk.proofs.programs.ops_of.Goals as goal

pub returns-clause-ops : goal.returns-clause-ops
returns-clause-ops c = program_is c.args.task.now c.args.factors.now c.requires.split c.args.finals.now c.requires.finals c.args.p c.requires.place _ _ _ c.new-ops.ensures.items c.in_ok-push_rounds.ensures c.in_ok-push_collection.ensures

pub returns-clause-short : goal.returns-clause-short
returns-clause-short c = program_short c.args.task.now c.args.factors.now c.requires.split c.args.finals.now c.requires.finals c.args.p c.requires.place _ _ _ c.new-ops.ensures.items c.in_ok-push_rounds.ensures c.in_ok-push_collection.ensures
