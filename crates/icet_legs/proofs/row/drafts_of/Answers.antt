use Rattle.std.proofs.Common.{◌<◌, subst, sym}
use Rattle.std.specs.List.{AllByRecursion}
use Rattle.icet_legs.proofs.RowSteps.{leg_distinct, leg_programs_many, leg_ranked, tile_pushed}
use Rattle.icet_legs.proofs.row.drafts_of.Goals as goal

pub push_leg-requires-clause-ranked : goal.push_leg-requires-clause-ranked
push_leg-requires-clause-ranked c = subst (λ n. AllByRecursion (λ r. r < n) c.index-legs-t.result.participants) (sym c.loop-t.invariant.many) (leg_ranked c.args.ranks c.args.legs.now c.requires.legs c.loop-t.t _ c.loop-t-test.true c.index-legs-t.is)

pub push_leg-requires-clause-distinct : goal.push_leg-requires-clause-distinct
push_leg-requires-clause-distinct c = leg_distinct c.args.ranks c.args.legs.now c.requires.legs c.loop-t.t _ c.loop-t-test.true c.index-legs-t.is

pub push_leg-requires-clause-programs : goal.push_leg-requires-clause-programs
push_leg-requires-clause-programs c = leg_programs_many c.args.ranks c.args.legs.now c.requires.legs c.loop-t.t _ c.loop-t-test.true c.index-legs-t.is

pub loop-t-preserved : goal.loop-t-preserved
loop-t-preserved c = tile_pushed c.args.ranks c.args.legs.now c.requires.legs c.loop-t.t _ c.loop-t-test.true c.index-legs-t.is _ _ c.loop-t.invariant c.in_ok-push_leg.ensures
