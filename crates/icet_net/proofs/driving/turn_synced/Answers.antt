use Rattle.icet_net.proofs.DriveKeeps.{drives_on}
use Rattle.icet_net.proofs.DriveLeft.{fewer_left}
use Rattle.icet_net.proofs.driving.turn_synced.Goals as goal

pub returns-in_err-turn-clause-on : goal.returns-in_err-turn-clause-on
returns-in_err-turn-clause-on g c = drives_on c.args.hull.now c.args.ranks.now c.turn.new.ranks c.requires.hulls c.turn.ensures.goes_on

pub returns-clause-on : goal.returns-clause-on
returns-clause-on g c = drives_on c.args.hull.now c.args.ranks.now c.turn.new.ranks c.requires.hulls c.turn.ensures.goes_on

pub returns-clause-fewer : goal.returns-clause-fewer
returns-clause-fewer g c h = fewer_left c.args.hull.now c.plan-plan.ensures.known c.args.ranks.now c.requires.hulls c.look_at.ensures c.requires.synced c.requires.course c.args.burst c.turn.new.ranks c.turn.ensures.goes_on c.in_ok-turn.ensures.turned (c.are_done.ensures.undone h)
