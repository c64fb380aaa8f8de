use Rattle.std.proofs.Common.{◌∙◌, arith}
use Rattle.icet_net.proofs.DriveKeeps.{drives_met, drives_more}
use Rattle.icet_net.proofs.DriveLeft.{met_left}
use Rattle.icet_net.proofs.driving.drive.Goals as goal

pub returns-in_err-sync_all-clause-comes_on : goal.returns-in_err-sync_all-clause-comes_on
returns-in_err-sync_all-clause-comes_on g c = (drives_more c.args.hull.now c.args.ranks.now c.driving.ranks c.sync_all.new.ranks c.driving.invariant.0 (drives_met c.args.hull.now c.driving.ranks c.sync_all.new.ranks c.sync_all.ensures.hulls c.sync_all.ensures.same)).comes_on

pub returns-in_err-turn_synced-clause-comes_on : goal.returns-in_err-turn_synced-clause-comes_on
returns-in_err-turn_synced-clause-comes_on g c = (drives_more c.args.hull.now c.args.ranks.now c.sync_all.new.ranks c.turn_synced.new.ranks (drives_more c.args.hull.now c.args.ranks.now c.driving.ranks c.sync_all.new.ranks c.driving.invariant.0 (drives_met c.args.hull.now c.driving.ranks c.sync_all.new.ranks c.sync_all.ensures.hulls c.sync_all.ensures.same)) c.turn_synced.ensures.on).comes_on

pub returns-then-branch-clause-comes_on : goal.returns-then-branch-clause-comes_on
returns-then-branch-clause-comes_on g c = (drives_more c.args.hull.now c.args.ranks.now c.sync_all.new.ranks c.turn_synced.new.ranks (drives_more c.args.hull.now c.args.ranks.now c.driving.ranks c.sync_all.new.ranks c.driving.invariant.0 (drives_met c.args.hull.now c.driving.ranks c.sync_all.new.ranks c.sync_all.ensures.hulls c.sync_all.ensures.same)) c.turn_synced.ensures.on).comes_on

pub driving-smaller : goal.driving-smaller
driving-smaller g c =
    let fewer = c.in_ok-turn_synced.ensures.fewer c.if-branch.false in
    let no_more = met_left c.driving.ranks c.sync_all.new.ranks c.sync_all.ensures.same in
    omega (arith, fewer, no_more)

pub driving-preserved : goal.driving-preserved
driving-preserved g c = (
  (drives_more c.args.hull.now c.args.ranks.now c.sync_all.new.ranks c.turn_synced.new.ranks (drives_more c.args.hull.now c.args.ranks.now c.driving.ranks c.sync_all.new.ranks c.driving.invariant.0 (drives_met c.args.hull.now c.driving.ranks c.sync_all.new.ranks c.sync_all.ensures.hulls c.sync_all.ensures.same)) c.turn_synced.ensures.on),
  c.sync_all.ensures.owed ∙ c.driving.invariant.1,
  c.sync_all.ensures.log ∙ c.driving.invariant.2,
)
