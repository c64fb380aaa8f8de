use Rattle.icet_net.proofs.DriveKeeps.{still_hulls}
use Rattle.icet_tests.proofs.Stepped.{each_goes_trans}
use Rattle.icet_net_tests.proofs.stepping.by_threads_of_a_scope.Goals as goal

pub drive_and_close-requires-clause-hulls : goal.drive_and_close-requires-clause-hulls
drive_and_close-requires-clause-hulls g c = λ κs h. still_hulls _ _ c.moving.ranks.items c.in_ok-hull.ensures.hulls c.moving.invariant

pub moving-preserved : goal.moving-preserved
moving-preserved g c = each_goes_trans _ c.moving.ranks.items c.in_ok-ranks.ranks.items c.moving.invariant c.in_ok-ranks.ensures
