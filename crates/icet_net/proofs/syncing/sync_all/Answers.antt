use Rattle.std.proofs.Common.{length, refl, ap, ◌∙◌, arith}
use Rattle.icet_net.proofs.MetPorts.{met_all_none, met_trans}
use Rattle.icet_net.proofs.HullPairs.{all_met}
use Rattle.icet_net.proofs.Course.{on_course}
use Rattle.icet_net.proofs.syncing.sync_all.Goals as goal

pub syncing-init : goal.syncing-init
syncing-init g c = record { hulls = c.requires.hulls; same = met_all_none _; synced = record { each = λ i p l e. absurd (omega (arith, l)) }; owed = refl; log = refl }

pub returns-in_err-sync_at-clause-same : goal.returns-in_err-sync_at-clause-same
returns-in_err-sync_at-clause-same g c = met_trans _ _ _ c.syncing.invariant.same c.in_err-sync_at.ensures.same

pub syncing-preserved : goal.syncing-preserved
syncing-preserved g c =
    let i = c.syncing.invariant in
    let e = c.in_ok-sync_at.ensures in
    record {
      hulls = e.hulls;
      same = met_trans _ _ _ i.same e.same;
      synced = e.synced i.synced;
      owed = e.owed ∙ i.owed;
      log = e.log ∙ i.log;
    }

pub returns-clause-synced : goal.returns-clause-synced
returns-clause-synced g c = all_met _ _ c.syncing.i c.pairs-i-end.ensures.known (let f = c.syncing-test.false in let e = ap length c.pairs-i-end.ensures.pairs in omega (arith, f, e)) c.syncing.invariant.synced

pub returns-clause-course : goal.returns-clause-course
returns-clause-course g c = on_course _ _ c.pairs-i-end.ensures.known.plan c.syncing.invariant.hulls c.look_at.ensures (returns-clause-synced g c)
