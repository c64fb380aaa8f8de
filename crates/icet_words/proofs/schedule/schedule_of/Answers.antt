use Rattle.std.proofs.Common.{sym, arith}
use Rattle.icet_words.proofs.Entries.{entries_more, schedule_long}
use Rattle.icet_words.proofs.schedule.schedule_of.Goals as goal

pub returns-then-len-eq-MAX_SCHEDULE : goal.returns-then-len-eq-MAX_SCHEDULE
returns-then-len-eq-MAX_SCHEDULE c =
    let h = rw c.in-Some.is at c.loop-rest.invariant in
    sym (schedule_long c.args.text.now c.loop-rest.ranks.items c.in-Some.entries.now (omega arith) h)

pub loop-rest-preserved : goal.loop-rest-preserved
loop-rest-preserved c =
    let h = rw c.split_entry.ensures at (rw c.in-Some.is at c.loop-rest.invariant) in
    rw c.in_ok-push-in-Some-natural.ensures.items (entries_more _ _ _ _ _ (λ full. omega (arith, full)) h (sym c.in-Some-natural.ensures))
