use Rattle.std.proofs.Common.{subst, sym}
use Rattle.std.specs.List.{AllByRecursion}
use Rattle.icet_rank.specs.Machine.{Names}
use Rattle.icet_rank.proofs.FirstRun.{starts}
use Rattle.icet_rank.proofs.machine.RankMachine.new.Goals as goal

pub invariant_of-result : goal.invariant_of-result
invariant_of-result g c =
    rw (c.new.ensures.items, c.of.ensures, c.of-2.ensures) (starts c.requires c.in_ok-slots.slots.items c.in_ok-slots.ensures.empty (subst (λ n. AllByRecursion (Names n) c.args.program) (sym c.in_ok-slots.ensures.count) c.slots_of.ensures.named) c.slots_of.ensures.short)
