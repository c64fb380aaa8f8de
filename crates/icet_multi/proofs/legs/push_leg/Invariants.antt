use Rattle.std.proofs.Common.{[], cond, get_or}
use Rattle.std.specs.Prelude.{◌==◌}
use Rattle.icet_plan.specs.Each.{each}
use Rattle.icet_multi.specs.Reduced.{HaveGrown}
use Rattle.icet_multi.proofs.legs.push_leg.Given as goal

abbrev pub invariant-loop-p : goal.invariant-loop-p
invariant-loop-p l = HaveGrown (λ r. each (λ p. cond (get_or l.fn.group p 0 == r) (get_or l.fn.programs p []) []) l.p) l.fn.drafts.items l.drafts.items
