use Rattle.std.proofs.Common.{[], get_or}
use Rattle.icet_plan.specs.Each.{each}
use Rattle.icet_multi.specs.Reduced.{HaveGrown, leg_part, programs_in}
use Rattle.icet_multi.proofs.legs.push_legs.Given as goal

abbrev pub invariant-loop-t : goal.invariant-loop-t
invariant-loop-t l = HaveGrown (λ r. each (λ t. leg_part (get_or l.fn.groups t []) (get_or (programs_in l.fn.legs) t []) r) l.t) l.fn.drafts.items l.drafts.items
