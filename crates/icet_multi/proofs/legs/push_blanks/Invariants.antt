use Rattle.icet_plan.specs.Each.{each}
use Rattle.icet_multi.specs.Rules.{tile_of}
use Rattle.icet_multi.specs.Reduced.{HaveGrown, blanking}
use Rattle.icet_multi.proofs.legs.push_blanks.Given as goal

abbrev pub invariant-loop-t : goal.invariant-loop-t
invariant-loop-t l = HaveGrown (λ r. each (λ t. blanking t (tile_of l.fn.tiles t) r) l.t) l.fn.drafts.items l.drafts.items
