use Rattle.std.proofs.Common.{[], get_or}
use Rattle.icet_plan.specs.Each.{each}
use Rattle.icet_multi.specs.Rules.{tile_of}
use Rattle.icet_multi.specs.Reduced.{HaveGrown, tile_sends}
use Rattle.icet_multi.proofs.blocks.push_sends.Given as goal

abbrev pub invariant-loop-t : goal.invariant-loop-t
invariant-loop-t l = HaveGrown (λ r. each (λ t. tile_sends t (tile_of l.fn.tiles t) (get_or l.fn.groups t []) r) l.t) l.fn.drafts.items l.drafts.items
