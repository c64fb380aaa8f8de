use Rattle.icet_plan.specs.Each.{each}
use Rattle.icet_multi.specs.Reduce.{block_tile}
use Rattle.icet_multi.specs.Reduced.{HaveGrown, folding}
use Rattle.icet_multi.proofs.blocks.push_tile_folds.Given as goal

abbrev pub invariant-loop-j : goal.invariant-loop-j
invariant-loop-j l = HaveGrown (λ r. each (λ j. folding l.fn.t (block_tile l.fn.tile l.fn.group j) r) l.j) l.fn.drafts.items l.drafts.items
