use Rattle.icet_plan.specs.Each.{each}
use Rattle.icet_multi.specs.Direct.{sending}
use Rattle.icet_multi.specs.Reduce.{block_tile}
use Rattle.icet_multi.specs.Reduced.{HaveGrown}
use Rattle.icet_multi.proofs.blocks.push_tile_sends.Given as goal

abbrev pub invariant-loop-j : goal.invariant-loop-j
invariant-loop-j l = HaveGrown (λ r. each (λ j. sending l.fn.t (block_tile l.fn.tile l.fn.group j) r) l.j) l.fn.drafts.items l.drafts.items
