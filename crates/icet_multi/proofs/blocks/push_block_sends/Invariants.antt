use Rattle.std.proofs.Common.{◌≡◌, take}
use Rattle.icet_multi.specs.Reduced.{HaveGrown, handing}
use Rattle.icet_multi.proofs.Growing.{given}
use Rattle.icet_multi.proofs.blocks.push_block_sends.Given as goal

abbrev pub invariant-loop-i : goal.invariant-loop-i
invariant-loop-i l = record {
  ranks : l.contributors ≡ l.fn.block.contributors;
  grown : HaveGrown (given l.fn.block.display (handing l.fn.t l.fn.block) (take l.i l.fn.block.contributors)) l.fn.drafts.items l.drafts.items;
}
