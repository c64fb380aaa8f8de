use Rattle.std.proofs.Common.{◌≡◌, ◌<◌, ◌++◌, ◌^◌, length}
use Rattle.std.specs.List.{AllByRecursion}
use Rattle.std.specs.Vec.Iter.{into_iter_items}
use Rattle.icet_multi.proofs.drafts.finish.Given as goal

abbrev pub invariant-loop-draft : goal.invariant-loop-draft
invariant-loop-draft l = record {
  same : l.all.items ++ into_iter_items l.draft-iterator ≡ l.fn.drafts.items;
  short : AllByRecursion (λ ops. length ops < 2 ^ 32) (into_iter_items l.draft-iterator);
}
