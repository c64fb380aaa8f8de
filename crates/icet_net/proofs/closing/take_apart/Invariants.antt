use Rattle.std.proofs.Common.{reverse, ◌≡◌, ◌+◌, ◌≤◌, ◌++◌, map, length}
use Rattle.std.specs.Prelude.{vec_capacity}
use Rattle.std.specs.List.{AllByRecursion}
use Rattle.std.specs.Vec.Iter.{into_iter_items}
use Rattle.icet_rank.specs.Machine.{IsDone}
use Rattle.icet_net.proofs.closing.take_apart.Given as goal

abbrev pub invariant-parting : goal.invariant-parting
invariant-parting g l = record {
  done : AllByRecursion IsDone (into_iter_items l.machine-iterator);
  memory : length l.parts.items + length (into_iter_items l.machine-iterator) ≤ vec_capacity l.parts;
  kept : map (λ p. p.kept) l.parts.items ++ map (λ m. m.kept) (into_iter_items l.machine-iterator) ≡ map (λ m. m.kept) l.fn.ranks.items;
  inboxes : map (λ p. reverse p.inboxes) l.parts.items ++ map (λ m. m.inboxes) (into_iter_items l.machine-iterator) ≡ map (λ m. m.inboxes) l.fn.ranks.items;
  outboxes : map (λ p. reverse p.outboxes) l.parts.items ++ map (λ m. m.outboxes) (into_iter_items l.machine-iterator) ≡ map (λ m. m.outboxes) l.fn.ranks.items;
}
