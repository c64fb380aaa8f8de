use Rattle.std.proofs.Common.{◌≡◌, ℕ, ◌+◌, ◌≤◌, ◌++◌, map, length}
use Rattle.std.specs.Prelude.{vec_capacity}
use Rattle.std.specs.List.{AllByRecursion, range_with_len}
use Rattle.std.specs.Vec.Iter.{into_iter_items}
use Rattle.icet_model.specs.Pixel.{Pixel}
use Rattle.icet_net.specs.CloseSteps.{IsShowable, AreAllWanted, shown_on}
use Rattle.icet_net.proofs.closing.show_all.Given as goal

abbrev pub invariant-showing : goal.invariant-showing
invariant-showing g l = record {
  tiles : map (λ c. c.tile) (into_iter_items l.canvas-iterator) ≡ range_with_len (length l.pictures.items) (length (into_iter_items l.canvas-iterator));
  showable : AllByRecursion (IsShowable (map (λ p. p.kept) l.parts) l.plan.tiles) (into_iter_items l.canvas-iterator);
  memory : length l.pictures.items + length (into_iter_items l.canvas-iterator) ≤ vec_capacity l.pictures;
  shown : (wanted : ℕ → ℕ → Pixel) → AreAllWanted (map (λ p. p.kept) l.parts) l.plan.tiles wanted → l.pictures.items ++ map (shown_on wanted) (into_iter_items l.canvas-iterator) ≡ map (shown_on wanted) l.fn.canvases.items;
}
