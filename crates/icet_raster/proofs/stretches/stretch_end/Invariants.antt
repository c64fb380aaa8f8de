use Rattle.std.proofs.Common.{◌≡◌, ℕ, ◌+◌, ◌<◌, ◌≤◌}
use Rattle.icet_scene_model.specs.Triangles.{centre, covers}
use Rattle.icet_raster.specs.Walks.{AreValues, walked}
use Rattle.icet_raster.proofs.stretches.stretch_end.Given as goal

abbrev pub invariant-loop-column : goal.invariant-loop-column
invariant-loop-column l = record {
  values : AreValues l.walk (l.left + l.column) l.y l.values;
  all : (k : ℕ) → l.fn.from.column ≤ k → k < l.column → covers (walked l.walk) (centre (l.left + k) l.y) ≡ l.covered;
}
