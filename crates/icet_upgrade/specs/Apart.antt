-- Spans that stand apart, so that no two of them are parts of one run.
use Rattle.std.specs.Prelude.{◌≡◌, ◌+◌, ◌<◌, length}
use Rattle.icet_scene_model.specs.Raster.{Drawing, Point, Tri, Span}
use Rattle.icet_scene_model.specs.Scene.{Placed}

-- both are spans; in one row the later one begins behind the end of the earlier, with a pixel between them or more
abbrev pub AreApart : Drawing → Drawing → Type 0
AreApart (Point x y paint) later = ⊥
AreApart (Tri triangle) later = ⊥
AreApart (Span x y paints) (Point column row paint) = ⊥
AreApart (Span x y paints) (Tri triangle) = ⊥
AreApart (Span x y paints) (Span column row more) = y ≡ row → x + length paints < column

-- of one rank
abbrev pub StandApart : Placed → Placed → Type 0
StandApart one later = one.rank ≡ later.rank → AreApart one.shape later.shape
