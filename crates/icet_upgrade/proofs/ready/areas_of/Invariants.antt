use Rattle.std.proofs.Common.{◌≡◌, map, take}
use Rattle.std.specs.Prelude.{All}
use Rattle.icet_model.specs.Tiles.{IsTileArea, TileView, area_of}
use Rattle.icet_upgrade.proofs.ready.areas_of.Given as goal

abbrev pub invariant-loop-t : goal.invariant-loop-t
invariant-loop-t l = All IsTileArea l.areas.items × (map area_of l.areas.items ≡ take l.t (map (λ (tile : TileView). tile.area) l.layout))
