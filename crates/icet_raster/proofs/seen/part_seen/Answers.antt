use Rattle.std.proofs.Common.{map, sym, ◌∙◌}
use Rattle.icet_model.specs.Tiles.{area_of}
use Rattle.icet_raster.specs.Shapes.{drawing_of}
use Rattle.icet_raster.proofs.SeenParts.{never_seen, seen_in}
use Rattle.icet_raster.proofs.seen.part_seen.Goals as goal

pub returns-in-None-clause-seen : goal.returns-in-None-clause-seen
returns-in-None-clause-seen c = never_seen (map drawing_of c.args.shapes.now) (area_of c.args.area) _ (sym c.box_of.ensures.value ∙ c.in-None.is)

pub returns-in-Some-clause-seen : goal.returns-in-Some-clause-seen
returns-in-Some-clause-seen c = seen_in (map drawing_of c.args.shapes.now) (area_of c.args.area) c.in-Some.bounds _ (sym c.box_of.ensures.value ∙ c.in-Some.is) c.part_in.ensures.cut
