use Rattle.std.proofs.Common.{◌≡◌, ◌-◌, ◌*◌, List, None, ap, ◌∙◌, sym, map, replicate, arith}
use Rattle.icet_model.specs.Pixel.{Pixel}
use Rattle.icet_model.specs.Tiles.{area_of}
use Rattle.icet_raster.specs.Shapes.{drawing_of}
use Rattle.icet_jobs.proofs.SceneImages.{no_entry, nothing_drawn}
use Rattle.icet_jobs.proofs.imaging.part_of.Goals as goal

pub returns-then-is_empty : goal.returns-then-is_empty
returns-then-is_empty c =
    let count = c.args.area.w * c.args.area.h in
    let same : count - 0 ≡ count = omega arith in
    let none = no_entry c.args.shapes.now (sym c.is_empty.ensures ∙ c.if-is_empty.true) in
    c.blank.ensures
    ∙ ap (λ n. record { tile = c.args.t; lo = 0; hi = count; content = replicate n None }) same
    ∙ ap (λ (pixels : List Pixel). record { tile = c.args.t; lo = 0; hi = count; content = pixels }) (sym (nothing_drawn c.args.strands c.args.mode (map drawing_of c.args.shapes.now) (area_of c.args.area) c.requires.strands (ap (map drawing_of) none)))
