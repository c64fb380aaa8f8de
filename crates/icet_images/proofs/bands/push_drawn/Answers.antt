use Rattle.std.proofs.Common.{◌≡◌, ◌++◌, List, OnOk, sym, ap, ◌∙◌, subst, map}
use Rattle.icet_model.specs.Pixel.{DenseView, Pixel}
use Rattle.icet_model.specs.Tiles.{area_of}
use Rattle.icet_scene_model.specs.Raster.{full_image}
use Rattle.icet_raster.specs.Shapes.{drawing_of}
use Rattle.icet_images.specs.Images.{framed_image}
use Rattle.icet_images.proofs.FramedImages.{image_is, none_seen}
use Rattle.icet_images.proofs.bands.push_drawn.Goals as goal

pub returns-then-is_empty : goal.returns-then-is_empty
returns-then-is_empty c =
    let none = none_seen c.args.mode (map drawing_of c.args.shapes.now) (area_of c.args.area) c.part_seen-part.result c.part_seen-part.ensures.part c.part_seen-part.ensures.seen (c.is_empty.ensures.empty c.if-is_empty.true) in
    c.push_blank.ensures ∙ ap (λ (ps : List Pixel). c.args.strip.now ++ ps) (sym none)

pub returns : goal.returns
returns c =
    let shapes = map drawing_of c.args.shapes.now in
    let area = area_of c.args.area in
    let part = c.part_seen-part.result in
    let these = c.as_slice.ensures.pixels ∙ ap (λ (d : DenseView). d.pixels) c.in_ok-image.ensures ∙ ap (full_image c.args.mode shapes) c.rect_of.ensures.area in
    let whole = ap (framed_image c.args.area.w c.args.area.h part) these ∙ sym (image_is c.args.mode shapes area part c.part_seen-part.ensures.part c.part_seen-part.ensures.seen) in
    subst (λ (ps : List Pixel). OnOk c.put_framed.result (c.put_framed.new.strip ≡ c.args.strip.now ++ ps)) whole c.put_framed.ensures
