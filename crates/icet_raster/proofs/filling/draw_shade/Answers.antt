use Rattle.std.proofs.Common.{◌<◌, ap, length}
use Rattle.icet_model.specs.Tiles.{area_of}
use Rattle.icet_raster.specs.Walks.{walked}
use Rattle.icet_raster.proofs.StretchesDrawn.{at-hidden, at-shown}
use Rattle.icet_raster.proofs.filling.draw_shade.Goals as goal

pub returns-then-is_hidden-clause-drawn : goal.returns-then-is_hidden-clause-drawn
returns-then-is_hidden-clause-drawn c =
    at-hidden c.args.mode (walked c.args.walk.now) (area_of c.args.area) c.args.place.at c.args.place.x c.args.place.y c.args.image.now.pixels c.get.result c.shaded-fragment.result c.requires.place c.requires.covered c.get.ensures c.shaded-fragment.ensures (c.is_hidden.ensures c.if-is_hidden.true)

pub returns-clause-drawn : goal.returns-clause-drawn
returns-clause-drawn c =
    let size = c.width.ensures.known.size in
    let l : c.args.place.at < length c.args.image.now.pixels = rw (size, c.requires.width, c.requires.height) c.requires.place.within in
    let shown = at-shown c.args.mode (walked c.args.walk.now) (area_of c.args.area) c.args.place.at c.args.place.x c.args.place.y c.args.image.now.pixels c.get-2.result c.shaded-fragment.result c.draw_over-pixel.result l c.requires.place c.requires.covered c.get-2.ensures c.shaded-fragment.ensures c.draw_over-pixel.ensures in
    rw (ap (λ i. i.pixels) c.set.ensures) shown
