use Rattle.std.proofs.Common.{◌≡◌, ◌-◌, ◌*◌, ◌++◌, List, length, sym, ap, ◌∙◌, map, arith}
use Rattle.std.proofs.Math.Nat.{mul_comm}
use Rattle.icet_model.specs.Pixel.{Pixel}
use Rattle.icet_model.specs.Tiles.{area_of}
use Rattle.icet_scene_model.specs.Raster.{full_image}
use Rattle.icet_raster.specs.Shapes.{drawing_of}
use Rattle.icet_images.specs.Images.{rows_area}
use Rattle.icet_images.proofs.BandedImages.{rows_joined}
use Rattle.icet_images.proofs.FramedImages.{image_length}
use Rattle.icet_images.proofs.drawn.drawn_piece.Goals as goal

pub push_band-requires-clause-above : goal.push_band-requires-clause-above
push_band-requires-clause-above c =
    let rows = rows_area (area_of c.args.area) 0 c.bands.top in
    ap length c.bands.invariant.pixels ∙ image_length c.args.mode (map drawing_of c.args.shapes.now) rows ∙ mul_comm c.args.area.w (c.bands.top - 0) ∙ ap (λ n. n * c.args.area.w) (let e : c.bands.top - 0 ≡ c.bands.top = omega arith in e)

pub bands-preserved : goal.bands-preserved
bands-preserved c =
    let shapes = map drawing_of c.args.shapes.now in
    let area = area_of c.args.area in
    let bottom = c.band_end-bottom.result in
    let band = full_image c.args.mode shapes (rows_area area c.bands.top bottom) in
    record {
      within = c.band_end-bottom.ensures.within;
      pixels = c.in_ok-push_band.ensures ∙ ap (λ (ps : List Pixel). ps ++ band) c.bands.invariant.pixels ∙ sym (rows_joined c.args.mode shapes area c.bands.top bottom (omega (arith, c.band_end-bottom.ensures.some)));
    }

pub from_strip-requires-clause-size : goal.from_strip-requires-clause-size
from_strip-requires-clause-size c =
    let rows = rows_area (area_of c.args.area) 0 c.bands.top in
    let end : c.bands.top - 0 ≡ c.args.area.h = omega (arith, c.bands-test.false, c.bands.invariant.within) in
    let same : c.args.area.w * c.args.area.h ≡ c.args.area.w * c.args.area.h - 0 = omega arith in
    ap length c.bands.invariant.pixels ∙ image_length c.args.mode (map drawing_of c.args.shapes.now) rows ∙ ap (λ n. c.args.area.w * n) end ∙ same
