-- Shapes draw nothing outside the part of an area that their box has.
use Rattle.std.proofs.Common.{◌≡◌, ℕ, ◌+◌, ◌<◌, ◌≤◌, List, Option, Some, None, refl, sym, ◌∙◌, subst, pos}
use Rattle.std.specs.Prelude.{◌≢◌}
use Rattle.icet_model.specs.declared.names.Mode.{Mode}
use Rattle.icet_model.specs.declared.names.Rect.{Rect}
use Rattle.icet_model.specs.Pixel.{FragmentView, Pixel}
use Rattle.icet_model.specs.Tiles.{Area}
use Rattle.icet_scene_model.specs.Boxes.{HasPixel, box}
use Rattle.icet_scene_model.specs.Raster.{Drawing, drawn}
use Rattle.icet_raster.specs.declared.cut.Part.{Part}
use Rattle.icet_raster.specs.Stretches.{AreSeenWithin, IsCutBy}
use Rattle.icet_raster.proofs.Outside.{drawn_in_box}

module _ (mode : Mode) (shapes : List Drawing) (x y : ℕ) where
  -- where something is drawn the box has the pixel
  has : (rect : Rect) → box shapes ≡ Some rect → (p : Pixel) → drawn mode shapes x y ≡ p → drawn mode shapes x y ≢ None → HasPixel rect (pos x) (pos y)
  has rect e None d n = absurd (n d)
  has rect e (Some f) d n =
      let c = drawn_in_box mode shapes x y f d in
      let same : c.rect ≡ rect = (let g = c.box_is in cc) in
      subst (λ r. HasPixel r (pos x) (pos y)) same c.pixel

  boxless : box shapes ≡ None → (p : Pixel) → drawn mode shapes x y ≡ p → drawn mode shapes x y ≢ None → ⊥
  boxless e None d n = n d
  boxless e (Some f) d n = let c = drawn_in_box mode shapes x y f d in let g = c.box_is in absurd (cc)

pub seen_in : (shapes : List Drawing) (area : Area) (rect : Rect) (part : Part) → box shapes ≡ Some rect → IsCutBy rect area part → AreSeenWithin shapes area part
seen_in shapes area rect part e c = record {
  columns = λ mode x y l n. (let p = has mode shapes (area.x + x) (area.y + y) rect e _ refl n in c.columns x l p.left p.right);
  rows = λ mode x y l n. (let p = has mode shapes (area.x + x) (area.y + y) rect e _ refl n in c.rows y l p.top p.bottom);
}

pub never_seen : (shapes : List Drawing) (area : Area) (part : Part) → box shapes ≡ None → AreSeenWithin shapes area part
never_seen shapes area part e = record {
  columns = λ mode x y l n. absurd (boxless mode shapes (area.x + x) (area.y + y) e _ refl n);
  rows = λ mode x y l n. absurd (boxless mode shapes (area.x + x) (area.y + y) e _ refl n);
}
