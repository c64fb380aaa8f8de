-- An image is its bands of rows, one behind the other.
use Rattle.std.proofs.Common.{◌≡◌, ℕ, zero, suc, ◌+◌, ◌-◌, ◌*◌, ◌/◌, ◌%◌, ◌<◌, ◌≤◌, List, [], ◌++◌, map, sym, ap, ◌∙◌, arith}
use Rattle.std.specs.List.{range_with_len}
use Rattle.std.proofs.lemmas.Nat.{div-mul-add, mod-mul-add, mod_below, div-add-mod'}
use Rattle.std.proofs.Math.Nat.{add-mul, mul_comm}
use Rattle.icet_model.specs.declared.names.Mode.{Mode}
use Rattle.icet_model.specs.Pixel.{Pixel}
use Rattle.icet_model.specs.Tiles.{Area}
use Rattle.icet_scene_model.specs.Raster.{Drawing, drawn, full_image}
use Rattle.icet_images.specs.Images.{rows_area}
use Rattle.icet_images.proofs.FramedImages.{made_split, shifted}

-- there is a column where there is a pixel
some_column : (w h i : ℕ) → i < w * h → 0 < w
some_column zero h i l = absurd (let e : 0 * h ≡ 0 = omega arith in omega (arith, e))
some_column (suc w) h i l = omega arith

module _ (mode : Mode) (shapes : List Drawing) (area : Area) where
  abbrev pixel : ℕ → ℕ → Pixel
  pixel top i = drawn mode shapes (area.x + i % area.w) (area.y + top + i / area.w)

  -- no rows have no pixels
  pub nothing_above : full_image mode shapes (rows_area area 0 0) ≡ []
  nothing_above = ap (λ n. map (pixel 0) (range_with_len 0 n)) (let e : area.w * (0 - 0) ≡ 0 = mul_comm area.w 0 ∙ (let z : 0 * area.w ≡ 0 = omega arith in z) in e)

  -- all rows are the image
  pub all_rows : full_image mode shapes (rows_area area 0 area.h) ≡ full_image mode shapes area
  all_rows = ap (λ h. full_image mode shapes (record { x = area.x; y = area.y + 0; w = area.w; h = h })) (let e : area.h - 0 ≡ area.h = omega arith in e) ∙ ap (λ y. full_image mode shapes (record { x = area.x; y = y; w = area.w; h = area.h })) (let e : area.y + 0 ≡ area.y = omega arith in e)

  -- a pixel so many rows below
  pixel_below : (top i : ℕ) → 0 < area.w → pixel 0 (0 + area.w * top + i) ≡ pixel top (0 + i)
  pixel_below top i w =
      let column = mod_below i area.w w in
      let whole = div-add-mod' i area.w in
      let first : 0 + i ≡ i = omega arith in
      let place : 0 + area.w * top + i ≡ (top + i / area.w) * area.w + i % area.w = omega (arith, whole, mul_comm area.w top, add-mul top (i / area.w) area.w) in
      let row : area.y + 0 + (top + i / area.w) ≡ area.y + top + i / area.w = omega arith in
      ap (pixel 0) place
      ∙ ap (λ k. drawn mode shapes (area.x + k) (area.y + 0 + ((top + i / area.w) * area.w + i % area.w) / area.w)) (mod-mul-add (top + i / area.w) area.w (i % area.w) column)
      ∙ ap (λ k. drawn mode shapes (area.x + i % area.w) (area.y + 0 + k)) (div-mul-add (top + i / area.w) area.w (i % area.w) column)
      ∙ ap (λ k. drawn mode shapes (area.x + i % area.w) k) row
      ∙ ap (pixel top) (sym first)

  -- the rows above a band, and the band
  pub rows_joined : (top bottom : ℕ) → top ≤ bottom → full_image mode shapes (rows_area area 0 bottom) ≡ full_image mode shapes (rows_area area 0 top) ++ full_image mode shapes (rows_area area top bottom)
  rows_joined top bottom l =
      let above : area.w * (top - 0) ≡ area.w * top = ap (λ n. area.w * n) (let e : top - 0 ≡ top = omega arith in e) in
      let count : bottom - 0 ≡ top + (bottom - top) = omega (arith, l) in
      let size : area.w * (bottom - 0) ≡ area.w * top + area.w * (bottom - top) = ap (λ n. area.w * n) count ∙ mul_comm area.w (top + (bottom - top)) ∙ omega (arith, add-mul top (bottom - top) area.w, mul_comm area.w top, mul_comm area.w (bottom - top)) in
      ap (λ n. map (pixel 0) (range_with_len 0 n)) size
      ∙ made_split (pixel 0) 0 (area.w * top) (area.w * (bottom - top))
      ∙ ap (λ ps. map (pixel 0) (range_with_len 0 (area.w * top)) ++ ps) (shifted (pixel 0) (pixel top) (0 + area.w * top) 0 (area.w * (bottom - top)) (λ i h. pixel_below top i (some_column area.w (bottom - top) i h)))
      ∙ ap (λ n. map (pixel 0) (range_with_len 0 n) ++ full_image mode shapes (rows_area area top bottom)) (sym above)
