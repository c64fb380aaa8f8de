-- The pixels that a tile adds to a row are those that the tiles show there.
use Rattle.std.proofs.Common.{◌≡◌, ℕ, zero, suc, ◌+◌, ◌-◌, ◌*◌, ◌/◌, ◌%◌, ◌<◌, ◌≤◌, Bool, true, false, cond, List, [], ◌∷◌, ◌++◌, length, map, get_or, take, drop, replicate, Some, None, refl, sym, ap, ◌∙◌, subst, arith, append-nil, append_assoc, length-append}
use Rattle.std.specs.Prelude.{◌&&◌, ◌||◌, max, min, nat_le, nat_lt, All, slice_index_or, unsigned_abs}
use Rattle.std.specs.List.{list_any, range_with_len}
use Rattle.std.specs.List.Sorted.{IsNonDecreasingBy}
use Rattle.std.proofs.lemmas.Bool.Decides.{nat_tests}
use Rattle.std.proofs.lemmas.List.{ext_get_or, get_or_default, get_or-append_right, get_or_append_left, get_or-drop, get_or-replicate, get_or-take, length-drop, length-map, length-replicate, length-take, map-append}
use Rattle.std.proofs.lemmas.List.Elements.{All-get_or}
use Rattle.std.proofs.lemmas.List.Folds.{list_any_at, list_any_none}
use Rattle.std.proofs.lemmas.List.FromFn.{get_or-map-range_with_len, length-map-range_with_len, length-range_with_len}
use Rattle.std.proofs.lemmas.Nat.{div-mul-add, mod-mul-add, mul-add-lt}
use Rattle.icet_model.specs.declared.names.Mode.{Mode}
use Rattle.icet_model.specs.Pixel.{Pixel}
use Rattle.icet_model.specs.Tiles.{Area, IsOnDisplay, IsTileArea, area_of}
use Rattle.icet_scene_model.specs.Raster.{Drawing, drawn, full_image}
use Rattle.icet_scene_model.specs.Ready.{bottom_end, holds_pixel, right_end, shown, shown_row, stretches}
use Rattle.icet_upgrade.specs.TileImages.{AreInOrder, HasRow, IsTileImage, Shows, left_of, pixels_from, row_of, tile_areas}
use Rattle.icet_upgrade.specs.declared.tile_image.TileImage.{TileImage}
use Rattle.icet_upgrade.proofs.Ends.{any_mapped, right_holds}
use Rattle.icet_upgrade.proofs.ImagesStay.{holds}
use Rattle.icet_upgrade.proofs.Runs.{blank_last}

-- ---- ranges behind one another
range-append : (a m n : ℕ) → range_with_len a (m + n) ≡ range_with_len a m ++ range_with_len (a + m) n
range-append a zero n = (λ i. range_with_len ((let e : a ≡ a + 0 = omega arith in e) i) ((let z : 0 + n ≡ n = omega arith in z) i))
range-append a (suc m) n =
    ap (range_with_len a) (let e : suc m + n ≡ suc (m + n) = omega arith in e)
    ∙ ap (λ xs. a ∷ xs) (range-append (a + 1) m n)
    ∙ ap (λ k. a ∷ (range_with_len (a + 1) m ++ range_with_len k n)) (let e : a + 1 + m ≡ a + suc m = omega arith in e)

pub made_append : (f : ℕ → Pixel) (m n : ℕ) → map f (range_with_len 0 (m + n)) ≡ map f (range_with_len 0 m) ++ map f (range_with_len m n)
made_append f m n =
    ap (map f) (range-append 0 m n)
    ∙ map-append f (range_with_len 0 m) (range_with_len (0 + m) n)
    ∙ ap (λ k. map f (range_with_len 0 m) ++ map f (range_with_len k n)) (let e : 0 + m ≡ m = omega arith in e)

made_of : (f : ℕ → Pixel) (a : ℕ) (ps : List Pixel) → ((j : ℕ) → j < length ps → get_or ps j None ≡ f (a + j)) → ps ≡ map f (range_with_len a (length ps))
made_of f a ps h = ext_get_or None ps (map f (range_with_len a (length ps))) (sym (length-map-range_with_len f a (length ps)))
    (λ j l. h j l ∙ sym (get_or-map-range_with_len f a (length ps) j (a + j) None l refl))

-- ---- what an area holds
held_left : (area : Area) (x y : ℕ) → holds_pixel x y area ≡ true → area.x ≤ x
held_left area x y e = grind (arith, nat_tests, e)

held_right : (area : Area) (x y : ℕ) → holds_pixel x y area ≡ true → x < area.x + area.w
held_right area x y e = grind (arith, nat_tests, e)

held_top : (area : Area) (x y : ℕ) → holds_pixel x y area ≡ true → area.y ≤ y
held_top area x y e = grind (arith, nat_tests, e)

held_bottom : (area : Area) (x y : ℕ) → holds_pixel x y area ≡ true → y < area.y + area.h
held_bottom area x y e = grind (arith, nat_tests, e)

not_true : (b : Bool) → (b ≡ true → ⊥) → b ≡ false
not_true true h = absurd (h refl)
not_true false h = refl

row_held : (tile : TileImage) (x y : ℕ) → holds_pixel x y (area_of tile.area) ≡ true → HasRow tile y
row_held tile x y e = record { top = held_top (area_of tile.area) x y e; bottom = held_bottom (area_of tile.area) x y e }

-- the tiles before one end before a column, where they have the row
abbrev pub EndBefore : List TileImage → ℕ → ℕ → ℕ → Type 0
EndBefore tiles y i next = (k : ℕ) (d : TileImage) → k < i → HasRow (slice_index_or tiles k d) y → left_of (slice_index_or tiles k d) + (slice_index_or tiles k d).area.w ≤ next

-- ---- how far a tile's pixels go
module _ (tile : TileImage) (y : ℕ) (is : IsTileImage tile) (has : HasRow tile y) where
  pub row_length : length (row_of tile y) ≡ tile.area.w
  row_length =
      let w = tile.area.w in
      let h = tile.area.h in
      let row = y - unsigned_abs tile.area.y in
      let some : row < h = omega (arith, has.top, has.bottom) in
      let wide : 1 ≤ w = is.area.display.w in
      let last = mul-add-lt row w (w - 1) h some (omega (arith, wide)) in
      omega (arith, length-take w (drop (row * w) tile.image.pixels), length-drop (row * w) tile.image.pixels, is.size, last, wide)

  pub pixels_length : (next : ℕ) → length (pixels_from next y tile) ≡ (left_of tile - next) + (tile.area.w - (next - left_of tile))
  pixels_length next =
      length-append (replicate {A = Pixel} (left_of tile - next) None) (drop (next - left_of tile) (row_of tile y))
      ∙ ap (λ k. k + length (drop (next - left_of tile) (row_of tile y))) (length-replicate {A = Pixel} (left_of tile - next) None)
      ∙ ap (λ k. (left_of tile - next) + k) (length-drop (next - left_of tile) (row_of tile y) ∙ ap (λ k. k - (next - left_of tile)) row_length)

module _ (tiles : List TileImage) (y i next : ℕ) (tile : TileImage) (in_list : i < length tiles) (at : tile ≡ get_or tiles i tile) (order : AreInOrder tiles) (ends : EndBefore tiles y i next) (has : HasRow tile y) where
  this : IsTileImage tile
  this = subst IsTileImage (sym at) (order.each i tile in_list)

  far : length (pixels_from next y tile) ≡ (left_of tile - next) + (tile.area.w - (next - left_of tile))
  far = pixels_length tile y this has next

  pub ends_more : EndBefore tiles y (i + 1) (next + length (pixels_from next y tile))
  ends_more k e l r = by_place (nat_lt k i) refl
    where
      by_place : (b : Bool) → nat_lt k i ≡ b → left_of (slice_index_or tiles k e) + (slice_index_or tiles k e).area.w ≤ next + length (pixels_from next y tile)
      by_place true t =
          let before : k < i = grind (arith, nat_tests, t) in
          let end = ends k e before r in
          omega (arith, end)
      by_place false t =
          let same : i ≡ k = grind (arith, nat_tests, t, l) in
          let is : tile ≡ slice_index_or tiles k e = at ∙ ap (λ m. slice_index_or tiles m tile) same ∙ get_or_default tiles k tile e (omega (arith, same, in_list)) in
          subst (λ u. left_of u + u.area.w ≤ next + length (pixels_from next y tile)) is (omega (arith, far))

  pub still_within : next ≤ right_end (tile_areas tiles) → next + length (pixels_from next y tile) ≤ right_end (tile_areas tiles)
  still_within w =
      let right = right_holds (λ (t : TileImage). area_of t.area) tiles i tile in_list in
      let mine : left_of tile + tile.area.w ≤ right_end (tile_areas tiles) = subst (λ u. left_of u + u.area.w ≤ right_end (tile_areas tiles)) (sym at) right in
      omega (arith, w, mine, far)

-- ---- what is shown
module _ (mode : Mode) (tiles : List TileImage) (shapes : List Drawing) (y : ℕ) where
  abbrev shows : ℕ → Pixel
  shows x = shown mode (tile_areas tiles) shapes y x

  -- a column that no tile has in this row
  unshown : (x : ℕ) → ((k : ℕ) (d : TileImage) → k < length tiles → holds_pixel x y (area_of (slice_index_or tiles k d).area) ≡ true → ⊥) → shows x ≡ None
  unshown x h = ap (λ b. cond b (drawn mode shapes x y) None)
      (any_mapped (holds_pixel x y) (λ (tile : TileImage). area_of tile.area) tiles
      ∙ list_any_none (λ (tile : TileImage). holds_pixel x y (area_of tile.area)) tiles (λ k d l. not_true (holds_pixel x y (area_of (slice_index_or tiles k d).area)) (h k d l)))

  -- a column that a tile has
  is_shown : (x i : ℕ) (d : TileImage) → i < length tiles → holds_pixel x y (area_of (slice_index_or tiles i d).area) ≡ true → shows x ≡ drawn mode shapes x y
  is_shown x i d l e = ap (λ b. cond b (drawn mode shapes x y) None)
      (any_mapped (holds_pixel x y) (λ (tile : TileImage). area_of tile.area) tiles
      ∙ list_any_at (λ (tile : TileImage). holds_pixel x y (area_of tile.area)) tiles i d l e)

  -- from there on nothing is shown, where these are all tiles
  pub all_blank : (next n : ℕ) → EndBefore tiles y (length tiles) next → map (shown mode (tile_areas tiles) shapes y) (range_with_len next n) ≡ replicate n None
  all_blank next zero h = refl
  all_blank next (suc n) h =
      ap (λ p. p ∷ map shows (range_with_len (next + 1) n)) (unshown next (λ k d l e. let end = h k d l (row_held (slice_index_or tiles k d) next y e) in let inside = held_right (area_of (slice_index_or tiles k d).area) next y e in omega (arith, end, inside)))
      ∙ ap (λ ps. None ∷ ps) (all_blank (next + 1) n (λ k d l r. let e = h k d l r in omega (arith, e)))

  pub row_ends : (next : ℕ) → EndBefore tiles y (length tiles) next → next ≤ right_end (tile_areas tiles) → stretches 0 (map (shown mode (tile_areas tiles) shapes y) (range_with_len 0 next)) ≡ stretches 0 (shown_row mode (tile_areas tiles) shapes y)
  row_ends next h l =
      let n = right_end (tile_areas tiles) - next in
      let all : map shows (range_with_len 0 (right_end (tile_areas tiles))) ≡ map shows (range_with_len 0 next) ++ replicate n None =
      ap (λ k. map shows (range_with_len 0 k)) (let e : right_end (tile_areas tiles) ≡ next + n = omega (arith, l) in e)
      ∙ made_append shows next n
      ∙ ap (λ ps. map shows (range_with_len 0 next) ++ ps) (all_blank next n h) in
      sym (ap (stretches 0) all ∙ blank_last n 0 (map shows (range_with_len 0 next)))

  module _ (i next : ℕ) (tile : TileImage) (in_list : i < length tiles) (at : tile ≡ get_or tiles i tile) (order : AreInOrder tiles) (ends : EndBefore tiles y i next) (images : All (Shows mode shapes) tiles) (has : HasRow tile y) where
    -- before the tile
    gap : (x : ℕ) → next ≤ x → x < left_of tile → shows x ≡ None
    gap x l m = unshown x (λ k e n held. by_place k e n held (nat_lt k i) refl)
      where
        by_place : (k : ℕ) (e : TileImage) → k < length tiles → holds_pixel x y (area_of (slice_index_or tiles k e).area) ≡ true → (b : Bool) → nat_lt k i ≡ b → ⊥
        by_place k e n held true t =
            let before : k < i = grind (arith, nat_tests, t) in
            let end = ends k e before (row_held (slice_index_or tiles k e) x y held) in
            let inside = held_right (area_of (slice_index_or tiles k e).area) x y held in
            omega (arith, end, inside, l)
        by_place k e n held false t =
            let after : i ≤ k = grind (arith, nat_tests, t) in
            let later = order.order i k tile after n in
            let first : left_of tile ≤ left_of (slice_index_or tiles k tile) = subst (λ u. left_of u ≤ left_of (slice_index_or tiles k tile)) (sym at) later in
            let inside = held_left (area_of (slice_index_or tiles k tile).area) x y (subst (λ u. holds_pixel x y (area_of u.area) ≡ true) (get_or_default tiles k e tile n) held) in
            omega (arith, first, inside, m)

    row_pixel : (column : ℕ) → column < tile.area.w → get_or (row_of tile y) column None ≡ drawn mode shapes (left_of tile + column) y
    row_pixel column l =
        let w = tile.area.w in
        let h = tile.area.h in
        let row = y - unsigned_abs tile.area.y in
        let some : row < h = omega (arith, has.top, has.bottom) in
        let place = row * w + column in
        let inside : place < w * h = mul-add-lt row w column h some l in
        let f : ℕ → Pixel = λ k. drawn mode shapes (left_of tile + k % w) (unsigned_abs tile.area.y + k / w) in
        let mine : Shows mode shapes tile = subst (Shows mode shapes) (sym at) (images i tile in_list) in
        get_or-take w (drop (row * w) tile.image.pixels) column None l
        ∙ get_or-drop (row * w) tile.image.pixels column None
        ∙ ap (λ ps. get_or ps place None) mine.pixels
        ∙ get_or-map-range_with_len f 0 (w * h) place place None inside (omega arith)
        ∙ ap (λ k. drawn mode shapes (left_of tile + k) (unsigned_abs tile.area.y + place / w)) (mod-mul-add row w column l)
        ∙ ap (λ k. drawn mode shapes (left_of tile + column) (unsigned_abs tile.area.y + k)) (div-mul-add row w column l)
        ∙ ap (λ k. drawn mode shapes (left_of tile + column) k) (let e : unsigned_abs tile.area.y + row ≡ y = omega (arith, has.top) in e)

    pixel_at : (j : ℕ) → j < length (pixels_from next y tile) → get_or (pixels_from next y tile) j None ≡ shows (next + j)
    pixel_at j l = by_side (nat_lt j (left_of tile - next)) refl
      where
        by_side : (b : Bool) → nat_lt j (left_of tile - next) ≡ b → get_or (pixels_from next y tile) j None ≡ shows (next + j)
        by_side true t =
            let before : j < left_of tile - next = grind (arith, nat_tests, t) in
            get_or_append_left (replicate {A = Pixel} (left_of tile - next) None) (drop (next - left_of tile) (row_of tile y)) None j (omega (arith, before, length-replicate {A = Pixel} (left_of tile - next) None))
            ∙ get_or-replicate (left_of tile - next) j None None before
            ∙ sym (gap (next + j) (omega arith) (omega (arith, before)))
        by_side false t =
            let after : left_of tile - next ≤ j = grind (arith, nat_tests, t) in
            let column = (next - left_of tile) + (j - (left_of tile - next)) in
            let far = pixels_length tile y (subst IsTileImage (sym at) (order.each i tile in_list)) has next in
            let short : column < tile.area.w = omega (arith, l, far, after) in
            let place : left_of tile + column ≡ next + j = omega (arith, after) in
            get_or-append_right (replicate {A = Pixel} (left_of tile - next) None) (drop (next - left_of tile) (row_of tile y)) (left_of tile - next) j None (length-replicate {A = Pixel} (left_of tile - next) None) after
            ∙ get_or-drop (next - left_of tile) (row_of tile y) (j - (left_of tile - next)) None
            ∙ row_pixel column short
            ∙ ap (λ x. drawn mode shapes x y) place
            ∙ sym (is_shown (next + j) i tile in_list (subst (λ u. holds_pixel (next + j) y (area_of u.area) ≡ true) at (holds (area_of tile.area) (next + j) y (omega (arith, place)) (omega (arith, place, short)) has.top has.bottom)))

    -- the tile's pixels are those that the tiles show
    pub pixels_shown : pixels_from next y tile ≡ map (shown mode (tile_areas tiles) shapes y) (range_with_len next (length (pixels_from next y tile)))
    pixels_shown = made_of shows next (pixels_from next y tile) pixel_at
