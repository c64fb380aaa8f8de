-- A row, as far as it was looked at: the tiles up to one are done with.
use Rattle.std.proofs.Common.{◌≡◌, ℕ, zero, suc, ◌+◌, ◌-◌, ◌<◌, ◌≤◌, Bool, true, false, cond, List, [], ◌∷◌, ◌++◌, length, map, get_or, Some, refl, sym, ap, ◌∙◌, subst, arith, append-nil}
use Rattle.std.specs.Prelude.{nat_lt, All, slice_index_or, unsigned_abs}
use Rattle.std.specs.List.{range_with_len}
use Rattle.std.proofs.lemmas.Bool.Decides.{nat_tests}
use Rattle.std.proofs.lemmas.List.{get_or_default}
use Rattle.icet_model.specs.declared.names.Mode.{Mode}
use Rattle.icet_model.specs.Pixel.{Pixel}
use Rattle.icet_raster.specs.declared.shape.Shape.{Shape}
use Rattle.icet_raster.specs.Shapes.{IsInRange}
use Rattle.icet_scene.specs.Lines.{placed_of}
use Rattle.icet_scene_model.specs.Raster.{Drawing}
use Rattle.icet_scene_model.specs.Ready.{right_end, row_spans, shown, shown_row, stretch_span, stretches}
use Rattle.icet_scene_model.specs.Scene.{Placed}
use Rattle.icet_upgrade.specs.Scans.{Adds, EndsRun, IsScan, Passes, in_the_end}
use Rattle.icet_upgrade.specs.TileImages.{AreInOrder, HasRow, IsTileImage, Shows, has_row, left_of, pixels_from, tile_areas, tile_pixels}
use Rattle.icet_upgrade.specs.declared.scan.Scan.{Scan}
use Rattle.icet_upgrade.specs.declared.tile_image.TileImage.{TileImage}
use Rattle.icet_upgrade.proofs.Steps.{passes_none, passes_then}
use Rattle.icet_upgrade.proofs.TileRows.{EndBefore, ends_more, made_append, pixels_shown, row_ends, still_within}

row_top : (tile : TileImage) (y : ℕ) → has_row tile y ≡ true → unsigned_abs tile.area.y ≤ y
row_top tile y e = grind (arith, nat_tests, e)

row_bottom : (tile : TileImage) (y : ℕ) → has_row tile y ≡ true → y < unsigned_abs tile.area.y + tile.area.h
row_bottom tile y e = grind (arith, nat_tests, e)

row_held : (tile : TileImage) (y : ℕ) → HasRow tile y → has_row tile y ≡ true
row_held tile y r = let t = r.top in let b = r.bottom in grind (arith, nat_tests, t, b)

row_not : (tile : TileImage) (y : ℕ) → has_row tile y ≡ false → HasRow tile y → ⊥
row_not tile y e r = let bad : true ≡ false = sym (row_held tile y r) ∙ e in cc

pub record Looked (tiles : List TileImage) (y i : ℕ) (start : Scan) (before : List (ℕ × Shape)) (now : Scan) (after : List (ℕ × Shape)) : Type 0 where
  pub scan : IsScan now
  pub row : now.y ≡ y
  pub within : now.next ≤ right_end (tile_areas tiles)
  pub ends : EndBefore tiles y i now.next
  pub passed : (mode : Mode) (shapes : List Drawing) → All (Shows mode shapes) tiles → Passes start before now after (map (shown mode (tile_areas tiles) shapes y) (range_with_len 0 now.next))

pub looked_none : (tiles : List TileImage) (y : ℕ) (start : Scan) (before : List (ℕ × Shape)) → IsScan start → start.y ≡ y → start.next ≡ 0 → Looked tiles y 0 start before start before
looked_none tiles y start before h r n = record {
  scan = h;
  row = r;
  within = omega (arith, n);
  ends = λ k d l. absurd (omega (arith, l));
  passed = λ mode shapes images. subst (Passes start before start before) (sym (ap (λ m. map (shown mode (tile_areas tiles) shapes y) (range_with_len 0 m)) n)) (passes_none start before h);
}

module _ (tiles : List TileImage) (y i : ℕ) (start : Scan) (before : List (ℕ × Shape)) (now : Scan) (after : List (ℕ × Shape)) (tile : TileImage) (in_list : i < length tiles) (at : tile ≡ get_or tiles i tile) (h : Looked tiles y i start before now after) where
  module _ (next : Scan) (later : List (ℕ × Shape)) (order : AreInOrder tiles) where
    -- a tile that doesn't have the row
    past : (HasRow tile y → ⊥) → Passes now after next later [] → Looked tiles y (i + 1) start before next later
    past n p = record {
      scan = p.scan;
      row = p.row ∙ h.row;
      within = omega (arith, h.within, p.next);
      ends = λ k e l r. by_place k e l r (nat_lt k i) refl;
      passed = λ mode shapes images.
          let f : ℕ → Pixel = shown mode (tile_areas tiles) shapes y in
          let place : now.next ≡ next.next = omega (arith, p.next) in
          let all : map f (range_with_len 0 now.next) ++ [] ≡ map f (range_with_len 0 next.next) = append-nil (map f (range_with_len 0 now.next)) ∙ ap (λ m. map f (range_with_len 0 m)) place in
          subst (Passes start before next later) all (passes_then start now next before after later (map f (range_with_len 0 now.next)) [] (h.passed mode shapes images) p);
    }
      where
        by_place : (k : ℕ) (e : TileImage) → k < i + 1 → HasRow (slice_index_or tiles k e) y → (b : Bool) → nat_lt k i ≡ b → left_of (slice_index_or tiles k e) + (slice_index_or tiles k e).area.w ≤ next.next
        by_place k e l r true t =
            let before : k < i = grind (arith, nat_tests, t) in
            let end = h.ends k e before r in
            omega (arith, end, p.next)
        by_place k e l r false t =
            let same : i ≡ k = grind (arith, nat_tests, t, l) in
            let is : tile ≡ slice_index_or tiles k e = at ∙ ap (λ m. slice_index_or tiles m tile) same ∙ get_or_default tiles k tile e (omega (arith, same, in_list)) in
            absurd (n (subst (λ u. HasRow u y) (sym is) r))

    -- a tile that has it
    more : HasRow tile y → Passes now after next later (pixels_from now.next y tile) → Looked tiles y (i + 1) start before next later
    more has p =
        let place : now.next + length (pixels_from now.next y tile) ≡ next.next = sym p.next in
        record {
          scan = p.scan;
          row = p.row ∙ h.row;
          within = subst (λ n. n ≤ right_end (tile_areas tiles)) place (still_within tiles y i now.next tile in_list at order h.ends has h.within);
          ends = subst (EndBefore tiles y (i + 1)) place (ends_more tiles y i now.next tile in_list at order h.ends has);
          passed = λ mode shapes images.
              let f : ℕ → Pixel = shown mode (tile_areas tiles) shapes y in
              let n = length (pixels_from now.next y tile) in
              let all : map f (range_with_len 0 now.next) ++ pixels_from now.next y tile ≡ map f (range_with_len 0 next.next) =
              ap (λ ps. map f (range_with_len 0 now.next) ++ ps) (pixels_shown mode tiles shapes y i now.next tile in_list at order h.ends images has)
              ∙ sym (made_append f now.next n)
              ∙ ap (λ m. map f (range_with_len 0 m)) place in
              subst (Passes start before next later) all (passes_then start now next before after later (map f (range_with_len 0 now.next)) (pixels_from now.next y tile) (h.passed mode shapes images) p);
        }

    by_row : (b : Bool) → has_row tile y ≡ b → Passes now after next later (cond b (pixels_from now.next y tile) []) → Looked tiles y (i + 1) start before next later
    by_row true e p = more (record { top = row_top tile y e; bottom = row_bottom tile y e }) p
    by_row false e p = past (λ r. row_not tile y e r) p

    pub looked_more : Passes now after next later (tile_pixels now.next now.y tile) → Looked tiles y (i + 1) start before next later
    looked_more p = by_row (has_row tile y) refl (subst (λ r. Passes now after next later (tile_pixels now.next r tile)) h.row p)

-- the row is done with
pub looked_all : (tiles : List TileImage) (y rank : ℕ) (start now new : Scan) (before after all : List (ℕ × Shape)) (mode : Mode) (shapes : List Drawing)
    → start.rank ≡ rank → start.y ≡ y → start.next ≡ 0 → start.run.items ≡ [] → Looked tiles y (length tiles) start before now after → EndsRun now after new all → All (Shows mode shapes) tiles
    → Adds before all (row_spans mode (tile_areas tiles) shapes rank y)
looked_all tiles y rank start now new before after all mode shapes r l n u h e images =
    let p = h.passed mode shapes images in
    let f : ℕ → Pixel = shown mode (tile_areas tiles) shapes y in
    let ps = map f (range_with_len 0 now.next) in
    let ended : map placed_of all ≡ in_the_end now after [] =
    e.spans.grown ∙ ap (λ qs. map placed_of after ++ map (stretch_span now.rank now.y) (stretches (now.next - length now.run.items) qs)) (sym (append-nil (map Some now.run.items))) in
    let begun : in_the_end start before (ps ++ []) ≡ map placed_of before ++ map (stretch_span rank y) (stretches 0 (ps ++ [])) =
    (λ i. map placed_of before ++ map (stretch_span (r i) (l i)) (stretches ((let z : start.next - length start.run.items ≡ 0 = omega (arith, n) in z) i) (map Some (u i) ++ (ps ++ [])))) in
    record {
      grown = ended ∙ p.spans [] ∙ begun
          ∙ ap (λ qs. map placed_of before ++ map (stretch_span rank y) (stretches 0 qs)) (append-nil ps)
          ∙ ap (λ ss. map placed_of before ++ map (stretch_span rank y) ss) (row_ends mode tiles shapes y now.next h.ends h.within);
      in_range = λ a. e.spans.in_range (p.in_range a);
    }
