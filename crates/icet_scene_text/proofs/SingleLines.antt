-- The line that says something says it again, behind lines where it may stand.
use Rattle.std.proofs.Common.{◌≡◌, ◌≢◌, ℕ, suc, ◌+◌, ◌-◌, ◌*◌, ◌%◌, ◌<◌, ◌≤◌, ◌^◌, Bool, true, false, cond, List, [], ◌∷◌, ◌++◌, map, length, codes, Option, Some, None, refl, sym, ap, ◌∙◌, subst, arith, eq-eqb, ne_eqb}
use Rattle.std.specs.Prelude.{◌&&◌, ◌||◌, ◌==◌, not, nat_le, All, AllPairs, option_map}
use Rattle.std.specs.Option.{option_and_then}
use Rattle.std.specs.List.{list_all, list_any, flat_map}
use Rattle.std.proofs.lemmas.Bool.Decides.{nat_tests}
use Rattle.std.proofs.lemmas.List.{length-map}
use Rattle.std.proofs.lemmas.List.Elements.{All-nil, All-cons, All-head, All-tail, All-map}
use Rattle.icet_model.specs.declared.limits.TheConstants.{MAX_SIDE, MAX_PLACE, MAX_DEPTH, MAX_RANKS}
use Rattle.icet_model.specs.Pixel.{FragmentView}
use Rattle.icet_model.specs.Tiles.{TileView, IsOnDisplay}
use Rattle.icet_text.specs.declared.field.Field.{Field}
use Rattle.icet_text.specs.declared.field.Number.{Number}
use Rattle.icet_text.specs.Lines.{words_of}
use Rattle.icet_text.specs.Numbers.{numbers_in, sizes_in, size_at}
use Rattle.icet_tiles.specs.Contributors.{HasEachOnce}
use Rattle.icet_scene_model.specs.Fields.{from_to, most_ranks, rank_field, tile_fields, stand_fields, point_fields, colour_fields, paint_fields, tri_fields, corner_fields, coordinate_field}
use Rattle.icet_scene_model.specs.Lawful.{IsPaint, IsPaintedCorner, IsPaintedPoint, IsPaintedTriangle, IsPaintedRow}
use Rattle.icet_scene_model.specs.Printed.{natural, integer, numeral, numbers_line, line_of, shape_line, colour_numbers, paint_numbers, corner_numbers, triangle_numbers, tile_numbers}
use Rattle.icet_scene_model.specs.Raster.{Drawing, Point, Tri, Span}
use Rattle.icet_scene_model.specs.Triangles.{Corner, Triangle}
use Rattle.icet_scene_model.specs.Scene.{Said, HeadIs, ModeIs, RanksAre, MaxvalIs, BackgroundIs, OrderIs, TileIs, Draws, EndIs, place_behind, version_in, blends_in, ranks_in, maxval_in, tiles_in}
use Rattle.icet_scene_model.specs.SceneLines.{Skipped, Says, Faulty, line_behind, words_reading, keyword_reading, keyword_of, ranged, said_in, stands, has_form, counts, is_skipped, is_allowed, rule_broken, unless_broken, is_premultiplied, is_taken, is_each_once, all_differ, background_of, tile_of, point_of, tri_of, span_of, span_said, paints_in, paint_at, paints_of}
use Rattle.icet_scene_model.specs.declared.keyword.Keyword.{Keyword}
use Rattle.icet_scene_model.specs.declared.keyword.Keyword.TheVariants.{Head, Mode, Ranks, Maxval, Background, Order, Tile, Point as PointWord, Tri as TriWord, Span as SpanWord, End}
use Rattle.icet_scene_model.specs.declared.fault.LineFault.TheVariants.{BadByte, BadLine, OutOfPlace, NotPremultiplied, RankTaken, BadOrder}
use Rattle.icet_scene_text.proofs.NumeralWords.{IsWritable, AllFit, IsFit, is_seen, fit_natural, fit_append, fit_writable, numbers_read, sizes_read, numerals_counted, words_read, line_allowed}

-- a line of a keyword and numbers that says this, in the steps of reading it
pub line_read : (before : List Said) (word : List ℕ) (ns : List Number) (keyword : Keyword) (said : Said) → list_all is_seen word ≡ true → All IsWritable ns → is_skipped (numbers_line word ns) ≡ false → keyword_of (version_in before) word ≡ Some keyword → has_form keyword (map numeral ns) ≡ true → stands before keyword ≡ true
    → said_in before keyword (map numeral ns) ≡ Some said → rule_broken before said ≡ None → line_behind before (numbers_line word ns) ≡ Says said
line_read before word ns keyword said w h s k f p i r =
    ap (λ b. cond b (cond (is_skipped (numbers_line word ns)) Skipped (words_reading before (words_of (numbers_line word ns)))) (Faulty BadByte)) (line_allowed word ns w h)
    ∙ ap (λ b. cond b Skipped (words_reading before (words_of (numbers_line word ns)))) s
    ∙ ap (words_reading before) (words_read word ns w h)
    ∙ ap (λ o. keyword_reading before o (map numeral ns)) k
    ∙ ap (λ b. cond b (cond (stands before keyword) (ranged before (said_in before keyword (map numeral ns))) (Faulty OutOfPlace)) (Faulty BadLine)) f
    ∙ ap (λ b. cond b (ranged before (said_in before keyword (map numeral ns))) (Faulty OutOfPlace)) p
    ∙ ap (ranged before) i
    ∙ ap (unless_broken said) r

few_ranks : (v : ℕ) → most_ranks v < 2 ^ 64
few_ranks v = go (v == 2)
  where
    go : (b : Bool) → cond b MAX_RANKS 64 < 2 ^ 64
    go true = omega arith
    go false = omega arith

pub ranks_read : (b : Bool) (v n : ℕ) → 1 ≤ n → n ≤ most_ranks v → line_behind (ModeIs b ∷ HeadIs v ∷ []) (line_of (RanksAre n)) ≡ Says (RanksAre n)
ranks_read b v n l m =
    let fit : AllFit (from_to 1 (most_ranks v) ∷ []) (natural n ∷ []) = record { first = fit_natural 1 (most_ranks v) n l m (few_ranks v); rest = tt } in
    let w = fit_writable (from_to 1 (most_ranks v) ∷ []) (natural n ∷ []) fit in
    line_read (ModeIs b ∷ HeadIs v ∷ []) (codes "ranks") (natural n ∷ []) Ranks (RanksAre n) refl w refl refl
    (ap (counts Ranks) (numerals_counted (natural n ∷ []) w)) refl
    (ap (option_map (λ ns. RanksAre (size_at ns 0))) (numbers_read (from_to 1 (most_ranks v) ∷ []) (natural n ∷ []) fit)) refl

pub together : (a b : Bool) → a ≡ true → b ≡ true → (a && b) ≡ true
together true b e f = f
together false b e f = absurd cc

pub test_le : (m n : ℕ) → m ≤ n → nat_le m n ≡ true
test_le m n l = grind (arith, nat_tests, l)

pub premultiplied : (most : ℕ) (paint : FragmentView) → IsPaint most paint → is_premultiplied paint ≡ true
premultiplied most paint h =
    together (nat_le paint.r paint.a) (nat_le paint.g paint.a && nat_le paint.b paint.a) (test_le paint.r paint.a h.fragment.r_within)
    (together (nat_le paint.g paint.a) (nat_le paint.b paint.a) (test_le paint.g paint.a h.fragment.g_within) (test_le paint.b paint.a h.fragment.b_within))

colour_fit : (most : ℕ) (paint : FragmentView) → most < 2 ^ 64 → IsPaint most paint → AllFit (colour_fields most) (colour_numbers paint)
colour_fit most paint s h = record {
  first = fit_natural 0 most paint.r (omega arith) (omega (arith, h.fragment.r_within, h.within)) s;
  rest = record {
    first = fit_natural 0 most paint.g (omega arith) (omega (arith, h.fragment.g_within, h.within)) s;
    rest = record {
      first = fit_natural 0 most paint.b (omega arith) (omega (arith, h.fragment.b_within, h.within)) s;
      rest = record { first = fit_natural 0 most paint.a (omega arith) h.within s; rest = tt };
    };
  };
}

pub paint_fit : (most : ℕ) (paint : FragmentView) → most < 2 ^ 64 → IsPaint most paint → AllFit (paint_fields most) (paint_numbers paint)
paint_fit most paint s h = record { first = fit_natural 0 MAX_DEPTH paint.z (omega arith) h.fragment.z_within (omega arith); rest = colour_fit most paint s h }

with_depth : FragmentView → ℕ → FragmentView
with_depth p z = record { r = p.r; g = p.g; b = p.b; a = p.a; z = z }

pub background_read : (before : List Said) (most : ℕ) (paint : FragmentView) → maxval_in before ≡ most → most < 2 ^ 64 → IsPaint most paint → paint.z ≡ 0 → stands before Background ≡ true → line_behind before (line_of (BackgroundIs paint)) ≡ Says (BackgroundIs paint)
unfolding with_depth
background_read before most paint m s h z p =
    let fit = colour_fit most paint s h in
    let w = fit_writable (colour_fields most) (colour_numbers paint) fit in
    line_read before (codes "background") (colour_numbers paint) Background (BackgroundIs paint) refl w refl refl
    (ap (counts Background) (numerals_counted (colour_numbers paint) w)) p
    (ap (λ k. option_map background_of (numbers_in (colour_fields k) (map numeral (colour_numbers paint)))) m
    ∙ ap (option_map background_of) (numbers_read (colour_fields most) (colour_numbers paint) fit)
    ∙ ap (λ d. Some (BackgroundIs (with_depth paint d))) (sym z))
    (ap (λ b. cond b None (Some NotPremultiplied)) (premultiplied most paint h))

pub rank_fit : (ranks rank : ℕ) → ranks ≤ MAX_RANKS → rank < ranks → IsFit (rank_field ranks) (natural rank)
rank_fit ranks rank f l = fit_natural 0 (ranks - 1) rank (omega arith) (omega (arith, l)) (omega (arith, f))

none_equal : (n : ℕ) (ns : List ℕ) → All (λ m. n ≢ m) ns → list_any (λ m. m == n) ns ≡ false
none_equal n [] h = refl
none_equal n (m ∷ ns) h =
    let apart : m ≢ n = λ e. absurd (All-head (λ k. n ≢ k) m ns h (sym e)) in
    ap (λ b. b || list_any (λ k. k == n) ns) (ne_eqb m n apart) ∙ none_equal n ns (All-tail (λ k. n ≢ k) m ns h)

differ : (ns : List ℕ) → AllPairs (λ one other. one ≢ other) ns → all_differ ns ≡ true
differ [] h = refl
differ (n ∷ ns) h =
    together (not (list_any (λ m. m == n) ns)) (all_differ ns)
    (ap not (none_equal n ns (λ i d l. h 0 (suc i) d (omega arith) (omega arith))))
    (differ ns (λ i j d l m. h (suc i) (suc j) d (omega arith) (omega arith)))

pub order_read : (before : List Said) (ranks : ℕ) (order : List ℕ) → ranks_in before ≡ ranks → 1 ≤ ranks → ranks ≤ MAX_RANKS → HasEachOnce ranks order → stands before Order ≡ true → line_behind before (line_of (OrderIs order)) ≡ Says (OrderIs order)
order_read before ranks order r some few h p =
    let fit : All (λ n. IsFit (rank_field ranks) (natural n)) order = λ i d l. rank_fit ranks _ few (h.below i d l) in
    let w : All IsWritable (map natural order) = All-map IsWritable natural order (λ i d l. (fit i d l).writable) in
    let long : 1 ≤ length (map natural order) = omega (arith, length-map order natural, h.count, some) in
    line_read before (codes "order") (map natural order) Order (OrderIs order) refl w refl refl
    (ap (counts Order) (numerals_counted (map natural order) w) ∙ test_le 1 (length (map natural order)) long) p
    (ap (λ k. option_map OrderIs (sizes_in (rank_field k) (map numeral (map natural order)))) r
    ∙ ap (option_map OrderIs) (sizes_read (rank_field ranks) order fit))
    (ap (λ k. cond (is_each_once k order) None (Some BadOrder)) r
    ∙ ap (λ b. cond b None (Some BadOrder)) (together (length order == ranks) (all_differ order) (eq-eqb (length order) ranks h.count) (differ order h.distinct)))

pub place_fit : (n : ℕ) → n ≤ MAX_PLACE → IsFit (from_to 0 MAX_PLACE) (natural n)
place_fit n l = fit_natural 0 MAX_PLACE n (omega arith) l (omega arith)

side_fit : (n : ℕ) → 1 ≤ n → n ≤ MAX_SIDE → IsFit (from_to 1 MAX_SIDE) (natural n)
side_fit n some l = fit_natural 1 MAX_SIDE n some l (omega arith)

tile_fit : (ranks : ℕ) (tile : TileView) → ranks ≤ MAX_RANKS → tile.display < ranks → IsOnDisplay tile.area → AllFit (tile_fields ranks) (tile_numbers tile)
tile_fit ranks tile few d h = record {
  first = place_fit tile.area.x h.x;
  rest = record {
    first = place_fit tile.area.y h.y;
    rest = record {
      first = side_fit tile.area.w h.w (omega (arith, h.right));
      rest = record {
        first = side_fit tile.area.h h.h (omega (arith, h.bottom));
        rest = record { first = rank_fit ranks tile.display few d; rest = tt };
      };
    };
  };
}

pub tile_read : (before : List Said) (ranks : ℕ) (tile : TileView) → ranks_in before ≡ ranks → ranks ≤ MAX_RANKS → tile.display < ranks → IsOnDisplay tile.area → is_taken (tiles_in before) tile.display ≡ false → stands before Tile ≡ true → line_behind before (line_of (TileIs tile)) ≡ Says (TileIs tile)
tile_read before ranks tile r few d h fresh p =
    let fit = tile_fit ranks tile few d h in
    let w = fit_writable (tile_fields ranks) (tile_numbers tile) fit in
    line_read before (codes "tile") (tile_numbers tile) Tile (TileIs tile) refl w refl refl
    (ap (counts Tile) (numerals_counted (tile_numbers tile) w)) p
    (ap (λ k. option_and_then tile_of (numbers_in (tile_fields k) (map numeral (tile_numbers tile)))) r
    ∙ ap (option_and_then tile_of) (numbers_read (tile_fields ranks) (tile_numbers tile) fit)
    ∙ ap (λ b. cond b (Some (TileIs tile)) None) (together (nat_le (tile.area.x + tile.area.w) MAX_SIDE) (nat_le (tile.area.y + tile.area.h) MAX_SIDE) (test_le (tile.area.x + tile.area.w) MAX_SIDE h.right) (test_le (tile.area.y + tile.area.h) MAX_SIDE h.bottom)))
    (ap (λ b. cond b (Some RankTaken) None) fresh)
