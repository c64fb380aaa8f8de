-- The line that says a shape says it again, behind lines where it may stand; and the lines before and behind them.
use Rattle.std.proofs.Common.{◌≡◌, ℕ, ℤ, suc, ◌+◌, ◌-◌, ◌*◌, ◌%◌, ◌<◌, ◌≤◌, ◌^◌, Bool, true, false, cond, List, [], ◌∷◌, ◌++◌, map, length, codes, Option, Some, None, refl, sym, ap, ◌∙◌, arith, eq-eqb}
use Rattle.std.specs.Prelude.{pos, negsuc, unsigned_abs, ◌&&◌, ◌==◌, nat_le, All, option_map}
use Rattle.std.specs.Option.{option_and_then}
use Rattle.std.specs.List.{list_all, flat_map}
use Rattle.std.proofs.lemmas.Bool.Decides.{nat_tests}
use Rattle.std.proofs.lemmas.List.Elements.{All-nil, All-cons, All-head, All-tail}
use Rattle.icet_model.specs.declared.limits.TheConstants.{MAX_SIDE, MAX_PLACE, MAX_DEPTH, MAX_RANKS}
use Rattle.icet_model.specs.Pixel.{FragmentView}
use Rattle.icet_text.specs.declared.field.Field.{Field}
use Rattle.icet_text.specs.declared.field.Number.{Number}
use Rattle.icet_text.specs.Numbers.{numbers_in, size_at, signed, with_number}
use Rattle.icet_scene_model.specs.Fields.{from_to, rank_field, stand_fields, point_fields, paint_fields, tri_fields, corner_fields, coordinate_field}
use Rattle.icet_scene_model.specs.Lawful.{IsPaint, IsPaintedCorner, IsPaintedPoint, IsPaintedTriangle, IsPaintedRow, IsPainted}
use Rattle.icet_scene_model.specs.Printed.{natural, integer, numeral, numbers_line, line_of, shape_line, paint_numbers, corner_numbers, triangle_numbers, is_span}
use Rattle.icet_scene_model.specs.Raster.{Drawing, Point, Tri, Span}
use Rattle.icet_scene_model.specs.Triangles.{Corner, Triangle}
use Rattle.icet_scene_model.specs.declared.limits.TheConstants.{NARROW_CHANNEL, WIDE_CHANNEL}
use Rattle.icet_scene_model.specs.Scene.{Said, HeadIs, ModeIs, RanksAre, MaxvalIs, Draws, EndIs, Placed, version_in, ranks_in, maxval_in}
use Rattle.icet_scene_model.specs.SceneLines.{Says, Faulty, line_behind, keyword_of, ranged, said_in, stands, counts, fits, is_of_body, is_premultiplied, maxval_of, point_of, tri_of, span_of, span_said, paints_in, paint_at}
use Rattle.icet_scene_model.specs.declared.keyword.Keyword.{Keyword}
use Rattle.icet_scene_model.specs.declared.keyword.Keyword.TheVariants.{Maxval, Point as PointWord, Tri as TriWord, Span as SpanWord, End}
use Rattle.icet_scene_model.specs.declared.fault.LineFault.TheVariants.{OutOfPlace, NotPremultiplied}
use Rattle.icet_scene_text.proofs.NumeralWords.{IsWritable, AllFit, IsFit, fit_natural, fit_append, fit_writable, numbers_read, numerals_counted}
use Rattle.icet_scene_text.proofs.SingleLines.{line_read, together, test_le, premultiplied, paint_fit, rank_fit, place_fit}

pub maxval_read : (v n : ℕ) (b : Bool) → v ≡ 2 → line_behind (RanksAre n ∷ ModeIs b ∷ HeadIs v ∷ []) (line_of (MaxvalIs WIDE_CHANNEL)) ≡ Says (MaxvalIs WIDE_CHANNEL)
maxval_read v n b e =
    let fit : AllFit (from_to NARROW_CHANNEL WIDE_CHANNEL ∷ []) (natural WIDE_CHANNEL ∷ []) = record { first = fit_natural NARROW_CHANNEL WIDE_CHANNEL WIDE_CHANNEL (omega arith) (omega arith) (omega arith); rest = tt } in
    let w = fit_writable (from_to NARROW_CHANNEL WIDE_CHANNEL ∷ []) (natural WIDE_CHANNEL ∷ []) fit in
    line_read (RanksAre n ∷ ModeIs b ∷ HeadIs v ∷ []) (codes "maxval") (natural WIDE_CHANNEL ∷ []) Maxval (MaxvalIs WIDE_CHANNEL) refl w refl (ap (λ k. keyword_of k (codes "maxval")) e)
    (ap (counts Maxval) (numerals_counted (natural WIDE_CHANNEL ∷ []) w)) refl
    (ap (option_and_then maxval_of) (numbers_read (from_to NARROW_CHANNEL WIDE_CHANNEL ∷ []) (natural WIDE_CHANNEL ∷ []) fit)) refl

pub end_read : (before : List Said) → stands before End ≡ true → line_behind before (line_of EndIs) ≡ Says EndIs
end_read before p = ap (λ b. cond b (ranged before (Some EndIs)) (Faulty OutOfPlace)) p

stand_fit : (ranks rank x y : ℕ) → ranks ≤ MAX_RANKS → rank < ranks → x ≤ MAX_PLACE → y ≤ MAX_PLACE → AllFit (stand_fields ranks) (natural rank ∷ natural x ∷ natural y ∷ [])
stand_fit ranks rank x y few d l m = record { first = rank_fit ranks rank few d; rest = record { first = place_fit x l; rest = record { first = place_fit y m; rest = tt } } }

-- what is known of the lines before a shape
pub record IsBody (before : List Said) (ranks most : ℕ) : Type 0 where
  pub ranks_is : ranks_in before ≡ ranks
  pub most_is : maxval_in before ≡ most
  pub few : ranks ≤ MAX_RANKS
  pub small : most < 2 ^ 64
  pub body : (k : Keyword) → is_of_body k ≡ true → stands before k ≡ true

point_read : (before : List Said) (ranks most rank x y : ℕ) (paint : FragmentView) → IsBody before ranks most → rank < ranks → IsPaintedPoint most x y paint → line_behind before (shape_line rank (Point x y paint)) ≡ Says (Draws (record { rank = rank; shape = Point x y paint }))
point_read before ranks most rank x y paint k d h =
    let ns = natural rank ∷ natural x ∷ natural y ∷ paint_numbers paint in
    let fit : AllFit (point_fields ranks most) ns = fit_append (stand_fields ranks) (paint_fields most) (natural rank ∷ natural x ∷ natural y ∷ []) (paint_numbers paint) (stand_fit ranks rank x y k.few d h.column h.row) (paint_fit most paint k.small h.painted) in
    let w = fit_writable (point_fields ranks most) ns fit in
    line_read before (codes "point") ns PointWord (Draws (record { rank = rank; shape = Point x y paint })) refl w refl refl
    (ap (counts PointWord) (numerals_counted ns w)) (k.body PointWord refl)
    (ap (λ q. option_map point_of (numbers_in (point_fields q (maxval_in before)) (map numeral ns))) k.ranks_is
    ∙ ap (λ q. option_map point_of (numbers_in (point_fields ranks q) (map numeral ns))) k.most_is
    ∙ ap (option_map point_of) (numbers_read (point_fields ranks most) ns fit))
    (ap (λ b. cond b None (Some NotPremultiplied)) (together (is_premultiplied paint) true (premultiplied most paint h.painted) refl))

integer_fit : (z : ℤ) → unsigned_abs z ≤ coordinate_field.greatest → IsFit coordinate_field (integer z)
integer_fit (pos n) l = record { writable = record { small = omega (arith, l); some = λ e. absurd cc }; taken = grind (arith, nat_tests, l) }
integer_fit (negsuc n) l = record { writable = record { small = omega (arith, l); some = λ e. omega arith }; taken = together (nat_le 0 (suc n)) (nat_le (suc n) coordinate_field.greatest) (test_le 0 (suc n) (omega arith)) (test_le (suc n) coordinate_field.greatest l) }

signed_again : (z : ℤ) → signed (integer z) ≡ z
signed_again (pos n) = refl
signed_again (negsuc n) = refl

corner_fit : (most : ℕ) (corner : Corner) → most < 2 ^ 64 → IsPaintedCorner most corner → AllFit (corner_fields most) (corner_numbers corner)
corner_fit most corner s h = record { first = integer_fit corner.spot.x h.x; rest = record { first = integer_fit corner.spot.y h.y; rest = paint_fit most corner.paint s h.paint } }

corner_with : FragmentView → ℤ → ℤ → Corner
corner_with paint x y = record { spot = record { x = x; y = y }; paint = paint }

corner_again : (c : Corner) → corner_with c.paint (signed (integer c.spot.x)) (signed (integer c.spot.y)) ≡ c
unfolding corner_with
corner_again c = ap (λ x. corner_with c.paint x (signed (integer c.spot.y))) (signed_again c.spot.x) ∙ ap (corner_with c.paint c.spot.x) (signed_again c.spot.y)

draws_corners : ℕ → Corner → Corner → Corner → Said
draws_corners rank a b c = Draws (record { rank = rank; shape = Tri (record { a = a; b = b; c = c }) })

again : Corner → Corner
again c = corner_with c.paint (signed (integer c.spot.x)) (signed (integer c.spot.y))

tri_read : (before : List Said) (ranks most rank : ℕ) (t : Triangle) → IsBody before ranks most → rank < ranks → IsPaintedTriangle most t → line_behind before (shape_line rank (Tri t)) ≡ Says (Draws (record { rank = rank; shape = Tri t }))
unfolding corner_with draws_corners again
tri_read before ranks most rank t k d h =
    let ns = natural rank ∷ triangle_numbers t in
    let corners = fit_append (corner_fields most) (corner_fields most ++ corner_fields most) (corner_numbers t.a) (corner_numbers t.b ++ corner_numbers t.c) (corner_fit most t.a k.small h.a) (fit_append (corner_fields most) (corner_fields most) (corner_numbers t.b) (corner_numbers t.c) (corner_fit most t.b k.small h.b) (corner_fit most t.c k.small h.c)) in
    let fit : AllFit (tri_fields ranks most) ns = record { first = rank_fit ranks rank k.few d; rest = corners } in
    let w = fit_writable (tri_fields ranks most) ns fit in
    line_read before (codes "tri") ns TriWord (Draws (record { rank = rank; shape = Tri t })) refl w refl refl
    (ap (counts TriWord) (numerals_counted ns w)) (k.body TriWord refl)
    (ap (λ q. option_map tri_of (numbers_in (tri_fields q (maxval_in before)) (map numeral ns))) k.ranks_is
    ∙ ap (λ q. option_map tri_of (numbers_in (tri_fields ranks q) (map numeral ns))) k.most_is
    ∙ ap (option_map tri_of) (numbers_read (tri_fields ranks most) ns fit)
    ∙ ap (λ c. Some (draws_corners rank c (again t.b) (again t.c))) (corner_again t.a)
    ∙ ap (λ c. Some (draws_corners rank t.a c (again t.c))) (corner_again t.b)
    ∙ ap (λ c. Some (draws_corners rank t.a t.b c)) (corner_again t.c))
    (ap (λ b. cond b None (Some NotPremultiplied))
    (together (is_premultiplied t.a.paint) (is_premultiplied t.b.paint && (is_premultiplied t.c.paint && true)) (premultiplied most t.a.paint h.a.paint)
    (together (is_premultiplied t.b.paint) (is_premultiplied t.c.paint && true) (premultiplied most t.b.paint h.b.paint)
    (together (is_premultiplied t.c.paint) true (premultiplied most t.c.paint h.c.paint) refl))))

fields_of : ℕ → List FragmentView → List Field
fields_of most paints = flat_map (λ paint. paint_fields most) paints

paints_fit : (most : ℕ) (paints : List FragmentView) → most < 2 ^ 64 → All (IsPaint most) paints → AllFit (fields_of most paints) (flat_map paint_numbers paints)
unfolding fields_of
paints_fit most [] s h = tt
paints_fit most (p ∷ ps) s h = fit_append (paint_fields most) (fields_of most ps) (paint_numbers p) (flat_map paint_numbers ps) (paint_fit most p s (All-head (IsPaint most) p ps h)) (paints_fit most ps s (All-tail (IsPaint most) p ps h))

paints_read : (most : ℕ) (paints : List FragmentView) → most < 2 ^ 64 → All (IsPaint most) paints → paints_in most (map numeral (flat_map paint_numbers paints)) ≡ Some paints
paints_read most [] s h = refl
paints_read most (p ∷ ps) s h =
    ap (λ o. with_number (option_map (λ ns. paint_at ns 0) o) (paints_in most (map numeral (flat_map paint_numbers ps)))) (numbers_read (paint_fields most) (paint_numbers p) (paint_fit most p s (All-head (IsPaint most) p ps h)))
    ∙ ap (with_number (Some p)) (paints_read most ps s (All-tail (IsPaint most) p ps h))

five_each : (paints : List FragmentView) → length (flat_map paint_numbers paints) ≡ 5 * length paints
five_each [] = refl
five_each (p ∷ ps) = omega (arith, five_each ps)

all_premultiplied : (most : ℕ) (paints : List FragmentView) → All (IsPaint most) paints → list_all is_premultiplied paints ≡ true
all_premultiplied most [] h = refl
all_premultiplied most (p ∷ ps) h = together (is_premultiplied p) (list_all is_premultiplied ps) (premultiplied most p (All-head (IsPaint most) p ps h)) (all_premultiplied most ps (All-tail (IsPaint most) p ps h))

span_fits : (count k : ℕ) → count ≡ 3 + 5 * k → 1 ≤ k → fits SpanWord count ≡ true
span_fits count k e some = together (nat_le 8 count) ((count - 3) % 5 == 0) (test_le 8 count (omega (arith, e, some))) (eq-eqb ((count - 3) % 5) 0 (omega (arith, e)))

span_read : (before : List Said) (ranks most rank x y : ℕ) (paints : List FragmentView) → IsBody before ranks most → version_in before ≡ 2 → rank < ranks → IsPaintedRow most x y paints → line_behind before (shape_line rank (Span x y paints)) ≡ Says (Draws (record { rank = rank; shape = Span x y paints }))
span_read before ranks most rank x y paints k v d h =
    let three = natural rank ∷ natural x ∷ natural y ∷ [] in
    let ns = natural rank ∷ natural x ∷ natural y ∷ flat_map paint_numbers paints in
    let first : AllFit (stand_fields ranks) three = stand_fit ranks rank x y k.few d (omega (arith, h.some, h.within)) h.row in
    let fit = fit_append (stand_fields ranks) (fields_of most paints) three (flat_map paint_numbers paints) first (paints_fit most paints k.small h.painted) in
    let w : All IsWritable ns = fit_writable (stand_fields ranks ++ fields_of most paints) ns fit in
    line_read before (codes "span") ns SpanWord (Draws (record { rank = rank; shape = Span x y paints })) refl w refl (ap (λ q. keyword_of q (codes "span")) v)
    (ap (counts SpanWord) (numerals_counted ns w) ∙ span_fits (length ns) (length paints) (omega (arith, five_each paints)) h.some) (k.body SpanWord refl)
    (ap (λ q. span_said q (maxval_in before) (map numeral ns)) k.ranks_is
    ∙ ap (λ q. span_said ranks q (map numeral ns)) k.most_is
    ∙ ap (λ o. option_and_then (λ xs. option_and_then (span_of xs) (paints_in most (map numeral (flat_map paint_numbers paints)))) o) (numbers_read (stand_fields ranks) three first)
    ∙ ap (option_and_then (span_of three)) (paints_read most paints k.small h.painted)
    ∙ ap (λ b. cond b (Some (Draws (record { rank = rank; shape = Span x y paints }))) None) (test_le (x + length paints) MAX_SIDE h.within))
    (ap (λ b. cond b None (Some NotPremultiplied)) (all_premultiplied most paints h.painted))

pub shape_read : (before : List Said) (ranks most rank : ℕ) (shape : Drawing) → IsBody before ranks most → (is_span shape ≡ true → version_in before ≡ 2) → rank < ranks → IsPainted most shape → line_behind before (shape_line rank shape) ≡ Says (Draws (record { rank = rank; shape = shape }))
shape_read before ranks most rank (Point x y paint) k v d h = point_read before ranks most rank x y paint k d h
shape_read before ranks most rank (Tri t) k v d h = tri_read before ranks most rank t k d h
shape_read before ranks most rank (Span x y paints) k v d h = span_read before ranks most rank x y paints k (v refl) d h
