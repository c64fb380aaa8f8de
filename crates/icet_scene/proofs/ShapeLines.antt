-- Lines of tiles and shapes, by their numbers.
use Rattle.std.proofs.Common.{◌≡◌, ◌≢◌, ℕ, ◌+◌, ◌-◌, ◌<◌, ◌≤◌, take, drop, Bool, true, false, cond, List, [], ◌∷◌, map, length, refl, sym, ap, ◌∙◌, Option, Some, None, arith, eq-eqb}
use Rattle.std.specs.Prelude.{option_map, ◌&&◌, ◌||◌, ◌==◌, All, nat_le}
use Rattle.std.specs.Option.{option_and_then}
use Rattle.std.specs.List.{list_any, list_all}
use Rattle.std.proofs.lemmas.List.Elements.{All-nil, All-cons}
use Rattle.icet_text.specs.declared.field.Number.{Number}
use Rattle.icet_text.specs.Numbers.{numbers_in, size_at, with_number}
use Rattle.std.proofs.lemmas.Bool.Decides.{nat_tests}
use Rattle.icet_model.specs.declared.limits.TheConstants.{MAX_SIDE}
use Rattle.icet_scene_model.specs.declared.fault.LineFault.{LineFault}
use Rattle.icet_model.specs.Pixel.{FragmentView}
use Rattle.icet_tiles.specs.declared.layout.Tile.{Tile}
use Rattle.icet_tiles.specs.Layouts.{tile_view}
use Rattle.icet_scene_model.specs.Raster.{Drawing, Point, Tri, Span}
use Rattle.icet_scene_model.specs.Triangles.{Triangle}
use Rattle.icet_scene_model.specs.Scene.{Said, TileIs, Draws, ranks_in, maxval_in, tiles_in}
use Rattle.icet_scene_model.specs.Fields.{tile_fields, point_fields, tri_fields, stand_fields, paint_fields}
use Rattle.icet_scene_model.specs.SceneLines.{LineReading, Faulty, Says, ranged, said_in, tile_of, is_taken, is_premultiplied, paint_at, point_of, tri_of, span_of, span_said, paints_in, unless_broken}
use Rattle.icet_scene_model.specs.declared.keyword.Keyword.TheVariants.{Tile as TileWord, Point as PointWord, Tri as TriWord, Span as SpanWord}
use Rattle.icet_scene_model.specs.declared.fault.LineFault.TheVariants.{BadByte, BadLine, OutOfPlace, OutOfRange, NotPremultiplied, RankTaken, BadOrder, NoMemory}
use Rattle.icet_scene.specs.Lines.{IsFaultOf, IsRowFault, row_fault, triangle_at, tri_paints}
use Rattle.icet_scene.proofs.Paints.{not_true}

any_view : (tiles : List Tile) (rank : ℕ) → is_taken (map tile_view tiles) rank ≡ list_any (λ tile. tile.display == rank) tiles
any_view [] rank = refl
any_view (tile ∷ tiles) rank = ap (λ b. (tile.display == rank) || b) (any_view tiles rank)

tile_spelled : (before : List Said) (ranks : ℕ) (tiles : List Tile) (words : List (List ℕ)) (ns : List Number) (tile : Tile) → Some ns ≡ numbers_in (tile_fields ranks) words → Some (TileIs (tile_view tile)) ≡ tile_of ns → ranks_in before ≡ ranks → tiles_in before ≡ map tile_view tiles
    → ranged before (said_in before TileWord words) ≡ unless_broken (TileIs (tile_view tile)) (cond (list_any (λ t. t.display == tile.display) tiles) (Some RankTaken) None)
tile_spelled before ranks tiles words ns tile e t r h =
    ap (λ k. ranged before (option_and_then tile_of (numbers_in (tile_fields k) words))) r
    ∙ ap (λ o. ranged before (option_and_then tile_of o)) (sym e)
    ∙ ap (λ o. ranged before o) (sym t)
    ∙ ap (λ ts. unless_broken (TileIs (tile_view tile)) (cond (is_taken ts tile.display) (Some RankTaken) None)) h
    ∙ ap (λ b. unless_broken (TileIs (tile_view tile)) (cond b (Some RankTaken) None)) (any_view tiles tile.display)

pub tile_taken : (before : List Said) (ranks : ℕ) (tiles : List Tile) (words : List (List ℕ)) (ns : List Number) (tile : Tile) → Some ns ≡ numbers_in (tile_fields ranks) words → Some (TileIs (tile_view tile)) ≡ tile_of ns → list_any (λ t. t.display == tile.display) tiles ≡ true → ranks_in before ≡ ranks → tiles_in before ≡ map tile_view tiles
    → ranged before (said_in before TileWord words) ≡ Faulty RankTaken
tile_taken before ranks tiles words ns tile e t b r h = tile_spelled before ranks tiles words ns tile e t r h ∙ ap (λ b. unless_broken (TileIs (tile_view tile)) (cond b (Some RankTaken) None)) b

pub tile_says : (before : List Said) (ranks : ℕ) (tiles : List Tile) (words : List (List ℕ)) (ns : List Number) (tile : Tile) → Some ns ≡ numbers_in (tile_fields ranks) words → Some (TileIs (tile_view tile)) ≡ tile_of ns → list_any (λ t. t.display == tile.display) tiles ≡ false → ranks_in before ≡ ranks → tiles_in before ≡ map tile_view tiles
    → ranged before (said_in before TileWord words) ≡ Says (TileIs (tile_view tile))
tile_says before ranks tiles words ns tile e t b r h = tile_spelled before ranks tiles words ns tile e t r h ∙ ap (λ b. unless_broken (TileIs (tile_view tile)) (cond b (Some RankTaken) None)) b

pub tile_fresh : (rank : ℕ) (tiles : List Tile) → list_any (λ t. t.display == rank) tiles ≡ false → All (λ other. other.display ≢ rank) tiles
tile_fresh rank [] e = All-nil (λ other. other.display ≢ rank)
tile_fresh rank (tile ∷ tiles) e = go (tile.display == rank) refl (tile_fresh rank tiles) e
  where
    go : (b : Bool) → (tile.display == rank) ≡ b → (list_any (λ t. t.display == rank) tiles ≡ false → All (λ other. other.display ≢ rank) tiles) → list_any (λ t. t.display == rank) (tile ∷ tiles) ≡ false → All (λ other. other.display ≢ rank) (tile ∷ tiles)
    go true is rest e = absurd (let f : true ≡ false = ap (λ b. b || list_any (λ t. t.display == rank) tiles) (sym is) ∙ e in cc)
    go false is rest e =
        let later : list_any (λ t. t.display == rank) tiles ≡ false = ap (λ b. b || list_any (λ t. t.display == rank) tiles) (sym is) ∙ e in
        let apart : tile.display ≢ rank = λ same. absurd (let f : true ≡ false = sym (eq-eqb tile.display rank same) ∙ is in cc) in
        All-cons (λ other. other.display ≢ rank) tile tiles apart (rest later)

one : (b c : Bool) → b ≡ c → (b && true) ≡ c
one true c e = e
one false c e = e

point_spelled : (before : List Said) (ranks most : ℕ) (words : List (List ℕ)) (ns : List Number) → Some ns ≡ numbers_in (point_fields ranks most) words → ranks_in before ≡ ranks → maxval_in before ≡ most
    → ranged before (said_in before PointWord words) ≡ unless_broken (point_of ns) (cond (list_all is_premultiplied (paint_at ns 3 ∷ [])) None (Some NotPremultiplied))
point_spelled before ranks most words ns e r m =
    ap (λ k. ranged before (option_map point_of (numbers_in (point_fields k (maxval_in before)) words))) r
    ∙ ap (λ k. ranged before (option_map point_of (numbers_in (point_fields ranks k) words))) m
    ∙ ap (λ o. ranged before (option_map point_of o)) (sym e)

pub point_refused : (before : List Said) (ranks most : ℕ) (words : List (List ℕ)) (ns : List Number) → Some ns ≡ numbers_in (point_fields ranks most) words → (is_premultiplied (paint_at ns 3) ≡ true → ⊥) → ranks_in before ≡ ranks → maxval_in before ≡ most
    → ranged before (said_in before PointWord words) ≡ Faulty NotPremultiplied
point_refused before ranks most words ns e not_so r m =
    point_spelled before ranks most words ns e r m
    ∙ ap (λ b. unless_broken (point_of ns) (cond b None (Some NotPremultiplied))) (one (is_premultiplied (paint_at ns 3)) false (not_true (is_premultiplied (paint_at ns 3)) not_so))

pub point_says : (before : List Said) (ranks most : ℕ) (words : List (List ℕ)) (ns : List Number) (paint : FragmentView) (drawing : Drawing) → Some ns ≡ numbers_in (point_fields ranks most) words → is_premultiplied (paint_at ns 3) ≡ true → paint ≡ paint_at ns 3 → drawing ≡ Point (size_at ns 1) (size_at ns 2) paint → ranks_in before ≡ ranks → maxval_in before ≡ most
    → ranged before (said_in before PointWord words) ≡ Says (Draws (record { rank = size_at ns 0; shape = drawing }))
point_says before ranks most words ns paint drawing e so p d r m =
    point_spelled before ranks most words ns e r m
    ∙ ap (λ b. unless_broken (point_of ns) (cond b None (Some NotPremultiplied))) (one (is_premultiplied (paint_at ns 3)) true so)
    ∙ ap (λ q. Says (Draws (record { rank = size_at ns 0; shape = Point (size_at ns 1) (size_at ns 2) q }))) (sym p)
    ∙ ap (λ s. Says (Draws (record { rank = size_at ns 0; shape = s }))) (sym d)

tri_spelled : (before : List Said) (ranks most : ℕ) (words : List (List ℕ)) (ns : List Number) → Some ns ≡ numbers_in (tri_fields ranks most) words → ranks_in before ≡ ranks → maxval_in before ≡ most
    → ranged before (said_in before TriWord words) ≡ unless_broken (tri_of ns) (cond (list_all is_premultiplied (tri_paints ns)) None (Some NotPremultiplied))
tri_spelled before ranks most words ns e r m =
    ap (λ k. ranged before (option_map tri_of (numbers_in (tri_fields k (maxval_in before)) words))) r
    ∙ ap (λ k. ranged before (option_map tri_of (numbers_in (tri_fields ranks k) words))) m
    ∙ ap (λ o. ranged before (option_map tri_of o)) (sym e)

pub tri_refused : (before : List Said) (ranks most : ℕ) (words : List (List ℕ)) (ns : List Number) → Some ns ≡ numbers_in (tri_fields ranks most) words → (list_all is_premultiplied (tri_paints ns) ≡ true → ⊥) → ranks_in before ≡ ranks → maxval_in before ≡ most
    → ranged before (said_in before TriWord words) ≡ Faulty NotPremultiplied
tri_refused before ranks most words ns e not_so r m =
    tri_spelled before ranks most words ns e r m
    ∙ ap (λ b. unless_broken (tri_of ns) (cond b None (Some NotPremultiplied))) (not_true (list_all is_premultiplied (tri_paints ns)) not_so)

pub tri_says : (before : List Said) (ranks most : ℕ) (words : List (List ℕ)) (ns : List Number) (triangle : Triangle) → Some ns ≡ numbers_in (tri_fields ranks most) words → list_all is_premultiplied (tri_paints ns) ≡ true → triangle ≡ triangle_at ns → ranks_in before ≡ ranks → maxval_in before ≡ most
    → ranged before (said_in before TriWord words) ≡ Says (Draws (record { rank = size_at ns 0; shape = Tri triangle }))
tri_says before ranks most words ns triangle e so t r m =
    tri_spelled before ranks most words ns e r m
    ∙ ap (λ b. unless_broken (tri_of ns) (cond b None (Some NotPremultiplied))) so
    ∙ ap (λ q. Says (Draws (record { rank = size_at ns 0; shape = Tri q }))) (sym t)

pub tri_out : (before : List Said) (ranks most : ℕ) (words : List (List ℕ)) → None ≡ numbers_in (tri_fields ranks most) words → ranks_in before ≡ ranks → maxval_in before ≡ most → ranged before (said_in before TriWord words) ≡ Faulty OutOfRange
tri_out before ranks most words e r m =
    ap (λ k. ranged before (option_map tri_of (numbers_in (tri_fields k (maxval_in before)) words))) r
    ∙ ap (λ k. ranged before (option_map tri_of (numbers_in (tri_fields ranks k) words))) m
    ∙ ap (λ o. ranged before (option_map tri_of o)) (sym e)

-- a span by its first three numbers and the paints behind them
pub span_spelled : (before : List Said) (ranks most : ℕ) (words : List (List ℕ)) (ns : List Number) (o : Option (List FragmentView)) → Some ns ≡ numbers_in (stand_fields ranks) (take 3 words) → paints_in most (drop 3 words) ≡ o → ranks_in before ≡ ranks → maxval_in before ≡ most
    → ranged before (said_in before SpanWord words) ≡ ranged before (option_and_then (span_of ns) o)
span_spelled before ranks most words ns o e p r m =
    ap (λ k. ranged before (span_said k (maxval_in before) words)) r
    ∙ ap (λ k. ranged before (span_said ranks k words)) m
    ∙ ap (λ q. ranged before (option_and_then (λ xs. option_and_then (span_of xs) (paints_in most (drop 3 words))) q)) (sym e)
    ∙ ap (λ q. ranged before (option_and_then (span_of ns) q)) p

pub span_out : (before : List Said) (ranks most : ℕ) (words : List (List ℕ)) → None ≡ numbers_in (stand_fields ranks) (take 3 words) → ranks_in before ≡ ranks → ranged before (said_in before SpanWord words) ≡ Faulty OutOfRange
span_out before ranks most words e r =
    ap (λ k. ranged before (span_said k (maxval_in before) words)) r
    ∙ ap (λ q. ranged before (option_and_then (λ xs. option_and_then (span_of xs) (paints_in (maxval_in before) (drop 3 words))) q)) (sym e)

fits_row : (x n : ℕ) (b : Bool) → x ≤ MAX_SIDE → nat_le n (MAX_SIDE - x) ≡ b → nat_le (x + n) MAX_SIDE ≡ b
fits_row x n true l e = let k : n ≤ MAX_SIDE - x = grind (arith, nat_tests, e) in let m : x + n ≤ MAX_SIDE = omega arith in grind (arith, nat_tests, m)
fits_row x n false l e = let k : MAX_SIDE - x < n = grind (arith, nat_tests, e) in let m : MAX_SIDE < x + n = omega arith in grind (arith, nat_tests, m)

placed : List Number → List FragmentView → Said
placed ns ps = Draws (record { rank = size_at ns 0; shape = Span (size_at ns 1) (size_at ns 2) ps })

pub span_fault : (before : List Said) (ns : List Number) (o : Option (List FragmentView)) (fault : LineFault) → size_at ns 1 ≤ MAX_SIDE → row_fault (MAX_SIDE - size_at ns 1) o ≡ Some fault → ranged before (option_and_then (span_of ns) o) ≡ Faulty fault
unfolding placed
span_fault before ns None fault l e = let f : OutOfRange ≡ fault = cc in ap Faulty f
span_fault before ns (Some ps) fault l e = go (nat_le (length ps) (MAX_SIDE - size_at ns 1)) (list_all is_premultiplied ps) refl refl e
  where
    go : (b c : Bool) → nat_le (length ps) (MAX_SIDE - size_at ns 1) ≡ b → list_all is_premultiplied ps ≡ c → cond b (cond c None (Some NotPremultiplied)) (Some OutOfRange) ≡ Some fault → ranged before (option_and_then (span_of ns) (Some ps)) ≡ Faulty fault
    go false c is pre e = let f : OutOfRange ≡ fault = cc in ap (λ b. ranged before (cond b (Some (placed ns ps)) None)) (fits_row (size_at ns 1) (length ps) false l is) ∙ ap Faulty f
    go true false is pre e = let f : NotPremultiplied ≡ fault = cc in ap (λ b. ranged before (cond b (Some (placed ns ps)) None)) (fits_row (size_at ns 1) (length ps) true l is) ∙ ap (λ b. unless_broken (placed ns ps) (cond b None (Some NotPremultiplied))) pre ∙ ap Faulty f
    go true true is pre e = absurd cc

pub span_says : (before : List Said) (ns : List Number) (ps : List FragmentView) → size_at ns 1 ≤ MAX_SIDE → row_fault (MAX_SIDE - size_at ns 1) (Some ps) ≡ None → ranged before (option_and_then (span_of ns) (Some ps)) ≡ Says (Draws (record { rank = size_at ns 0; shape = Span (size_at ns 1) (size_at ns 2) ps }))
unfolding placed
span_says before ns ps l e = go (nat_le (length ps) (MAX_SIDE - size_at ns 1)) (list_all is_premultiplied ps) refl refl e
  where
    go : (b c : Bool) → nat_le (length ps) (MAX_SIDE - size_at ns 1) ≡ b → list_all is_premultiplied ps ≡ c → cond b (cond c None (Some NotPremultiplied)) (Some OutOfRange) ≡ None → ranged before (option_and_then (span_of ns) (Some ps)) ≡ Says (placed ns ps)
    go false c is pre e = absurd cc
    go true false is pre e = absurd cc
    go true true is pre e = ap (λ b. ranged before (cond b (Some (placed ns ps)) None)) (fits_row (size_at ns 1) (length ps) true l is) ∙ ap (λ b. unless_broken (placed ns ps) (cond b None (Some NotPremultiplied))) pre

-- the fault of a row is that of its line
pub fault_of_row : (fault : LineFault) (room : ℕ) (o : Option (List FragmentView)) (reading : LineReading) → IsRowFault fault room o → ((f : LineFault) → row_fault room o ≡ Some f → reading ≡ Faulty f) → IsFaultOf fault reading
fault_of_row BadByte room o reading h f = f BadByte h
fault_of_row BadLine room o reading h f = f BadLine h
fault_of_row OutOfPlace room o reading h f = f OutOfPlace h
fault_of_row OutOfRange room o reading h f = f OutOfRange h
fault_of_row NotPremultiplied room o reading h f = f NotPremultiplied h
fault_of_row RankTaken room o reading h f = f RankTaken h
fault_of_row BadOrder room o reading h f = f BadOrder h
fault_of_row NoMemory room o reading h f = tt

some_read : (p : FragmentView) (o : Option (List FragmentView)) (ps : List FragmentView) → with_number (Some p) o ≡ Some ps → 1 ≤ length ps
some_read p None ps e = absurd cc
some_read p (Some qs) ps e = let f : p ∷ qs ≡ ps = cc in omega (arith, ap length f)

some_first : (m : Option FragmentView) (o : Option (List FragmentView)) (ps : List FragmentView) → with_number m o ≡ Some ps → 1 ≤ length ps
some_first None o ps e = absurd cc
some_first (Some p) o ps e = some_read p o ps e

-- words behind the stand have a paint
pub some_paints : (most : ℕ) (words : List (List ℕ)) (ps : List FragmentView) → 0 < length words → paints_in most words ≡ Some ps → 1 ≤ length ps
some_paints most [] ps l e = absurd (omega arith)
some_paints most (z ∷ []) ps l e = absurd cc
some_paints most (z ∷ r ∷ []) ps l e = absurd cc
some_paints most (z ∷ r ∷ g ∷ []) ps l e = absurd cc
some_paints most (z ∷ r ∷ g ∷ b ∷ []) ps l e = absurd cc
some_paints most (z ∷ r ∷ g ∷ b ∷ a ∷ words) ps l e = some_first (option_map (λ ns. paint_at ns 0) (numbers_in (paint_fields most) (z ∷ r ∷ g ∷ b ∷ a ∷ []))) (paints_in most words) ps e
