-- The tiles and the shapes of a scene's text are read as what they say.
use Rattle.std.proofs.Common.{◌≡◌, ◌≢◌, ℕ, suc, ◌+◌, ◌<◌, ◌≤◌, ◌^◌, Bool, true, false, cond, List, [], ◌∷◌, ◌++◌, map, length, refl, sym, ap, ◌∙◌, subst, arith, ne_eqb, append-nil, append_assoc, length-append}
use Rattle.std.specs.Prelude.{◌||◌, ◌==◌, nat_lt, All, AllPairs}
use Rattle.std.specs.List.{list_any}
use Rattle.std.proofs.lemmas.Bool.Decides.{nat_tests}
use Rattle.std.proofs.lemmas.List.Elements.{All-nil, All-cons, All-head, All-tail}
use Rattle.icet_model.specs.declared.limits.TheConstants.{MAX_RANKS}
use Rattle.icet_model.specs.Tiles.{TileView, IsOnDisplay}
use Rattle.icet_scene_model.specs.Fields.{most_tiles}
use Rattle.icet_scene_model.specs.Lawful.{greatest_channel, IsPainted}
use Rattle.icet_scene_model.specs.Printed.{is_span}
use Rattle.icet_scene_model.specs.Scene.{SceneView, Placed, Said, TileIs, Draws, version_in, blends_in, tiles_in, shapes_in}
use Rattle.icet_scene_model.specs.SceneLines.{stands, may_stand, has_room, is_of_body, is_taken}
use Rattle.icet_scene_model.specs.declared.keyword.Keyword.{Keyword}
use Rattle.icet_scene_model.specs.declared.keyword.Keyword.TheVariants.{Head, Mode, Ranks, Maxval, Background, Order, Tile, Point, Tri, Span, End}
use Rattle.icet_scene_model.specs.declared.keyword.Place.TheVariants.{BehindTile, BehindShape}
use Rattle.icet_scene_text.proofs.NumeralWords.{Both}
use Rattle.icet_scene_text.proofs.SingleLines.{tile_read}
use Rattle.icet_scene_text.proofs.ShapeLines.{IsBody, shape_read}
use Rattle.icet_scene_text.proofs.OpeningLines.{Kept, or_false, or_true}
use Rattle.icet_scene_text.proofs.TextLines.{AllSaid, behind}

behind_tile : (k : Keyword) (b r : Bool) → is_of_body k ≡ true → may_stand BehindTile b r k ≡ true
behind_tile Head b r e = absurd cc
behind_tile Mode b r e = absurd cc
behind_tile Ranks b r e = absurd cc
behind_tile Maxval b r e = absurd cc
behind_tile Background b r e = absurd cc
behind_tile Order b r e = absurd cc
behind_tile Tile b r e = absurd cc
behind_tile Point b r e = refl
behind_tile Tri b r e = refl
behind_tile Span b r e = refl
behind_tile End b r e = refl

behind_shape : (k : Keyword) (b r : Bool) → is_of_body k ≡ true → may_stand BehindShape b r k ≡ true
behind_shape Head b r e = absurd cc
behind_shape Mode b r e = absurd cc
behind_shape Ranks b r e = absurd cc
behind_shape Maxval b r e = absurd cc
behind_shape Background b r e = absurd cc
behind_shape Order b r e = absurd cc
behind_shape Tile b r e = absurd cc
behind_shape Point b r e = refl
behind_shape Tri b r e = refl
behind_shape Span b r e = refl
behind_shape End b r e = refl

-- these tiles are read
pub record Tiled (v : ℕ) (scene : SceneView) (before : List Said) (done : List TileView) : Type 0 where
  pub kept : Kept v scene before
  pub tiles : tiles_in before ≡ done
  pub shapes : shapes_in before ≡ []
  pub next : has_room before ≡ true → stands before Tile ≡ true
  pub body : 1 ≤ length done → (k : Keyword) → is_of_body k ≡ true → stands before k ≡ true

-- what holds of the tiles that are still to come
pub record AreTiles (v : ℕ) (scene : SceneView) (done todo : List TileView) : Type 0 where
  pub few : length done + length todo ≤ most_tiles v
  pub inside : All (λ tile. IsOnDisplay tile.area) todo
  pub displays : All (λ tile. tile.display < scene.ranks) todo
  pub distinct : AllPairs (λ one other. one.display ≢ other.display) todo
  pub fresh : All (λ tile. is_taken done tile.display ≡ false) todo

taken_push : (done : List TileView) (tile : TileView) (rank : ℕ) → is_taken done rank ≡ false → tile.display ≢ rank → is_taken (done ++ tile ∷ []) rank ≡ false
taken_push [] tile rank e d = ap (λ b. b || false) (ne_eqb tile.display rank d)
taken_push (t ∷ done) tile rank e d =
    let h = or_false (t.display == rank) (is_taken done rank) e in
    ap (λ b. b || is_taken (done ++ tile ∷ []) rank) h.0 ∙ taken_push done tile rank h.1 d

later_tiles : (v : ℕ) (scene : SceneView) (done : List TileView) (tile : TileView) (todo : List TileView) → AreTiles v scene done (tile ∷ todo) → AreTiles v scene (done ++ tile ∷ []) todo
later_tiles v scene done tile todo h = record {
  few = omega (arith, h.few, length-append done (tile ∷ []));
  inside = All-tail (λ t. IsOnDisplay t.area) tile todo h.inside;
  displays = All-tail (λ t. t.display < scene.ranks) tile todo h.displays;
  distinct = λ i j d l m. h.distinct (suc i) (suc j) d (omega arith) (omega arith);
  fresh = λ i d l. taken_push done tile _ (All-tail (λ t. is_taken done t.display ≡ false) tile todo h.fresh i d l) (h.distinct 0 (suc i) d (omega arith) (omega arith));
}

tile_next : (v : ℕ) (scene : SceneView) (before : List Said) (done : List TileView) (tile : TileView) → Tiled v scene before done → Tiled v scene (TileIs tile ∷ before) (done ++ tile ∷ [])
tile_next v scene before done tile t = record {
  kept = record { version = t.kept.version; blends = t.kept.blends; ranks = t.kept.ranks; maxval = t.kept.maxval; background = t.kept.background; order_is = t.kept.order_is };
  tiles = ap (λ ts. ts ++ tile ∷ []) t.tiles;
  shapes = t.shapes;
  next = λ e. e;
  body = λ some k e. behind_tile k (blends_in before) (has_room (TileIs tile ∷ before)) e;
}

tile_room : (v : ℕ) (scene : SceneView) (before : List Said) (done : List TileView) (tile : TileView) (todo : List TileView) → Tiled v scene before done → AreTiles v scene done (tile ∷ todo) → has_room before ≡ true
tile_room v scene before done tile todo t h =
    ap (λ ts. nat_lt (length ts) (most_tiles (version_in before))) t.tiles
    ∙ ap (λ v. nat_lt (length done) (most_tiles v)) t.kept.version
    ∙ room (length done) (most_tiles v) (omega (arith, h.few))
  where
    room : (m n : ℕ) → m < n → nat_lt m n ≡ true
    room m n l = grind (arith, nat_tests, l)

pub tiles_read : (v : ℕ) (scene : SceneView) (before : List Said) (done todo : List TileView) → scene.ranks ≤ MAX_RANKS → Tiled v scene before done → AreTiles v scene done todo → Both (AllSaid before (map TileIs todo)) (Tiled v scene (behind before (map TileIs todo)) (done ++ todo))
tiles_read v scene before done [] few t h = record { first = tt; rest = subst (Tiled v scene before) (sym (append-nil done)) t }
tiles_read v scene before done (tile ∷ todo) few t h =
    let later = tiles_read v scene (TileIs tile ∷ before) (done ++ tile ∷ []) todo few (tile_next v scene before done tile t) (later_tiles v scene done tile todo h) in
    let fresh = ap (λ ts. is_taken ts tile.display) t.tiles ∙ All-head (λ x. is_taken done x.display ≡ false) tile todo h.fresh in
    record {
      first = record {
        first = tile_read before scene.ranks tile t.kept.ranks few (All-head (λ x. x.display < scene.ranks) tile todo h.displays) (All-head (λ x. IsOnDisplay x.area) tile todo h.inside) fresh (t.next (tile_room v scene before done tile todo t h));
        rest = later.first;
      };
      rest = subst (Tiled v scene (behind before (map TileIs (tile ∷ todo)))) (append_assoc done (tile ∷ []) todo) later.rest;
    }

-- all tiles and these shapes are read
pub record Drawn (v : ℕ) (scene : SceneView) (before : List Said) (done : List Placed) : Type 0 where
  pub kept : Kept v scene before
  pub tiles : tiles_in before ≡ scene.tiles
  pub shapes : shapes_in before ≡ done
  pub body : (k : Keyword) → is_of_body k ≡ true → stands before k ≡ true

-- what holds of the shapes that are still to come
pub record AreDrawn (v : ℕ) (scene : SceneView) (todo : List Placed) : Type 0 where
  pub drawers : All (λ placed. placed.rank < scene.ranks) todo
  pub painted : All (λ placed. IsPainted (greatest_channel scene.wide) placed.shape) todo
  pub second : All (λ placed. is_span placed.shape ≡ true → v ≡ 2) todo

pub spans_of : (v : ℕ) (scene : SceneView) (shapes : List Placed) → (list_any (λ placed. is_span placed.shape) shapes ≡ true → v ≡ 2) → All (λ placed. is_span placed.shape ≡ true → v ≡ 2) shapes
spans_of v scene [] k = All-nil (λ placed. is_span placed.shape ≡ true → v ≡ 2)
spans_of v scene (p ∷ ps) k =
    All-cons (λ placed. is_span placed.shape ≡ true → v ≡ 2) p ps
    (λ e. k (ap (λ b. b || list_any (λ placed. is_span placed.shape) ps) e))
    (spans_of v scene ps (λ e. k (ap (λ b. is_span p.shape || b) e ∙ or_true (is_span p.shape))))

small_channel : (w : Bool) → greatest_channel w < 2 ^ 64
small_channel true = omega arith
small_channel false = omega arith

shape_next : (v : ℕ) (scene : SceneView) (before : List Said) (done : List Placed) (p : Placed) → Drawn v scene before done → Drawn v scene (Draws p ∷ before) (done ++ p ∷ [])
shape_next v scene before done p t = record {
  kept = record { version = t.kept.version; blends = t.kept.blends; ranks = t.kept.ranks; maxval = t.kept.maxval; background = t.kept.background; order_is = t.kept.order_is };
  tiles = t.tiles;
  shapes = ap (λ ps. ps ++ p ∷ []) t.shapes;
  body = λ k e. behind_shape k (blends_in before) (has_room (Draws p ∷ before)) e;
}

pub shapes_read : (v : ℕ) (scene : SceneView) (before : List Said) (done todo : List Placed) → scene.ranks ≤ MAX_RANKS → Drawn v scene before done → AreDrawn v scene todo → Both (AllSaid before (map Draws todo)) (Drawn v scene (behind before (map Draws todo)) (done ++ todo))
shapes_read v scene before done [] few t h = record { first = tt; rest = subst (Drawn v scene before) (sym (append-nil done)) t }
shapes_read v scene before done (p ∷ todo) few t h =
    let left : AreDrawn v scene todo = record {
      drawers = All-tail (λ x. x.rank < scene.ranks) p todo h.drawers;
      painted = All-tail (λ x. IsPainted (greatest_channel scene.wide) x.shape) p todo h.painted;
      second = All-tail (λ x. is_span x.shape ≡ true → v ≡ 2) p todo h.second;
    } in
    let later = shapes_read v scene (Draws p ∷ before) (done ++ p ∷ []) todo few (shape_next v scene before done p t) left in
    let known : IsBody before scene.ranks (greatest_channel scene.wide) = record { ranks_is = t.kept.ranks; most_is = t.kept.maxval; few = few; small = small_channel scene.wide; body = t.body } in
    record {
      first = record {
        first = shape_read before scene.ranks (greatest_channel scene.wide) p.rank p.shape known (λ e. t.kept.version ∙ All-head (λ x. is_span x.shape ≡ true → v ≡ 2) p todo h.second e) (All-head (λ x. x.rank < scene.ranks) p todo h.drawers) (All-head (λ x. IsPainted (greatest_channel scene.wide) x.shape) p todo h.painted);
        rest = later.first;
      };
      rest = subst (Drawn v scene (behind before (map Draws (p ∷ todo)))) (append_assoc done (p ∷ []) todo) later.rest;
    }
