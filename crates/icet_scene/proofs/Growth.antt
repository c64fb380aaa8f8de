-- What holds of a draft when a line is added that may stand there.
use Rattle.std.proofs.Common.{◌≡◌, ◌≢◌, ℕ, ◌-◌, ◌<◌, ◌≤◌, Bool, true, false, cond, List, [], ◌∷◌, ◌++◌, length, refl, sym, ap, ◌∙◌, subst, arith}
use Rattle.std.specs.Prelude.{◌==◌, not, nat_lt, All, AllPairs}
use Rattle.std.proofs.lemmas.List.Elements.{All-nil, All-same}
use Rattle.std.proofs.lemmas.List.Quantifiers.{all_pairs_push}
use Rattle.std.proofs.lemmas.Bool.Decides.{nat_tests}
use Rattle.icet_model.specs.declared.limits.TheConstants.{MAX_TILES}
use Rattle.icet_model.specs.Tiles.{IsTileArea}
use Rattle.icet_tiles.specs.declared.layout.Tile.{Tile}
use Rattle.icet_raster.specs.Shapes.{drawing_of, IsInRange}
use Rattle.icet_scene_model.specs.Lawful.{IsPaint, IsPainted}
use Rattle.icet_model.specs.Pixel.{FragmentView}
use Rattle.icet_scene_model.specs.Fields.{most_tiles}
use Rattle.icet_scene_model.specs.Scene.{clear}
use Rattle.icet_scene_model.specs.SceneLines.{may_stand}
use Rattle.icet_scene_model.specs.declared.keyword.Place.{Place}
use Rattle.icet_scene_model.specs.declared.keyword.Place.TheVariants.{Start, BehindHead, BehindMode, BehindRanks, BehindMaxval, BehindBackground, BehindOrder, BehindTile, BehindShape, BehindEnd}
use Rattle.icet_scene_model.specs.declared.keyword.Keyword.{Keyword}
use Rattle.icet_scene_model.specs.declared.keyword.Keyword.TheVariants.{Head, Mode, Ranks, Maxval, Background, Order, Tile as TileWord, Point, Tri, Span, End}
use Rattle.icet_scene.specs.declared.draft.Draft.{Draft}
use Rattle.icet_scene.specs.Drafts.{IsSound, IsPlain, HasNothing, HasRanks, HasOrder, HasBody, HasPlace, has_room, keyword_stands}

-- a line that stands before all tiles
is_setting : Keyword → Bool
is_setting Head = true
is_setting Mode = true
is_setting Ranks = true
is_setting Maxval = true
is_setting Background = true
is_setting Order = true
is_setting _ = false

-- one that stands behind `ranks`
is_late : Keyword → Bool
is_late Maxval = true
is_late Background = true
is_late Order = true
is_late _ = false

behind_tile : (k : Keyword) (b r : Bool) → is_setting k ≡ true → may_stand BehindTile b r k ≡ true → ⊥
unfolding is_setting
behind_tile Head b r s e = cc
behind_tile Mode b r s e = cc
behind_tile Ranks b r s e = cc
behind_tile Maxval b r s e = cc
behind_tile Background b r s e = cc
behind_tile Order b r s e = cc
behind_tile TileWord b r s e = cc
behind_tile Point b r s e = cc
behind_tile Tri b r s e = cc
behind_tile Span b r s e = cc
behind_tile End b r s e = cc

behind_shape : (k : Keyword) (b r : Bool) → is_setting k ≡ true → may_stand BehindShape b r k ≡ true → ⊥
unfolding is_setting
behind_shape Head b r s e = cc
behind_shape Mode b r s e = cc
behind_shape Ranks b r s e = cc
behind_shape Maxval b r s e = cc
behind_shape Background b r s e = cc
behind_shape Order b r s e = cc
behind_shape TileWord b r s e = cc
behind_shape Point b r s e = cc
behind_shape Tri b r s e = cc
behind_shape Span b r s e = cc
behind_shape End b r s e = cc

early : (p : Place) → Bool
early Start = true
early BehindHead = true
early BehindMode = true
early _ = false

none_early : (p : Place) (k : Keyword) (b r : Bool) → early p ≡ true → is_late k ≡ true → may_stand p b r k ≡ true → ⊥
unfolding is_late early
none_early Start Head b r s l e = cc
none_early Start Mode b r s l e = cc
none_early Start Ranks b r s l e = cc
none_early Start Maxval b r s l e = cc
none_early Start Background b r s l e = cc
none_early Start Order b r s l e = cc
none_early Start _ b r s l e = cc
none_early BehindHead Maxval b r s l e = cc
none_early BehindHead Background b r s l e = cc
none_early BehindHead Order b r s l e = cc
none_early BehindHead _ b r s l e = cc
none_early BehindMode Maxval b r s l e = cc
none_early BehindMode Background b r s l e = cc
none_early BehindMode Order b r s l e = cc
none_early BehindMode _ b r s l e = cc
none_early _ k b r s l e = cc

nothing : (d : Draft) (k : Keyword) (p : Place) (b r : Bool) → is_setting k ≡ true → may_stand p b r k ≡ true → HasPlace p d → HasNothing d
nothing d k Start b r s e h = h.0
nothing d k BehindHead b r s e h = h.0
nothing d k BehindMode b r s e h = h.0
nothing d k BehindRanks b r s e h = h.0
nothing d k BehindMaxval b r s e h = h.0
nothing d k BehindBackground b r s e h = h.0
nothing d k BehindOrder b r s e h = h.0
nothing d k BehindTile b r s e h = absurd (behind_tile k b r s e)
nothing d k BehindShape b r s e h = absurd (behind_shape k b r s e)
nothing d k BehindEnd b r s e h = absurd cc

ranked : (d : Draft) (k : Keyword) (p : Place) (b r : Bool) → is_late k ≡ true → may_stand p b r k ≡ true → HasPlace p d → HasRanks d
unfolding early
ranked d k Start b r s e h = absurd (none_early Start k b r refl s e)
ranked d k BehindHead b r s e h = absurd (none_early BehindHead k b r refl s e)
ranked d k BehindMode b r s e h = absurd (none_early BehindMode k b r refl s e)
ranked d k BehindRanks b r s e h = h.1
ranked d k BehindMaxval b r s e h = h.1
ranked d k BehindBackground b r s e h = h.1
ranked d k BehindOrder b r s e h = h.1
ranked d k BehindTile b r s e h = h.ranked
ranked d k BehindShape b r s e h = h.ranked
ranked d k BehindEnd b r s e h = absurd cc

pub head_nothing : (d : Draft) → keyword_stands d Head ≡ true → HasPlace d.place d → HasNothing d
unfolding is_setting
head_nothing d e h = nothing d Head d.place d.blends (has_room d) refl e h

pub mode_nothing : (d : Draft) → keyword_stands d Mode ≡ true → HasPlace d.place d → HasNothing d
unfolding is_setting
mode_nothing d e h = nothing d Mode d.place d.blends (has_room d) refl e h

pub ranks_nothing : (d : Draft) → keyword_stands d Ranks ≡ true → HasPlace d.place d → HasNothing d
unfolding is_setting
ranks_nothing d e h = nothing d Ranks d.place d.blends (has_room d) refl e h

pub maxval_nothing : (d : Draft) → keyword_stands d Maxval ≡ true → HasPlace d.place d → HasNothing d
unfolding is_setting
maxval_nothing d e h = nothing d Maxval d.place d.blends (has_room d) refl e h

pub maxval_ranked : (d : Draft) → keyword_stands d Maxval ≡ true → HasPlace d.place d → HasRanks d
unfolding is_late
maxval_ranked d e h = ranked d Maxval d.place d.blends (has_room d) refl e h

pub background_nothing : (d : Draft) → keyword_stands d Background ≡ true → HasPlace d.place d → HasNothing d
unfolding is_setting
background_nothing d e h = nothing d Background d.place d.blends (has_room d) refl e h

pub background_ranked : (d : Draft) → keyword_stands d Background ≡ true → HasPlace d.place d → HasRanks d
unfolding is_late
background_ranked d e h = ranked d Background d.place d.blends (has_room d) refl e h

pub order_nothing : (d : Draft) → keyword_stands d Order ≡ true → HasPlace d.place d → HasNothing d
unfolding is_setting
order_nothing d e h = nothing d Order d.place d.blends (has_room d) refl e h

pub order_ranked : (d : Draft) → keyword_stands d Order ≡ true → HasPlace d.place d → HasRanks d
unfolding is_late
order_ranked d e h = ranked d Order d.place d.blends (has_room d) refl e h

-- a line that stands before a background
is_first : Keyword → Bool
is_first Head = true
is_first Mode = true
is_first Ranks = true
is_first Maxval = true
is_first _ = false

-- a place behind `ranks`, where none of the first lines stands
is_past : Place → Bool
is_past Start = false
is_past BehindHead = false
is_past BehindMode = false
is_past BehindRanks = false
is_past _ = true

none_past : (p : Place) (k : Keyword) (b r : Bool) → is_past p ≡ true → is_first k ≡ true → may_stand p b r k ≡ true → ⊥
unfolding is_first is_past
none_past p Head b r s l e = elim p as (λ q. is_past q ≡ true → may_stand q b r Head ≡ true → ⊥) [ Start ↦ λ x y. cc | BehindHead ↦ λ x y. cc | BehindMode ↦ λ x y. cc | BehindRanks ↦ λ x y. cc | BehindMaxval ↦ λ x y. cc | BehindBackground ↦ λ x y. cc | BehindOrder ↦ λ x y. cc | BehindTile ↦ λ x y. cc | BehindShape ↦ λ x y. cc | BehindEnd ↦ λ x y. cc ] s e
none_past p Mode b r s l e = elim p as (λ q. is_past q ≡ true → may_stand q b r Mode ≡ true → ⊥) [ Start ↦ λ x y. cc | BehindHead ↦ λ x y. cc | BehindMode ↦ λ x y. cc | BehindRanks ↦ λ x y. cc | BehindMaxval ↦ λ x y. cc | BehindBackground ↦ λ x y. cc | BehindOrder ↦ λ x y. cc | BehindTile ↦ λ x y. cc | BehindShape ↦ λ x y. cc | BehindEnd ↦ λ x y. cc ] s e
none_past p Ranks b r s l e = elim p as (λ q. is_past q ≡ true → may_stand q b r Ranks ≡ true → ⊥) [ Start ↦ λ x y. cc | BehindHead ↦ λ x y. cc | BehindMode ↦ λ x y. cc | BehindRanks ↦ λ x y. cc | BehindMaxval ↦ λ x y. cc | BehindBackground ↦ λ x y. cc | BehindOrder ↦ λ x y. cc | BehindTile ↦ λ x y. cc | BehindShape ↦ λ x y. cc | BehindEnd ↦ λ x y. cc ] s e
none_past p Maxval b r s l e = elim p as (λ q. is_past q ≡ true → may_stand q b r Maxval ≡ true → ⊥) [ Start ↦ λ x y. cc | BehindHead ↦ λ x y. cc | BehindMode ↦ λ x y. cc | BehindRanks ↦ λ x y. cc | BehindMaxval ↦ λ x y. cc | BehindBackground ↦ λ x y. cc | BehindOrder ↦ λ x y. cc | BehindTile ↦ λ x y. cc | BehindShape ↦ λ x y. cc | BehindEnd ↦ λ x y. cc ] s e
none_past p _ b r s l e = cc

plain : (d : Draft) (k : Keyword) (p : Place) (b r : Bool) → is_first k ≡ true → may_stand p b r k ≡ true → HasPlace p d → IsPlain d
unfolding is_past
plain d k Start b r s e h = h.1
plain d k BehindHead b r s e h = h.1
plain d k BehindMode b r s e h = h.1
plain d k BehindRanks b r s e h = h.2
plain d k BehindMaxval b r s e h = absurd (none_past BehindMaxval k b r refl s e)
plain d k BehindBackground b r s e h = absurd (none_past BehindBackground k b r refl s e)
plain d k BehindOrder b r s e h = absurd (none_past BehindOrder k b r refl s e)
plain d k BehindTile b r s e h = absurd (none_past BehindTile k b r refl s e)
plain d k BehindShape b r s e h = absurd (none_past BehindShape k b r refl s e)
plain d k BehindEnd b r s e h = absurd (none_past BehindEnd k b r refl s e)

pub head_plain : (d : Draft) → keyword_stands d Head ≡ true → HasPlace d.place d → IsPlain d
unfolding is_first
head_plain d e h = plain d Head d.place d.blends (has_room d) refl e h

pub mode_plain : (d : Draft) → keyword_stands d Mode ≡ true → HasPlace d.place d → IsPlain d
unfolding is_first
mode_plain d e h = plain d Mode d.place d.blends (has_room d) refl e h

pub ranks_plain : (d : Draft) → keyword_stands d Ranks ≡ true → HasPlace d.place d → IsPlain d
unfolding is_first
ranks_plain d e h = plain d Ranks d.place d.blends (has_room d) refl e h

pub maxval_plain : (d : Draft) → keyword_stands d Maxval ≡ true → HasPlace d.place d → IsPlain d
unfolding is_first
maxval_plain d e h = plain d Maxval d.place d.blends (has_room d) refl e h

-- transparent black is a paint, whatever the greatest channel is
pub clear_paint : (most : ℕ) (paint : FragmentView) → paint ≡ clear → IsPaint most paint
clear_paint most paint e = subst (IsPaint most) (sym e) (record { fragment = record { r_within = omega arith; g_within = omega arith; b_within = omega arith; a_within = omega arith; z_within = omega arith }; within = omega arith })

-- what holds of a draft that takes a further tile
pub record TakesTile (d : Draft) : Type 0 where
  pub sound : IsSound d
  pub ranked : HasRanks d
  pub ordered : HasOrder d
  pub room : length d.tiles.items < MAX_TILES
  pub areas : All (λ tile. IsTileArea tile.area) d.tiles.items
  pub distinct : AllPairs (λ one other. one.display ≢ other.display) d.tiles.items
  pub displays : All (λ tile. tile.display ≤ d.ranks - 1) d.tiles.items
  pub drawers : All (λ shape. shape.0 ≤ d.ranks - 1) d.shapes.items
  pub in_range : All (λ shape. IsInRange shape.1) d.shapes.items
  pub painted : All (λ shape. IsPainted d.maxval (drawing_of shape.1)) d.shapes.items

few_tiles : (version n : ℕ) → nat_lt n (most_tiles version) ≡ true → n < MAX_TILES
few_tiles version n e = go (version == 2) e
  where
    go : (b : Bool) → nat_lt n (cond b MAX_TILES 16) ≡ true → n < MAX_TILES
    go true e = grind (arith, nat_tests, e)
    go false e = let l : n < 16 = grind (arith, nat_tests, e) in omega arith

no_pairs : (tiles : List Tile) → tiles ≡ [] → AllPairs (λ one other. one.display ≢ other.display) tiles
no_pairs tiles e = λ i j d l m. absurd (let z : length tiles ≡ 0 = ap length e in omega (arith, z, m))

first_tile : (d : Draft) → HasNothing d → HasRanks d → HasOrder d → TakesTile d
first_tile d n r o = record {
  sound = n.sound;
  ranked = r;
  ordered = o;
  room = (let z : length d.tiles.items ≡ 0 = ap length n.tiles in omega (arith, z));
  areas = All-same (λ tile. IsTileArea tile.area) d.tiles.items [] n.tiles (All-nil (λ tile. IsTileArea tile.area));
  distinct = no_pairs d.tiles.items n.tiles;
  displays = All-same (λ tile. tile.display ≤ d.ranks - 1) d.tiles.items [] n.tiles (All-nil (λ tile. tile.display ≤ d.ranks - 1));
  drawers = All-same (λ shape. shape.0 ≤ d.ranks - 1) d.shapes.items [] n.shapes (All-nil (λ shape. shape.0 ≤ d.ranks - 1));
  in_range = All-same (λ shape. IsInRange shape.1) d.shapes.items [] n.shapes (All-nil (λ shape. IsInRange shape.1));
  painted = All-same (λ shape. IsPainted d.maxval (drawing_of shape.1)) d.shapes.items [] n.shapes (All-nil (λ shape. IsPainted d.maxval (drawing_of shape.1)));
}

by_depth : (d : Draft) → not d.blends ≡ true → HasOrder d
by_depth d e = record { each = λ f. absurd (let g : false ≡ true = ap not (sym f) ∙ e in cc) }

takes : (d : Draft) (p : Place) → may_stand p d.blends (has_room d) TileWord ≡ true → HasPlace p d → TakesTile d
takes d Start e h = absurd cc
takes d BehindHead e h = absurd cc
takes d BehindMode e h = absurd cc
takes d BehindRanks e h = first_tile d h.0 h.1 (by_depth d e)
takes d BehindMaxval e h = first_tile d h.0 h.1 (by_depth d e)
takes d BehindBackground e h = first_tile d h.0 h.1 (by_depth d e)
takes d BehindOrder e h = first_tile d h.0 h.1 h.2
takes d BehindTile e h = record { sound = h.sound; ranked = h.ranked; ordered = h.ordered; room = few_tiles d.version (length d.tiles.items) e; areas = h.areas; distinct = h.distinct; displays = h.displays; drawers = h.drawers; in_range = h.in_range; painted = h.painted }
takes d BehindShape e h = absurd cc
takes d BehindEnd e h = absurd cc

pub takes_tile : (d : Draft) → keyword_stands d TileWord ≡ true → HasPlace d.place d → TakesTile d
takes_tile d e h = takes d d.place e h

pub tile_pushed : (tiles : List Tile) (tile : Tile) → AllPairs (λ one other. one.display ≢ other.display) tiles → All (λ other. other.display ≢ tile.display) tiles → AllPairs (λ one other. one.display ≢ other.display) (tiles ++ tile ∷ [])
tile_pushed tiles tile pairs fresh = all_pairs_push (λ one other. one.display ≢ other.display) tiles tile pairs fresh

body : (d : Draft) (p : Place) (b r : Bool) → may_stand p b r Point ≡ true → HasPlace p d → HasBody d
body d Start b r e h = absurd cc
body d BehindHead b r e h = absurd cc
body d BehindMode b r e h = absurd cc
body d BehindRanks b r e h = absurd cc
body d BehindMaxval b r e h = absurd cc
body d BehindBackground b r e h = absurd cc
body d BehindOrder b r e h = absurd cc
body d BehindTile b r e h = h
body d BehindShape b r e h = h
body d BehindEnd b r e h = absurd cc

pub shape_body : (d : Draft) → keyword_stands d Point ≡ true → HasPlace d.place d → HasBody d
shape_body d e h = body d d.place d.blends (has_room d) e h

end_of : (d : Draft) (p : Place) (b r : Bool) → may_stand p b r End ≡ true → HasPlace p d → HasBody d
end_of d Start b r e h = absurd cc
end_of d BehindHead b r e h = absurd cc
end_of d BehindMode b r e h = absurd cc
end_of d BehindRanks b r e h = absurd cc
end_of d BehindMaxval b r e h = absurd cc
end_of d BehindBackground b r e h = absurd cc
end_of d BehindOrder b r e h = absurd cc
end_of d BehindTile b r e h = h
end_of d BehindShape b r e h = h
end_of d BehindEnd b r e h = absurd cc

pub end_body : (d : Draft) → keyword_stands d End ≡ true → HasPlace d.place d → HasBody d
end_body d e h = end_of d d.place d.blends (has_room d) e h

tri_place : (p : Place) (b r : Bool) → may_stand p b r Tri ≡ true → may_stand p b r Point ≡ true
tri_place Start b r e = absurd cc
tri_place BehindHead b r e = absurd cc
tri_place BehindMode b r e = absurd cc
tri_place BehindRanks b r e = absurd cc
tri_place BehindMaxval b r e = absurd cc
tri_place BehindBackground b r e = absurd cc
tri_place BehindOrder b r e = absurd cc
tri_place BehindTile b r e = refl
tri_place BehindShape b r e = refl
tri_place BehindEnd b r e = absurd cc

pub tri_stands : (d : Draft) → keyword_stands d Tri ≡ true → keyword_stands d Point ≡ true
tri_stands d e = tri_place d.place d.blends (has_room d) e

span_place : (p : Place) (b r : Bool) → may_stand p b r Span ≡ true → may_stand p b r Point ≡ true
span_place Start b r e = absurd cc
span_place BehindHead b r e = absurd cc
span_place BehindMode b r e = absurd cc
span_place BehindRanks b r e = absurd cc
span_place BehindMaxval b r e = absurd cc
span_place BehindBackground b r e = absurd cc
span_place BehindOrder b r e = absurd cc
span_place BehindTile b r e = refl
span_place BehindShape b r e = refl
span_place BehindEnd b r e = absurd cc

pub span_stands : (d : Draft) → keyword_stands d Span ≡ true → keyword_stands d Point ≡ true
span_stands d e = span_place d.place d.blends (has_room d) e

sound_at : (d : Draft) (p : Place) → HasPlace p d → IsSound d
sound_at d Start h = h.0.sound
sound_at d BehindHead h = h.0.sound
sound_at d BehindMode h = h.0.sound
sound_at d BehindRanks h = h.0.sound
sound_at d BehindMaxval h = h.0.sound
sound_at d BehindBackground h = h.0.sound
sound_at d BehindOrder h = h.0.sound
sound_at d BehindTile h = h.sound
sound_at d BehindShape h = h.sound
sound_at d BehindEnd h = h.sound

pub is_sound : (d : Draft) → HasPlace d.place d → IsSound d
is_sound d h = sound_at d d.place h
