-- The part of a scene that was read so far.
use Rattle.std.specs.Prelude.{◌≡◌, ◌≢◌, ◌≤◌, ◌-◌, All, AllPairs, Bool, true, nat_lt, List, [], length, map}
use Rattle.icet_model.specs.declared.limits.TheConstants.{MAX_RANKS, MAX_TILES}
use Rattle.icet_model.specs.Tiles.{IsTileArea}
use Rattle.icet_tiles.specs.Contributors.{HasEachOnce}
use Rattle.icet_tiles.specs.Layouts.{tile_view}
use Rattle.icet_raster.specs.Shapes.{drawing_of, IsInRange}
use Rattle.icet_scene_model.specs.Fields.{most_tiles}
use Rattle.icet_scene_model.specs.Lawful.{greatest_channel, IsPaint, IsPainted}
use Rattle.icet_scene_model.specs.Scene.{Said, place_behind, version_in, blends_in, ranks_in, maxval_in, background_in, order_in, tiles_in, shapes_in, clear, is_wide}
use Rattle.icet_scene_model.specs.SceneLines.{may_stand}
use Rattle.icet_scene_model.specs.declared.keyword.Place.{Place}
use Rattle.icet_scene_model.specs.declared.keyword.Keyword.{Keyword}
use Rattle.icet_scene_model.specs.declared.keyword.Place.TheVariants.{Start, BehindHead, BehindMode, BehindRanks, BehindMaxval, BehindBackground, BehindOrder, BehindTile, BehindShape, BehindEnd}
use Rattle.icet_scene_model.specs.declared.keyword.Keyword.TheVariants.{Head as HeadWord, Mode as ModeWord, Ranks as RanksWord, Maxval as MaxvalWord, Background as BackgroundWord, Order as OrderWord, Tile as TileWord, Point as PointWord, End as EndWord}
use Rattle.icet_scene.specs.declared.line.Line.{Line}
use Rattle.icet_scene.specs.declared.line.Line.TheVariants.{Head, Mode, Ranks, Maxval, Background, Order, Tile as TileLine, Shape as ShapeLine, End}
use Rattle.icet_scene.specs.declared.draft.Draft.{Draft}
use Rattle.icet_scene.specs.Lines.{placed_of, IsLawful, IsFresh}

-- it is what the lines before say, the newest first
pub record IsDraft (before : List Said) (d : Draft) : Type 0 where
  pub place : place_behind before ≡ d.place
  pub version : version_in before ≡ d.version
  pub blends : blends_in before ≡ d.blends
  pub ranks : ranks_in before ≡ d.ranks
  pub maxval : maxval_in before ≡ d.maxval
  pub background : background_in before ≡ d.background
  pub order : order_in before ≡ d.order.items
  pub tiles : tiles_in before ≡ map tile_view d.tiles.items
  pub shapes : shapes_in before ≡ map placed_of d.shapes.items

-- what holds of each draft
pub record IsSound (d : Draft) : Type 0 where
  pub maxval : d.maxval ≤ 65535
  pub known : d.maxval ≡ greatest_channel (is_wide d.maxval)
  pub depth : d.background.z ≡ 0
  pub paint : IsPaint d.maxval d.background

-- no background is read
pub record IsPlain (d : Draft) : Type 0 where
  pub background : d.background ≡ clear

-- no tile and no shape is read
pub record HasNothing (d : Draft) : Type 0 where
  pub sound : IsSound d
  pub tiles : d.tiles.items ≡ []
  pub shapes : d.shapes.items ≡ []

pub record HasRanks (d : Draft) : Type 0 where
  pub some : 1 ≤ d.ranks
  pub few : d.ranks ≤ MAX_RANKS

-- an order is read where the scene blends
pub record HasOrder (d : Draft) : Type 0 where
  pub each : d.blends ≡ true → HasEachOnce d.ranks d.order.items

-- at least one tile is read
pub record HasBody (d : Draft) : Type 0 where
  pub sound : IsSound d
  pub ranked : HasRanks d
  pub ordered : HasOrder d
  pub some : 1 ≤ length d.tiles.items
  pub few : length d.tiles.items ≤ MAX_TILES
  pub areas : All (λ tile. IsTileArea tile.area) d.tiles.items
  pub distinct : AllPairs (λ one other. one.display ≢ other.display) d.tiles.items
  pub displays : All (λ tile. tile.display ≤ d.ranks - 1) d.tiles.items
  pub drawers : All (λ shape. shape.0 ≤ d.ranks - 1) d.shapes.items
  pub in_range : All (λ shape. IsInRange shape.1) d.shapes.items
  pub painted : All (λ shape. IsPainted d.maxval (drawing_of shape.1)) d.shapes.items

-- what is read by a place
abbrev pub HasPlace : Place → Draft → Type 0
HasPlace Start d = HasNothing d × IsPlain d
HasPlace BehindHead d = HasNothing d × IsPlain d
HasPlace BehindMode d = HasNothing d × IsPlain d
HasPlace BehindRanks d = HasNothing d × HasRanks d × IsPlain d
HasPlace BehindMaxval d = HasNothing d × HasRanks d
HasPlace BehindBackground d = HasNothing d × HasRanks d
HasPlace BehindOrder d = HasNothing d × HasRanks d × HasOrder d
HasPlace BehindTile d = HasBody d
HasPlace BehindShape d = HasBody d
HasPlace BehindEnd d = HasBody d

-- there is room for a further tile
abbrev pub has_room : Draft → Bool
has_room d = nat_lt (length d.tiles.items) (most_tiles d.version)

abbrev pub keyword_stands : Draft → Keyword → Bool
keyword_stands d keyword = may_stand d.place d.blends (has_room d) keyword

-- the line may stand behind what is read
abbrev pub MayAdd : Draft → Line → Type 0
MayAdd d (Head version) = keyword_stands d HeadWord ≡ true
MayAdd d (Mode blends) = keyword_stands d ModeWord ≡ true
MayAdd d (Ranks count) = keyword_stands d RanksWord ≡ true
MayAdd d (Maxval greatest) = keyword_stands d MaxvalWord ≡ true
MayAdd d (Background paint) = keyword_stands d BackgroundWord ≡ true
MayAdd d (Order order) = keyword_stands d OrderWord ≡ true
MayAdd d (TileLine tile) = keyword_stands d TileWord ≡ true
MayAdd d (ShapeLine rank shape) = keyword_stands d PointWord ≡ true
MayAdd d End = keyword_stands d EndWord ≡ true

-- the line may be added to the draft
pub record IsAddable (d : Draft) (line : Line) : Type 0 where
  pub lawful : IsLawful d.ranks d.maxval line
  pub fresh : IsFresh d.tiles.items line
  pub stands : MayAdd d line
