-- A scene, what a line of its text says, and what the lines before a line say.
use Rattle.std.specs.Prelude.{ℕ, ◌*◌, Bool, true, false, if◌then◌else◌, cond, List, [], ◌∷◌, ◌++◌, ◌==◌}
use Rattle.std.specs.List.{range_with_len, sum_by}
use Rattle.icet_model.specs.declared.names.Mode.{Mode}
use Rattle.icet_model.specs.declared.names.Mode.TheVariants.{Depth, Blend, WideBlend}
use Rattle.icet_model.specs.Pixel.{FragmentView}
use Rattle.icet_model.specs.Tiles.{TileView}
use Rattle.icet_scene_model.specs.Raster.{Drawing}
use Rattle.icet_scene_model.specs.declared.limits.TheConstants.{NARROW_CHANNEL, WIDE_CHANNEL}
use Rattle.icet_scene_model.specs.declared.fault.SceneFault.{SceneFault}
use Rattle.icet_scene_model.specs.declared.fault.SceneFault.TheVariants.{BadByte, BadLine, OutOfPlace, OutOfRange, NotPremultiplied, RankTaken, BadOrder, NoMemory}
use Rattle.icet_scene_model.specs.declared.fault.LineFault.{LineFault}
use Rattle.icet_scene_model.specs.declared.fault.LineFault.TheVariants.{BadByte as BadByteOfLine, BadLine as BadLineOfLine, OutOfPlace as OutOfPlaceOfLine, OutOfRange as OutOfRangeOfLine, NotPremultiplied as NotPremultipliedOfLine, RankTaken as RankTakenOfLine, BadOrder as BadOrderOfLine, NoMemory as NoMemoryOfLine}
use Rattle.icet_scene_model.specs.declared.keyword.Place.{Place}
use Rattle.icet_scene_model.specs.declared.keyword.Place.TheVariants.{Start, BehindHead, BehindMode, BehindRanks, BehindMaxval, BehindBackground, BehindOrder, BehindTile, BehindShape, BehindEnd}

-- a shape of a rank
pub record Placed : Type 0 where
  pub rank : ℕ
  pub shape : Drawing

-- what contracts see of a scene; the shapes stand in the order of the text
pub record SceneView : Type 0 where
  pub mode : Mode
  pub wide : Bool
  pub ranks : ℕ
  pub background : FragmentView
  pub order : List ℕ
  pub tiles : List TileView
  pub shapes : List Placed

-- what a line says
pub data Said : Type 0 where
  HeadIs : (version : ℕ) → Said
  ModeIs : (blends : Bool) → Said
  RanksAre : (count : ℕ) → Said
  MaxvalIs : (greatest : ℕ) → Said
  BackgroundIs : (paint : FragmentView) → Said
  OrderIs : (ranks : List ℕ) → Said
  TileIs : (tile : TileView) → Said
  Draws : (placed : Placed) → Said
  EndIs : Said

-- the place behind the lines before it, the newest first
abbrev pub place_behind : List Said → Place
place_behind [] = Start
place_behind (HeadIs version ∷ before) = BehindHead
place_behind (ModeIs blends ∷ before) = BehindMode
place_behind (RanksAre count ∷ before) = BehindRanks
place_behind (MaxvalIs greatest ∷ before) = BehindMaxval
place_behind (BackgroundIs paint ∷ before) = BehindBackground
place_behind (OrderIs ranks ∷ before) = BehindOrder
place_behind (TileIs tile ∷ before) = BehindTile
place_behind (Draws placed ∷ before) = BehindShape
place_behind (EndIs ∷ before) = BehindEnd

-- the version that the first line says; 1 where there is none
abbrev pub version_in : List Said → ℕ
version_in [] = 1
version_in (HeadIs version ∷ before) = version
version_in (_ ∷ before) = version_in before

abbrev pub blends_in : List Said → Bool
blends_in [] = false
blends_in (ModeIs blends ∷ before) = blends
blends_in (_ ∷ before) = blends_in before

abbrev pub ranks_in : List Said → ℕ
ranks_in [] = 0
ranks_in (RanksAre count ∷ before) = count
ranks_in (_ ∷ before) = ranks_in before

-- the greatest value of a colour channel
abbrev pub maxval_in : List Said → ℕ
maxval_in [] = NARROW_CHANNEL
maxval_in (MaxvalIs greatest ∷ before) = greatest
maxval_in (_ ∷ before) = maxval_in before

-- transparent black, at depth 0
abbrev pub clear : FragmentView
clear = record { r = 0; g = 0; b = 0; a = 0; z = 0 }

abbrev pub background_in : List Said → FragmentView
background_in [] = clear
background_in (BackgroundIs paint ∷ before) = paint
background_in (_ ∷ before) = background_in before

abbrev pub order_in : List Said → List ℕ
order_in [] = []
order_in (OrderIs ranks ∷ before) = ranks
order_in (_ ∷ before) = order_in before

abbrev pub tiles_in : List Said → List TileView
tiles_in [] = []
tiles_in (TileIs tile ∷ before) = tiles_in before ++ tile ∷ []
tiles_in (_ ∷ before) = tiles_in before

abbrev pub shapes_in : List Said → List Placed
shapes_in [] = []
shapes_in (Draws placed ∷ before) = shapes_in before ++ placed ∷ []
shapes_in (_ ∷ before) = shapes_in before

abbrev pub is_wide : ℕ → Bool
is_wide greatest = greatest == WIDE_CHANNEL

abbrev pub mode_of : Bool → Bool → Mode
mode_of false wide = Depth
mode_of true false = Blend
mode_of true true = WideBlend

-- by depth the order is the ranks ascending
abbrev pub scene_in : List Said → SceneView
scene_in before = record {
  mode = mode_of (blends_in before) (is_wide (maxval_in before));
  wide = is_wide (maxval_in before);
  ranks = ranks_in before;
  background = background_in before;
  order = if blends_in before then order_in before else range_with_len 0 (ranks_in before);
  tiles = tiles_in before;
  shapes = shapes_in before;
}

-- how many pixels all images have: one image a rank and tile
abbrev pub rank_pixels : SceneView → ℕ
rank_pixels scene = scene.ranks * sum_by (λ tile. tile.area.w * tile.area.h) scene.tiles

-- a line's fault with the line's number
abbrev pub fault_at : ℕ → LineFault → SceneFault
fault_at line BadByteOfLine = BadByte line
fault_at line BadLineOfLine = BadLine line
fault_at line OutOfPlaceOfLine = OutOfPlace line
fault_at line OutOfRangeOfLine = OutOfRange line
fault_at line NotPremultipliedOfLine = NotPremultiplied line
fault_at line RankTakenOfLine = RankTaken line
fault_at line BadOrderOfLine = BadOrder line
fault_at line NoMemoryOfLine = NoMemory
