-- The text of a scene: a line for each thing that it says, in the one order in which lines may stand.
use Rattle.std.specs.Prelude.{ℕ, suc, ℤ, pos, negsuc, ◌==◌, Bool, true, false, ◌||◌, ◌&&◌, nat_lt, cond, if◌then◌else◌, List, [], ◌∷◌, ◌++◌, length, map, codes, decimal}
use Rattle.std.specs.List.{flat_map, list_any}
use Rattle.icet_model.specs.Pixel.{FragmentView}
use Rattle.icet_model.specs.Tiles.{TileView}
use Rattle.icet_text.specs.declared.field.Number.{Number}
use Rattle.icet_scene_model.specs.Raster.{Drawing, Point, Tri, Span}
use Rattle.icet_scene_model.specs.Triangles.{Corner, Triangle}
use Rattle.icet_scene_model.specs.Lawful.{is_blending}
use Rattle.icet_scene_model.specs.Scene.{SceneView, Placed, Said, HeadIs, ModeIs, RanksAre, MaxvalIs, BackgroundIs, OrderIs, TileIs, Draws, EndIs}
use Rattle.icet_scene_model.specs.declared.limits.TheConstants.{FIRST_VERSION_RANKS, FIRST_VERSION_TILES, WIDE_CHANNEL}

-- a number without a sign
abbrev pub natural : ℕ → Number
natural n = record { is_negative = false; size = n }

-- a number with its sign
abbrev pub integer : ℤ → Number
integer (pos n) = natural n
integer (negsuc n) = record { is_negative = true; size = suc n }

-- the one numeral of a number, a minus sign before a negative one
abbrev pub numeral : Number → List ℕ
numeral n = cond n.is_negative (codes "-") [] ++ decimal n.size

-- a numeral with the space before it
abbrev pub spaced : Number → List ℕ
spaced n = codes " " ++ numeral n

-- red, green, blue and alpha
abbrev pub colour_numbers : FragmentView → List Number
colour_numbers paint = natural paint.r ∷ natural paint.g ∷ natural paint.b ∷ natural paint.a ∷ []

-- the depth, and then the colour
abbrev pub paint_numbers : FragmentView → List Number
paint_numbers paint = natural paint.z ∷ colour_numbers paint

-- x and y, and then the paint
abbrev pub corner_numbers : Corner → List Number
corner_numbers corner = integer corner.spot.x ∷ integer corner.spot.y ∷ paint_numbers corner.paint

abbrev pub triangle_numbers : Triangle → List Number
triangle_numbers t = corner_numbers t.a ++ (corner_numbers t.b ++ corner_numbers t.c)

abbrev pub tile_numbers : TileView → List Number
tile_numbers tile = natural tile.area.x ∷ natural tile.area.y ∷ natural tile.area.w ∷ natural tile.area.h ∷ natural tile.display ∷ []

-- a keyword and the numbers behind it
abbrev pub numbers_line : List ℕ → List Number → List ℕ
numbers_line keyword numbers = keyword ++ flat_map spaced numbers

abbrev pub shape_line : ℕ → Drawing → List ℕ
shape_line rank (Point x y paint) = numbers_line (codes "point") (natural rank ∷ natural x ∷ natural y ∷ paint_numbers paint)
shape_line rank (Tri t) = numbers_line (codes "tri") (natural rank ∷ triangle_numbers t)
shape_line rank (Span x y paints) = numbers_line (codes "span") (natural rank ∷ natural x ∷ natural y ∷ flat_map paint_numbers paints)

-- the line that says this, without its newline
abbrev pub line_of : Said → List ℕ
line_of (HeadIs version) = numbers_line (codes "icet-scene") (natural version ∷ [])
line_of (ModeIs blends) = if blends then codes "mode blend" else codes "mode depth"
line_of (RanksAre count) = numbers_line (codes "ranks") (natural count ∷ [])
line_of (MaxvalIs greatest) = numbers_line (codes "maxval") (natural greatest ∷ [])
line_of (BackgroundIs paint) = numbers_line (codes "background") (colour_numbers paint)
line_of (OrderIs ranks) = numbers_line (codes "order") (map natural ranks)
line_of (TileIs tile) = numbers_line (codes "tile") (tile_numbers tile)
line_of (Draws placed) = shape_line placed.rank placed.shape
line_of EndIs = codes "end"

-- the lines that say these, each with its newline
abbrev pub lines_text : List Said → List ℕ
lines_text says = flat_map (λ said. line_of said ++ codes "\n") says

abbrev pub is_span : Drawing → Bool
is_span (Point x y paint) = false
is_span (Tri triangle) = false
is_span (Span x y paints) = true

-- a span, wide channels, and more ranks or tiles than version 1 takes stand in version 2 alone
abbrev pub needs_second_version : SceneView → Bool
needs_second_version scene = list_any (λ placed. is_span placed.shape) scene.shapes || (scene.wide || (nat_lt FIRST_VERSION_RANKS scene.ranks || nat_lt FIRST_VERSION_TILES (length scene.tiles)))

abbrev pub version_of : SceneView → ℕ
version_of scene = if needs_second_version scene then 2 else 1

-- all four channels are 0
abbrev pub is_clear : FragmentView → Bool
is_clear paint = (paint.r == 0 && paint.g == 0) && (paint.b == 0 && paint.a == 0)

-- the first lines of a text of a version
abbrev pub head_said : ℕ → SceneView → List Said
head_said version scene = HeadIs version ∷ ModeIs (is_blending scene.mode) ∷ RanksAre scene.ranks ∷ []

abbrev pub maxval_said : Bool → List Said
maxval_said wide = if wide then MaxvalIs WIDE_CHANNEL ∷ [] else []

abbrev pub background_said : FragmentView → List Said
background_said paint = if is_clear paint then [] else BackgroundIs paint ∷ []

abbrev pub order_said : Bool → List ℕ → List Said
order_said blends order = if blends then OrderIs order ∷ [] else []

-- the lines that stand only where a scene needs them
abbrev pub settings_said : SceneView → List Said
settings_said scene = maxval_said scene.wide ++ (background_said scene.background ++ order_said (is_blending scene.mode) scene.order)

-- the tiles, the shapes and the end
abbrev pub body_said : SceneView → List Said
body_said scene = map TileIs scene.tiles ++ (map Draws scene.shapes ++ EndIs ∷ [])

-- what the lines of a scene's text of a version say, in their order
abbrev pub said_by : ℕ → SceneView → List Said
said_by version scene = head_said version scene ++ (settings_said scene ++ body_said scene)

-- a scene's text of a version
abbrev pub text_in : ℕ → SceneView → List ℕ
text_in version scene = lines_text (said_by version scene)

-- in the version that the scene needs
abbrev pub printed : SceneView → List ℕ
printed scene = text_in (version_of scene) scene

-- in version 2, whatever the scene needs
abbrev pub upgraded : SceneView → List ℕ
upgraded scene = text_in 2 scene
