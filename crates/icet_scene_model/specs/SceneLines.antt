-- What a line of a scene's text says behind the lines before it, or its least-numbered fault.
use Rattle.std.specs.Prelude.{ℕ, ◌+◌, ◌-◌, ◌%◌, Bool, true, false, ◌&&◌, ◌||◌, not, nat_le, nat_lt, nat_eq, ◌==◌, cond, if◌then◌else◌, List, [], ◌∷◌, length, take, drop, Option, Some, None, codes, option_map}
use Rattle.std.specs.List.{list_all, list_any}
use Rattle.std.specs.Option.{option_and_then, is_some}
use Rattle.std.specs.Cmp.Lexicographic.{pointwise}
use Rattle.icet_model.specs.declared.limits.TheConstants.{MAX_SIDE}
use Rattle.icet_model.specs.Pixel.{FragmentView}
use Rattle.icet_model.specs.Tiles.{TileView}
use Rattle.icet_text.specs.declared.field.Number.{Number}
use Rattle.icet_text.specs.Lines.{words_of}
use Rattle.icet_text.specs.Numerals.{is_numeral}
use Rattle.icet_text.specs.Numbers.{numbers_in, sizes_in, size_at, signed_at, with_number}
use Rattle.icet_text.specs.Words.{counted}
use Rattle.icet_scene_model.specs.Fields.{from_to, version_field, most_ranks, most_tiles, rank_field, tile_fields, stand_fields, point_fields, colour_fields, paint_fields, tri_fields}
use Rattle.icet_scene_model.specs.Raster.{Drawing, Point, Tri, Span}
use Rattle.icet_scene_model.specs.Triangles.{Corner, Triangle}
use Rattle.icet_scene_model.specs.Scene.{Said, HeadIs, ModeIs, RanksAre, MaxvalIs, BackgroundIs, OrderIs, TileIs, Draws, EndIs, place_behind, version_in, blends_in, ranks_in, maxval_in, tiles_in}
use Rattle.icet_scene_model.specs.declared.limits.TheConstants.{NARROW_CHANNEL, WIDE_CHANNEL}
use Rattle.icet_scene_model.specs.declared.keyword.Place.{Place}
use Rattle.icet_scene_model.specs.declared.keyword.Place.TheVariants.{Start, BehindHead, BehindMode, BehindRanks, BehindMaxval, BehindBackground, BehindOrder, BehindTile, BehindShape, BehindEnd}
use Rattle.icet_scene_model.specs.declared.keyword.Keyword.{Keyword}
use Rattle.icet_scene_model.specs.declared.keyword.Keyword.TheVariants.{Head, Mode, Ranks, Maxval, Background, Order, Tile, Point as PointWord, Tri as TriWord, Span as SpanWord, End}
use Rattle.icet_scene_model.specs.declared.fault.LineFault.{LineFault}
use Rattle.icet_scene_model.specs.declared.fault.LineFault.TheVariants.{BadByte, BadLine, OutOfPlace, OutOfRange, NotPremultiplied, RankTaken, BadOrder}

-- what reading a line gives
pub data LineReading : Type 0 where
  Skipped : LineReading
  Says : (said : Said) → LineReading
  Faulty : (fault : LineFault) → LineReading

-- a space, or a byte that is seen
abbrev pub is_allowed : ℕ → Bool
is_allowed byte = nat_le 32 byte && nat_le byte 126

-- an empty line and a comment, whose first byte is #, are skipped
abbrev pub is_skipped : List ℕ → Bool
is_skipped [] = true
is_skipped (byte ∷ bytes) = byte == 35

abbrev pub is_word : List ℕ → List ℕ → Bool
is_word word text = pointwise nat_eq word text

-- the keyword of a line's first word; `maxval` and `span` stand in version 2 alone
abbrev pub keyword_of : ℕ → List ℕ → Option Keyword
keyword_of version word =
    cond (is_word word (codes "icet-scene")) (Some Head)
    (cond (is_word word (codes "mode")) (Some Mode)
    (cond (is_word word (codes "ranks")) (Some Ranks)
    (cond (is_word word (codes "background")) (Some Background)
    (cond (is_word word (codes "order")) (Some Order)
    (cond (is_word word (codes "tile")) (Some Tile)
    (cond (is_word word (codes "point")) (Some PointWord)
    (cond (is_word word (codes "tri")) (Some TriWord)
    (cond (is_word word (codes "end")) (Some End)
    (cond (version == 2 && is_word word (codes "maxval")) (Some Maxval)
    (cond (version == 2 && is_word word (codes "span")) (Some SpanWord) None))))))))))

-- how many numerals stand behind a keyword; a mode is a word
abbrev pub fits : Keyword → ℕ → Bool
fits Head count = count == 1
fits Mode count = false
fits Ranks count = count == 1
fits Maxval count = count == 1
fits Background count = count == 4
fits Order count = nat_le 1 count
fits Tile count = count == 5
fits PointWord count = count == 8
fits TriWord count = count == 22
fits SpanWord count = nat_le 8 count && (count - 3) % 5 == 0
fits End count = count == 0

-- the one word behind `mode`
abbrev pub mode_in : List (List ℕ) → Option Bool
mode_in (word ∷ []) = cond (is_word word (codes "depth")) (Some false) (cond (is_word word (codes "blend")) (Some true) None)
mode_in _ = None

-- a count that fits
abbrev pub counts : Keyword → Option ℕ → Bool
counts keyword None = false
counts keyword (Some count) = fits keyword count

abbrev pub is_mode : List (List ℕ) → Bool
is_mode words = is_some (mode_in words)

-- the words behind a keyword are those of its form
abbrev pub has_form : Keyword → List (List ℕ) → Bool
has_form Mode words = is_mode words
has_form keyword words = counts keyword (counted words)

-- where the order, or by depth the first tile, may stand
abbrev pub opens : Bool → Keyword → Bool
opens blends Order = blends
opens blends Tile = not blends
opens blends _ = false

-- a shape, or the end
abbrev pub is_of_body : Keyword → Bool
is_of_body PointWord = true
is_of_body TriWord = true
is_of_body SpanWord = true
is_of_body End = true
is_of_body _ = false

-- which lines may stand at a place, by whether the scene blends and whether it has room for a further tile
abbrev pub may_stand : Place → Bool → Bool → Keyword → Bool
may_stand Start blends room Head = true
may_stand BehindHead blends room Mode = true
may_stand BehindMode blends room Ranks = true
may_stand BehindRanks blends room Maxval = true
may_stand BehindRanks blends room Background = true
may_stand BehindRanks blends room keyword = opens blends keyword
may_stand BehindMaxval blends room Background = true
may_stand BehindMaxval blends room keyword = opens blends keyword
may_stand BehindBackground blends room keyword = opens blends keyword
may_stand BehindOrder blends room Tile = true
may_stand BehindTile blends room Tile = room
may_stand BehindTile blends room keyword = is_of_body keyword
may_stand BehindShape blends room keyword = is_of_body keyword
may_stand _ blends room keyword = false

abbrev pub has_room : List Said → Bool
has_room before = nat_lt (length (tiles_in before)) (most_tiles (version_in before))

abbrev pub stands : List Said → Keyword → Bool
stands before keyword = may_stand (place_behind before) (blends_in before) (has_room before) keyword

-- z, r, g, b and a from a place of a line's numbers on
abbrev pub paint_at : List Number → ℕ → FragmentView
paint_at ns i = record { z = size_at ns i; r = size_at ns (i + 1); g = size_at ns (i + 2); b = size_at ns (i + 3); a = size_at ns (i + 4) }

abbrev pub maxval_of : List Number → Option Said
maxval_of ns = cond (size_at ns 0 == NARROW_CHANNEL || size_at ns 0 == WIDE_CHANNEL) (Some (MaxvalIs (size_at ns 0))) None

abbrev pub background_of : List Number → Said
background_of ns = BackgroundIs (record { r = size_at ns 0; g = size_at ns 1; b = size_at ns 2; a = size_at ns 3; z = 0 })

-- the right and the bottom edge of a tile lie inside the greatest display
abbrev pub tile_of : List Number → Option Said
tile_of ns = cond (nat_le (size_at ns 0 + size_at ns 2) MAX_SIDE && nat_le (size_at ns 1 + size_at ns 3) MAX_SIDE) (Some (TileIs (record { area = record { x = size_at ns 0; y = size_at ns 1; w = size_at ns 2; h = size_at ns 3 }; display = size_at ns 4 }))) None

abbrev pub point_of : List Number → Said
point_of ns = Draws (record { rank = size_at ns 0; shape = Point (size_at ns 1) (size_at ns 2) (paint_at ns 3) })

abbrev pub corner_at : List Number → ℕ → Corner
corner_at ns i = record { spot = record { x = signed_at ns i; y = signed_at ns (i + 1) }; paint = paint_at ns (i + 2) }

abbrev pub tri_of : List Number → Said
tri_of ns = Draws (record { rank = size_at ns 0; shape = Tri (record { a = corner_at ns 1; b = corner_at ns 8; c = corner_at ns 15 }) })

-- the paints of the words, five words each
abbrev pub paints_in : ℕ → List (List ℕ) → Option (List FragmentView)
paints_in most [] = Some []
paints_in most (z ∷ r ∷ g ∷ b ∷ a ∷ words) = with_number (option_map (λ ns. paint_at ns 0) (numbers_in (paint_fields most) (z ∷ r ∷ g ∷ b ∷ a ∷ []))) (paints_in most words)
paints_in most _ = None

-- a span's paints lie in one row of the greatest display
abbrev pub span_of : List Number → List FragmentView → Option Said
span_of ns paints = cond (nat_le (size_at ns 1 + length paints) MAX_SIDE) (Some (Draws (record { rank = size_at ns 0; shape = Span (size_at ns 1) (size_at ns 2) paints }))) None

abbrev pub span_said : ℕ → ℕ → List (List ℕ) → Option Said
span_said ranks most words = option_and_then (λ ns. option_and_then (span_of ns) (paints_in most (drop 3 words))) (numbers_in (stand_fields ranks) (take 3 words))

-- what the line of a keyword says, where each number lies in its range
abbrev pub said_in : List Said → Keyword → List (List ℕ) → Option Said
said_in before Head words = option_map (λ ns. HeadIs (size_at ns 0)) (numbers_in (version_field ∷ []) words)
said_in before Mode words = option_map ModeIs (mode_in words)
said_in before Ranks words = option_map (λ ns. RanksAre (size_at ns 0)) (numbers_in (from_to 1 (most_ranks (version_in before)) ∷ []) words)
said_in before Maxval words = option_and_then maxval_of (numbers_in (from_to NARROW_CHANNEL WIDE_CHANNEL ∷ []) words)
said_in before Background words = option_map background_of (numbers_in (colour_fields (maxval_in before)) words)
said_in before Order words = option_map OrderIs (sizes_in (rank_field (ranks_in before)) words)
said_in before Tile words = option_and_then tile_of (numbers_in (tile_fields (ranks_in before)) words)
said_in before PointWord words = option_map point_of (numbers_in (point_fields (ranks_in before) (maxval_in before)) words)
said_in before TriWord words = option_map tri_of (numbers_in (tri_fields (ranks_in before) (maxval_in before)) words)
said_in before SpanWord words = span_said (ranks_in before) (maxval_in before) words
said_in before End words = Some EndIs

-- no channel exceeds the alpha
abbrev pub is_premultiplied : FragmentView → Bool
is_premultiplied paint = nat_le paint.r paint.a && (nat_le paint.g paint.a && nat_le paint.b paint.a)

abbrev pub paints_of : Drawing → List FragmentView
paints_of (Point x y paint) = paint ∷ []
paints_of (Tri triangle) = triangle.a.paint ∷ triangle.b.paint ∷ triangle.c.paint ∷ []
paints_of (Span x y paints) = paints

-- an earlier tile is displayed by the rank
abbrev pub is_taken : List TileView → ℕ → Bool
is_taken tiles rank = list_any (λ tile. tile.display == rank) tiles

-- no number stands twice
abbrev pub all_differ : List ℕ → Bool
all_differ [] = true
all_differ (n ∷ ns) = not (list_any (λ m. m == n) ns) && all_differ ns

-- ranks below so many, of which each stands once
abbrev pub is_each_once : ℕ → List ℕ → Bool
is_each_once ranks order = length order == ranks && all_differ order

-- the fault of a line whose numbers lie in their ranges, by what it says
abbrev pub rule_broken : List Said → Said → Option LineFault
rule_broken before (BackgroundIs paint) = cond (is_premultiplied paint) None (Some NotPremultiplied)
rule_broken before (Draws placed) = cond (list_all is_premultiplied (paints_of placed.shape)) None (Some NotPremultiplied)
rule_broken before (TileIs tile) = cond (is_taken (tiles_in before) tile.display) (Some RankTaken) None
rule_broken before (OrderIs order) = cond (is_each_once (ranks_in before) order) None (Some BadOrder)
rule_broken before _ = None

abbrev pub unless_broken : Said → Option LineFault → LineReading
unless_broken said None = Says said
unless_broken said (Some fault) = Faulty fault

-- a line without a number out of range
abbrev pub ranged : List Said → Option Said → LineReading
ranged before None = Faulty OutOfRange
ranged before (Some said) = unless_broken said (rule_broken before said)

-- a line of a keyword, or of none, behind the lines before it
abbrev pub keyword_reading : List Said → Option Keyword → List (List ℕ) → LineReading
keyword_reading before None words = Faulty BadLine
keyword_reading before (Some keyword) words = cond (has_form keyword words) (cond (stands before keyword) (ranged before (said_in before keyword words)) (Faulty OutOfPlace)) (Faulty BadLine)

abbrev pub words_reading : List Said → List (List ℕ) → LineReading
words_reading before [] = Faulty BadLine
words_reading before (first ∷ words) = keyword_reading before (keyword_of (version_in before) first) words

-- what a line says right behind the lines before it, the newest first; or that it is skipped; or its fault
abbrev pub line_behind : List Said → List ℕ → LineReading
line_behind before line = cond (list_all is_allowed line) (cond (is_skipped line) Skipped (words_reading before (words_of line))) (Faulty BadByte)
