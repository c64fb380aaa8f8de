-- What a text is: a scene, or the fault that refuses it.
use Rattle.std.specs.Prelude.{ℕ, ◌+◌, Bool, nat_lt, cond, if◌then◌else◌, List, [], ◌∷◌, length, Option, Some, None}
use Rattle.icet_model.specs.declared.limits.TheConstants.{MAX_SCENE_BYTES, MAX_RANK_PIXELS}
use Rattle.icet_text.specs.Lines.{lines_of}
use Rattle.icet_scene_model.specs.Scene.{SceneView, Said, place_behind, blends_in, scene_in, rank_pixels, fault_at}
use Rattle.icet_scene_model.specs.SceneLines.{LineReading, Skipped, Says, Faulty, line_behind}
use Rattle.icet_scene_model.specs.declared.keyword.Place.{Place}
use Rattle.icet_scene_model.specs.declared.keyword.Place.TheVariants.{Start, BehindHead, BehindMode, BehindRanks, BehindMaxval, BehindBackground, BehindOrder, BehindTile, BehindShape, BehindEnd}
use Rattle.icet_scene_model.specs.declared.fault.Want.{Want}
use Rattle.icet_scene_model.specs.declared.fault.Want.TheVariants.{Head, Mode, Ranks, Order, Tile, End}
use Rattle.icet_scene_model.specs.declared.fault.SceneFault.{SceneFault}
use Rattle.icet_scene_model.specs.declared.fault.SceneFault.TheVariants.{TooLong, Missing, TooLarge}

pub data Text : Type 0 where
  SceneText : (scene : SceneView) → Text
  Refused : (fault : SceneFault) → Text

-- what has to come behind `ranks`, `maxval` or `background`
abbrev pub opening : Bool → Option Want
opening blends = if blends then Some Order else Some Tile

-- what has to come next at a place; nothing behind `end`
abbrev pub wanted : Place → Bool → Option Want
wanted Start blends = Some Head
wanted BehindHead blends = Some Mode
wanted BehindMode blends = Some Ranks
wanted BehindRanks blends = opening blends
wanted BehindMaxval blends = opening blends
wanted BehindBackground blends = opening blends
wanted BehindOrder blends = Some Tile
wanted BehindTile blends = Some End
wanted BehindShape blends = Some End
wanted BehindEnd blends = None

abbrev pub sized : SceneView → Text
sized scene = cond (nat_lt MAX_RANK_PIXELS (rank_pixels scene)) (Refused TooLarge) (SceneText scene)

abbrev pub unless_wanted : Option Want → SceneView → Text
unless_wanted None scene = sized scene
unless_wanted (Some want) scene = Refused (Missing want)

-- where the lines end
abbrev pub ended : List Said → Text
ended before = unless_wanted (wanted (place_behind before) (blends_in before)) (scene_in before)

-- a faulty line refuses the text; behind another one the next lines are read
abbrev pub go_on : LineReading → ℕ → List Said → (List Said → Text) → Text
go_on Skipped number before next = next before
go_on (Says said) number before next = next (said ∷ before)
go_on (Faulty fault) number before next = Refused (fault_at number fault)

-- the lines from the one with this number on, behind those before it, the newest first
abbrev pub text_behind : List Said → ℕ → List (List ℕ) → Text
text_behind before number [] = ended before
text_behind before number (line ∷ lines) = go_on (line_behind before line) number before (λ said. text_behind said (number + 1) lines)

-- a text of more bytes than a scene may have is too long, whatever is in it
abbrev pub text_is : List ℕ → Text
text_is bytes = cond (nat_lt MAX_SCENE_BYTES (length bytes)) (Refused TooLong) (text_behind [] 1 (lines_of bytes))
