-- The fields of the lines of a scene's text: which numbers each word may be.
use Rattle.std.specs.Prelude.{ℕ, ◌+◌, ◌-◌, List, [], ◌∷◌, ◌++◌, cond, ◌==◌, true, false}
use Rattle.icet_model.specs.declared.limits.TheConstants.{MAX_PLACE, MAX_SIDE, MAX_DEPTH, MAX_RANKS, MAX_TILES}
use Rattle.icet_scene_model.specs.declared.limits.TheConstants.{FIRST_VERSION_RANKS, FIRST_VERSION_TILES}
use Rattle.icet_text.specs.declared.field.Field.{Field}

-- from a least to a greatest number, without a sign
abbrev pub from_to : ℕ → ℕ → Field
from_to least greatest = record { is_signed = false; least = least; greatest = greatest }

abbrev pub version_field : Field
version_field = from_to 1 2

-- how many ranks a scene of a version may have
abbrev pub most_ranks : ℕ → ℕ
most_ranks version = cond (version == 2) MAX_RANKS FIRST_VERSION_RANKS

-- how many tiles a scene of a version may have
abbrev pub most_tiles : ℕ → ℕ
most_tiles version = cond (version == 2) MAX_TILES FIRST_VERSION_TILES

-- a rank of so many
abbrev pub rank_field : ℕ → Field
rank_field ranks = from_to 0 (ranks - 1)

-- a pixel's column or row
abbrev pub place_field : Field
place_field = from_to 0 MAX_PLACE

-- a width or a height
abbrev pub side_field : Field
side_field = from_to 1 MAX_SIDE

-- a corner's coordinate in sixteenths of a pixel
abbrev pub coordinate_field : Field
coordinate_field = record { is_signed = true; least = 0; greatest = 262143 }

-- red, green, blue or alpha, up to the greatest
abbrev pub channel_field : ℕ → Field
channel_field most = from_to 0 most

-- r, g, b and a
abbrev pub colour_fields : ℕ → List Field
colour_fields most = channel_field most ∷ channel_field most ∷ channel_field most ∷ channel_field most ∷ []

-- z, and then the colour
abbrev pub paint_fields : ℕ → List Field
paint_fields most = from_to 0 MAX_DEPTH ∷ colour_fields most

-- x, y, w, h and the display rank
abbrev pub tile_fields : ℕ → List Field
tile_fields ranks = place_field ∷ place_field ∷ side_field ∷ side_field ∷ rank_field ranks ∷ []

-- where a point or a span of a rank stands: the rank, x and y
abbrev pub stand_fields : ℕ → List Field
stand_fields ranks = rank_field ranks ∷ place_field ∷ place_field ∷ []

abbrev pub point_fields : ℕ → ℕ → List Field
point_fields ranks most = rank_field ranks ∷ place_field ∷ place_field ∷ paint_fields most

-- x and y of a corner, and then its paint
abbrev pub corner_fields : ℕ → List Field
corner_fields most = coordinate_field ∷ coordinate_field ∷ paint_fields most

abbrev pub tri_fields : ℕ → ℕ → List Field
tri_fields ranks most = rank_field ranks ∷ (corner_fields most ++ (corner_fields most ++ corner_fields most))
