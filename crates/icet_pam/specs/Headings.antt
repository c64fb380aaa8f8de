-- The header at the front of bytes, read part by part, each with what is behind it.
use Rattle.std.specs.Prelude.{ℕ, ◌≡◌, ◌==◌, nat_eq, Bool, false, true, if◌then◌else◌, List, ◌++◌, length, Option, Some, None, option_map, codes, take, drop}
use Rattle.std.specs.Cmp.Lexicographic.{pointwise}
use Rattle.std.specs.List.{position}
use Rattle.std.specs.Option.{option_and_then}
use Rattle.icet_model.specs.declared.limits.TheConstants.{MAX_SIDE}
use Rattle.icet_text.specs.Numerals.{natural_in}
use Rattle.icet_scene_model.specs.Picture.{header, header_end}
use Rattle.icet_scene_model.specs.ReadPicture.{IsPictureSide}
use Rattle.icet_pam.specs.declared.heading.Shape.{Shape}

-- what is behind this front
abbrev pub behind : List ℕ → List ℕ → Option (List ℕ)
behind front bytes = if pointwise nat_eq (take (length front) bytes) front then Some (drop (length front) bytes) else None

-- the side whose numeral the first newline ends
abbrev pub side_at : List ℕ → ℕ → Option (ℕ × List ℕ)
side_at bytes at = option_map (λ side. (side, drop at bytes)) (natural_in (1, MAX_SIDE) (take at bytes))

abbrev pub side_in : List ℕ → Option (ℕ × List ℕ)
side_in bytes = option_and_then (side_at bytes) (position (λ byte. byte == 10) bytes)

-- the side behind its name
abbrev pub named_side : List ℕ → List ℕ → Option (ℕ × List ℕ)
named_side name bytes = option_and_then side_in (behind name bytes)

abbrev pub end_of : Option (List ℕ) → Option (List ℕ) → Option (Bool × List ℕ)
end_of (Some rest) wide = Some (false, rest)
end_of None wide = option_map (λ rest. (true, rest)) wide

-- whether the samples take two bytes, by the header's last lines
abbrev pub end_in : List ℕ → Option (Bool × List ℕ)
end_in bytes = end_of (behind (header_end false) bytes) (behind (header_end true) bytes)

abbrev pub ending : ℕ → ℕ → List ℕ → Option (Shape × List ℕ)
ending w h bytes = option_map (λ found. (record { w = w; h = h; wide = found.0 }, found.1)) (end_in bytes)

abbrev pub height_in : ℕ → List ℕ → Option (Shape × List ℕ)
height_in w bytes = option_and_then (λ found. ending w found.0 found.1) (named_side (codes "\nHEIGHT ") bytes)

-- the header's picture, and what is behind the header
abbrev pub heading_in : List ℕ → Option (Shape × List ℕ)
heading_in bytes = option_and_then (λ found. height_in found.0 found.1) (named_side (codes "P7\nWIDTH ") bytes)

-- the bytes are this header, and then the rest
pub record HasHeader (bytes : List ℕ) (shape : Shape) (rest : List ℕ) : Type 0 where
  pub width : IsPictureSide shape.w
  pub height : IsPictureSide shape.h
  pub text : bytes ≡ header shape.wide shape.w shape.h ++ rest
