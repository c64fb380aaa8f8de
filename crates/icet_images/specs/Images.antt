-- The full image of a tile as a piece, and an image of which only a part isn't blank.
use Rattle.std.specs.Prelude.{ℕ, ◌+◌, ◌-◌, ◌*◌, ◌≤◌, List, ◌++◌, take, drop, replicate, None}
use Rattle.std.specs.List.{flat_map, range_with_len}
use Rattle.icet_model.specs.declared.names.Mode.{Mode}
use Rattle.icet_model.specs.Pixel.{Pixel}
use Rattle.icet_model.specs.Run.{Piece}
use Rattle.icet_model.specs.Tiles.{Area}
use Rattle.icet_scene_model.specs.Raster.{Drawing, full_image}
use Rattle.icet_raster.specs.declared.cut.Part.{Part}
use Rattle.icet_images.specs.declared.framing.Margins.{Margins}

-- a whole image of tile t as a piece
abbrev pub full_piece : Mode → List Drawing → Area → ℕ → Piece (List Pixel)
full_piece mode shapes area t = record { tile = t; lo = 0; hi = area.w * area.h; content = full_image mode shapes area }

-- where a part of an area lies
abbrev pub part_area : Area → Part → Area
part_area area part = record { x = area.x + part.from; y = area.y + part.top; w = part.to - part.from; h = part.bottom - part.top }

-- some rows of an area, the last not included
abbrev pub rows_area : Area → ℕ → ℕ → Area
rows_area area top bottom = record { x = area.x; y = area.y + top; w = area.w; h = bottom - top }

-- the part has columns and rows of an image of this size
pub record IsPartWithin (w h : ℕ) (part : Part) : Type 0 where
  pub columns : part.from ≤ part.to
  pub width : part.to ≤ w
  pub rows : part.top ≤ part.bottom
  pub height : part.bottom ≤ h

-- a row between blank pixels
abbrev pub framed_row : Margins → List Pixel → List Pixel
framed_row m row = replicate m.left None ++ (row ++ replicate m.right None)

-- rows that stand one behind the other, each between blank pixels
abbrev pub framed_rows : Margins → ℕ → List Pixel → List Pixel
framed_rows m rows ps = flat_map (λ j. framed_row m (take m.width (drop (j * m.width) ps))) (range_with_len 0 rows)

-- the margins of a part of an image of this width
abbrev pub margins_of : ℕ → Part → Margins
margins_of w part = record { left = part.from; width = part.to - part.from; right = w - part.to }

-- the pixels of a part, and blank ones around it
abbrev pub framed_image : ℕ → ℕ → Part → List Pixel → List Pixel
framed_image w h part ps = replicate (part.top * w) None ++ framed_rows (margins_of w part) (part.bottom - part.top) ps ++ replicate ((h - part.bottom) * w) None
