-- Canvases: which positions of a tile are placed, and the tile's pixels.
use Rattle.std.specs.Prelude.{◌≡◌, ℕ, ◌+◌, ◌-◌, ◌*◌, ◌<◌, ◌≤◌, suc, Bool, true, false, cond, ◌||◌, List, [], ◌∷◌, length, get_or, replicate, None}
use Rattle.std.specs.List.{list_any}
use Rattle.icet_model.specs.Pixel.{Pixel}
use Rattle.icet_model.specs.Run.{Piece}
use Rattle.icet_model.specs.Plan.{has_place}
use Rattle.icet_model.specs.declared.limits.TheConstants.{MAX_RANK_PIXELS}
use Rattle.icet_interlace.specs.Interlace.{place}

-- what contracts see of a canvas: for each position whether it was placed, and the pixels, which stand where they
-- are in the picture
pub record CanvasView : Type 0 where
  pub tile : ℕ
  pub w : ℕ
  pub h : ℕ
  pub strands : ℕ
  pub placed : List Bool
  pub pixels : List Pixel

-- a canvas of which nothing was placed
abbrev pub blank_canvas : ℕ → ℕ → ℕ → ℕ → CanvasView
blank_canvas tile w h strands = record { tile = tile; w = w; h = h; strands = strands; placed = replicate (w * h) false; pixels = replicate (w * h) None }

-- the position of pixel i of a canvas
abbrev pub position_of : CanvasView → ℕ → ℕ
position_of c i = place i (c.w * c.h) c.strands

-- a canvas has `w` times `h` positions, at most 67,108,864, and as many pixels
pub record IsCanvas (c : CanvasView) : Type 0 where
  pub most : c.w * c.h ≤ MAX_RANK_PIXELS
  pub strands : 1 ≤ c.strands
  pub places : length c.placed ≡ c.w * c.h
  pub size : length c.pixels ≡ c.w * c.h

-- no position of the piece was placed
abbrev pub IsFree : CanvasView → Piece (List Pixel) → Type 0
IsFree c p = (i : ℕ) → has_place c.tile i p ≡ true → get_or c.placed i false ≡ false

-- every position was placed
abbrev pub IsFull : CanvasView → Type 0
IsFull c = (i : ℕ) → i < c.w * c.h → get_or c.placed i false ≡ true

-- the positions of the piece are placed, each pixel that has one of them is the piece's there, and all others are as
-- before
pub record Places (old new : CanvasView) (p : Piece (List Pixel)) : Type 0 where
  pub tile : new.tile ≡ old.tile
  pub w : new.w ≡ old.w
  pub h : new.h ≡ old.h
  pub strands : new.strands ≡ old.strands
  pub placed : (i : ℕ) → get_or new.placed i false ≡ (has_place old.tile i p || get_or old.placed i false)
  pub pixels : (i : ℕ) → i < old.w * old.h → get_or new.pixels i None ≡
      cond (has_place old.tile (position_of old i) p) (get_or p.content (position_of old i - p.lo) None) (get_or old.pixels i None)

-- how many positions are left
abbrev pub left_in : List Bool → ℕ
left_in [] = 0
left_in (true ∷ xs) = left_in xs
left_in (false ∷ xs) = suc (left_in xs)

-- a canvas counts the positions that are left, and the pixels that have one of them are None
pub record Counts (c : CanvasView) (left : ℕ) : Type 0 where
  pub canvas : IsCanvas c
  pub count : left ≡ left_in c.placed
  pub blank_left : (i : ℕ) → i < c.w * c.h → get_or c.placed (position_of c i) false ≡ false → get_or c.pixels i None ≡ None

-- these pixels of a tile from a position on
abbrev pub stretch : ℕ → ℕ → List Pixel → Piece (List Pixel)
stretch tile at ps = record { tile = tile; lo = at; hi = at + length ps; content = ps }

-- the positions of these pieces are placed and no others, and each pixel with a placed one is the wanted one there
pub record Shows (wanted : ℕ → Pixel) (c : CanvasView) (ps : List (Piece (List Pixel))) : Type 0 where
  pub placed : (i : ℕ) → get_or c.placed i false ≡ list_any (has_place c.tile i) ps
  pub pixels : (i : ℕ) → i < c.w * c.h → get_or c.placed (position_of c i) false ≡ true → get_or c.pixels i None ≡ wanted (position_of c i)

-- each pixel of the piece is the wanted one at its position
abbrev pub HasWanted : (ℕ → Pixel) → Piece (List Pixel) → Type 0
HasWanted wanted p = (i : ℕ) → p.lo ≤ i → i < p.hi → get_or p.content (i - p.lo) None ≡ wanted i
