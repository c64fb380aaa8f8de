-- The demonstration: 25 triangles of each of 16 ranks, whose corners lie around a random centre on a display of one tile.
-- The randomness is the permuted congruential generator PCG-XSH-RR with 64 bits of state (O'Neill 2014), on stream 54.
use Rattle.std.specs.Prelude.{ℕ, ◌+◌, ◌*◌, ◌/◌, ◌%◌, ℤ, pos, ◌-ℤ◌, List, [], ◌∷◌, map, false}
use Rattle.std.specs.List.{range_with_len}
use Rattle.rand_pcg.specs.Lcg.{Lcg, advance, increment_of, started}
use Rattle.rand_pcg.specs.Pcg.{multiplier_64, output_xsh_rr}
use Rattle.icet_model.specs.declared.names.Mode.TheVariants.{Depth}
use Rattle.icet_model.specs.Tiles.{TileView}
use Rattle.icet_scene_model.specs.Raster.{Tri}
use Rattle.icet_scene_model.specs.Scene.{Placed, SceneView, clear}
use Rattle.icet_scene_model.specs.Triangles.{Corner, Triangle}
use Rattle.icet_scene_model.specs.declared.limits.TheConstants.{NARROW_CHANNEL}
use Rattle.icet_demo.specs.declared.sizes.TheConstants.{HEIGHT, RANKS, TRIANGLES, WIDTH}

-- the generator of a seed
abbrev pub generator : ℕ → Lcg
generator seed = started 64 multiplier_64 seed (increment_of 64 54)

-- the generator behind so many words
abbrev pub after : ℕ → Lcg → Lcg
after n g = advance 64 multiplier_64 n g

-- word n of those that the generator gives, which have 32 bits
abbrev pub word : Lcg → ℕ → ℕ
word g n = output_xsh_rr (after n g).state

-- a coordinate at most 256 pixels from a centre, in sixteenths of a pixel
abbrev pub near : ℕ → ℕ → ℤ
near center word = pos (16 * center + word % 8192) -ℤ pos 4096

-- a corner around a centre, from six words; it is opaque
abbrev pub corner_from : Lcg → ℕ → ℕ → Corner
corner_from g cx cy = record {
  spot = record { x = near cx (word g 0); y = near cy (word g 1) };
  paint = record { r = word g 3 % 256; g = word g 4 % 256; b = word g 5 % 256; a = NARROW_CHANNEL; z = word g 2 % 16777215 };
}

-- the corners of a triangle around the centre at cx and cy, from 18 words
abbrev pub triangle_around : Lcg → ℕ → ℕ → Triangle
triangle_around g cx cy = record { a = corner_from g cx cy; b = corner_from (after 6 g) cx cy; c = corner_from (after 12 g) cx cy }

-- a triangle from twenty words, of which the first two are its centre
abbrev pub triangle_from : Lcg → Triangle
triangle_from g = triangle_around (after 2 g) (word g 0 % WIDTH) (word g 1 % HEIGHT)

-- shape i of all, and whose it is
abbrev pub placed_from : Lcg → ℕ → Placed
placed_from g i = record { rank = i / TRIANGLES; shape = Tri (triangle_from (after (20 * i) g)) }

-- the one tile
abbrev pub display : TileView
display = record { area = record { x = 0; y = 0; w = WIDTH; h = HEIGHT }; display = 0 }

-- the scene of a seed
abbrev pub demo_scene : ℕ → SceneView
demo_scene seed = record {
  mode = Depth;
  wide = false;
  ranks = RANKS;
  background = clear;
  order = range_with_len 0 RANKS;
  tiles = display ∷ [];
  shapes = map (placed_from (generator seed)) (range_with_len 0 (RANKS * TRIANGLES));
}
