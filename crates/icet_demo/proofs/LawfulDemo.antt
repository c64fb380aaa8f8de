-- The demonstration is a lawful scene, whatever the words are.
use Rattle.std.proofs.Common.{◌≡◌, ℕ, zero, suc, ◌+◌, ◌*◌, ◌/◌, ◌%◌, ◌<◌, ◌≤◌, pos, ◌-ℤ◌, unsigned_abs, false, List, [], ◌∷◌, map, refl, sym, ap, ◌∙◌, arith}
use Rattle.std.proofs.lemmas.Int.{ints}
use Rattle.std.proofs.lemmas.List.Elements.{All-nil, All-cons, All-map}
use Rattle.std.specs.Prelude.{All, AllPairs}
use Rattle.std.specs.List.{range_with_len}
use Rattle.rand_pcg.specs.Lcg.{Lcg}
use Rattle.icet_model.specs.Tiles.{IsOnDisplay, TileView}
use Rattle.icet_scene.proofs.Ends.{each_of}
use Rattle.icet_scene.specs.Scenes.{IsLawfulScene}
use Rattle.icet_scene_model.specs.Lawful.{IsPainted, IsPaintedCorner}
use Rattle.icet_scene_model.specs.Scene.{Placed}
use Rattle.icet_demo.specs.Demonstration.{after, corner_from, demo_scene, display, generator, near, placed_from, word}

all_in : (P : ℕ → Type 0) (first n : ℕ) → ((r : ℕ) → r < first + n → P r) → All P (range_with_len first n)
all_in P first zero h = All-nil P
all_in P first (suc n) h = All-cons P first (range_with_len (first + 1) n) (h first (omega arith)) (all_in P (first + 1) n (λ r b. h r (omega (arith, b))))

-- a coordinate around a centre on the display lies on the plane
near_plane : (center n : ℕ) → center < 1920 → unsigned_abs (near center n) ≤ 262143
near_plane center n h = omega (arith, ints)

channel : (n : ℕ) → n % 256 ≤ 255
channel n = omega arith

corner_painted : (g : Lcg) (cx cy : ℕ) → cx < 1920 → cy < 1920 → IsPaintedCorner 255 (corner_from g cx cy)
corner_painted g cx cy hx hy = record {
  x = near_plane cx (word g 0) hx;
  y = near_plane cy (word g 1) hy;
  paint = record {
    fragment = record { r_within = channel (word g 3); g_within = channel (word g 4); b_within = channel (word g 5); a_within = omega arith; z_within = omega arith };
    within = omega arith;
  };
}

shape_painted : (g : Lcg) (i : ℕ) → IsPainted 255 (placed_from g i).shape
shape_painted g i =
    let h = after (20 * i) g in
    let x : word h 0 % 1920 < 1920 = omega arith in
    let y : word h 1 % 1080 < 1920 = omega arith in
    record { a = corner_painted (after 2 h) _ _ x y; b = corner_painted (after 6 (after 2 h)) _ _ x y; c = corner_painted (after 12 (after 2 h)) _ _ x y }

pub demo_lawful : (seed : ℕ) → IsLawfulScene (demo_scene seed)
demo_lawful seed = let g = generator seed in record {
  mode_is = refl;
  some = omega arith;
  few = omega arith;
  depth = refl;
  paint = record { fragment = record { r_within = omega arith; g_within = omega arith; b_within = omega arith; a_within = omega arith; z_within = omega arith }; within = omega arith };
  each = each_of false 16 (range_with_len 0 16) [] (λ e. absurd cc) refl;
  ascending = λ m. refl;
  layout = record {
    some = omega arith;
    few = omega arith;
    inside = All-cons (λ (tile : TileView). IsOnDisplay tile.area) display [] (record { x = omega arith; y = omega arith; w = omega arith; h = omega arith; right = omega arith; bottom = omega arith }) (All-nil (λ (tile : TileView). IsOnDisplay tile.area));
    distinct = λ i j d l m. absurd (omega (arith, l, m));
  };
  displays = All-cons (λ (tile : TileView). tile.display < 16) display [] (omega arith) (All-nil (λ (tile : TileView). tile.display < 16));
  drawers = All-map (λ (placed : Placed). placed.rank < 16) (placed_from g) (range_with_len 0 400) (all_in (λ i. i / 25 < 16) 0 400 (λ i b. omega (arith, b)));
  painted = All-map (λ (placed : Placed). IsPainted 255 placed.shape) (placed_from g) (range_with_len 0 400) (all_in (λ i. IsPainted 255 (placed_from g i).shape) 0 400 (λ i b. shape_painted g i));
  small = omega arith;
}
