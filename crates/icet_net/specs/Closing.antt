-- What the close of a net hands out.
use Rattle.std.specs.Prelude.{ℕ, ◌<◌, List, map, length, get_or}
use Rattle.std.specs.List.{range_with_len}
use Rattle.icet_model.specs.declared.names.Mode.{Mode}
use Rattle.icet_model.specs.declared.bracket.Bracket.TheVariants.{Empty}
use Rattle.icet_model.specs.Pixel.{Pixel, DenseView}
use Rattle.icet_model.specs.Bracket.{Images}
use Rattle.icet_model.specs.Plan.{values}
use Rattle.icet_interlace.specs.Interlace.{restored}
use Rattle.icet_rank.specs.Machine.{MachineView, IsDone}
use Rattle.icet_net.specs.Net.{HullView, sides_at}
use Rattle.icet_net.specs.Ranks.{machine_at, mode_of, images_of}
use Rattle.icet_model.specs.Traffic.{PairTraffic, traffic}

-- the picture of a tile: each pixel is the value of the tile's bracket at its position
abbrev pub picture_of : HullView → Mode → Images → ℕ → DenseView
picture_of hull mode images t = record {
  w = (sides_at hull.sides t).0;
  h = (sides_at hull.sides t).1;
  pixels = restored (get_or hull.plan.tiles.sizes t 0) hull.strands (values mode images t 0 (get_or hull.plan.tiles.sizes t 0) (get_or hull.plan.brackets t Empty));
}

-- one picture a tile
abbrev pub pictures_of : HullView → Mode → Images → List DenseView
pictures_of hull mode images = map (picture_of hull mode images) (range_with_len 0 (length hull.sides))

-- what the wires' log grows by: the plan's traffic over the machines' images
abbrev pub traffic_of : HullView → List MachineView → List (PairTraffic (List Pixel))
traffic_of hull machines = traffic (mode_of machines) hull.plan (images_of machines)

-- the rank isn't done, and each lower one is
pub record IsLowestUndone (r : ℕ) (machines : List MachineView) : Type 0 where
  pub within : r < length machines
  pub undone : IsDone (machine_at machines r) → ⊥
  pub lower : (q : ℕ) → q < r → IsDone (machine_at machines q)
