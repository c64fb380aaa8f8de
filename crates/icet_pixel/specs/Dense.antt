-- Dense images.
use Rattle.std.specs.Prelude.{◌≡◌, ◌*◌, ◌<◌, ◌≤◌, ◌^◌, length}
use Rattle.icet_model.specs.Pixel.{DenseView}

-- a dense image has a pixel for each place of its rectangle, at most 268,435,456 in all
pub record IsDense (d : DenseView) : Type 0 where
  pub size : length d.pixels ≡ d.w * d.h
  pub most : d.w * d.h ≤ 268435456
  pub width : d.w < 2 ^ 32
  pub height : d.h < 2 ^ 32
