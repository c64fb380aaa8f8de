-- Counting a picture pixel by pixel.
use Rattle.std.specs.Prelude.{ℕ, ◌+◌, ◌*◌, ◌≤◌}
use Rattle.icet_model.specs.Pixel.{Pixel}
use Rattle.icet_summary.specs.Summaries.{Finish, blank_of, sample_of}
use Rattle.icet_summary.specs.declared.tally.Tally.{Tally}

-- the tally with one pixel more
abbrev pub with_pixel : Finish → Pixel → Tally → Tally
with_pixel f pixel all = record {
  blank = all.blank + blank_of pixel;
  red = all.red + sample_of f 0 pixel;
  green = all.green + sample_of f 1 pixel;
  blue = all.blue + sample_of f 2 pixel;
  alpha = all.alpha + sample_of f 3 pixel;
}

-- no more than so many pixels can have been counted
pub record IsAtMost (count : ℕ) (all : Tally) : Type 0 where
  pub blank : all.blank ≤ count
  pub red : all.red ≤ 65535 * count
  pub green : all.green ≤ 65535 * count
  pub blue : all.blue ≤ 65535 * count
  pub alpha : all.alpha ≤ 65535 * count

-- one pixel more can be counted
abbrev pub HasRoom : Tally → Type 0
HasRoom all = IsAtMost 268435456 all
