-- The final pieces of the tree as a list.
use Rattle.std.specs.Prelude.{◌≡◌, ℕ, ◌<◌, ◌==◌, cond, List, Option, Some, None, get_or, length}
use Rattle.icet_legs.specs.declared.range.Range.{Range}

-- the participant at position 0 has all pixels, and no other has any
pub record AreTreeRanges (n pixels : ℕ) (ranges : List (Option Range)) : Type 0 where
  pub count : length ranges ≡ n
  pub are : (a : ℕ) → a < n → get_or ranges a None ≡ cond (a == 0) (Some (record { lo = 0; hi = pixels })) None
