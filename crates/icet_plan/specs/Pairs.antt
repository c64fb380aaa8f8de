-- A number for each ordered pair of ranks, in one list.
use Rattle.std.specs.Prelude.{◌≡◌, ◌≢◌, ℕ, ◌+◌, ◌*◌, ◌<◌, ◌⊎◌, List, get_or}

pub record PairsView : Type 0 where
  pub ranks : ℕ
  pub counts : List ℕ

-- the number of the pair
abbrev pub count_at : PairsView → ℕ → ℕ → ℕ
count_at p from to = get_or p.counts (from * p.ranks + to) 0

-- the number of one pair rose by 1, and those of all others are as before
pub record Raised (old new : PairsView) (from to : ℕ) : Type 0 where
  pub same_ranks : new.ranks ≡ old.ranks
  pub here : count_at new from to ≡ count_at old from to + 1
  pub elsewhere : (q r : ℕ) → q < old.ranks → r < old.ranks → (q ≢ from) ⊎ (r ≢ to) → count_at new q r ≡ count_at old q r
