-- The orders in which ranks are asked for.
use Rattle.std.specs.Prelude.{ℕ, ◌≡◌, ◌≢◌, ◌<◌, All, AllPairs, List, length}

-- the order holds each rank below `ranks` exactly once
pub record HasEachOnce (ranks : ℕ) (order : List ℕ) : Type 0 where
  pub count : length order ≡ ranks
  pub below : All (λ rank. rank < ranks) order
  pub distinct : AllPairs (λ one other. one ≢ other) order
