-- What is left to do in a net, and what a drive keeps from one turn to the next.
use Rattle.std.specs.Prelude.{ℕ, ◌+◌, ◌-◌, ◌<◌, List, [], ◌∷◌, length}
use Rattle.icet_model.specs.Exchange.{exchanges}
use Rattle.icet_rank.specs.Machine.{MachineView, IsDone}
use Rattle.icet_net.specs.Net.{HullView}
use Rattle.icet_net.specs.Ranks.{machine_at, AreHulls, EachRank, ComesOn}

-- how many exchanges the machines have left
abbrev pub left_of : List MachineView → ℕ
left_of [] = 0
left_of (m ∷ ms) = (length (exchanges m.ops) - m.counter) + left_of ms

-- a machine isn't done
pub record SomeUndone (machines : List MachineView) : Type 0 where
  pub rank : ℕ
  pub within : rank < length machines
  pub undone : IsDone (machine_at machines rank) → ⊥

-- the machines are still the hull's, and none has undone an exchange
pub record DrivesOn (hull : HullView) (old new : List MachineView) : Type 0 where
  pub hulls : AreHulls hull new
  pub comes_on : EachRank ComesOn old new
