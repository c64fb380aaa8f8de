-- What holds of binary-swap, said as types.
use Rattle.std.specs.Prelude.{ℕ, ◌+◌, ◌<◌, ◌≤◌}
use Rattle.icet_model.specs.Exchange.{exchanges}
use Rattle.icet_legs.specs.Collect.{OneHolds}
use Rattle.icet_legs.specs.Powers.{floor_log2}
use Rattle.icet_legs.specs.Sends.{send_count, sent_positions}
use Rattle.icet_legs.specs.Team.{Team, IsTeam}
use Rattle.icet_bswap.specs.Bswap.{bswap_finals, bswap_strategy}

-- after the last swap each position of the tile is held by exactly one participant
abbrev pub EachPositionIsHeldOnce : Type 0
EachPositionIsHeldOnce = (g : Team) (shows : ℕ) → IsTeam g → shows < g.n → (x : ℕ) → x < g.size → OneHolds g.n (bswap_finals g shows) x

-- a participant sends in all no more positions than the tile has
abbrev pub SendsAtMostTheTile : Type 0
SendsAtMostTheTile =
    (g : Team) (shows p : ℕ) → IsTeam g → shows < g.n → p < g.n → sent_positions (exchanges (bswap_strategy.program g shows p)) ≤ g.size

-- and one message more than the number of participants has halvings
abbrev pub SendsFewMessages : Type 0
SendsFewMessages =
    (g : Team) (shows p : ℕ) → IsTeam g → shows < g.n → p < g.n → send_count (exchanges (bswap_strategy.program g shows p)) ≤ floor_log2 g.n + 1
