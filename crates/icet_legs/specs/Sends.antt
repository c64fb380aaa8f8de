-- How much a rank sends: the number of its messages, and of their positions.
use Rattle.std.specs.Prelude.{ℕ, ◌+◌, ◌-◌, List, [], ◌∷◌}
use Rattle.icet_model.specs.declared.exchange.Kind.{Kind}
use Rattle.icet_model.specs.declared.exchange.Kind.TheVariants.{Send, Take}
use Rattle.icet_model.specs.declared.exchange.Exchange.{Exchange}

abbrev pub if_sent : Kind → ℕ → ℕ
if_sent Send n = n
if_sent Take n = 0

abbrev pub send_count : List Exchange → ℕ
send_count [] = 0
send_count (e ∷ es) = if_sent e.kind 1 + send_count es

abbrev pub sent_positions : List Exchange → ℕ
sent_positions [] = 0
sent_positions (e ∷ es) = if_sent e.kind (e.hi - e.lo) + sent_positions es
