-- Sends, counted by receiver.
use Rattle.std.specs.Prelude.{◌≡◌, ℕ, ◌+◌, ◌<◌, List, [], ◌∷◌, length, get_or, filter}
use Rattle.icet_model.specs.declared.exchange.Exchange.{Exchange}
use Rattle.icet_model.specs.Exchange.{sends_to}
use Rattle.icet_model.specs.Plan.{PlanView}
use Rattle.icet_net.specs.Net.{messages_on}

-- how many of the exchanges are sends to rank r
abbrev pub sent_in : List Exchange → ℕ → ℕ
sent_in es r = length (filter (sends_to r) es)

-- the exchange is counted for its peer, if it is a send
pub record Counts (e : Exchange) (old new : List ℕ) : Type 0 where
  pub count : length new ≡ length old
  pub each : (r : ℕ) → r < length old → get_or new r 0 ≡ get_or old r 0 + sent_in (e ∷ []) r

-- how many messages rank q sends to each rank
abbrev pub AreCounts : PlanView → ℕ → List ℕ → Type 0
AreCounts plan q counts = (r : ℕ) → r < length plan.programs → get_or counts r 0 ≡ messages_on plan q r
