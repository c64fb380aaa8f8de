-- Programs whose messages go together, so that no rank waits for a message that nobody sends.
use Rattle.std.specs.Prelude.{◌≡◌, ◌≢◌, ℕ, ◌<◌, List, map, length, filter, AllPairs}
use Rattle.std.specs.List.{AllByRecursion}
use Rattle.icet_model.specs.declared.exchange.Exchange.{Exchange}
use Rattle.icet_model.specs.Exchange.{sends_to, takes_from, IsRising, heading, of_rank}

-- the peer is another rank of the plan
pub record HasPeerIn (ranks me : ℕ) (e : Exchange) : Type 0 where
  pub within : e.peer < ranks
  pub other : e.peer ≢ me

-- `all` has the exchanges of each rank, in the order of its program
pub record IsMatched (all : List (List Exchange)) : Type 0 where
  -- along each program keys never fall, and exchanges of equal key have different peers
  pub rising : (r : ℕ) → IsRising (of_rank all r)
  -- each peer is another rank of the plan
  pub peers : (r : ℕ) → AllByRecursion (HasPeerIn (length all) r) (of_rank all r)
  -- each ordered pair has at most one message in a round
  pub one_a_round : (q r : ℕ) → AllPairs (λ e f. e.round ≢ f.round) (filter (sends_to r) (of_rank all q))
  -- a pair has as many takes as sends, and the k-th take has the round, tile and range of the k-th send
  pub pairs : (q r : ℕ) → map heading (filter (sends_to r) (of_rank all q)) ≡ map heading (filter (takes_from q) (of_rank all r))
