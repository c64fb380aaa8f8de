-- The flow of a plan: the messages that all ranks send when each takes what is sent to it.
use Rattle.std.specs.Prelude.{◌≡◌, ℕ, zero, suc, ◌+◌, List, [], ◌∷◌, get_or}
use Rattle.icet_model.specs.declared.exchange.Exchange.{Exchange}
use Rattle.icet_model.specs.declared.exchange.Op.{Op}
use Rattle.icet_model.specs.Exchange.{key, exchanges}
use Rattle.icet_model.specs.Run.{Carrier, MessageView, Local, fresh, run}

-- the messages of all ranks, by sender and receiver
abbrev pub Messages : Type 0 → Type 0
Messages T = ℕ → ℕ → List (MessageView T)

-- what rank q sends to rank r, where each rank takes what is given; each rank has its own carrier
abbrev pub outputs : {T : Type 0} → (ℕ → Carrier T) → (ℕ → List Op) → Messages T → Messages T
outputs c programs ms q r = (run (c q) q (λ p. ms p q) (programs q) fresh).sent r

-- messages that come out as they go in; a matched plan has exactly one such family
abbrev pub IsFlow : {T : Type 0} → (ℕ → Carrier T) → (ℕ → List Op) → Messages T → Type 0
IsFlow c programs ms = (q r : ℕ) → ms q r ≡ outputs c programs ms q r

-- starting from no messages, what comes out goes in again, so often
abbrev pub rounds : {T : Type 0} → (ℕ → Carrier T) → (ℕ → List Op) → ℕ → Messages T
rounds c programs zero = λ q r. []
rounds c programs (suc n) = outputs c programs (rounds c programs n)

-- the program of a rank; one beyond the list has the empty one
abbrev pub program : List (List Op) → ℕ → List Op
program programs r = get_or programs r []

-- more than each key of these exchanges
abbrev pub keys_end : List Exchange → ℕ
keys_end [] = 0
keys_end (e ∷ es) = suc (key e) + keys_end es

abbrev pub all_keys_end : List (List Op) → ℕ
all_keys_end [] = 0
all_keys_end (ops ∷ programs) = keys_end (exchanges ops) + all_keys_end programs

-- the flow: each round of local runs settles the messages of one key more
abbrev pub flow : {T : Type 0} → (ℕ → Carrier T) → List (List Op) → Messages T
flow c programs = rounds c (program programs) (suc (all_keys_end programs))

-- where rank r stands after its whole program
abbrev pub end_of : {T : Type 0} → (ℕ → Carrier T) → List (List Op) → Messages T → ℕ → Local T
end_of c programs ms r = run (c r) r (λ p. ms p r) (program programs r) fresh
