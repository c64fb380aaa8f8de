-- The traffic of a plan: for each ordered pair of ranks that is used, its messages by round, with their pixels.
use Rattle.std.specs.Prelude.{◌≡◌, ℕ, List, [], ◌∷◌, map, length}
use Rattle.std.specs.List.{flat_map, range_with_len}
use Rattle.icet_model.specs.declared.names.Mode.{Mode}
use Rattle.icet_model.specs.Pixel.{Pixel}
use Rattle.icet_model.specs.Run.{MessageView}
use Rattle.icet_model.specs.Flow.{Messages}
use Rattle.icet_model.specs.Bracket.{Images}
use Rattle.icet_model.specs.Plan.{PlanView, values, bracket_flow}
use Rattle.icet_model.specs.Reading.{read_message}
use Rattle.icet_model.specs.Wires.{PortView}

-- all messages of one ordered pair
pub record PairTraffic (T : Type 0) : Type 0 where
  pub from : ℕ
  pub to : ℕ
  pub messages : List (MessageView T)

-- the log's entry of a pair that was closed
abbrev pub closed : ℕ → ℕ → PortView → PairTraffic (List Pixel)
closed from to out = record { from = from; to = to; messages = out.messages }

-- the two ports of the pair from rank q to rank r, all of whose messages were taken
pub record IsTakenPair (q r : ℕ) (out inbox : PortView) : Type 0 where
  pub paired : out.pairing ≡ inbox.pairing
  pub from : out.pairing.from ≡ q
  pub to : out.pairing.to ≡ r
  pub all_taken : length inbox.messages ≡ length out.messages

-- the entry of a pair, and none where it has no message
abbrev pub entry : {T : Type 0} → ℕ → ℕ → List (MessageView T) → List (PairTraffic T)
entry from to [] = []
entry from to (m ∷ ms) = record { from = from; to = to; messages = m ∷ ms } ∷ []

-- one entry for each ordered pair of `ranks` ranks that has messages, ascending by from and then by to
abbrev pub entries : {T : Type 0} → ℕ → Messages T → List (PairTraffic T)
entries ranks ms = flat_map (λ q. flat_map (λ r. entry q r (ms q r)) (range_with_len 0 ranks)) (range_with_len 0 ranks)

-- the messages of the flow, each with the values of its bracket
abbrev pub pixel_messages : Mode → PlanView → Images → Messages (List Pixel)
pixel_messages mode plan images q r = map (read_message (values mode images)) (bracket_flow plan q r)

-- what the wires carry for a plan, and their log grows by
abbrev pub traffic : Mode → PlanView → Images → List (PairTraffic (List Pixel))
traffic mode plan images = entries (length plan.programs) (pixel_messages mode plan images)
