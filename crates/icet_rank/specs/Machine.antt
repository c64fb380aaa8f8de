-- What a rank's machine holds at a place of its program.
use Rattle.std.specs.Prelude.{◌≡◌, ◌≢◌, ◌≤◌, ◌<◌, ◌^◌, ℕ, zero, suc, List, [], ◌∷◌, map, Option, Some, length, take, drop, filter, slice_get, IfSome}
use Rattle.std.specs.List.{AllByRecursion}
use Rattle.icet_model.specs.declared.names.Mode.{Mode}
use Rattle.icet_model.specs.declared.exchange.Op.{Op}
use Rattle.icet_model.specs.declared.exchange.Op.TheVariants.{Load, Blank, Cut, Join, Swap, Keep}
use Rattle.icet_model.specs.Pixel.{Pixel}
use Rattle.icet_model.specs.Exchange.{sends_to, takes_from, of_op, exchanges}
use Rattle.icet_model.specs.Run.{Carrier, Piece, fresh}
use Rattle.icet_model.specs.Plan.{pixel_carrier}
use Rattle.icet_model.specs.Ports.{at_list, messages_to, room_to, AreAscending, IsAt}
use Rattle.icet_model.specs.Wires.{PixelMessage, PortView}
use Rattle.icet_rank.specs.Fits.{AllFitAnyDisplay}

-- the slots that an operation names are below n
abbrev pub Names : ℕ → Op → Type 0
Names n (Load tile slot) = slot < n
Names n (Blank tile slot) = slot < n
Names n (Cut slot at into) = (slot < n) × (into < n)
Names n (Join front back into) = (front < n) × (back < n) × (into < n)
Names n (Swap e slot) = slot < n
Names n (Keep slot) = slot < n

-- each tile's number of pixels
abbrev pub sizes_of : List (Piece (List Pixel)) → List ℕ
sizes_of images = map (λ p. p.hi) images

-- the pixels of the rank's own image of a tile
abbrev pub content_at : List (Piece (List Pixel)) → ℕ → List Pixel
content_at [] t = []
content_at (p ∷ ps) zero = p.content
content_at (p ∷ ps) (suc t) = content_at ps t

-- lists of pixels as contents, with a rank's own images
abbrev pub carrier_of : Mode → List (Piece (List Pixel)) → Carrier (List Pixel)
carrier_of mode images = pixel_carrier mode (sizes_of images) (content_at images)

-- image t is the whole of tile t
pub record AreImages (images : List (Piece (List Pixel))) : Type 0 where
  pub each : (t : ℕ) (p : Piece (List Pixel)) → slice_get images t ≡ Some p → (p.tile ≡ t) × (p.lo ≡ 0)

-- what contracts see of a machine
pub record MachineView : Type 0 where
  pub number : ℕ
  pub mode : Mode
  pub ops : List Op
  pub place : ℕ
  pub counter : ℕ
  pub images : List (Piece (List Pixel))
  pub slots : List (Option (Piece (List Pixel)))
  pub kept : List (Piece (List Pixel))
  pub inboxes : List (ℕ × PortView)
  pub outboxes : List (ℕ × PortView)

-- the next operation is an exchange, or none is left
abbrev pub IsReady : MachineView → Type 0
IsReady m = IfSome (slice_get m.ops m.place) (λ op. of_op op ≢ [])

abbrev pub IsDone : MachineView → Type 0
IsDone m = m.place ≡ length m.ops

-- a rank's run at a place of its program: `c` makes its contents, `me` is its number
pub record Runs (sizes : List ℕ) (c : Carrier (List Pixel)) (me : ℕ) (ops : List Op) (place counter : ℕ) (slots : List (Option (Piece (List Pixel)))) (kept : List (Piece (List Pixel))) (inboxes outboxes : List (ℕ × PortView)) : Type 0 where
  -- slots, kept pieces and what was sent are the local run's up to the place, on what was taken
  pub is_at : IsAt c me ops place (messages_to inboxes) (at_list slots) kept (messages_to outboxes)
  pub within : place ≤ length ops
  -- the counter is the number of exchanges before the place
  pub count : counter ≡ length (exchanges (take place ops))
  pub in_ascend : AreAscending inboxes
  pub out_ascend : AreAscending outboxes
  -- a port's room is the number of exchanges through it from the place on
  pub in_rooms : (q : ℕ) → room_to inboxes q ≡ length (filter (takes_from q) (exchanges (drop place ops)))
  pub out_rooms : (r : ℕ) → room_to outboxes r ≡ length (filter (sends_to r) (exchanges (drop place ops)))
  -- whatever is taken, each operation fits
  pub fits : (t : ℕ → List PixelMessage) → AllFitAnyDisplay sizes c me t ops fresh
  pub named : AllByRecursion (Names (length slots)) ops

-- what a machine keeps at each moment
pub record IsRunning (m : MachineView) : Type 0 where
  pub runs : Runs (sizes_of m.images) (carrier_of m.mode m.images) m.number m.ops m.place m.counter m.slots m.kept m.inboxes m.outboxes
  pub images : AreImages m.images
  pub short : length m.ops < 2 ^ 32

-- what a machine may be made of
pub record IsReadyToRun (number : ℕ) (mode : Mode) (ops : List Op) (images : List (Piece (List Pixel))) (inboxes outboxes : List (ℕ × PortView)) : Type 0 where
  pub whole : AreImages images
  -- whatever is taken, each operation fits
  pub fits : (t : ℕ → List PixelMessage) → AllFitAnyDisplay (sizes_of images) (carrier_of mode images) number t ops fresh
  pub in_ascend : AreAscending inboxes
  pub out_ascend : AreAscending outboxes
  -- the room of each port is the number of exchanges through it, so each peer of the program has a port
  pub in_rooms : (q : ℕ) → room_to inboxes q ≡ length (filter (takes_from q) (exchanges ops))
  pub out_rooms : (r : ℕ) → room_to outboxes r ≡ length (filter (sends_to r) (exchanges ops))
  -- nothing went through a port yet
  pub none_taken : AllByRecursion (λ e. e.1.messages ≡ []) inboxes
  pub none_sent : AllByRecursion (λ e. e.1.messages ≡ []) outboxes

-- a machine that has done nothing yet
pub record IsAtStart (me : ℕ) (how : Mode) (program : List Op) (own : List (Piece (List Pixel))) (in_ports out_ports : List (ℕ × PortView)) (m : MachineView) : Type 0 where
  pub number : m.number ≡ me
  pub mode : m.mode ≡ how
  pub ops : m.ops ≡ program
  pub place : m.place ≡ 0
  pub counter : m.counter ≡ 0
  pub images : m.images ≡ own
  pub kept : m.kept ≡ []
  pub inboxes : m.inboxes ≡ in_ports
  pub outboxes : m.outboxes ≡ out_ports

-- what contracts see of what a machine hands out
pub record PartsView : Type 0 where
  pub kept : List (Piece (List Pixel))
  pub inboxes : List (ℕ × PortView)
  pub outboxes : List (ℕ × PortView)

abbrev pub parts_of : MachineView → PartsView
parts_of m = record { kept = m.kept; inboxes = m.inboxes; outboxes = m.outboxes }
