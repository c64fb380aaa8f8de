-- When machines are the ranks of a hull, and what calls on them leave.
use Rattle.std.specs.Prelude.{◌≡◌, ℕ, ◌+◌, ◌<◌, ◌≤◌, List, [], ◌++◌, map, length, get_or, Some, slice_get, ◌⊎◌}
use Rattle.std.specs.List.{AllByRecursion}
use Rattle.icet_model.specs.declared.names.Mode.{Mode}
use Rattle.icet_model.specs.declared.names.Mode.TheVariants.{Depth}
use Rattle.icet_model.specs.Pixel.{Pixel}
use Rattle.icet_model.specs.Run.{Piece}
use Rattle.icet_model.specs.Exchange.{exchanges}
use Rattle.icet_model.specs.Flow.{program}
use Rattle.icet_model.specs.Bracket.{Images}
use Rattle.icet_model.specs.Plan.{plan_exchanges}
use Rattle.icet_model.specs.Traffic.{pixel_messages}
use Rattle.icet_model.specs.Core.{IsLawful}
use Rattle.icet_model.specs.Ports.{messages_to, room_to, known_to, pairing_to}
use Rattle.icet_model.specs.Wires.{Pairing, IsSameOpening, PortView, PixelMessage, AreSynced}
use Rattle.icet_rank.specs.Moves.{peers}
use Rattle.icet_rank.specs.Machine.{MachineView, AreImages, sizes_of, content_at, IsDone}
use Rattle.icet_rank.specs.Steps.{SameJob, SamePairings, IsKnownReady, misses_at}
use Rattle.icet_model.specs.declared.exchange.Exchange.{Exchange}
use Rattle.icet_model.specs.Faults.{Rose}
use Rattle.icet_net.specs.Net.{HullView, messages_on}

-- what stands for a machine beyond the list: it has no program, no image and no port
abbrev pub no_machine : MachineView
no_machine = record { number = 0; mode = Depth; ops = []; place = 0; counter = 0; images = []; slots = []; kept = []; inboxes = []; outboxes = [] }

-- the machine of a rank
abbrev pub machine_at : List MachineView → ℕ → MachineView
machine_at machines r = get_or machines r no_machine

-- the mode of the machines, which all have the same one
abbrev pub mode_of : List MachineView → Mode
mode_of machines = (machine_at machines 0).mode

-- the pixels of each rank's image of each tile; a rank beyond the list, which no plan of these ranks
-- has, is given the first one's, so that each image has its tile's size
abbrev pub images_of : List MachineView → Images
images_of machines r t = content_at (get_or machines r (machine_at machines 0)).images t

-- how many exchanges each rank has done
abbrev pub counters : List MachineView → List ℕ
counters machines = map (λ m. m.counter) machines

-- what went through the outbox of rank q to rank r, and how many messages are known to find a place in it
abbrev pub sent_on : List MachineView → ℕ → ℕ → List PixelMessage
sent_on machines q r = messages_to (machine_at machines q).outboxes r

abbrev pub free_on : List MachineView → ℕ → ℕ → ℕ
free_on machines q r = known_to (machine_at machines q).outboxes r

-- what went through the inbox of rank r from rank q, and how many messages are known to wait in it
abbrev pub taken_on : List MachineView → ℕ → ℕ → List PixelMessage
taken_on machines q r = messages_to (machine_at machines r).inboxes q

abbrev pub known_on : List MachineView → ℕ → ℕ → ℕ
known_on machines q r = known_to (machine_at machines r).inboxes q

-- one whole image of each tile of these sizes
pub record AreWholeImages (sizes : List ℕ) (images : List (Piece (List Pixel))) : Type 0 where
  pub whole : AreImages images
  pub sizes_are : sizes_of images ≡ sizes
  pub filled : AllByRecursion (λ p. length p.content ≡ p.hi) images

-- machine r has number r, the plan's program of r and an image of whole tiles
pub record IsMachineOf (hull : HullView) (mode : Mode) (r : ℕ) (m : MachineView) : Type 0 where
  pub number : m.number ≡ r
  pub mode_is : m.mode ≡ mode
  pub ops : m.ops ≡ program hull.plan.programs r
  pub images : AreWholeImages hull.plan.tiles.sizes m.images

-- the two ports of the pair are paired, and were opened with these ranks and this capacity
pub record IsOpened (cap : ℕ) (machines : List MachineView) (q r : ℕ) : Type 0 where
  pub pairing : Pairing
  pub out : pairing_to (machine_at machines q).outboxes r ≡ Some pairing
  pub inbox : pairing_to (machine_at machines r).inboxes q ≡ Some pairing
  pub from_is : pairing.from ≡ q
  pub to_is : pairing.to ≡ r
  pub cap_is : pairing.cap ≡ cap

-- the machines are the ranks of the hull, one machine per rank
pub record AreHulls (hull : HullView) (machines : List MachineView) : Type 0 where
  pub count : length machines ≡ length hull.plan.programs
  pub each : (r : ℕ) → r < length machines → IsMachineOf hull (mode_of machines) r (machine_at machines r)
  pub opened : (q r : ℕ) → 0 < messages_on hull.plan q r → IsOpened hull.cap machines q r

-- each machine is related to the one that stood at its place before
pub record EachRank (P : MachineView → MachineView → Type 0) (old new : List MachineView) : Type 0 where
  pub count : length new ≡ length old
  pub each : (r : ℕ) → r < length old → P (machine_at old r) (machine_at new r)

-- the same peers have a port, each opened as before
pub record SameOpenings (old new : List (ℕ × PortView)) : Type 0 where
  pub same_peers : peers new ≡ peers old
  pub openings : (k : ℕ) (a b : Pairing) → pairing_to old k ≡ Some a → pairing_to new k ≡ Some b → IsSameOpening a b

-- number, mode, program, images and pairings are as before, and no exchange is undone
pub record GoesOn (old new : MachineView) : Type 0 where
  pub job : SameJob old new
  pub pairings : SamePairings old new
  pub counter : old.counter ≤ new.counter

-- number, mode, program, images and openings are as before, and no exchange is undone
pub record ComesOn (old new : MachineView) : Type 0 where
  pub job : SameJob old new
  pub inboxes : SameOpenings old.inboxes new.inboxes
  pub outboxes : SameOpenings old.outboxes new.outboxes
  pub counter : old.counter ≤ new.counter

-- an exchange is due, and its port has missed since
pub record Waits (old new : MachineView) : Type 0 where
  pub exchange : Exchange
  pub is_due : slice_get (exchanges new.ops) new.counter ≡ Some exchange
  pub missed : Rose (misses_at exchange.kind exchange.peer old) (misses_at exchange.kind exchange.peer new)

-- a turn stepped the rank at least once, and moved it by at most `burst` exchanges: one whose due
-- port was known ready made an exchange, one with no exchange left is done, and one that made fewer
-- than `burst` exchanges is done or waits at a port
pub record HadTurn (burst : ℕ) (old new : MachineView) : Type 0 where
  pub most : new.counter ≤ old.counter + burst
  pub moved : IsKnownReady old → old.counter < new.counter
  pub finished : old.counter ≡ length (exchanges old.ops) → IsDone new
  pub stopped : new.counter < old.counter + burst → IsDone new ⊎ Waits old new

-- ports met: all else of the machine is as before, and so are the ports' lists, rooms and openings
pub record MetOthers (old new : MachineView) : Type 0 where
  pub beside : new ≡ record old { inboxes = new.inboxes; outboxes = new.outboxes }
  pub same_taken : messages_to new.inboxes ≡ messages_to old.inboxes
  pub same_in_rooms : room_to new.inboxes ≡ room_to old.inboxes
  pub same_sent : messages_to new.outboxes ≡ messages_to old.outboxes
  pub same_out_rooms : room_to new.outboxes ≡ room_to old.outboxes
  pub inboxes : SameOpenings old.inboxes new.inboxes
  pub outboxes : SameOpenings old.outboxes new.outboxes

-- the first list is a front of the second
pub record IsFront {X : Type 0} (xs ys : List X) : Type 0 where
  pub more : List X
  pub is : ys ≡ xs ++ more

-- on each pair used the two ports have met
pub record AreAllSynced (hull : HullView) (machines : List MachineView) : Type 0 where
  pub synced : (q r : ℕ) → 0 < messages_on hull.plan q r → AreSynced (sent_on machines q r) (taken_on machines q r) hull.cap (free_on machines q r) (known_on machines q r)

-- the counters are a lawful state of the plan, what each pair has sent is a front of its traffic,
-- and what was taken is a front of what was sent
pub record IsOnCourse (hull : HullView) (machines : List MachineView) : Type 0 where
  pub lawful : IsLawful (plan_exchanges hull.plan) hull.cap (counters machines)
  pub sent_fronts : (q r : ℕ) → IsFront (sent_on machines q r) (pixel_messages (mode_of machines) hull.plan (images_of machines) q r)
  pub taken_fronts : (q r : ℕ) → IsFront (taken_on machines q r) (sent_on machines q r)

-- every machine is done
pub record AreDone (machines : List MachineView) : Type 0 where
  pub each : (r : ℕ) → r < length machines → IsDone (machine_at machines r)

-- a machine has these images and this mode, and stands at the start of its program
pub record IsOpenedWith (mode : Mode) (images : List (Piece (List Pixel))) (m : MachineView) : Type 0 where
  pub mode_is : m.mode ≡ mode
  pub images_are : m.images ≡ images
  pub place : m.place ≡ 0
  pub counter : m.counter ≡ 0

-- machine r has image r and the mode, and stands at the start of its program
pub record AreOpenedWith (mode : Mode) (images : List (List (Piece (List Pixel)))) (machines : List MachineView) : Type 0 where
  pub count : length machines ≡ length images
  pub each : (r : ℕ) → r < length machines → IsOpenedWith mode (get_or images r []) (machine_at machines r)

-- machines of a hull that went on are still the hull's
abbrev pub HullsStayHulls : Type 0
HullsStayHulls = (hull : HullView) (old new : List MachineView) → AreHulls hull old → EachRank GoesOn old new → AreHulls hull new
