-- What a net may be opened with, and the ports of a net that is being opened.
use Rattle.std.specs.Prelude.{◌≡◌, ◌≢◌, ℕ, ◌<◌, ◌≤◌, ◌+◌, ◌*◌, List, [], length, map, get_or, Some}
use Rattle.std.specs.List.{AllByRecursion}
use Rattle.icet_model.specs.declared.names.Mode.{Mode}
use Rattle.icet_model.specs.Pixel.{Pixel}
use Rattle.icet_model.specs.Run.{Piece}
use Rattle.icet_model.specs.Flow.{program}
use Rattle.icet_model.specs.Plan.{PlanView}
use Rattle.icet_model.specs.Tiles.{TileView}
use Rattle.icet_model.specs.Ports.{room_to, pairing_to, AreAscending}
use Rattle.icet_model.specs.Wires.{Pairing, PortView}
use Rattle.icet_rank.specs.Moves.{port_to}
use Rattle.icet_rank.specs.Machine.{MachineView}
use Rattle.icet_net.specs.Net.{HullView, messages_on, pairs_of}
use Rattle.icet_net.specs.Ranks.{AreWholeImages, machine_at}
use Rattle.icet_model.specs.declared.limits.TheConstants.{MAX_RANK_PIXELS}

-- a tile's width and height
abbrev pub sides_of : TileView → ℕ × ℕ
sides_of tile = (tile.area.w, tile.area.h)

-- the plan's tiles have the layout's number, sizes and display ranks, no tile is too large, and there
-- is one image per rank, of whole tiles
pub record CanOpen (plan : PlanView) (layout : List TileView) (images : List (List (Piece (List Pixel)))) : Type 0 where
  pub sizes : map (λ tile. tile.area.w * tile.area.h) layout ≡ plan.tiles.sizes
  pub displays : map (λ tile. tile.display) layout ≡ plan.tiles.displays
  pub small : AllByRecursion (λ n. n ≤ MAX_RANK_PIXELS) plan.tiles.sizes
  pub count : length images ≡ length plan.programs
  pub whole : AllByRecursion (AreWholeImages plan.tiles.sizes) images

-- the ports of one rank to or from the peers below a bound: one for each peer with which messages are
-- exchanged, whose room is their number, and through which nothing went yet
pub record AreNewPorts (count : ℕ → ℕ) (bound : ℕ) (ports : List (ℕ × PortView)) : Type 0 where
  pub ascend : AreAscending ports
  pub below : AllByRecursion (λ e. e.0 < bound) ports
  pub empty : AllByRecursion (λ e. e.1.messages ≡ []) ports
  pub rooms : (k : ℕ) → k < bound → room_to ports k ≡ count k

-- the outbox to rank r and the inbox from rank q are paired, and were opened with these ranks and this capacity
pub record IsOpenedPair (cap q r : ℕ) (outs : List (ℕ × PortView)) (ins : List (ℕ × PortView)) : Type 0 where
  pub pairing : Pairing
  pub out : pairing_to outs r ≡ Some pairing
  pub inbox : pairing_to ins q ≡ Some pairing
  pub from_is : pairing.from ≡ q
  pub to_is : pairing.to ≡ r
  pub cap_is : pairing.cap ≡ cap

-- the port to each other peer is the same as before
pub record KeepsPortsBut (peer : ℕ) (old new : List (ℕ × PortView)) : Type 0 where
  pub others : (k : ℕ) → peer ≢ k → port_to new k ≡ port_to old k

-- the ports of a rank's list of lists
abbrev pub ports_of : {P : Type 0} → List (List (ℕ × P)) → ℕ → List (ℕ × P)
ports_of lists r = get_or lists r []

-- each list keeps its ports but the one to this peer
abbrev pub AllKeepBut : ℕ → List (List (ℕ × PortView)) → List (List (ℕ × PortView)) → Type 0
AllKeepBut peer old new = (r : ℕ) → KeepsPortsBut peer (ports_of old r) (ports_of new r)

-- each rank has new inboxes from the ranks below a bound
abbrev pub HaveInboxes : PlanView → ℕ → List (List (ℕ × PortView)) → Type 0
HaveInboxes plan bound inboxes = (r : ℕ) → r < length plan.programs → AreNewPorts (λ q. messages_on plan q r) bound (ports_of inboxes r)

-- each rank has new outboxes
abbrev pub HaveOutboxes : PlanView → List (List (ℕ × PortView)) → Type 0
HaveOutboxes plan outboxes = (q : ℕ) → q < length plan.programs → AreNewPorts (λ r. messages_on plan q r) (length plan.programs) (ports_of outboxes q)

-- each pair that carries messages is open
abbrev pub AreOpenedPairs : PlanView → ℕ → List (List (ℕ × PortView)) → List (List (ℕ × PortView)) → Type 0
AreOpenedPairs plan cap outboxes inboxes = (q r : ℕ) → 0 < messages_on plan q r → IsOpenedPair cap q r (ports_of outboxes q) (ports_of inboxes r)

-- each pair that rank q sends on is open
abbrev pub AreOpenedFrom : PlanView → ℕ → ℕ → List (ℕ × PortView) → List (List (ℕ × PortView)) → Type 0
AreOpenedFrom plan cap q outs inboxes = (r : ℕ) → r < length plan.programs → 0 < messages_on plan q r → IsOpenedPair cap q r outs (ports_of inboxes r)

-- new ports grew by the one to this peer, if it is counted
abbrev pub Reach : ℕ → ℕ → List (ℕ × PortView) → List (ℕ × PortView) → Type 0
Reach peer total old new = (count : ℕ → ℕ) → count peer ≡ total → AreNewPorts count peer old → AreNewPorts count (peer + 1) new

-- a pair is open, where ports were new
abbrev pub OpensPair : ℕ → ℕ → ℕ → ℕ → List (ℕ × PortView) → List (ℕ × PortView) → List (ℕ × PortView) → List (ℕ × PortView) → Type 0
OpensPair cap q r total outs ins new_outs new_ins = (a b : ℕ → ℕ) → 0 < total → AreNewPorts a r outs → AreNewPorts b q ins → IsOpenedPair cap q r new_outs new_ins

-- the hull that a net is opened with
abbrev pub hull_for : PlanView → ℕ → ℕ → List TileView → HullView
hull_for plan cap strands layout = record { plan = plan; cap = cap; strands = strands; sides = map sides_of layout; pairs = pairs_of plan }

-- each rank has whole images
abbrev pub HaveImages : PlanView → List (List (Piece (List Pixel))) → Type 0
HaveImages plan images = (r : ℕ) → r < length plan.programs → AreWholeImages plan.tiles.sizes (get_or images r [])

-- a machine at the start of its program, with its number, images and ports
pub record IsStarted (plan : PlanView) (mode : Mode) (images : List (Piece (List Pixel))) (ins : List (ℕ × PortView)) (outs : List (ℕ × PortView)) (r : ℕ) (m : MachineView) : Type 0 where
  pub number : m.number ≡ r
  pub mode_is : m.mode ≡ mode
  pub ops : m.ops ≡ program plan.programs r
  pub place : m.place ≡ 0
  pub counter : m.counter ≡ 0
  pub images_are : m.images ≡ images
  pub inboxes : m.inboxes ≡ ins
  pub outboxes : m.outboxes ≡ outs

-- each rank's machine is started, with its images and ports
abbrev pub AreStarted : PlanView → Mode → List (List (Piece (List Pixel))) → List (List (ℕ × PortView)) → List (List (ℕ × PortView)) → List MachineView → Type 0
AreStarted plan mode images inboxes outboxes machines =
    (r : ℕ) → r < length plan.programs → IsStarted plan mode (get_or images r []) (ports_of inboxes r) (ports_of outboxes r) r (machine_at machines r)
