-- What the steps of a close need and leave: ports that are taken out and closed, and pieces that are placed.
use Rattle.std.specs.Prelude.{reverse, ◌≡◌, ◌≢◌, ◌⊎◌, ℕ, false, take, ◌*◌, ◌<◌, ◌≤◌, List, [], map, length, get_or, filter, Some, slice_get}
use Rattle.std.specs.List.{AllByRecursion, range_with_len, list_any}
use Rattle.icet_model.specs.Pixel.{Pixel, DenseView}
use Rattle.icet_model.specs.Run.{Piece}
use Rattle.icet_model.specs.Fit.{Tiles}
use Rattle.icet_model.specs.Plan.{has_place}
use Rattle.icet_model.specs.Ports.{messages_to}
use Rattle.icet_model.specs.Traffic.{PairTraffic, IsTakenPair}
use Rattle.icet_model.specs.Wires.{PortView}
use Rattle.icet_collect.specs.Collect.{CanvasView, Shows, HasWanted, blank_canvas}
use Rattle.icet_interlace.specs.Interlace.{restored}
use Rattle.icet_rank.specs.Moves.{port_to}
use Rattle.icet_rank.specs.Machine.{PartsView}
use Rattle.icet_net.specs.Opening.{ports_of}

-- no pair stands twice in the list
pub record AreDistinct (pairs : List (ℕ × ℕ)) : Type 0 where
  pub apart : (i j : ℕ) (p : ℕ × ℕ) → slice_get pairs i ≡ Some p → slice_get pairs j ≡ Some p → i ≡ j

-- rank q has the outbox to rank r, which has the inbox from rank q; the two are paired, were opened for
-- these ranks, and as many messages were taken as sent
pub record IsClosable (outs : List (List (ℕ × PortView))) (ins : List (List (ℕ × PortView))) (q r : ℕ) : Type 0 where
  pub from_within : q < length outs
  pub to_within : r < length ins
  pub out : PortView
  pub inbox : PortView
  pub out_is : port_to (ports_of outs q) r ≡ Some out
  pub inbox_is : port_to (ports_of ins r) q ≡ Some inbox
  pub taken_pair : IsTakenPair q r out inbox

-- the port of rank q to rank r was taken out, and all others stand
pub record LosesPort (q r : ℕ) (old new : List (List (ℕ × PortView))) : Type 0 where
  pub count : length new ≡ length old
  pub others : (a b : ℕ) → (a ≢ q) ⊎ (b ≢ r) → port_to (ports_of new a) b ≡ port_to (ports_of old a) b

-- what the log gets for a pair
abbrev pub entry_of : List (List (ℕ × PortView)) → ℕ × ℕ → PairTraffic (List Pixel)
entry_of outs p = record { from = p.0; to = p.1; messages = messages_to (ports_of outs p.0) p.1 }

-- what was taken on the pair is what was sent
abbrev pub IsTaken : List (List (ℕ × PortView)) → List (List (ℕ × PortView)) → ℕ × ℕ → Type 0
IsTaken outs ins p = messages_to (ports_of ins p.1) p.0 ≡ messages_to (ports_of outs p.0) p.1

-- the ports of the pairs from place n on stand as they did
pub record KeepsPortsFrom (n : ℕ) (pairs : List (ℕ × ℕ)) (old_outs new_outs : List (List (ℕ × PortView))) (old_ins new_ins : List (List (ℕ × PortView))) : Type 0 where
  pub out_count : length new_outs ≡ length old_outs
  pub in_count : length new_ins ≡ length old_ins
  pub outs : (j : ℕ) (p : ℕ × ℕ) → n ≤ j → slice_get pairs j ≡ Some p → port_to (ports_of new_outs p.0) p.1 ≡ port_to (ports_of old_outs p.0) p.1
  pub ins : (j : ℕ) (p : ℕ × ℕ) → n ≤ j → slice_get pairs j ≡ Some p → port_to (ports_of new_ins p.1) p.0 ≡ port_to (ports_of old_ins p.1) p.0

-- each position of the tile is in one of the pieces, and no piece of the tile reaches beyond it
pub record AreOnce (t n : ℕ) (kept : List (Piece (List Pixel))) : Type 0 where
  pub once : (i : ℕ) → i < n → length (filter (has_place t i) kept) ≡ 1
  pub inside : AllByRecursion (λ p. p.tile ≡ t → p.hi ≤ n) kept

-- the pieces of the tile have these pixels
abbrev pub AreWanted : ℕ → (ℕ → Pixel) → List (Piece (List Pixel)) → Type 0
AreWanted t wanted kept = AllByRecursion (λ p. p.tile ≡ t → HasWanted wanted p) kept

-- the pieces of the tile among the first n are placed on the canvas, and no others
pub record ShowsFirst (t n : ℕ) (kept : List (Piece (List Pixel))) (old c : CanvasView) : Type 0 where
  pub tile : c.tile ≡ t
  pub w : c.w ≡ old.w
  pub h : c.h ≡ old.h
  pub strands : c.strands ≡ old.strands
  pub placed : (i : ℕ) → get_or c.placed i false ≡ list_any (has_place t i) (take n kept)
  pub shows : (wanted : ℕ → Pixel) → AreWanted t wanted kept → Shows wanted c (take n kept)

-- the pieces that a tile's display has kept
abbrev pub kept_for : List (List (Piece (List Pixel))) → List ℕ → ℕ → List (Piece (List Pixel))
kept_for kepts displays t = get_or kepts (get_or displays t 0) []

-- the canvas is blank, and the pieces that its tile's display has kept fill it
pub record IsShowable (kepts : List (List (Piece (List Pixel)))) (tiles : Tiles) (c : CanvasView) : Type 0 where
  pub within : c.tile < length tiles.sizes
  pub blank : c ≡ blank_canvas c.tile c.w c.h c.strands
  pub once : AreOnce c.tile (c.w * c.h) (kept_for kepts tiles.displays c.tile)

-- each tile's pieces have these pixels
abbrev pub AreAllWanted : List (List (Piece (List Pixel))) → Tiles → (ℕ → ℕ → Pixel) → Type 0
AreAllWanted kepts tiles wanted = (t : ℕ) → t < length tiles.sizes → AreWanted t (wanted t) (kept_for kepts tiles.displays t)

-- the picture of a canvas's size and strands with these pixels, by position
abbrev pub picture_on : CanvasView → (ℕ → Pixel) → DenseView
picture_on c wanted = record { w = c.w; h = c.h; pixels = restored (c.w * c.h) c.strands (map wanted (range_with_len 0 (c.w * c.h))) }

abbrev pub shown_on : (ℕ → ℕ → Pixel) → CanvasView → DenseView
shown_on wanted c = picture_on c (wanted c.tile)

-- the outboxes, the inboxes and the kept pieces of what all machines hand out, where the ports stand in
-- reverse order
abbrev pub outs_of : List PartsView → List (List (ℕ × PortView))
outs_of parts = map (λ p. reverse p.outboxes) parts

abbrev pub ins_of : List PartsView → List (List (ℕ × PortView))
ins_of parts = map (λ p. reverse p.inboxes) parts

abbrev pub kepts_of : List PartsView → List (List (Piece (List Pixel)))
kepts_of parts = map (λ p. p.kept) parts

-- each of the pairs can be closed
abbrev pub AreClosable : List (ℕ × ℕ) → List PartsView → Type 0
AreClosable pairs parts = (i : ℕ) (p : ℕ × ℕ) → slice_get pairs i ≡ Some p → IsClosable (outs_of parts) (ins_of parts) p.0 p.1

-- on each of the pairs what was taken is what was sent
abbrev pub AreTaken : List (ℕ × ℕ) → List PartsView → Type 0
AreTaken pairs parts = (i : ℕ) (p : ℕ × ℕ) → slice_get pairs i ≡ Some p → IsTaken (outs_of parts) (ins_of parts) p

-- the pictures of the canvases, whatever pixels the kept pieces have
abbrev pub ArePictures : List PartsView → Tiles → List CanvasView → List DenseView → Type 0
ArePictures parts tiles canvases pictures = (wanted : ℕ → ℕ → Pixel) → AreAllWanted (kepts_of parts) tiles wanted → pictures ≡ map (shown_on wanted) canvases

-- the picture of one canvas, whatever pixels the kept pieces have
abbrev pub IsPicture : ℕ → List (Piece (List Pixel)) → CanvasView → DenseView → Type 0
IsPicture tile kept c picture = (wanted : ℕ → Pixel) → AreWanted tile wanted kept → picture ≡ picture_on c wanted

-- the port to each other peer is as before
abbrev pub KeepOthers : {P : Type 0} → ℕ → List (ℕ × P) → List (ℕ × P) → Type 0
KeepOthers peer old new = (k : ℕ) → k ≢ peer → port_to new k ≡ port_to old k

-- the port is the one to the peer
abbrev pub IsPortTo : {P : Type 0} → ℕ → List (ℕ × P) → ℕ × P → Type 0
IsPortTo peer ports p = (p.0 ≡ peer) × (port_to ports peer ≡ Some p.1)
