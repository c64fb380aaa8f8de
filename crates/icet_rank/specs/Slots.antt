-- What the operations do to slots, with pixels for contents: of no matter which images.
use Rattle.std.specs.Prelude.{◌≡◌, ℕ, List, Option, Some, option_map}
use Rattle.std.specs.Option.{ForSome}
use Rattle.icet_model.specs.declared.names.Mode.{Mode}
use Rattle.icet_model.specs.declared.exchange.Exchange.{Exchange}
use Rattle.icet_model.specs.Pixel.{Pixel}
use Rattle.icet_model.specs.Run.{Piece, lower, upper, cut_slots, joined_piece, received, message_of}
use Rattle.icet_model.specs.Ports.{at_list}
use Rattle.icet_model.specs.Fit.{FitsJoin, shape_of}
use Rattle.icet_model.specs.Wires.{PixelMessage, PortView}
use Rattle.icet_rank.specs.Machine.{carrier_of}
use Rattle.icet_rank.specs.Moves.{Carried}

-- a list of slots, and a piece with its pixels
abbrev pub Slots : Type 0
Slots = List (Option (Piece (List Pixel)))

abbrev pub PixelPiece : Type 0
PixelPiece = Piece (List Pixel)

-- the two slots hold pieces of one tile and range
abbrev pub CanJoin : Slots → ℕ → ℕ → Type 0
CanJoin slots front back = FitsJoin (option_map shape_of (at_list slots front)) (option_map shape_of (at_list slots back))

-- the piece is the two slots' joined, the front first
abbrev pub IsJoinOf : Mode → Slots → ℕ → ℕ → PixelPiece → Type 0
IsJoinOf mode slots front back p =
    ForSome (at_list slots front) (λ f. ForSome (at_list slots back) (λ b. (images : List PixelPiece) → p ≡ joined_piece (carrier_of mode images) f b))

-- a slot's piece was cut: what is below stays, and the rest is handed out
abbrev pub IsCutInto : ℕ → Option PixelPiece → Option PixelPiece → PixelPiece → Type 0
IsCutInto at old new rest =
    ForSome old (λ p. (mode : Mode) (images : List PixelPiece) → (new ≡ Some (lower (carrier_of mode images) at p)) × (rest ≡ upper (carrier_of mode images) at p))

-- the piece of a slot was cut into it and another
abbrev pub CutsSlot : ℕ → ℕ → ℕ → Slots → Slots → Type 0
CutsSlot slot at into old new =
    (mode : Mode) (images : List PixelPiece) → at_list new ≡ cut_slots (carrier_of mode images) slot at into (at_list old slot) (at_list old)

-- what comes in for an exchange by a message
abbrev pub IsReceived : Exchange → PixelMessage → PixelPiece → Type 0
IsReceived e message piece = (mode : Mode) (images : List PixelPiece) → piece ≡ received (carrier_of mode images) e (Some message)

-- the port to the exchange's peer carried the piece that was in a slot
abbrev pub SendsFrom : Exchange → ℕ → Slots → ℕ → List (ℕ × PortView) → List (ℕ × PortView) → Type 0
SendsFrom e me slots slot old new = ForSome (at_list slots slot) (λ p. Carried e.peer (message_of e me p) old new)
