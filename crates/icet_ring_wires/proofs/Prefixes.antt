-- What a pop leaves of the items that a ring's taker knew, and of the ring's name.
use Rattle.std.proofs.Common.{◌≡◌, ◌+◌, ◌≤◌, List, ◌∷◌, length, refl, ap, arith}
use Rattle.std.proofs.lemmas.List.{length-append}
use mathlib.Core.List.{IsPrefix}
use Rattle.icet_ring_wires.specs.Rings.{ring_name}
use Rattle.rtrb.specs.Ends.{SameRing}
use Rattle.rtrb.specs.declared.end.End.{End}

-- one pop takes at most one of them
pub length_prefix_le : {X : Type 0} (xs ys : List X) (x : X) → IsPrefix xs (x ∷ ys) → length xs ≤ length ys + 1
length_prefix_le xs ys x h = omega (arith, length-append xs h.0, ap length h.1)

-- an end of the same ring has its name
pub same_ring_name : {T A P : Type 0} (a b : End T A P) → SameRing a b → ring_name b ≡ ring_name a
same_ring_name a b s = rw (s.0, s.1, s.2) refl
