-- Bytes that a sink tells: what stays at the front, and what is a front of what. Nothing is said
-- where nothing was told before.
use Rattle.std.specs.Prelude.{◌≡◌, ℕ, List, length, take, Option, Some, None, ⊤}

-- known bytes stay at the front of the later ones
abbrev pub Extends : Option (List ℕ) → Option (List ℕ) → Type 0
Extends None new = ⊤
Extends (Some xs) None = ⊥
Extends (Some xs) (Some ys) = take (length xs) ys ≡ xs

-- the bytes are a front of these known ones
abbrev pub HasFront : Option (List ℕ) → Option (List ℕ) → Type 0
HasFront None front = ⊤
HasFront (Some whole) None = ⊥
HasFront (Some whole) (Some front) = take (length front) whole ≡ front
