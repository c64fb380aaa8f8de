-- Two triangles on the two sides of an edge, and spots strictly inside that edge.
use Rattle.std.specs.Prelude.{◌≡◌, ◌⊎◌, ℤ, pos, ◌<ℤ◌}
use Rattle.icet_scene_model.specs.declared.spot.Spot.{Spot}
use Rattle.icet_scene_model.specs.Triangles.{Triangle, edge_value}

-- three corners' spots
pub record Corners : Type 0 where
  pub a : Spot
  pub b : Spot
  pub c : Spot

abbrev pub corners : Spot → Spot → Spot → Corners
corners a b c = record { a = a; b = b; c = c }

abbrev pub corners_of : Triangle → Corners
corners_of t = corners t.a.spot t.b.spot t.c.spot

-- the corners are these three spots, in some order
abbrev pub AreCorners : Corners → Spot → Spot → Spot → Type 0
AreCorners t p q r = ((t ≡ corners p q r) ⊎ ((t ≡ corners q r p) ⊎ (t ≡ corners r p q))) ⊎ ((t ≡ corners q p r) ⊎ ((t ≡ corners p r q) ⊎ (t ≡ corners r q p)))

-- the third and the fourth spot lie strictly on opposite sides of the line through the first two
abbrev pub AreOpposite : Spot → Spot → Spot → Spot → Type 0
AreOpposite p q r s = ((pos 0 <ℤ edge_value p q r) × (edge_value p q s <ℤ pos 0)) ⊎ ((edge_value p q r <ℤ pos 0) × (pos 0 <ℤ edge_value p q s))

-- two triangles share two corners, and their third corners lie strictly on opposite sides of that edge, so that neither area is 0
pub record ShareEdge (one other : Triangle) : Type 0 where
  pub p : Spot
  pub q : Spot
  pub r : Spot
  pub s : Spot
  pub one_is : AreCorners (corners_of one) p q r
  pub other_is : AreCorners (corners_of other) p q s
  pub opposite : AreOpposite p q r s

-- a number strictly between two others
abbrev pub Parts : ℤ → ℤ → ℤ → Type 0
Parts a m b = ((a <ℤ m) × (m <ℤ b)) ⊎ ((b <ℤ m) × (m <ℤ a))

-- a spot on the line through two others, and strictly between them
pub record LiesBetween (p q at : Spot) : Type 0 where
  pub on_line : edge_value p q at ≡ pos 0
  pub inside : Parts p.x at.x q.x ⊎ Parts p.y at.y q.y
