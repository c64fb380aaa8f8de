-- Plans that are none: each breaks one of the conditions.
use Rattle.std.proofs.Common.{List, [], ◌∷◌, map, length, get_or, refl, ap, arith}
use Rattle.icet_model.specs.declared.exchange.Op.TheVariants.{Load, Keep}
use Rattle.icet_model.specs.Exchange.{Heading}
use Rattle.icet_model.specs.Matched.{IsMatched}
use Rattle.icet_model.specs.Plan.{IsSound}
use Rattle.icet_plan.specs.Samples.{send, take, one_tile, another_leaf}

-- a program whose take stands before a send of the same round
pub takes_first : IsMatched ((take 0 1 0 1 ∷ send 0 1 0 1 ∷ []) ∷ (send 0 0 0 1 ∷ take 0 0 0 1 ∷ []) ∷ []) → ⊥
takes_first m = let l = (m.rising 0).0.0.later in absurd (omega (arith, l))

-- two messages of one pair in one round
pub twice_in_a_round : IsMatched ((send 0 1 0 1 ∷ send 0 1 1 1 ∷ []) ∷ (take 0 0 0 1 ∷ take 0 0 1 1 ∷ []) ∷ []) → ⊥
twice_in_a_round m = let l = (m.rising 0).0.0.apart refl in absurd (omega (arith, l))

-- a take that nobody sends for
pub takes_in_vain : IsMatched ((take 0 1 0 1 ∷ []) ∷ [] ∷ []) → ⊥
takes_in_vain m = let l = ap (λ es. length es) (m.pairs 1 0) in absurd (omega (arith, l))

-- a take of another range than was sent
pub takes_another_range : IsMatched ((take 0 1 0 1 ∷ []) ∷ (send 0 0 0 2 ∷ []) ∷ []) → ⊥
takes_another_range m = let l = ap (λ (hs : List Heading). get_or (map (λ (h : Heading). h.hi) hs) 0 0) (m.pairs 1 0) in absurd (omega (arith, l))

-- a slot that was never filled
pub never_filled : IsSound (one_tile (Keep 0 ∷ [])) → ⊥
never_filled s = absurd ((s.fit 0).0)

-- a position that is kept twice
pub kept_twice : IsSound (one_tile (Load 0 0 ∷ Keep 0 ∷ Keep 0 ∷ [])) → ⊥
kept_twice s = let l = s.once 0 0 (omega arith) (omega arith) in absurd (omega (arith, l))

-- a piece in another order than the tile's bracket
pub another_bracket : IsSound another_leaf → ⊥
another_bracket s = absurd (let e = (s.carries 0).0 in cc)
