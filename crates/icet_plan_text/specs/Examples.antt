-- The exchanges and the bracket of a small plan.
use Rattle.std.specs.Prelude.{List, [], ◌∷◌}
use Rattle.icet_model.specs.declared.bracket.Bracket.{Bracket}
use Rattle.icet_model.specs.declared.bracket.Bracket.TheVariants.{Leaf, Pair}
use Rattle.icet_model.specs.declared.exchange.Kind.TheVariants.{Send, Take}
use Rattle.icet_model.specs.declared.exchange.Exchange.{Exchange}

abbrev pub two_ranks : List (List Exchange)
two_ranks = (record { round = 0; kind = Take; peer = 1; tile = 0; lo = 0; hi = 1 } ∷ []) ∷ (record { round = 0; kind = Send; peer = 0; tile = 0; lo = 0; hi = 1 } ∷ []) ∷ []

abbrev pub one_pair : List Bracket
one_pair = Pair (Leaf 0) (Leaf 1) ∷ []
