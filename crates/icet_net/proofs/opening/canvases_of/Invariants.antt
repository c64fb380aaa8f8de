use Rattle.std.proofs.Common.{◌≡◌, map}
use Rattle.std.specs.List.{range_with_len}
use Rattle.icet_collect.specs.Collect.{blank_canvas}
use Rattle.icet_net.specs.Net.{sides_at}
use Rattle.icet_net.proofs.opening.canvases_of.Given as goal

abbrev pub invariant-making : goal.invariant-making
invariant-making l = l.canvases.items ≡ map (λ t. blank_canvas t (sides_at l.sides t).0 (sides_at l.sides t).1 l.strands) (range_with_len 0 l.t)
