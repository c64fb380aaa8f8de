use Rattle.std.proofs.Common.{map, subst, rules, unsigned_abs}
use Rattle.std.specs.List.Sorted.{IsPermutation}
use Rattle.std.proofs.lemmas.List.Sorted.{IsNonDecreasingBy-from_sort_by_key, IsPermutation-map}
use Rattle.icet_model.specs.Tiles.{area_of}
use Rattle.icet_model.specs.declared.names.Rect.{Rect}
use Rattle.icet_upgrade.proofs.ready.areas_in_order.Goals as goal

pub returns-clause-same : goal.returns-clause-same
returns-clause-same c = subst (λ xs. IsPermutation xs (map area_of c.sort_by_key.new.self.items)) c.in_ok-areas.ensures.same (IsPermutation-map area_of _ _ c.in_ok-sort_by_key.ensures.permutation)

pub returns-clause-order : goal.returns-clause-order
returns-clause-order c = IsNonDecreasingBy-from_sort_by_key (λ (area : Rect). unsigned_abs area.x) _ c.in_ok-sort_by_key.ensures.sorted (λ a r q k. search rules)
