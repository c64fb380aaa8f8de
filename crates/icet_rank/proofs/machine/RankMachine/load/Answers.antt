use Rattle.std.proofs.Common.{◌≡◌, ◌<◌, Some, sym, ◌∙◌, ap, rules, arith, length}
use Rattle.icet_rank.proofs.MachineMoves.{tile_there, named, next_place, loaded}
use Rattle.icet_rank.proofs.machine.RankMachine.load.Goals as goal

pub part-requires : goal.part-requires
part-requires g c = tile_there c.self.invariant c.self.view_is c.requires.due

pub index_mut-requires : goal.index_mut-requires
index_mut-requires g c =
    let l : c.args.slot < length c.self.inside.slots.items = named c.self.invariant c.self.view_is c.requires.due in
    grind (arith, l)

pub overflow_add-self : goal.overflow_add-self
overflow_add-self g c = let l = next_place c.self.invariant c.self.view_is c.requires.due in grind (arith, l)

pub invariant_of-self : goal.invariant_of-self
invariant_of-self g c =
    let copied : c.in_ok-piece.piece ≡ c.part.result.now = search rules in
    loaded c.self.invariant c.self.view_is c.requires.due c.in_ok-piece.piece (c.part.ensures ∙ ap (λ q. Some q) (sym copied))
