use Rattle.std.proofs.Common.{◌≡◌, ◌<◌, [], ◌∷◌, ◌++◌, Some, sym, ◌∙◌, subst, rules, arith, length}
use Rattle.icet_model.specs.Ports.{at_list}
use Rattle.icet_rank.specs.Fits.{IsFilled}
use Rattle.icet_rank.proofs.MachineMoves.{keep_filled, named, next_place, keep_done}
use Rattle.icet_rank.proofs.LocalWork.{list_at}
use Rattle.icet_rank.proofs.machine.RankMachine.keep.Goals as goal

pub index-requires : goal.index-requires
index-requires g c =
    let l : c.args.slot < length c.self.inside.slots.items = named c.self.invariant c.self.view_is c.requires.due in
    grind (arith, l)

pub unreachable-requires : goal.unreachable-requires
unreachable-requires g c =
    let l : c.args.slot < length c.self.inside.slots.items = named c.self.invariant c.self.view_is c.requires.due in
    subst IsFilled (sym (list_at c.self.inside.slots.items c.args.slot c.index.result.now l) ∙ (sym c.index.ensures ∙ c.in-None.is)) (keep_filled c.self.invariant c.self.view_is c.requires.due)

pub overflow_add-self : goal.overflow_add-self
overflow_add-self g c = let l = next_place c.self.invariant c.self.view_is c.requires.due in grind (arith, l)

pub invariant_of-self-in-Some : goal.invariant_of-self-in-Some
invariant_of-self-in-Some g c =
    let l : c.args.slot < length c.self.inside.slots.items = named c.self.invariant c.self.view_is c.requires.due in
    let held : at_list c.self.inside.slots.items c.args.slot ≡ Some c.in-Some.piece = sym (list_at c.self.inside.slots.items c.args.slot c.index.result.now l) ∙ (sym c.index.ensures ∙ c.in-Some.is) in
    let more : c.push.new.self.items ≡ c.self.inside.kept.items ++ c.in-Some.piece ∷ [] = search rules in
    rw more (keep_done c.self.invariant c.self.view_is c.requires.due c.in-Some.piece held)
