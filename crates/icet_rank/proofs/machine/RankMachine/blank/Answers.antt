use Rattle.std.proofs.Common.{◌<◌, ◌∙◌, ap, arith, length}
use Rattle.icet_model.specs.Run.{blank_of}
use Rattle.icet_rank.specs.Machine.{carrier_of}
use Rattle.icet_rank.proofs.MachineMoves.{blank_there, named, next_place, blanked}
use Rattle.icet_rank.proofs.machine.RankMachine.blank.Goals as goal

pub part-requires : goal.part-requires
part-requires g c = blank_there c.self.invariant c.self.view_is c.requires.due

pub index_mut-requires : goal.index_mut-requires
index_mut-requires g c =
    let l : c.args.slot < length c.self.inside.slots.items = named c.self.invariant c.self.view_is c.requires.due in
    grind (arith, l)

pub overflow_add-self : goal.overflow_add-self
overflow_add-self g c = let l = next_place c.self.invariant c.self.view_is c.requires.due in grind (arith, l)

pub invariant_of-self : goal.invariant_of-self
invariant_of-self g c =
    let b = c.blank.ensures ∙ ap (λ n. blank_of (carrier_of c.self.inside.mode c.self.inside.images) c.args.tile 0 n) c.hi-size.ensures.value in
    blanked c.self.invariant c.self.view_is c.requires.due c.part.result.now c.blank.result c.part.ensures b
