use Rattle.std.proofs.Common.{◌≡◌, Some, None, sym, ◌∙◌, ap, rules}
use Rattle.icet_plan.proofs.SlotList.{list_set}
use Rattle.icet_rank.proofs.PortMoves.{put_back}
use Rattle.icet_rank.proofs.sending.send.Goals as goal

pub returns-in-Err-clause-back : goal.returns-in-Err-clause-back
returns-in-Err-clause-back g c = λ _. put_back c.args.slots.now c.args.slot c.index-slots-slot.result c.take.new.self (Some c.back.inside.piece) c.requires.slot ((sym c.take.ensures.value ∙ c.in-Some.is) ∙ ap (λ q. Some q) (sym (ap (λ m. m.piece) (c.back.view_is ∙ c.in-Err.ensures.back))))

pub returns-in-Ok-clause-slots : goal.returns-in-Ok-clause-slots
returns-in-Ok-clause-slots g c =
    let none : c.take.new.self ≡ None = search rules in
    λ _. rw none (list_set c.args.slots.now c.args.slot None c.requires.slot)
