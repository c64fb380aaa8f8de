use Rattle.std.proofs.Common.{Some, refl, sym, ap, ◌∙◌, arith}
use Rattle.icet_rank.proofs.machine.RankMachine.swap_next.Goals as goal

pub swap-requires : goal.swap-requires
swap-requires g c = (c.type_bounds.send-I, (c.type_bounds.send-O, sym c.in-Some-Swap.ensures.next ∙ ap (λ op. Some op) c.in-Some-Swap.field-0-is))

pub returns-in-None-clause-job : goal.returns-in-None-clause-job
returns-in-None-clause-job g c = record { number = refl; mode = refl; ops = refl; images = refl }

pub returns-in-None-clause-done : goal.returns-in-None-clause-done
returns-in-None-clause-done g c = λ _. record {
  worked = record { job = record { number = refl; mode = refl; ops = refl; images = refl }; place = omega arith; counter = refl; inboxes = refl; outboxes = refl };
  place = c.in-None.ensures.end refl;
  none_left = c.in-None.ensures.all refl;
}
