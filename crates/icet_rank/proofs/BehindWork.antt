-- A step is local work and then one exchange: what the exchange does behind the work.
use Rattle.std.proofs.Common.{◌≡◌, ℕ, List, length, Option, refl, subst, arith}
use Rattle.icet_model.specs.declared.exchange.Kind.{Kind}
use Rattle.icet_model.specs.declared.exchange.Kind.TheVariants.{Send, Take}
use Rattle.icet_model.specs.declared.exchange.Exchange.{Exchange}
use Rattle.icet_model.specs.Pixel.{Pixel}
use Rattle.icet_model.specs.Exchange.{exchanges}
use Rattle.icet_model.specs.Run.{Piece}
use Rattle.icet_rank.specs.declared.machine.Step.{Step}
use Rattle.icet_rank.specs.declared.machine.Step.TheVariants.{Moved, Pending, Done}
use Rattle.icet_rank.specs.Machine.{MachineView}
use Rattle.icet_rank.specs.Steps.{Worked, Misses, Moves, Pends}
use Rattle.icet_rank.proofs.RunsOn.{below}

misses_beside : (a c : MachineView) (place : ℕ) (slots : List (Option (Piece (List Pixel)))) (kept : List (Piece (List Pixel))) (k : Kind) (e : Exchange) → Misses k e (record a { place = place; slots = slots; kept = kept }) c → Misses k e a c
misses_beside a c place slots kept Send e h = record { missed = h.missed; same_inboxes = h.same_inboxes }
misses_beside a c place slots kept Take e h = record { missed = h.missed; same_outboxes = h.same_outboxes }

pub pends_after : {a b c : MachineView} → Worked a b → Pends b c → Pends a c
pends_after {a = a} {b = b} {c = c} w p =
    let same : b ≡ record a { place = b.place; slots = b.slots; kept = b.kept } = λ i. record { number = w.job.number i; mode = w.job.mode i; ops = w.job.ops i; place = b.place; counter = w.counter i; images = w.job.images i; slots = b.slots; kept = b.kept; inboxes = w.inboxes i; outboxes = w.outboxes i } in
    let q = subst (λ (m : MachineView). Pends m c) same p in
    record { exchange = q.exchange; slot = q.slot; is_due = q.is_due; is_op = q.is_op; misses = misses_beside a c b.place b.slots b.kept q.exchange.kind q.exchange q.misses; counter = q.counter; slots = q.slots; forward = let l = w.place in let k = q.forward in omega (arith, l, k) }

-- where no exchange is left, nothing can have moved or waited
pub nothing_due : {a c : MachineView} (s : Step) → a.counter ≡ length (exchanges a.ops) → (s ≡ Moved → Moves a c) → (s ≡ Pending → Pends a c) → s ≡ Done
nothing_due {a = a} Moved n moves pends = let m = moves refl in let l = below (exchanges a.ops) a.counter m.exchange m.is_due in absurd (omega (arith, n, l))
nothing_due {a = a} Pending n moves pends = let p = pends refl in let l = below (exchanges a.ops) a.counter p.exchange p.is_due in absurd (omega (arith, n, l))
nothing_due Done n moves pends = refl
