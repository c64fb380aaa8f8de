-- What the steps of one rank's turn leave of its machine.
use Rattle.std.proofs.Common.{◌≡◌, ◌≢◌, ℕ, ◌+◌, ◌<◌, ◌≤◌, List, length, refl, sym, ap, ◌∙◌, subst, arith, ◌⊎◌, ⊎_elim, inl, inr, Option}
use Rattle.icet_model.specs.Pixel.{Pixel}
use Rattle.icet_model.specs.Run.{Piece}
use Rattle.icet_model.specs.declared.exchange.Kind.{Kind}
use Rattle.icet_model.specs.declared.exchange.Kind.TheVariants.{Send, Take}
use Rattle.icet_model.specs.declared.exchange.Exchange.{Exchange}
use Rattle.icet_model.specs.Exchange.{exchanges}
use Rattle.icet_model.specs.Ports.{misses_to}
use Rattle.icet_model.specs.Faults.{Rose}
use Rattle.icet_rank.specs.Machine.{MachineView}
use Rattle.icet_rank.specs.declared.machine.Step.{Step}
use Rattle.icet_rank.specs.declared.machine.Step.TheVariants.{Moved, Pending, Done}
use Rattle.icet_rank.specs.Steps.{SameJob, SamePairings, Carries, Misses, IsKnownReady, Moves, Pends, Ends, misses_at}
use Rattle.std.proofs.lemmas.Option.{slice_get_within}
use Rattle.std.specs.List.{slice_get}
use Rattle.icet_net.specs.Ranks.{GoesOn, HadTurn}
use Rattle.icet_net.specs.Turns.{TurnsOn, MovedBy}
use Rattle.icet_model.proofs.Numbers.{same_or_not}

module _ where
  pub goes_on_refl : (m : MachineView) → GoesOn m m
  goes_on_refl m = record {
    job = record { number = refl; mode = refl; ops = refl; images = refl };
    pairings = record { inboxes = record { same_peers = refl; same_pairings = refl }; outboxes = record { same_peers = refl; same_pairings = refl } };
    counter = omega arith;
  }

  pub goes_on_trans : (a b c : MachineView) → GoesOn a b → GoesOn b c → GoesOn a c
  goes_on_trans a b c g h = record {
    job = record { number = h.job.number ∙ g.job.number; mode = h.job.mode ∙ g.job.mode; ops = h.job.ops ∙ g.job.ops; images = h.job.images ∙ g.job.images };
    pairings = record {
      inboxes = record { same_peers = h.pairings.inboxes.same_peers ∙ g.pairings.inboxes.same_peers; same_pairings = h.pairings.inboxes.same_pairings ∙ g.pairings.inboxes.same_pairings };
      outboxes = record { same_peers = h.pairings.outboxes.same_peers ∙ g.pairings.outboxes.same_peers; same_pairings = h.pairings.outboxes.same_pairings ∙ g.pairings.outboxes.same_pairings };
    };
    counter = let x = g.counter in let y = h.counter in omega arith;
  }

-- the steps of one rank's turn
module _ {a b c : MachineView} (steps : ℕ) (so_far : MovedBy steps a b) (job : SameJob b c) (pairings : SamePairings b c) where
  pub goes_further : b.counter ≤ c.counter → GoesOn a c
  goes_further l = goes_on_trans a b c so_far.goes_on (record { job = job; pairings = pairings; counter = l })

  in_misses : (k : Kind) (e : Exchange) (given : Option (Piece (List Pixel))) → Carries k e given b c → misses_to c.inboxes ≡ misses_to b.inboxes
  in_misses Send e given h = ap misses_to h.same_inboxes
  in_misses Take e given h = h.carried.carried.same_misses

  out_misses : (k : Kind) (e : Exchange) (given : Option (Piece (List Pixel))) → Carries k e given b c → misses_to c.outboxes ≡ misses_to b.outboxes
  out_misses Send e given h = h.carried.same_misses
  out_misses Take e given h = ap misses_to h.same_outboxes

  -- an exchange more was made
  pub moved_more : Moves b c → MovedBy (steps + 1) a c
  moved_more m = record {
    goes_on = goes_further (let k = m.counter in omega (arith, k));
    counter = let k = m.counter in let n = so_far.counter in omega (arith, k, n);
    none = λ z. absurd (omega (arith, z));
    in_misses = in_misses m.exchange.kind m.exchange _ m.carries ∙ so_far.in_misses;
    out_misses = out_misses m.exchange.kind m.exchange _ m.carries ∙ so_far.out_misses;
    had_left = λ z e.
        let within = slice_get_within (exchanges b.ops) b.counter m.exchange m.is_due in
        let ops = ap (λ ops. length (exchanges ops)) so_far.goes_on.job.ops in
        let n = so_far.goes_on.counter in
        omega (arith, within, ops, n, e);
  }

  rose : (k : Kind) (e : Exchange) → Misses k e b c → Rose (misses_at k e.peer a) (misses_at k e.peer c)
  rose Send e h = subst (λ f. Rose (f e.peer) (misses_to c.outboxes e.peer)) so_far.out_misses h.missed.more_misses
  rose Take e h = subst (λ f. Rose (f e.peer) (misses_to c.inboxes e.peer)) so_far.in_misses h.missed.more_misses

  -- where nothing was done before, what holds of the machine held from the start
  at_once : (Q : MachineView → Type 0) → steps ≡ 0 → Q a → Q b
  at_once Q z q = subst Q (sym (so_far.none z)) q

  -- the turn ends where the due port missed
  pub turn_pends : (burst : ℕ) → steps < burst → (IsKnownReady b → ⊥) → (b.counter ≡ length (exchanges b.ops) → ⊥) → Pends b c → TurnsOn burst a c
  turn_pends burst l unready left p = record {
    goes_on = goes_further (let k = p.counter in omega (arith, k));
    had_turn = record {
      most = let k = p.counter in let n = so_far.counter in omega (arith, k, n, l);
      moved = λ ready. ⊎_elim
          (λ (z : steps ≡ 0). absurd (unready (at_once IsKnownReady z ready)))
          (λ (n : steps ≢ 0). let k = p.counter in let m = so_far.counter in omega (arith, k, m, n))
          (same_or_not steps 0);
      finished = λ e. ⊎_elim
          (λ (z : steps ≡ 0). absurd (left (at_once (λ m. m.counter ≡ length (exchanges m.ops)) z e)))
          (λ (n : steps ≢ 0). absurd (so_far.had_left (omega (arith, n)) e))
          (same_or_not steps 0);
      stopped = λ _. inr (record {
        exchange = p.exchange;
        is_due = ap (λ ops. slice_get (exchanges ops) c.counter) job.ops ∙ (ap (slice_get (exchanges b.ops)) p.counter ∙ p.is_due);
        missed = rose p.exchange.kind p.exchange p.misses;
      });
    };
  }

  -- the turn ends where nothing is left
  pub turn_ends : (burst : ℕ) → steps < burst → (IsKnownReady b → ⊥) → Ends b c → TurnsOn burst a c
  turn_ends burst l unready e =
      let k = e.worked.counter in
      let m = so_far.counter in
      let done = e.place ∙ ap length (sym job.ops) in
      record {
        goes_on = goes_further (omega (arith, k));
        had_turn = record {
          most = omega (arith, k, m, l);
          moved = λ ready. ⊎_elim
              (λ (z : steps ≡ 0). absurd (unready (at_once IsKnownReady z ready)))
              (λ (n : steps ≢ 0). omega (arith, k, m, n))
              (same_or_not steps 0);
          finished = λ _. done;
          stopped = λ _. inl done;
        };
      }

  -- the turn ends at a step that moved nothing
  pub turn_stops : (burst : ℕ) (s : Step) → steps < burst → (s ≡ Pending) ⊎ (s ≡ Done) → (IsKnownReady b → s ≡ Moved) → (b.counter ≡ length (exchanges b.ops) → s ≡ Done) → (s ≡ Pending → Pends b c) → (s ≡ Done → Ends b c) → TurnsOn burst a c
  turn_stops burst s l (inl p) known left pends ends = turn_pends burst l (λ r. absurd (let e : Pending ≡ Moved = sym p ∙ known r in cc)) (λ e. absurd (let f : Pending ≡ Done = sym p ∙ left e in cc)) (pends p)
  turn_stops burst s l (inr d) known left pends ends = turn_ends burst l (λ r. absurd (let e : Done ≡ Moved = sym d ∙ known r in cc)) (ends d)

-- the turn ends after as many exchanges as it may make
pub turn_full : {a b : MachineView} (steps burst : ℕ) → steps ≡ burst → 1 ≤ burst → MovedBy steps a b → TurnsOn burst a b
turn_full steps burst e l m = let n = m.counter in record {
  goes_on = m.goes_on;
  had_turn = record {
    most = omega (arith, n, e);
    moved = λ _. omega (arith, n, e, l);
    finished = λ z. absurd (m.had_left (omega (arith, e, l)) z);
    stopped = λ s. absurd (omega (arith, n, e, s));
  };
}
