-- After a sync a rank that the core calls enabled is known ready.
use Rattle.std.proofs.Common.{◌≡◌, ℕ, ◌+◌, ◌<◌, ◌≤◌, true, List, [], length, get_or, refl, sym, ap, ◌∙◌, subst, arith, Some, ⊎_elim, length-append}
use Rattle.std.proofs.lemmas.List.{get_or-map, get_or_past, length-map}
use Rattle.std.specs.List.{slice_get}
use Rattle.icet_model.specs.declared.exchange.Kind.{Kind}
use Rattle.icet_model.specs.declared.exchange.Kind.TheVariants.{Send, Take}
use Rattle.icet_model.specs.declared.exchange.Exchange.{Exchange}
use Rattle.icet_model.specs.Exchange.{exchanges, sends_to, takes_from, of_rank}
use Rattle.icet_model.specs.Core.{passed, CanSwap, IsEnabled}
use Rattle.icet_model.specs.Core.{sent as sent_by, taken as taken_by}
use Rattle.icet_model.specs.Plan.{plan_exchanges}
use Rattle.icet_model.specs.Ports.{messages_to}
use Rattle.icet_plan.proofs.Headings.{sent_passed, used_passed}
use Rattle.icet_plan.proofs.PlanFlows.{of_program}
use Rattle.icet_plan.proofs.SomeEnabled.{passed_next, one_passes, send_is}
use Rattle.icet_rank.specs.Machine.{MachineView, IsRunning, carrier_of}
use Rattle.icet_rank.specs.Steps.{IsKnownReady, known_at}
use Rattle.icet_net.specs.Net.{HullView}
use Rattle.icet_net.specs.Ranks.{machine_at, no_machine, AreHulls, AreAllSynced, counters, sent_on, taken_on}
use Rattle.icet_net.specs.Syncs.{AreRunning}
use Rattle.icet_net.proofs.Course.{passed_within}
use Rattle.icet_model.proofs.Numbers.{within_or_past}

module _ where
  -- how many messages a machine has sent to a rank, and taken from one
  sent_count : (m : MachineView) (r : ℕ) → IsRunning m → length (messages_to m.outboxes r) ≡ passed (sends_to r) m.counter (exchanges m.ops)
  sent_count m r is = ap (λ xs. length xs) (is.runs.is_at.sent_are r) ∙ (sent_passed (carrier_of m.mode m.images) m.number (messages_to m.inboxes) m.ops m.place r ∙ ap (λ n. passed (sends_to r) n (exchanges m.ops)) (sym is.runs.count))

  taken_count : (m : MachineView) (q : ℕ) → IsRunning m → length (messages_to m.inboxes q) ≡ passed (takes_from q) m.counter (exchanges m.ops)
  taken_count m q is = is.runs.is_at.used_are q ∙ (used_passed (carrier_of m.mode m.images) m.number (messages_to m.inboxes) m.ops m.place q ∙ ap (λ n. passed (takes_from q) n (exchanges m.ops)) (sym is.runs.count))

module _ (machines : List MachineView) where
  past_machine : (r : ℕ) → length machines ≤ r → machine_at machines r ≡ no_machine
  past_machine r l = get_or_past machines r no_machine l

  pub counter_is : (r : ℕ) → get_or (counters machines) r 0 ≡ (machine_at machines r).counter
  counter_is r = ⊎_elim
      (λ (l : r < length machines). get_or-map (λ (m : MachineView). m.counter) machines r no_machine 0 l)
      (λ (l : length machines ≤ r). get_or_past (counters machines) r 0 (let e = length-map machines (λ (m : MachineView). m.counter) in omega (arith, e)) ∙ sym (ap (λ (m : MachineView). m.counter) (past_machine r l)))
      (within_or_past r (length machines))

  module _ (hull : HullView) (hulls : AreHulls hull machines) where
    pub ops_are : (r : ℕ) → of_rank (plan_exchanges hull.plan) r ≡ exchanges (machine_at machines r).ops
    ops_are r = of_program hull.plan.programs r ∙ ⊎_elim
        (λ (l : r < length machines). ap exchanges (sym (hulls.each r l).ops))
        (λ (l : length machines ≤ r). ap exchanges (get_or_past hull.plan.programs r [] (let e = hulls.count in omega (arith, e)) ∙ sym (ap (λ (m : MachineView). m.ops) (past_machine r l))))
        (within_or_past r (length machines))

module _ (hull : HullView) (machines : List MachineView) (hulls : AreHulls hull machines) (running : AreRunning machines) where
  sent_is : (q r : ℕ) → length (sent_on machines q r) ≡ sent_by (plan_exchanges hull.plan) (counters machines) q r
  sent_is q r = rw (ops_are machines hull hulls q, counter_is machines q) (⊎_elim
      (λ (l : q < length machines). sent_count (machine_at machines q) r (running.each q l))
      (λ (l : length machines ≤ q). subst (λ (m : MachineView). length (messages_to m.outboxes r) ≡ passed (sends_to r) m.counter (exchanges m.ops)) (sym (past_machine machines q l)) refl)
      (within_or_past q (length machines)))

  taken_is : (q r : ℕ) → length (taken_on machines q r) ≡ taken_by (plan_exchanges hull.plan) (counters machines) q r
  taken_is q r = rw (ops_are machines hull hulls r, counter_is machines r) (⊎_elim
      (λ (l : r < length machines). taken_count (machine_at machines r) q (running.each r l))
      (λ (l : length machines ≤ r). subst (λ (m : MachineView). length (messages_to m.inboxes q) ≡ passed (takes_from q) m.counter (exchanges m.ops)) (sym (past_machine machines r l)) refl)
      (within_or_past r (length machines)))

  module _ (synced : AreAllSynced hull machines) where
    known_for : (q peer : ℕ) (e : Exchange) (k : Kind) → slice_get (of_rank (plan_exchanges hull.plan) q) (get_or (counters machines) q 0) ≡ Some e → e.kind ≡ k → e.peer ≡ peer → CanSwap (plan_exchanges hull.plan) hull.cap (counters machines) q k peer → 0 < known_at k peer (machine_at machines q)
    known_for q peer e Send is_due kind to free =
        let passes : sends_to peer e ≡ true = subst (λ p. sends_to p e ≡ true) to (send_is e.kind e.peer kind) in
        let next = passed_next (sends_to peer) (of_rank (plan_exchanges hull.plan) q) (get_or (counters machines) q 0) e is_due in
        let one = one_passes (sends_to peer) e passes in
        let least = passed_within (sends_to peer) (get_or (counters machines) q 0 + 1) (of_rank (plan_exchanges hull.plan) q) in
        let s = synced.synced q peer (omega (arith, next, one, least)) in
        let all = ap (λ xs. length xs) s.carried in
        let sum = length-append (taken_on machines q peer) s.waiting in
        omega (arith, all, sum, s.free_are, free, sent_is q peer, taken_is q peer)
    known_for q peer e Take is_due kind from free =
        let least = passed_within (sends_to q) (get_or (counters machines) peer 0) (of_rank (plan_exchanges hull.plan) peer) in
        let s = synced.synced peer q (omega (arith, least, free)) in
        let all = ap (λ xs. length xs) s.carried in
        let sum = length-append (taken_on machines peer q) s.waiting in
        omega (arith, all, sum, s.known_are, free, sent_is peer q, taken_is peer q)

    -- a rank that is enabled is known ready
    pub is_ready : (q : ℕ) → IsEnabled (plan_exchanges hull.plan) hull.cap (counters machines) q → IsKnownReady (machine_at machines q)
    is_ready q enabled = record {
      exchange = enabled.exchange;
      is_due = ap (λ n. slice_get (exchanges (machine_at machines q).ops) n) (sym (counter_is machines q)) ∙ (ap (λ es. slice_get es (get_or (counters machines) q 0)) (sym (ops_are machines hull hulls q)) ∙ enabled.is_due);
      is_known = known_for q enabled.exchange.peer enabled.exchange enabled.exchange.kind enabled.is_due refl refl enabled.free;
    }
