-- Machines whose ports agree are a net, their counters are a lawful state of the core, and done ones carried the flow.
use Rattle.std.proofs.Common.{◌≡◌, ℕ, zero, suc, ◌+◌, ◌≤◌, Bool, List, [], ◌∷◌, ◌++◌, map, length, get_or, take, refl, sym, ap, ◌∙◌, arith, Option, length-append}
use Rattle.std.proofs.lemmas.List.{append-nil, length-map, take_all}
use Rattle.std.specs.List.{slice_get, filter}
use Rattle.icet_model.specs.declared.exchange.Exchange.{Exchange}
use Rattle.icet_model.specs.declared.exchange.Op.{Op}
use Rattle.icet_model.specs.Exchange.{of_op, heading, sends_to, takes_from}
use Rattle.icet_model.specs.Core.{passed, IsLawful}
use Rattle.icet_model.specs.Matched.{IsMatched}
use Rattle.icet_model.specs.Exchange.{exchanges}
use Rattle.icet_model.specs.Run.{Carrier, Piece, Local, fresh, run}
use Rattle.icet_model.specs.Flow.{Messages, IsFlow}
use Rattle.icet_model.specs.Flow.{program}
use Rattle.icet_model.specs.Ports.{IsAt}
use Rattle.icet_plan.proofs.Lists.{slice_get_append}
use Rattle.icet_plan.proofs.FlowIsOne.{IsNet, net_is_flow}
use Rattle.icet_plan.proofs.Headings.{sent_passed, used_passed}
use Rattle.icet_plan.proofs.PlanFlows.{of_program, matched_programs}

pub record Front {X : Type 0} (xs ys : List X) : Type 0 where
  pub more : List X
  pub is : ys ≡ xs ++ more

no_more : {X : Type 0} (xs ys : List X) → length xs ≡ length (xs ++ ys) → ys ≡ []
no_more xs [] h = refl
no_more xs (y ∷ ys) h = let e = length-append xs (y ∷ ys) in absurd (omega (arith, e, h))

-- the counter of a place
abbrev pub counter_at : List Op → ℕ → ℕ
counter_at ops n = length (exchanges (take n ops))

module _ {T : Type 0} (c : ℕ → Carrier T) (programs : List (List Op)) (place : ℕ → ℕ) (taken : Messages T) (slots : ℕ → ℕ → Option (Piece T)) (kept : ℕ → List (Piece T)) (sent : Messages T) (at : (r : ℕ) → IsAt (c r) r (program programs r) (place r) (λ p. taken p r) (slots r) (kept r) (λ q. sent r q)) (fronts : (q r : ℕ) → Front (taken q r) (sent q r)) where
  pub is_net : IsNet c (program programs) place taken
  is_net = record {
    sent = λ q r. let u = (at r).used_are q in let s = ap (λ xs. length xs) ((at q).sent_are r) in let f = ap (λ xs. length xs) (fronts q r).is in let n = length-append (taken q r) (fronts q r).more in omega (arith, u, s, f, n);
    same = λ q r j l. sym (slice_get_append (taken q r) (fronts q r).more j (let u = (at r).used_are q in omega (arith, l, u))) ∙ ap (λ xs. slice_get xs j) (sym (fronts q r).is ∙ (at q).sent_are r);
  }

  -- the numbers of the core
  sent_number : (q r : ℕ) → length (sent q r) ≡ passed (sends_to r) (counter_at (program programs q) (place q)) (exchanges (program programs q))
  sent_number q r = ap (λ xs. length xs) ((at q).sent_are r) ∙ sent_passed (c q) q (λ p. taken p q) (program programs q) (place q) r

  taken_number : (q r : ℕ) → length (taken q r) ≡ passed (takes_from q) (counter_at (program programs r) (place r)) (exchanges (program programs r))
  taken_number q r = (at r).used_are q ∙ used_passed (c r) r (λ p. taken p r) (program programs r) (place r) q

  within : (ops : List Op) (n : ℕ) → length (exchanges (take n ops)) ≤ length (exchanges ops)
  within ops zero = omega arith
  within [] (suc n) = omega arith
  within (op ∷ ops) (suc n) = let w = within ops n in omega (arith, w, length-append (of_op op) (exchanges (take n ops)), length-append (of_op op) (exchanges ops))

  -- counters are a lawful state, where each pair holds at most cap
  pub is_lawful : (cap : ℕ) (done : List ℕ) → length done ≡ length programs → ((r : ℕ) → get_or done r 0 ≡ counter_at (program programs r) (place r)) → ((q r : ℕ) → length (sent q r) ≤ length (taken q r) + cap) → IsLawful (map exchanges programs) cap done
  is_lawful cap done ranks counters held = record {
    ranks = ranks ∙ sym (length-map programs exchanges);
    within = λ r. rw (of_program programs r, counters r) (within (program programs r) (place r));
    ordered = λ q r. rw (of_program programs r, of_program programs q, counters q, counters r) (let f = ap (λ xs. length xs) (fronts q r).is in let n = length-append (taken q r) (fronts q r).more in omega (arith, f, n, sent_number q r, taken_number q r));
    held = λ q r. rw (of_program programs r, of_program programs q, counters q, counters r) (let h = held q r in omega (arith, h, sent_number q r, taken_number q r));
  }

  -- all done: each pair's list was taken whole, and is the flow's
  pub carried : IsMatched (map exchanges programs) → (ms : Messages T) → IsFlow c (program programs) ms → ((r : ℕ) → place r ≡ length (program programs r)) → (q r : ℕ) → (sent q r ≡ ms q r) × (taken q r ≡ sent q r)
  carried m ms flow ended q r =
      let mp = matched_programs programs m in
      let least : (x : ℕ) → place x ≤ length (program programs x) = λ x. let e = ended x in omega (arith, e) in
      let s = net_is_flow c (program programs) mp place taken ms is_net flow least q (place q) (omega arith) in
      let all : take (place q) (program programs q) ≡ program programs q = take_all (place q) (program programs q) (let e = ended q in omega (arith, e)) in
      let a : sent q r ≡ ms q r = (at q).sent_are r ∙ (ap (λ (s : Local T). s.sent r) s ∙ (ap (λ ops. (run (c q) q (λ p. ms p q) ops fresh).sent r) all ∙ sym (flow q r))) in
      let es = exchanges (program programs q) in
      let full : (x : ℕ) (p : Exchange → Bool) → passed p (counter_at (program programs x) (place x)) (exchanges (program programs x)) ≡ length (filter p (exchanges (program programs x))) =
      λ x p. ap (λ xs. length (filter p xs)) (take_all (counter_at (program programs x) (place x)) (exchanges (program programs x)) (let e = take_all (place x) (program programs x) (let e = ended x in omega (arith, e)) in let l = ap (λ xs. length (exchanges xs)) e in omega (arith, l))) in
      let pairs = mp.pairs q r in
      let totals : length (filter (sends_to r) (exchanges (program programs q))) ≡ length (filter (takes_from q) (exchanges (program programs r))) =
      sym (length-map (filter (sends_to r) (exchanges (program programs q))) heading) ∙ (ap (λ xs. length xs) pairs ∙ length-map (filter (takes_from q) (exchanges (program programs r))) heading) in
      let equal : length (taken q r) ≡ length (sent q r) = taken_number q r ∙ (full r (takes_from q) ∙ (sym totals ∙ (sym (full q (sends_to r)) ∙ sym (sent_number q r)))) in
      let f = fronts q r in
      let none = no_more (taken q r) f.more (equal ∙ ap (λ xs. length xs) f.is) in
      (a, sym (f.is ∙ (ap (λ xs. taken q r ++ xs) none ∙ append-nil (taken q r))))
