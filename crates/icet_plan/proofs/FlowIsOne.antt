-- Two runs of all programs agree wherever both have come, by induction on the key. The flow exists and is one.
use Rattle.std.proofs.Common.{◌≡◌, ℕ, zero, suc, ◌+◌, ◌*◌, ◌<◌, ◌≤◌, List, [], ◌∷◌, ◌++◌, map, length, take, drop, refl, sym, ap, ◌∙◌, subst, arith, Option, Some, None, length-append, inl, inr, ⊎_elim, add-one}
use Rattle.std.proofs.lemmas.List.{append-nil, take_all, length-map}
use Rattle.std.proofs.lemmas.Option.{slice_get-map}
use Rattle.std.specs.Prelude.{◌⊎◌}
use Rattle.std.specs.Option.{option_map}
use Rattle.std.specs.List.{AllByRecursion, filter, slice_get}
use Rattle.icet_model.specs.declared.exchange.Kind.{Kind}
use Rattle.icet_model.specs.declared.exchange.Kind.TheVariants.{Send, Take}
use Rattle.icet_model.specs.declared.exchange.Exchange.{Exchange}
use Rattle.icet_model.specs.declared.exchange.Op.{Op}
use Rattle.icet_model.specs.declared.exchange.Op.TheVariants.{Load, Blank, Cut, Join, Swap, Keep}
use Rattle.icet_model.specs.Exchange.{key_of, key, sends_to, takes_from, IsRising, heading}
use Rattle.icet_model.specs.Core.{passed}
use Rattle.icet_model.specs.Exchange.{of_op, exchanges}
use Rattle.icet_model.specs.Run.{Carrier, MessageView, Local, fresh, step, taken_by, message_for, run, upto}
use Rattle.icet_model.specs.Flow.{Messages, IsFlow, rounds}
use Rattle.icet_model.proofs.Lists.{take_next_suc}
use Rattle.icet_plan.proofs.Lists.{all_weaker, filter-append, slice_front, take_past_suc, all_front, all_back}
use Rattle.icet_plan.proofs.SomeEnabled.{when_sends, upto_key, take_is, passed_next, one_passes}
use Rattle.icet_plan.proofs.LocalRuns.{exchanges-append, upto_sends, upto_uses, upto_next, upto_grows, sent_kept, nth, nth_passes, cover}

abbrev pub AreBelow : ℕ → List Exchange → Type 0
AreBelow k es = AllByRecursion (λ e. key e < k) es

-- the messages given to one program agree at each take with a key below k
abbrev pub Agrees : {T : Type 0} → List Op → (ℕ → List (MessageView T)) → (ℕ → List (MessageView T)) → ℕ → ℕ → Type 0
Agrees ops a b k place = (n : ℕ) (e : Exchange) (slot : ℕ) → n < place → slice_get ops n ≡ Some (Swap e slot) → e.kind ≡ Take → key e < k → slice_get (a e.peer) (length (filter (takes_from e.peer) (exchanges (take n ops)))) ≡ slice_get (b e.peer) (length (filter (takes_from e.peer) (exchanges (take n ops))))

option_cases : {X : Type 0} (o : Option X) → (o ≡ None) ⊎ ((x : X) × (o ≡ Some x))
option_cases None = inl refl
option_cases (Some x) = inr (x, refl)

front_exchanges : (ops : List Op) (n : ℕ) (op : Op) → slice_get ops n ≡ Some op → exchanges (take (suc n) ops) ≡ exchanges (take n ops) ++ of_op op
front_exchanges ops n op h = ap exchanges (take_next_suc ops n op h) ∙ exchanges-append (take n ops) (op ∷ []) ∙ ap (λ xs. exchanges (take n ops) ++ xs) (append-nil (of_op op))

module _ {T : Type 0} (c : Carrier T) (me : ℕ) (ops : List Op) (a b : ℕ → List (MessageView T)) (k place : ℕ) (agrees : Agrees ops a b k place) where
  message_same : (n : ℕ) → n < place → (op : Op) → slice_get ops n ≡ Some op → AreBelow k (of_op op) → message_for a (upto c me a ops n).used op ≡ message_for b (upto c me a ops n).used op
  message_same n l (Load tile slot) h below = refl
  message_same n l (Blank tile slot) h below = refl
  message_same n l (Cut slot at into) h below = refl
  message_same n l (Join front back into) h below = refl
  message_same n l (Swap e slot) h below = go e.kind refl
    where
      go : (q : Kind) → e.kind ≡ q → taken_by a (upto c me a ops n).used q e.peer ≡ taken_by b (upto c me a ops n).used q e.peer
      go Send s = refl
      go Take s = rw (upto_uses c me a ops n e.peer) (agrees n e slot l h s below.0)
  message_same n l (Keep slot) h below = refl

  -- where the messages taken agree, so do the states
  pub same_upto : (n : ℕ) → n ≤ place → AreBelow k (exchanges (take n ops)) → upto c me a ops n ≡ upto c me b ops n
  same_upto zero l below = refl
  same_upto (suc n) l below = ⊎_elim
      (λ (h : slice_get ops n ≡ None).
      let z = take_past_suc ops n h in
      ap (λ xs. run c me a xs fresh) z ∙ same_upto n (omega arith) (subst (λ xs. AreBelow k (exchanges xs)) z below) ∙ ap (λ xs. run c me b xs fresh) (sym z))
      (λ (h : (op : Op) × (slice_get ops n ≡ Some op)).
      let split = subst (AreBelow k) (front_exchanges ops n h.0 h.1) below in
      let ih = same_upto n (omega arith) (all_front (λ e. key e < k) (exchanges (take n ops)) (of_op h.0) split) in
      let m = message_same n (omega arith) h.0 h.1 (all_back (λ e. key e < k) (exchanges (take n ops)) (of_op h.0) split) in
      upto_next c me a ops n h.0 h.1
      ∙ (ap (λ o. step c me o h.0 (upto c me a ops n)) m
      ∙ (ap (λ s. step c me (message_for b s.used h.0) h.0 s) ih
      ∙ sym (upto_next c me b ops n h.0 h.1))))
      (option_cases (slice_get ops n))

-- programs whose exchanges are matched
pub record AreMatched (progs : ℕ → List Op) : Type 0 where
  pub rising : (r : ℕ) → IsRising (exchanges (progs r))
  pub pairs : (q r : ℕ) → map heading (filter (sends_to r) (exchanges (progs q))) ≡ map heading (filter (takes_from q) (exchanges (progs r)))

-- the send behind a take: a place of the sender's program right behind it
pub record Behind (ops : List Op) (r most j k : ℕ) : Type 0 where
  pub place : ℕ
  pub within : place ≤ most
  pub below : AreBelow k (exchanges (take place ops))
  pub enough : j < length (filter (sends_to r) (exchanges (take place ops)))

-- the place of an operation among the exchanges
pub at_exchange : (ops : List Op) (n : ℕ) (e : Exchange) (slot : ℕ) → slice_get ops n ≡ Some (Swap e slot) → slice_get (exchanges ops) (length (exchanges (take n ops))) ≡ Some e
at_exchange [] n e slot h = absurd (cc)
at_exchange (op ∷ ops) zero e slot h = let s : op ≡ Swap e slot = cc in rw s refl
at_exchange (op ∷ ops) (suc n) e slot h = go (of_op op) (at_exchange ops n e slot h)
  where
    go : (xs : List Exchange) → slice_get (exchanges ops) (length (exchanges (take n ops))) ≡ Some e → slice_get (xs ++ exchanges ops) (length (xs ++ exchanges (take n ops))) ≡ Some e
    go [] r = r
    go (x ∷ xs) r = go xs r

pub front_of_exchanges : (ops : List Op) (n : ℕ) → exchanges (take n ops) ≡ take (length (exchanges (take n ops))) (exchanges ops)
front_of_exchanges ops zero = refl
front_of_exchanges [] (suc n) = refl
front_of_exchanges (op ∷ ops) (suc n) = go (of_op op) (front_of_exchanges ops n)
  where
    go : (xs : List Exchange) → exchanges (take n ops) ≡ take (length (exchanges (take n ops))) (exchanges ops) → xs ++ exchanges (take n ops) ≡ take (length (xs ++ exchanges (take n ops))) (xs ++ exchanges ops)
    go [] r = r
    go (x ∷ xs) r = ap (λ zs. x ∷ zs) (go xs r)

send_behind : (progs : ℕ → List Op) → AreMatched progs → (r n : ℕ) (e : Exchange) (slot k most : ℕ) → slice_get (progs r) n ≡ Some (Swap e slot) → e.kind ≡ Take → key e < suc k → length (filter (takes_from e.peer) (exchanges (take n (progs r)))) < length (filter (sends_to r) (exchanges (take most (progs e.peer)))) → Behind (progs e.peer) r most (length (filter (takes_from e.peer) (exchanges (take n (progs r))))) k
send_behind progs m r n e slot k most h kind less enough =
    let q = e.peer in
    let es = exchanges (progs r) in
    let fs = exchanges (progs q) in
    let i = length (exchanges (take n (progs r))) in
    let j = length (filter (takes_from q) (exchanges (take n (progs r)))) in
    let b = length (exchanges (take most (progs q))) in
    let j_is : j ≡ passed (takes_from q) i es = ap (λ xs. length (filter (takes_from q) xs)) (front_of_exchanges (progs r) n) in
    let found = nth (sends_to r) fs b j (subst (λ xs. j < length (filter (sends_to r) xs)) (front_of_exchanges (progs q) most) enough) in
    let f = found.exchange in
    let sent_at : slice_get (filter (sends_to r) fs) j ≡ Some f = subst (λ z. slice_get (filter (sends_to r) fs) z ≡ Some f) found.before (nth_passes (sends_to r) fs found.place f found.at found.passes) in
    let taken_at : slice_get (filter (takes_from q) es) j ≡ Some e = subst (λ z. slice_get (filter (takes_from q) es) z ≡ Some e) (sym j_is) (nth_passes (takes_from q) es i e (at_exchange (progs r) n e slot h) (take_is e.kind e.peer kind)) in
    let faces : Some (heading f) ≡ Some (heading e) =
    sym (ap (option_map heading) sent_at) ∙ (sym (slice_get-map heading (filter (sends_to r) fs) j) ∙ (ap (λ xs. slice_get xs j) (m.pairs q r) ∙ (slice_get-map heading (filter (takes_from q) es) j ∙ ap (option_map heading) taken_at))) in
    let face_is : heading f ≡ heading e = cc in
    let same_round : f.round ≡ e.round = ap (λ g. g.round) face_is in
    let key_e : key e ≡ 2 * e.round + 1 = ap (key_of e.round) kind in
    let s = when_sends f r found.passes in
    let co = cover (progs q) most (suc found.place) (omega (arith, found.within)) in
    record {
      place = co.place;
      within = co.within;
      below = subst (AreBelow k) (sym co.is) (all_weaker (λ x. key x ≤ key f) (λ x. key x < k) (λ x l. omega (arith, l, s.key_is, same_round, key_e)) (take (suc found.place) fs) (upto_key fs found.place f found.at (m.rising q)));
      enough = subst (λ xs. j < length (filter (sends_to r) xs)) (sym co.is) (let one = passed_next (sends_to r) fs found.place f found.at in let next = rw add-one at one in omega (arith, next, one_passes (sends_to r) f found.passes, found.before));
    }

-- a take counts among those before a later place
pub used_more : (ops : List Op) (n place : ℕ) (e : Exchange) (slot : ℕ) → n < place → slice_get ops n ≡ Some (Swap e slot) → e.kind ≡ Take → length (filter (takes_from e.peer) (exchanges (take n ops))) < length (filter (takes_from e.peer) (exchanges (take place ops)))
used_more ops n place e slot l h kind =
    let p = takes_from e.peer in
    let one : length (filter p (exchanges (take (suc n) ops))) ≡ length (filter p (exchanges (take n ops))) + length (filter p (e ∷ [])) =
    ap (λ xs. length (filter p xs)) (front_exchanges ops n (Swap e slot) h) ∙ (ap length (filter-append p (exchanges (take n ops)) (e ∷ [])) ∙ length-append (filter p (exchanges (take n ops))) (filter p (e ∷ []))) in
    let rest = drop (suc n) (take place ops) in
    let all : length (filter p (exchanges (take place ops))) ≡ length (filter p (exchanges (take (suc n) ops))) + length (filter p (exchanges rest)) =
    ap (λ xs. length (filter p (exchanges xs))) (slice_front (suc n) place ops (omega arith)) ∙ (ap (λ xs. length (filter p xs)) (exchanges-append (take (suc n) ops) rest)
    ∙ (ap length (filter-append p (exchanges (take (suc n) ops)) (exchanges rest)) ∙ length-append (filter p (exchanges (take (suc n) ops))) (filter p (exchanges rest)))) in
    omega (arith, one, all, one_passes p e (take_is e.kind e.peer kind))

-- all programs, each at a place, each with the messages that it took, by sender and receiver
abbrev pub state : {T : Type 0} → (ℕ → Carrier T) → (ℕ → List Op) → Messages T → ℕ → ℕ → Local T
state c progs taken r n = upto (c r) r (λ p. taken p r) (progs r) n

-- what was taken on a pair is a front of what was sent
pub record IsNet {T : Type 0} (c : ℕ → Carrier T) (progs : ℕ → List Op) (place : ℕ → ℕ) (taken : Messages T) : Type 0 where
  pub sent : (q r : ℕ) → (state c progs taken r (place r)).used q ≤ length ((state c progs taken q (place q)).sent r)
  pub same : (q r j : ℕ) → j < (state c progs taken r (place r)).used q → slice_get (taken q r) j ≡ slice_get ((state c progs taken q (place q)).sent r) j

pub bound : List Exchange → ℕ
bound [] = 0
bound (e ∷ es) = suc (key e) + bound es

pub below_bound : (es : List Exchange) → AreBelow (bound es) es
unfolding bound
below_bound [] = tt
below_bound (e ∷ es) = (omega arith, all_weaker (λ x. key x < bound es) (λ x. key x < suc (key e) + bound es) (λ x l. omega arith) es (below_bound es))

module _ {T : Type 0} (c : ℕ → Carrier T) (progs : ℕ → List Op) (matched : AreMatched progs) where
  module _ (placeA placeB : ℕ → ℕ) (a b : Messages T) (netA : IsNet c progs placeA a) (netB : IsNet c progs placeB b) (ahead : (r : ℕ) → placeA r ≤ placeB r) where
    net_agrees : (k r : ℕ) → Agrees (progs r) (λ p. a p r) (λ p. b p r) k (placeA r)
    net_agrees zero r n e slot l h kind less = absurd (omega arith)
    net_agrees (suc k) r n e slot l h kind less =
        let q = e.peer in
        let j = length (filter (takes_from q) (exchanges (take n (progs r)))) in
        let usedA : j < (state c progs a r (placeA r)).used q = omega (arith, used_more (progs r) n (placeA r) e slot l h kind, upto_uses (c r) r (λ p. a p r) (progs r) (placeA r) q) in
        let usedB : j < (state c progs b r (placeB r)).used q = omega (arith, used_more (progs r) n (placeB r) e slot (omega (arith, l, ahead r)) h kind, upto_uses (c r) r (λ p. b p r) (progs r) (placeB r) q) in
        let back = send_behind progs matched r n e slot k (placeA q) h kind less (omega (arith, usedA, netA.sent q r, upto_sends (c q) q (λ p. a p q) (progs q) (placeA q) r)) in
        let both = same_upto (c q) q (progs q) (λ p. a p q) (λ p. b p q) k (placeA q) (net_agrees k q) back.place back.within back.below in
        netA.same q r j usedA
        ∙ (sent_kept (c q) q (λ p. a p q) (progs q) back.place (placeA q) r j back.within back.enough
        ∙ (ap (λ (s : Local T). slice_get (s.sent r) j) both
        ∙ (sym (sent_kept (c q) q (λ p. b p q) (progs q) back.place (placeB q) r j (omega (arith, back.within, ahead q)) back.enough)
        ∙ sym (netB.same q r j usedB))))

    -- where the one has come, the other had the same state
    pub net_same : (r n : ℕ) → n ≤ placeA r → state c progs a r n ≡ state c progs b r n
    net_same r n l = same_upto (c r) r (progs r) (λ p. a p r) (λ p. b p r) (bound (exchanges (take n (progs r)))) (placeA r) (net_agrees (bound (exchanges (take n (progs r)))) r) n l (below_bound (exchanges (take n (progs r))))

  totals : (q r : ℕ) → length (filter (sends_to r) (exchanges (progs q))) ≡ length (filter (takes_from q) (exchanges (progs r)))
  totals q r = sym (length-map (filter (sends_to r) (exchanges (progs q))) heading) ∙ (ap length (matched.pairs q r) ∙ length-map (filter (takes_from q) (exchanges (progs r))) heading)

  ends : ℕ → ℕ
  ends r = length (progs r)

  full : (ms : Messages T) (q : ℕ) → state c progs ms q (length (progs q)) ≡ run (c q) q (λ p. ms p q) (progs q) fresh
  full ms q = ap (λ xs. run (c q) q (λ p. ms p q) xs fresh) (take_all (length (progs q)) (progs q) (omega arith))

  ends_take : (r : ℕ) → exchanges (take (length (progs r)) (progs r)) ≡ exchanges (progs r)
  ends_take r = ap exchanges (take_all (length (progs r)) (progs r) (omega arith))

  -- what is used and sent in whole programs
  used_all : (ms : Messages T) (q r : ℕ) → (state c progs ms r (length (progs r))).used q ≡ length (filter (takes_from q) (exchanges (progs r)))
  used_all ms q r = upto_uses (c r) r (λ p. ms p r) (progs r) (length (progs r)) q ∙ ap (λ es. length (filter (takes_from q) es)) (ends_take r)

  sent_all : (ms : Messages T) (q r : ℕ) → length ((state c progs ms q (length (progs q))).sent r) ≡ length (filter (sends_to r) (exchanges (progs q)))
  sent_all ms q r = upto_sends (c q) q (λ p. ms p q) (progs q) (length (progs q)) r ∙ ap (λ es. length (filter (sends_to r) es)) (ends_take q)

  -- a flow is a net that has come to its end
  pub flow_net : (ms : Messages T) → IsFlow c progs ms → IsNet c progs (λ r. length (progs r)) ms
  flow_net ms f = record {
    sent = λ q r. omega (arith, used_all ms q r, sent_all ms q r, totals q r);
    same = λ q r j l. ap (λ xs. slice_get xs j) (f q r) ∙ sym (ap (λ (s : Local T). slice_get (s.sent r) j) (full ms q));
  }

  -- there is one flow at most
  pub flow_unique : (ms ns : Messages T) → IsFlow c progs ms → IsFlow c progs ns → (q r : ℕ) → ms q r ≡ ns q r
  flow_unique ms ns f g q r =
      f q r ∙ (sym (ap (λ (s : Local T). s.sent r) (full ms q))
      ∙ (ap (λ (s : Local T). s.sent r) (net_same (λ r. length (progs r)) (λ r. length (progs r)) ms ns (flow_net ms f) (flow_net ns g) (λ r. omega arith) q (length (progs q)) (omega arith))
      ∙ (ap (λ (s : Local T). s.sent r) (full ns q) ∙ sym (g q r))))

  -- at each moment a net's ranks are where the flow's are at their places
  pub net_is_flow : (place : ℕ → ℕ) (taken ms : Messages T) → IsNet c progs place taken → IsFlow c progs ms → ((r : ℕ) → place r ≤ length (progs r)) → (r n : ℕ) → n ≤ place r → state c progs taken r n ≡ state c progs ms r n
  net_is_flow place taken ms net f l = net_same place (λ r. length (progs r)) taken ms net (flow_net ms f) l

  -- what was sent is a front of what the flow sends
  pub sent_in_flow : (place : ℕ → ℕ) (taken ms : Messages T) → IsNet c progs place taken → IsFlow c progs ms → ((r : ℕ) → place r ≤ length (progs r)) → (q r : ℕ) → (more : List (MessageView T)) × (ms q r ≡ (state c progs taken q (place q)).sent r ++ more)
  sent_in_flow place taken ms net f l q r =
      let g = upto_grows (c q) q (λ p. ms p q) (progs q) (place q) (length (progs q)) r (l q) in
      (g.0, f q r ∙ (sym (ap (λ (s : Local T). s.sent r) (full ms q)) ∙ (g.1 ∙ ap (λ (s : Local T). s.sent r ++ g.0) (sym (net_is_flow place taken ms net f l q (place q) (omega arith))))))

  -- the iteration: one more key is right after each
  rounds_agree : (k r : ℕ) → Agrees (progs r) (λ p. rounds c progs k p r) (λ p. rounds c progs (suc k) p r) k (length (progs r))
  rounds_agree zero r n e slot l h kind less = absurd (omega arith)
  rounds_agree (suc k) r n e slot l h kind less =
      let q = e.peer in
      let j = length (filter (takes_from q) (exchanges (take n (progs r)))) in
      let used = used_more (progs r) n (length (progs r)) e slot l h kind in
      let back = send_behind progs matched r n e slot k (length (progs q)) h kind less (omega (arith, used, totals q r, ap (λ es. length (filter (takes_from q) es)) (ends_take r), ap (λ es. length (filter (sends_to r) es)) (ends_take q))) in
      let both = same_upto (c q) q (progs q) (λ p. rounds c progs k p q) (λ p. rounds c progs (suc k) p q) k (length (progs q)) (rounds_agree k q) back.place back.within back.below in
      sym (ap (λ (s : Local T). slice_get (s.sent r) j) (full (rounds c progs k) q))
      ∙ (sent_kept (c q) q (λ p. rounds c progs k p q) (progs q) back.place (length (progs q)) r j back.within back.enough
      ∙ (ap (λ (s : Local T). slice_get (s.sent r) j) both
      ∙ (sym (sent_kept (c q) q (λ p. rounds c progs (suc k) p q) (progs q) back.place (length (progs q)) r j back.within back.enough)
      ∙ ap (λ (s : Local T). slice_get (s.sent r) j) (full (rounds c progs (suc k)) q))))

  -- with more rounds than keys the messages come out as they go in
  pub flow_exists : (k : ℕ) → ((r : ℕ) → AreBelow k (exchanges (progs r))) → IsFlow c progs (rounds c progs (suc k))
  flow_exists k below q r =
      sym (ap (λ (s : Local T). s.sent r) (full (rounds c progs k) q))
      ∙ (ap (λ (s : Local T). s.sent r) (same_upto (c q) q (progs q) (λ p. rounds c progs k p q) (λ p. rounds c progs (suc k) p q) k (length (progs q)) (rounds_agree k q) (length (progs q)) (omega arith) (subst (AreBelow k) (sym (ends_take q)) (below q)))
      ∙ ap (λ (s : Local T). s.sent r) (full (rounds c progs (suc k)) q))
