-- The laws of the core: an enabled rank, the order, the end, what can be reached.
use Rattle.std.proofs.Common.{◌≡◌, ℕ, zero, suc, ◌+◌, ◌<◌, ◌≤◌, Bool, true, false, cond, List, [], ◌∷◌, ◌++◌, map, length, get_or, take, drop, set, refl, sym, ap, ◌∙◌, subst, arith, Some, None, inl, inr, ⊎_elim, eq-eqb, ne_eqb}
use Rattle.std.proofs.lemmas.List.{get_or_past, length-map, length-set, get_or-set_same, get_or-set_other, set_comm, ext_get_or, take_all, append_assoc, append-nil}
use Rattle.std.proofs.lemmas.Option.{slice_get_within}
use Rattle.std.specs.Prelude.{◌==◌, ◌⊎◌, ◌≢◌}
use Rattle.std.specs.List.{filter, slice_get}
use Rattle.icet_model.specs.declared.exchange.Kind.{Kind}
use Rattle.icet_model.specs.declared.exchange.Kind.TheVariants.{Send, Take}
use Rattle.icet_model.specs.declared.exchange.Exchange.{Exchange}
use Rattle.icet_model.specs.Exchange.{sends_to, takes_from, heading, of_rank}
use Rattle.icet_model.specs.Matched.{IsMatched}
use Rattle.icet_model.specs.Core.{passed, sent, taken, IsLawful, due, CanSwap, IsEnabled, after, after_all, AreEnabled, AllDone, start, total, HasLeft, SomeEnabled, Reaches, made, due_list}
use Rattle.icet_plan.proofs.SomeEnabled.{when_sends, when_takes, passed_next, one_passes, part, IsLater, Goes, goes_or_ended, take_next}
use Rattle.icet_model.proofs.Numbers.{same_or_not}

-- a rank that is due is one of the plan's
pub due_ranked : (all : List (List Exchange)) (now : List ℕ) (q : ℕ) (e : Exchange) → due all now q ≡ Some e → q < length all
due_ranked all now q e h = ⊎_elim (λ (l : q < length all). l) (λ (l : length all ≤ q). let z : of_rank all q ≡ [] = get_or_past all q [] l in let n : due all now q ≡ None = ap (λ es. slice_get es (get_or now q 0)) z in absurd (cc)) (let s : (q < length all) ⊎ (length all ≤ q) = grind arith in s)

pub record Moved (now : List ℕ) (q : ℕ) : Type 0 where
  pub here : get_or (after now q) q 0 ≡ get_or now q 0 + 1
  pub elsewhere : (x : ℕ) → x ≢ q → get_or (after now q) x 0 ≡ get_or now x 0

moved : (now : List ℕ) (q : ℕ) → q < length now → Moved now q
moved now q l = record { here = get_or-set_same now q (get_or now q 0 + 1) 0 l; elsewhere = λ x n. get_or-set_other now q x (get_or now q 0 + 1) 0 n }

-- what passes after an event
pub gain : (all : List (List Exchange)) (now : List ℕ) (q : ℕ) (e : Exchange) → due all now q ≡ Some e → Moved now q → (p : Exchange → Bool) (x : ℕ) → (passed p (get_or (after now q) x 0) (of_rank all x) ≡ passed p (get_or now x 0) (of_rank all x)) ⊎ ((x ≡ q) × (p e ≡ true) × (passed p (get_or (after now q) x 0) (of_rank all x) ≡ passed p (get_or now x 0) (of_rank all x) + 1))
gain all now q e h m p x = ⊎_elim
    (λ (s : x ≡ q). go (p e) refl s)
    (λ (n : x ≢ q). inl (ap (λ c. passed p c (of_rank all x)) (m.elsewhere x n)))
    (same_or_not x q)
  where
    next : x ≡ q → passed p (get_or (after now q) x 0) (of_rank all x) ≡ passed p (get_or now x 0) (of_rank all x) + length (filter p (e ∷ []))
    next s = rw s (ap (λ c. passed p c (of_rank all q)) m.here ∙ passed_next p (of_rank all q) (get_or now q 0) e h)

    none : p e ≡ false → length (filter p (e ∷ [])) ≡ 0
    none h = rw h

    go : (b : Bool) → p e ≡ b → x ≡ q → (passed p (get_or (after now q) x 0) (of_rank all x) ≡ passed p (get_or now x 0) (of_rank all x)) ⊎ ((x ≡ q) × (p e ≡ true) × (passed p (get_or (after now q) x 0) (of_rank all x) ≡ passed p (get_or now x 0) (of_rank all x) + 1))
    go true t s = inr (s, t, next s ∙ ap (λ n. passed p (get_or now x 0) (of_rank all x) + n) (one_passes p e t))
    go false t s = inl (omega (arith, next s, none t))

module _ (all : List (List Exchange)) (cap : ℕ) (now : List ℕ) (lawful : IsLawful all cap now) (q : ℕ) (can : IsEnabled all cap now q) where
  ranked : q < length all
  ranked = due_ranked all now q can.exchange can.is_due

  pub has_moved : Moved now q
  has_moved = moved now q (omega (arith, ranked, lawful.ranks))

  is_within : (r : ℕ) → get_or (after now q) r 0 ≤ length (of_rank all r)
  is_within r = ⊎_elim
      (λ (s : r ≡ q). rw s (omega (arith, has_moved.here, slice_get_within (of_rank all q) (get_or now q 0) can.exchange can.is_due)))
      (λ (n : r ≢ q). omega (arith, has_moved.elsewhere r n, lawful.within r))
      (same_or_not r q)

  takes_less : (a : ℕ) → takes_from a can.exchange ≡ true → taken all now a q < sent all now a q
  takes_less a t = let w = when_takes can.exchange a t in
      subst (λ p. taken all now p q < sent all now p q) w.peer (subst (λ k. CanSwap all cap now q k can.exchange.peer) w.kind can.free)

  sends_less : (b : ℕ) → sends_to b can.exchange ≡ true → sent all now q b < taken all now q b + cap
  sends_less b t = let w = when_sends can.exchange b t in
      subst (λ p. sent all now q p < taken all now q p + cap) w.peer (subst (λ k. CanSwap all cap now q k can.exchange.peer) w.kind can.free)

  grown : (p : Exchange → Bool) (x : ℕ) → passed p (get_or now x 0) (of_rank all x) ≤ passed p (get_or (after now q) x 0) (of_rank all x)
  grown p x = ⊎_elim (λ h. omega (arith, h)) (λ h. omega (arith, h.2)) (gain all now q can.exchange can.is_due has_moved p x)

  is_ordered : (a b : ℕ) → taken all (after now q) a b ≤ sent all (after now q) a b
  is_ordered a b = ⊎_elim
      (λ (h : taken all (after now q) a b ≡ taken all now a b). omega (arith, h, lawful.ordered a b, grown (sends_to b) a))
      (λ (h : (b ≡ q) × (takes_from a can.exchange ≡ true) × (taken all (after now q) a b ≡ taken all now a b + 1)).
      let l : taken all now a b < sent all now a b = subst (λ r. taken all now a r < sent all now a r) (sym h.0) (takes_less a h.1) in
      omega (arith, h.2, l, grown (sends_to b) a))
      (gain all now q can.exchange can.is_due has_moved (takes_from a) b)

  is_held : (a b : ℕ) → sent all (after now q) a b ≤ taken all (after now q) a b + cap
  is_held a b = ⊎_elim
      (λ (h : sent all (after now q) a b ≡ sent all now a b). omega (arith, h, lawful.held a b, grown (takes_from a) b))
      (λ (h : (a ≡ q) × (sends_to b can.exchange ≡ true) × (sent all (after now q) a b ≡ sent all now a b + 1)).
      let l : sent all now a b < taken all now a b + cap = subst (λ r. sent all now r b < taken all now r b + cap) (sym h.0) (sends_less b h.1) in
      omega (arith, h.2, l, grown (takes_from a) b))
      (gain all now q can.exchange can.is_due has_moved (sends_to b) a)

  -- an event keeps the state lawful
  pub event_lawful : IsLawful all cap (after now q)
  event_lawful = record { ranks = length-set now q (get_or now q 0 + 1) ∙ lawful.ranks; within = is_within; ordered = is_ordered; held = is_held }

  -- another rank that is enabled stays so
  pub stays : (r : ℕ) → r ≢ q → IsEnabled all cap now r → IsEnabled all cap (after now q) r
  stays r n other = record { exchange = other.exchange; is_due = ap (slice_get (of_rank all r)) (has_moved.elsewhere r n) ∙ other.is_due; free = go other.exchange.kind other.free }
    where
      go : (k : Kind) → CanSwap all cap now r k other.exchange.peer → CanSwap all cap (after now q) r k other.exchange.peer
      go Send l = let e : sent all (after now q) r other.exchange.peer ≡ sent all now r other.exchange.peer = ap (λ c. passed (sends_to other.exchange.peer) c (of_rank all r)) (has_moved.elsewhere r n) in omega (arith, l, e, grown (takes_from r) other.exchange.peer)
      go Take l = let e : taken all (after now q) other.exchange.peer r ≡ taken all now other.exchange.peer r = ap (λ c. passed (takes_from other.exchange.peer) c (of_rank all r)) (has_moved.elsewhere r n) in omega (arith, l, e, grown (sends_to r) other.exchange.peer)

-- two ranks' events in either order
pub either_order : (now : List ℕ) (q r : ℕ) → q ≢ r → q < length now → r < length now → after (after now q) r ≡ after (after now r) q
either_order now q r n lq lr =
    ap (λ x. set (after now q) r (x + 1)) ((moved now q lq).elsewhere r (λ e. n (sym e))) ∙ (set_comm now q r (get_or now q 0 + 1) (get_or now r 0 + 1) n
    ∙ sym (ap (λ x. set (after now r) q (x + 1)) ((moved now r lr).elsewhere q n)))

-- sums of counters
abbrev sum_of : List ℕ → ℕ
sum_of [] = 0
sum_of (x ∷ xs) = x + sum_of xs

sum_no_more : (xs ys : List ℕ) → length xs ≡ length ys → ((r : ℕ) → get_or xs r 0 ≤ get_or ys r 0) → sum_of xs ≤ sum_of ys
sum_no_more [] [] e f = omega arith
sum_no_more [] (y ∷ ys) e f = omega arith
sum_no_more (x ∷ xs) [] e f = absurd (omega arith)
sum_no_more (x ∷ xs) (y ∷ ys) e f = omega (arith, f 0, sum_no_more xs ys (omega arith) (λ r. f (suc r)))

sum_after : (xs : List ℕ) (q : ℕ) → q < length xs → sum_of (set xs q (get_or xs q 0 + 1)) ≡ sum_of xs + 1
sum_after [] q l = absurd (omega arith)
sum_after (x ∷ xs) zero l = omega arith
sum_after (x ∷ xs) (suc q) l = omega (arith, sum_after xs q (omega arith))

-- what is next is still on the way
still_later : (now then : List ℕ) (q : ℕ) → Moved now q → IsLater now then → get_or now q 0 < get_or then q 0 → IsLater (after now q) then
still_later now then q m l b = record { no_lower = λ r. ⊎_elim (λ (s : r ≡ q). rw s (omega (arith, m.here))) (λ (n : r ≢ q). omega (arith, m.elsewhere r n, l.no_lower r)) (same_or_not r q) }

part_empty : (c d : ℕ) (es : List Exchange) → d ≤ length es → drop c (take d es) ≡ [] → d ≤ c
part_empty c zero es l h = omega arith
part_empty c (suc d) [] l h = absurd (omega arith)
part_empty zero (suc d) (e ∷ es) l h = absurd (cc)
part_empty (suc c) (suc d) (e ∷ es) l h = omega (arith, part_empty c d es (omega arith) h)

arrived : (all : List (List Exchange)) (cap : ℕ) (now then : List ℕ) → IsLawful all cap now → IsLawful all cap then → IsLater now then → ((x : ℕ) → part all now then x ≡ []) → now ≡ then
arrived all cap now then lawful ends later h =
    ext_get_or 0 now then (lawful.ranks ∙ sym ends.ranks) (λ r l. omega (arith, later.no_lower r, part_empty (get_or now r 0) (get_or then r 0) (of_rank all r) (ends.within r) (h r)))

pub reaches_in : (all : List (List Exchange)) (cap : ℕ) → 1 ≤ cap → IsMatched all → (fuel : ℕ) (now then : List ℕ) → IsLawful all cap now → IsLawful all cap then → IsLater now then → sum_of then ≤ sum_of now + fuel → Reaches all cap now then
reaches_in all cap some matched zero now then lawful ends later f = ⊎_elim
    (λ (h : (x : ℕ) → part all now then x ≡ []). record { events = []; enabled = tt; ends = arrived all cap now then lawful ends later h })
    (λ (g : Goes all cap now then). absurd (
    let m = has_moved all cap now lawful g.rank g.enabled in
    let s = sum_after now g.rank (omega (arith, g.ranked, lawful.ranks)) in
    let n = sum_no_more (after now g.rank) then ((event_lawful all cap now lawful g.rank g.enabled).ranks ∙ sym ends.ranks) (still_later now then g.rank m later g.below).no_lower in
    omega (arith, s, n, f)))
    (goes_or_ended all cap now then some matched lawful ends later)
reaches_in all cap some matched (suc fuel) now then lawful ends later f = ⊎_elim
    (λ (h : (x : ℕ) → part all now then x ≡ []). record { events = []; enabled = tt; ends = arrived all cap now then lawful ends later h })
    (λ (g : Goes all cap now then).
    let m = has_moved all cap now lawful g.rank g.enabled in
    let s = sum_after now g.rank (omega (arith, g.ranked, lawful.ranks)) in
    let r = reaches_in all cap some matched fuel (after now g.rank) then (event_lawful all cap now lawful g.rank g.enabled) ends (still_later now then g.rank m later g.below) (omega (arith, s, f)) in
    record { events = g.rank ∷ r.events; enabled = (g.enabled, r.enabled); ends = r.ends })
    (goes_or_ended all cap now then some matched lawful ends later)

pub reaches : (all : List (List Exchange)) (cap : ℕ) (now then : List ℕ) → 1 ≤ cap → IsMatched all → IsLawful all cap now → IsLawful all cap then → ((r : ℕ) → get_or now r 0 ≤ get_or then r 0) → Reaches all cap now then
reaches all cap now then some matched lawful ends later = reaches_in all cap some matched (sum_of then) now then lawful ends (record { no_lower = later }) (omega arith)

-- the finished state
pub finish : List (List Exchange) → List ℕ
finish all = map (λ es. length es) all

pub finish-get_or : (all : List (List Exchange)) (r : ℕ) → get_or (finish all) r 0 ≡ length (of_rank all r)
unfolding finish
finish-get_or [] r = refl
finish-get_or (es ∷ all) zero = refl
finish-get_or (es ∷ all) (suc r) = finish-get_or all r

passed_all : (p : Exchange → Bool) (es : List Exchange) (n : ℕ) → n ≡ length es → passed p n es ≡ length (filter p es)
passed_all p es n h = ap (λ xs. length (filter p xs)) (take_all n es (omega arith))

pair_totals : (all : List (List Exchange)) → IsMatched all → (q r : ℕ) → length (filter (sends_to r) (of_rank all q)) ≡ length (filter (takes_from q) (of_rank all r))
pair_totals all m q r = sym (length-map (filter (sends_to r) (of_rank all q)) heading) ∙ ap length (m.pairs q r) ∙ length-map (filter (takes_from q) (of_rank all r)) heading

pub finish_lawful : (all : List (List Exchange)) (cap : ℕ) → IsMatched all → IsLawful all cap (finish all)
unfolding finish
finish_lawful all cap m =
    let same : (q r : ℕ) → sent all (finish all) q r ≡ taken all (finish all) q r = λ q r. passed_all (sends_to r) (of_rank all q) (get_or (finish all) q 0) (finish-get_or all q) ∙ pair_totals all m q r ∙ sym (passed_all (takes_from q) (of_rank all r) (get_or (finish all) r 0) (finish-get_or all r)) in
    record {
      ranks = length-map all (λ es. length es);
      within = λ r. omega (arith, finish-get_or all r);
      ordered = λ q r. omega (arith, same q r);
      held = λ q r. omega (arith, same q r);
    }

pub some_enabled : (all : List (List Exchange)) (cap : ℕ) (now : List ℕ) → 1 ≤ cap → IsMatched all → IsLawful all cap now → HasLeft all now → SomeEnabled all cap now
some_enabled all cap now some matched lawful left = ⊎_elim
    (λ (h : (x : ℕ) → part all now (finish all) x ≡ []). absurd (omega (arith, left.left, finish-get_or all left.rank, part_empty (get_or now left.rank 0) (get_or (finish all) left.rank 0) (of_rank all left.rank) ((finish_lawful all cap matched).within left.rank) (h left.rank))))
    (λ (g : Goes all cap now (finish all)). record { rank = g.rank; ranked = g.ranked; enabled = g.enabled })
    (goes_or_ended all cap now (finish all) some matched lawful (finish_lawful all cap matched) (record { no_lower = λ r. omega (arith, lawful.within r, finish-get_or all r) }))

start-get_or : (all : List (List Exchange)) (r : ℕ) → get_or (start all) r 0 ≡ 0
start-get_or [] r = refl
start-get_or (es ∷ all) zero = refl
start-get_or (es ∷ all) (suc r) = start-get_or all r

pub start_lawful : (all : List (List Exchange)) (cap : ℕ) → IsLawful all cap (start all)
start_lawful all cap = record {
  ranks = length-map all (λ _. 0);
  within = λ r. omega (arith, start-get_or all r);
  ordered = λ q r. omega (arith, none (takes_from q) r, none (sends_to r) q);
  held = λ q r. omega (arith, none (sends_to r) q);
}
  where
    none : (p : Exchange → Bool) (x : ℕ) → passed p (get_or (start all) x 0) (of_rank all x) ≡ 0
    none p x = rw (start-get_or all x)

-- events: the ranks, the exchanges made, their number
pub made_is : (all : List (List Exchange)) (cap : ℕ) (events now : List ℕ) (r : ℕ) → IsLawful all cap now → AreEnabled all cap now events → take (get_or now r 0) (of_rank all r) ++ made all now events r ≡ take (get_or (after_all now events) r 0) (of_rank all r)
made_is all cap [] now r lawful h = append-nil (take (get_or now r 0) (of_rank all r))
made_is all cap (x ∷ xs) now r lawful h =
    let rest = made_is all cap xs (after now x) r (event_lawful all cap now lawful x h.0) h.1 in
    let m = has_moved all cap now lawful x h.0 in
    ⊎_elim
    (λ (s : r ≡ x).
    let t : (x == r) ≡ true = eq-eqb x r (sym s) in
    let d : due all now r ≡ Some h.0.exchange = subst (λ z. due all now z ≡ Some h.0.exchange) (sym s) h.0.is_due in
    let n : take (get_or (after now x) r 0) (of_rank all r) ≡ take (get_or now r 0) (of_rank all r) ++ h.0.exchange ∷ [] =
    ap (λ c. take c (of_rank all r)) (subst (λ z. get_or (after now x) z 0 ≡ get_or now z 0 + 1) (sym s) m.here) ∙ take_next (of_rank all r) (get_or now r 0) h.0.exchange d in
    ap (λ b. take (get_or now r 0) (of_rank all r) ++ (cond b (due_list (due all now r)) [] ++ made all (after now x) xs r)) t
    ∙ (ap (λ o. take (get_or now r 0) (of_rank all r) ++ (due_list o ++ made all (after now x) xs r)) d
    ∙ (sym (append_assoc (take (get_or now r 0) (of_rank all r)) (h.0.exchange ∷ []) (made all (after now x) xs r))
    ∙ (ap (λ ys. ys ++ made all (after now x) xs r) (sym n) ∙ rest))))
    (λ (n : r ≢ x).
    let t : (x == r) ≡ false = ne_eqb x r (λ e. n (sym e)) in
    ap (λ b. take (get_or now r 0) (of_rank all r) ++ (cond b (due_list (due all now r)) [] ++ made all (after now x) xs r)) t
    ∙ (ap (λ c. take c (of_rank all r) ++ made all (after now x) xs r) (sym (m.elsewhere r n)) ∙ rest))
    (same_or_not r x)

pub events_sum : (all : List (List Exchange)) (cap : ℕ) (events now : List ℕ) → IsLawful all cap now → AreEnabled all cap now events → (sum_of (after_all now events) ≡ sum_of now + length events) × (length (after_all now events) ≡ length all)
events_sum all cap [] now lawful h = (omega arith, lawful.ranks)
events_sum all cap (x ∷ xs) now lawful h =
    let rest = events_sum all cap xs (after now x) (event_lawful all cap now lawful x h.0) h.1 in
    let s = sum_after now x (omega (arith, due_ranked all now x h.0.exchange h.0.is_due, lawful.ranks)) in
    (omega (arith, rest.0, s), rest.1)

sum_done : (all : List (List Exchange)) (done : List ℕ) → length done ≡ length all → AllDone all done → sum_of done ≡ total all
sum_done [] [] e f = refl
sum_done [] (x ∷ done) e f = absurd (omega arith)
sum_done (es ∷ all) [] e f = absurd (omega arith)
sum_done (es ∷ all) (x ∷ done) e f = omega (arith, f 0, sum_done all done (omega arith) (λ r. f (suc r)))

sum_start : (all : List (List Exchange)) → sum_of (start all) ≡ 0
sum_start [] = refl
sum_start (es ∷ all) = omega (arith, sum_start all)

pub same_end : (all : List (List Exchange)) (cap : ℕ) (events : List ℕ) → AreEnabled all cap (start all) events → AllDone all (after_all (start all) events) → (length events ≡ total all) × ((r : ℕ) → made all (start all) events r ≡ of_rank all r)
same_end all cap events h done =
    let s = events_sum all cap events (start all) (start_lawful all cap) h in
    let n = sum_done all (after_all (start all) events) s.1 done in (
      omega (arith, s.0, n, sum_start all),
      λ r.
          let m = made_is all cap events (start all) r (start_lawful all cap) h in
          ap (λ c. take c (of_rank all r) ++ made all (start all) events r) (sym (start-get_or all r)) ∙ (m ∙ take_all (get_or (after_all (start all) events) r 0) (of_rank all r) (omega (arith, done r))),
    )
