-- From each lawful state to each later one some rank is enabled.
use Rattle.std.proofs.Common.{◌≡◌, ℕ, zero, suc, ◌+◌, ◌*◌, ◌<◌, ◌≤◌, Bool, true, List, [], ◌∷◌, ◌++◌, map, length, get_or, take, drop, refl, sym, ap, ◌∙◌, subst, arith, Some, length-append, inl, inr, ⊎_elim, eqb-true, eq-eqb, add-one}
use Rattle.std.proofs.lemmas.List.{take-append-drop, map-append, get_or_past, length-map}
use Rattle.std.specs.Prelude.{◌⊎◌}
use Rattle.std.specs.List.{AllByRecursion, filter, slice_get}
use Rattle.icet_model.specs.declared.exchange.Kind.{Kind}
use Rattle.icet_model.specs.declared.exchange.Kind.TheVariants.{Send, Take}
use Rattle.icet_model.specs.declared.exchange.Exchange.{Exchange}
use Rattle.icet_model.specs.Exchange.{key_of, key, is_send_of, is_take_of, sends_to, takes_from, Follows, IsRising, Heading, heading, of_rank}
use Rattle.icet_model.specs.Matched.{IsMatched}
use Rattle.icet_model.specs.Core.{passed, IsLawful, CanSwap, IsEnabled}
use Rattle.icet_model.proofs.Lists.{take_next_suc}
use Rattle.icet_plan.proofs.Lists.{all_weaker, all_take, all_get, all_filter, all_map, filter-append, IfHead, behind_front, slice_first, slice_rest, slice_front}

pub record IsSendOf (e : Exchange) (r : ℕ) : Type 0 where
  pub kind : e.kind ≡ Send
  pub peer : e.peer ≡ r
  pub key_is : key e ≡ 2 * e.round

pub record IsTakeOf (e : Exchange) (q : ℕ) : Type 0 where
  pub kind : e.kind ≡ Take
  pub peer : e.peer ≡ q
  pub key_is : key e ≡ 2 * e.round + 1

send_says : (k : Kind) (p r n : ℕ) → is_send_of k p r ≡ true → (k ≡ Send) × (p ≡ r) × (key_of n k ≡ 2 * n)
send_says Send p r n h = (refl, eqb-true p r h, refl)
send_says Take p r n h = absurd (cc)

take_says : (k : Kind) (p r n : ℕ) → is_take_of k p r ≡ true → (k ≡ Take) × (p ≡ r) × (key_of n k ≡ 2 * n + 1)
take_says Send p r n h = absurd (cc)
take_says Take p r n h = (refl, eqb-true p r h, refl)

pub when_sends : (e : Exchange) (r : ℕ) → sends_to r e ≡ true → IsSendOf e r
when_sends e r h = let f = send_says e.kind e.peer r e.round h in record { kind = f.0; peer = f.1; key_is = f.2 }

pub when_takes : (e : Exchange) (q : ℕ) → takes_from q e ≡ true → IsTakeOf e q
when_takes e q h = let f = take_says e.kind e.peer q e.round h in record { kind = f.0; peer = f.1; key_is = f.2 }

pub send_is : (k : Kind) (p : ℕ) → k ≡ Send → is_send_of k p p ≡ true
send_is Send p h = eq-eqb p p refl
send_is Take p h = absurd (cc)

pub take_is : (k : Kind) (p : ℕ) → k ≡ Take → is_take_of k p p ≡ true
take_is Take p h = eq-eqb p p refl
take_is Send p h = absurd (cc)

-- the part of a program that is done, due and left
rising_take : (n : ℕ) (es : List Exchange) → IsRising es → IsRising (take n es)
rising_take zero es h = tt
rising_take (suc n) [] h = tt
rising_take (suc n) (e ∷ es) h = (all_take (Follows e) n es h.0, rising_take n es h.1)

rising_drop : (n : ℕ) (es : List Exchange) → IsRising es → IsRising (drop n es)
rising_drop zero es h = h
rising_drop (suc n) [] h = tt
rising_drop (suc n) (e ∷ es) h = rising_drop n es h.1

abbrev pub IsAbove : ℕ → List Exchange → Type 0
IsAbove k es = AllByRecursion (λ f. k ≤ key f) es

above_weaker : (j k : ℕ) (es : List Exchange) → j ≤ k → IsAbove k es → IsAbove j es
above_weaker j k es l h = all_weaker (λ f. k ≤ key f) (λ f. j ≤ key f) (λ f g. omega arith) es h

above_first : (e : Exchange) (es : List Exchange) → IsRising (e ∷ es) → IsAbove (key e) (e ∷ es)
above_first e es h = (omega arith, all_weaker (Follows e) (λ f. key e ≤ key f) (λ f g. g.later) es h.0)

-- what stands before an exchange of the same peer has a lesser key
before_key : (es : List Exchange) (c : ℕ) (e : Exchange) → slice_get es c ≡ Some e → IsRising es → AllByRecursion (λ f. f.peer ≡ e.peer → key f < key e) (take c es)
before_key [] zero e q h = tt
before_key [] (suc c) e q h = tt
before_key (f ∷ es) zero e q h = tt
before_key (f ∷ es) (suc c) e q h = ((all_get (Follows f) es c e q h.0).apart, before_key es c e q h.1)

-- a rank whose next exchange has the least key of all that are left
pub record Least (slice : ℕ → List Exchange) (n : ℕ) : Type 0 where
  pub rank : ℕ
  pub exchange : Exchange
  pub rest : List Exchange
  pub below : rank < n
  pub first : slice rank ≡ exchange ∷ rest
  pub least : (x : ℕ) → x < n → IsAbove (key exchange) (slice x)

pub least_of : (slice : ℕ → List Exchange) → ((x : ℕ) → IsRising (slice x)) → (n : ℕ) → ((x : ℕ) → x < n → slice x ≡ []) ⊎ Least slice n
least_of slice rising zero = inl (λ x l. absurd (omega arith))
least_of slice rising (suc n) = go (slice n) refl (least_of slice rising n)
  where
    upto : (P : ℕ → Type 0) → ((x : ℕ) → x < n → P x) → P n → (x : ℕ) → x < suc n → P x
    upto P f p x l = ⊎_elim (λ m. f x m) (λ m. subst P (let e : n ≡ x = omega arith in e) p) (let s : (x < n) ⊎ (n ≤ x) = grind arith in s)

    go : (es : List Exchange) → slice n ≡ es → ((x : ℕ) → x < n → slice x ≡ []) ⊎ Least slice n → ((x : ℕ) → x < suc n → slice x ≡ []) ⊎ Least slice (suc n)
    go [] e (inl f) = inl (upto (λ x. slice x ≡ []) f e)
    go (a ∷ es) e (inl f) = inr (record {
      rank = n;
      exchange = a;
      rest = es;
      below = omega arith;
      first = e;
      least = upto (λ x. IsAbove (key a) (slice x)) (λ x l. subst (IsAbove (key a)) (sym (f x l)) tt) (subst (IsAbove (key a)) (sym e) (above_first a es (subst IsRising e (rising n))));
    })
    go [] e (inr m) = inr (record {
      rank = m.rank;
      exchange = m.exchange;
      rest = m.rest;
      below = omega (arith, m.below);
      first = m.first;
      least = upto (λ x. IsAbove (key m.exchange) (slice x)) m.least (subst (IsAbove (key m.exchange)) (sym e) tt);
    })
    go (a ∷ es) e (inr m) = ⊎_elim
        (λ l. inr (record {
          rank = m.rank;
          exchange = m.exchange;
          rest = m.rest;
          below = omega (arith, m.below);
          first = m.first;
          least = upto (λ x. IsAbove (key m.exchange) (slice x)) m.least (above_weaker (key m.exchange) (key a) (slice n) l (subst (IsAbove (key a)) (sym e) (above_first a es (subst IsRising e (rising n)))));
        }))
        (λ l. inr (record {
          rank = n;
          exchange = a;
          rest = es;
          below = omega arith;
          first = e;
          least = upto (λ x. IsAbove (key a) (slice x)) (λ x b. above_weaker (key a) (key m.exchange) (slice x) l (m.least x b)) (subst (IsAbove (key a)) (sym e) (above_first a es (subst IsRising e (rising n))));
        }))
        (let s : (key m.exchange ≤ key a) ⊎ (key a ≤ key m.exchange) = grind arith in s)

-- a later lawful state
pub record IsLater (now then : List ℕ) : Type 0 where
  pub no_lower : (r : ℕ) → get_or now r 0 ≤ get_or then r 0

abbrev pub part : List (List Exchange) → List ℕ → List ℕ → ℕ → List Exchange
part all now then x = drop (get_or now x 0) (take (get_or then x 0) (of_rank all x))

-- passed up to d is passed up to c and the part between
passed_part : (p : Exchange → Bool) (c d : ℕ) (es : List Exchange) → c ≤ d → passed p d es ≡ passed p c es + length (filter p (drop c (take d es)))
passed_part p c d es l =
    ap (λ xs. length (filter p xs)) (slice_front c d es l) ∙ ap length (filter-append p (take c es) (drop c (take d es))) ∙ length-append (filter p (take c es)) (filter p (drop c (take d es)))

pub passed_grows : (p : Exchange → Bool) (c d : ℕ) (es : List Exchange) → c ≤ d → passed p c es ≤ passed p d es
passed_grows p c d es l = omega (arith, passed_part p c d es l)

-- one more exchange is one more that passes, or none
pub take_next : (es : List Exchange) (c : ℕ) (e : Exchange) → slice_get es c ≡ Some e → take (c + 1) es ≡ take c es ++ e ∷ []
take_next es c e h = rw add-one (take_next_suc es c e h)

pub passed_next : (p : Exchange → Bool) (es : List Exchange) (c : ℕ) (e : Exchange) → slice_get es c ≡ Some e → passed p (c + 1) es ≡ passed p c es + length (filter p (e ∷ []))
passed_next p es c e h =
    ap (λ xs. length (filter p xs)) (take_next es c e h) ∙ ap length (filter-append p (take c es) (e ∷ [])) ∙ length-append (filter p (take c es)) (filter p (e ∷ []))

pub one_passes : (p : Exchange → Bool) (e : Exchange) → p e ≡ true → length (filter p (e ∷ [])) ≡ 1
one_passes p e h = rw h

-- what stands up to an exchange has no greater key
pub upto_key : (es : List Exchange) (c : ℕ) (e : Exchange) → slice_get es c ≡ Some e → IsRising es → AllByRecursion (λ f. key f ≤ key e) (take (suc c) es)
upto_key [] c e q h = tt
upto_key (f ∷ es) zero e q h = (let s : f ≡ e = cc in subst (λ x. key f ≤ key x) s (omega arith), tt)
upto_key (f ∷ es) (suc c) e q h = ((all_get (Follows f) es c e q h.0).later, upto_key es c e q h.1)

split_faces : (p : Exchange → Bool) (c : ℕ) (es : List Exchange) → map heading (filter p es) ≡ map heading (filter p (take c es)) ++ map heading (filter p (drop c es))
split_faces p c es = ap (λ xs. map heading (filter p xs)) (sym (take-append-drop c es)) ∙ ap (map heading) (filter-append p (take c es) (drop c es)) ∙ map-append heading (filter p (take c es)) (filter p (drop c es))

-- on a pair, with more done at the one end than at the other: the other's next one on the pair was done at the first, unless it has none left in its part
pub record HeadWith (P : Heading → Type 0) (es : List Exchange) : Type 0 where
  pub first : Exchange
  pub rest : List Exchange
  pub is : es ≡ first ∷ rest
  pub holds : P (heading first)

behind : (P : Heading → Type 0) (p t : Exchange → Bool) (xs ys : List Exchange) (c l u : ℕ) → map heading (filter p xs) ≡ map heading (filter t ys) → l ≤ u → passed t l ys < passed p c xs → AllByRecursion (λ f. P (heading f)) (filter p (take c xs)) → (filter t (drop l (take u ys)) ≡ []) ⊎ HeadWith P (filter t (drop l (take u ys)))
behind P p t xs ys c l u same lu less h = go (filter t (drop l (take u ys))) refl
  where
    eq : map heading (filter p (take c xs)) ++ map heading (filter p (drop c xs)) ≡ map heading (filter t (take l ys)) ++ map heading (filter t (drop l ys))
    eq = sym (split_faces p c xs) ∙ same ∙ split_faces t l ys

    head : IfHead P (map heading (filter t (drop l ys)))
    head = behind_front P (map heading (filter p (take c xs))) (map heading (filter p (drop c xs))) (map heading (filter t (take l ys))) (map heading (filter t (drop l ys))) eq
        (omega (arith, length-map (filter p (take c xs)) heading, length-map (filter t (take l ys)) heading)) (all_map P heading (filter p (take c xs)) h)

    rest : filter t (drop l ys) ≡ filter t (drop l (take u ys)) ++ filter t (drop u ys)
    rest = ap (filter t) (slice_rest l u ys lu) ∙ filter-append t (drop l (take u ys)) (drop u ys)

    go : (es : List Exchange) → filter t (drop l (take u ys)) ≡ es → (filter t (drop l (take u ys)) ≡ []) ⊎ HeadWith P (filter t (drop l (take u ys)))
    go [] e = inl e
    go (f ∷ fs) e = inr (record { first = f; rest = fs; is = e; holds = subst (λ zs. IfHead P (map heading zs)) (rest ∙ ap (λ zs. zs ++ filter t (drop u ys)) e) head })

-- a rank that has exchanges left on the way and can make the next
pub record Goes (all : List (List Exchange)) (cap : ℕ) (now then : List ℕ) : Type 0 where
  pub rank : ℕ
  pub ranked : rank < length all
  pub below : get_or now rank 0 < get_or then rank 0
  pub enabled : IsEnabled all cap now rank

module _ (all : List (List Exchange)) (cap : ℕ) (now then : List ℕ) (some : 1 ≤ cap) (matched : IsMatched all) (lawful : IsLawful all cap now) (ends : IsLawful all cap then) (later : IsLater now then) where
  part_beyond : (x : ℕ) → length all ≤ x → part all now then x ≡ []
  part_beyond x l = rw (get_or_past all x [] l) (nothing (get_or now x 0) (get_or then x 0))
    where
      none : List Exchange
      none = []

      drops : (c : ℕ) → drop c none ≡ none
      drops zero = refl
      drops (suc c) = refl

      nothing : (c d : ℕ) → drop c (take d none) ≡ none
      nothing c zero = drops c
      nothing c (suc d) = drops c

  can_go : (q : ℕ) (e : Exchange) → slice_get (of_rank all q) (get_or now q 0) ≡ Some e → get_or now q 0 < get_or then q 0 → ((x : ℕ) → IsAbove (key e) (part all now then x)) → (k : Kind) → e.kind ≡ k → CanSwap all cap now q k e.peer
  can_go q e is less above Send kind =
      let r = e.peer in
      let xs = of_rank all q in
      let ys = of_rank all r in
      let c = get_or now q 0 in
      let key_is : key e ≡ 2 * e.round = ap (key_of e.round) kind in
      let before : AllByRecursion (λ f. f.round < e.round) (filter (sends_to r) (take c xs)) =
      all_filter (λ f. f.peer ≡ e.peer → key f < key e) (λ f. f.round < e.round) (sends_to r) (λ f p h. let s = when_sends f r p in let l = h s.peer in omega (arith, l, s.key_is, key_is)) (take c xs) (before_key xs c e is (matched.rising q)) in
      let after_it : AllByRecursion (λ f. key e ≤ 2 * f.round + 1) (filter (takes_from q) (part all now then r)) =
      all_filter (λ f. key e ≤ key f) (λ f. key e ≤ 2 * f.round + 1) (takes_from q) (λ f p h. let s = when_takes f q p in omega (arith, h, s.key_is)) (part all now then r) (above r) in
      let grows = passed_part (sends_to r) c (get_or then q 0) xs (omega arith) in
      let next = passed_next (sends_to r) xs c e is in
      let one = one_passes (sends_to r) e (send_is e.kind e.peer kind) in
      let upto = passed_grows (sends_to r) (c + 1) (get_or then q 0) xs (omega arith) in
      let takes = passed_part (takes_from q) (get_or now r 0) (get_or then r 0) ys (later.no_lower r) in
      let low = lawful.ordered q r in
      let high = ends.held q r in
      ⊎_elim
      (λ (l : passed (sends_to r) c xs ≤ passed (takes_from q) (get_or now r 0) ys). omega (arith, l))
      (λ (l : passed (takes_from q) (get_or now r 0) ys < passed (sends_to r) c xs). ⊎_elim
      (λ (n : filter (takes_from q) (part all now then r) ≡ []). let z : length (filter (takes_from q) (part all now then r)) ≡ 0 = ap length n in omega (arith, z, takes, high, one, next, upto))
      (λ (f : HeadWith (λ g. g.round < e.round) (filter (takes_from q) (part all now then r))). let a = subst (AllByRecursion (λ f. key e ≤ 2 * f.round + 1)) f.is after_it in absurd (omega (arith, a.0, f.holds, key_is)))
      (behind (λ g. g.round < e.round) (sends_to r) (takes_from q) xs ys c (get_or now r 0) (get_or then r 0) (matched.pairs q r) (later.no_lower r) l before))
      (let s : (passed (sends_to r) c xs ≤ passed (takes_from q) (get_or now r 0) ys) ⊎ (passed (takes_from q) (get_or now r 0) ys < passed (sends_to r) c xs) = grind arith in s)
  can_go q e is less above Take kind =
      let s = e.peer in
      let xs = of_rank all q in
      let ys = of_rank all s in
      let c = get_or now q 0 in
      let key_is : key e ≡ 2 * e.round + 1 = ap (key_of e.round) kind in
      let before : AllByRecursion (λ f. f.round ≤ e.round) (filter (takes_from s) (take (c + 1) xs)) =
      all_filter (λ f. key f ≤ key e) (λ f. f.round ≤ e.round) (takes_from s) (λ f p h. let t = when_takes f s p in omega (arith, h, t.key_is, key_is)) (take (c + 1) xs) (rw add-one (upto_key xs c e is (matched.rising q))) in
      let after_it : AllByRecursion (λ f. key e ≤ 2 * f.round) (filter (sends_to q) (part all now then s)) =
      all_filter (λ f. key e ≤ key f) (λ f. key e ≤ 2 * f.round) (sends_to q) (λ f p h. let t = when_sends f q p in omega (arith, h, t.key_is)) (part all now then s) (above s) in
      let next = passed_next (takes_from s) xs c e is in
      let one = one_passes (takes_from s) e (take_is e.kind e.peer kind) in
      let upto = passed_grows (takes_from s) (c + 1) (get_or then q 0) xs (omega arith) in
      let sends = passed_part (sends_to q) (get_or now s 0) (get_or then s 0) ys (later.no_lower s) in
      let high = ends.ordered s q in
      ⊎_elim
      (λ (l : passed (sends_to q) (get_or now s 0) ys ≤ passed (takes_from s) c xs). ⊎_elim
      (λ (n : filter (sends_to q) (part all now then s) ≡ []). let z : length (filter (sends_to q) (part all now then s)) ≡ 0 = ap length n in absurd (omega (arith, z, sends, high, one, next, upto)))
      (λ (f : HeadWith (λ g. g.round ≤ e.round) (filter (sends_to q) (part all now then s))). let a = subst (AllByRecursion (λ f. key e ≤ 2 * f.round)) f.is after_it in absurd (omega (arith, a.0, f.holds, key_is)))
      (behind (λ g. g.round ≤ e.round) (takes_from s) (sends_to q) xs ys (c + 1) (get_or now s 0) (get_or then s 0) (sym (matched.pairs s q)) (later.no_lower s) (omega (arith, l, one, next)) before))
      (λ (l : passed (takes_from s) c xs < passed (sends_to q) (get_or now s 0) ys). l)
      (let s : (passed (sends_to q) (get_or now s 0) ys ≤ passed (takes_from s) c xs) ⊎ (passed (takes_from s) c xs < passed (sends_to q) (get_or now s 0) ys) = grind arith in s)

  pub goes_or_ended : ((x : ℕ) → part all now then x ≡ []) ⊎ Goes all cap now then
  goes_or_ended = ⊎_elim
      (λ (f : (x : ℕ) → x < length all → part all now then x ≡ []). inl (λ x. ⊎_elim (λ (l : x < length all). f x l) (λ (l : length all ≤ x). part_beyond x l) (let s : (x < length all) ⊎ (length all ≤ x) = grind arith in s)))
      (λ (m : Least (part all now then) (length all)).
      let h = slice_first (get_or now m.rank 0) (get_or then m.rank 0) (of_rank all m.rank) m.exchange m.rest m.first in
      let above : (x : ℕ) → IsAbove (key m.exchange) (part all now then x) = λ x. ⊎_elim (λ (l : x < length all). m.least x l) (λ (l : length all ≤ x). subst (IsAbove (key m.exchange)) (sym (part_beyond x l)) tt) (let s : (x < length all) ⊎ (length all ≤ x) = grind arith in s) in
      inr (record {
        rank = m.rank;
        ranked = m.below;
        below = h.1;
        enabled = record { exchange = m.exchange; is_due = h.0; free = can_go m.rank m.exchange h.0 h.1 above m.exchange.kind refl };
      }))
      (least_of (part all now then) (λ x. rising_drop (get_or now x 0) (take (get_or then x 0) (of_rank all x)) (rising_take (get_or then x 0) (of_rank all x) (matched.rising x))) (length all))
