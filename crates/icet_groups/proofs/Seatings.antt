-- A group is filled up rank by rank, first from the contributors and then from all ranks.
use Rattle.std.proofs.Common.{◌≡◌, ◌≢◌, ℕ, zero, suc, ◌+◌, ◌-◌, ◌<◌, Bool, true, false, cond, List, [], ◌∷◌, length, get_or, set, refl, sym, ap, ◌∙◌, subst, arith, ⊎_elim, inl, inr, get_or-set_same, get_or-set_other, ◌++◌, take}
use Rattle.std.proofs.lemmas.List.{take_more}
use Rattle.std.proofs.Math.ListN.{length-set}
use Rattle.std.proofs.lemmas.Bool.Decides.{nat_tests}
use Rattle.std.specs.Prelude.{◌⊎◌, ◌&&◌, ◌||◌, ◌==◌, nat_lt, Option, Some, None}
use Rattle.icet_groups.specs.Seating.{AreMarks, IsSeating, NoneWaits, next_seated}
use Rattle.icet_groups.specs.Seats.{filled, is_free, newcomer, seated}
use Rattle.icet_groups.specs.Tiles.{has}
use Rattle.icet_groups.proofs.Scanning.{find_first, find_none}

parts : (a b : Bool) → (a && b) ≡ true → (a ≡ true) × (b ≡ true)
parts true b h = (refl, h)
parts false b h = absurd (cc)

either : (a b : Bool) → (a && b) ≡ false → (a ≡ false) ⊎ (b ≡ false)
either true b h = inr h
either false b h = inl refl

no_left : (a b : Bool) → a ≡ false → (a && b) ≡ false
no_left a b h = rw h refl

holds : (a b : Bool) → a ≡ true → b ≡ true → (a && b) ≡ true
holds a b h k = rw (h, k) refl

pub step : (n q : ℕ) → q < n + 1 → (q < n) ⊎ (q ≡ n)
step n q l = grind (arith, l)

-- the newcomer where a contributor waits
pub newcomer_contributes : (cs : List ℕ) (seats : List (Option ℕ)) (r : ℕ) → r < length seats → NoneWaits cs seats r → is_free seats r ≡ true → has r cs ≡ true → newcomer cs seats ≡ Some r
newcomer_contributes cs seats r l none free one = rw (find_first (λ q. is_free seats q && has q cs) 0 (length seats) r (omega arith) (omega (arith, l)) (holds (is_free seats r) (has r cs) free one) (λ u i j. none u j)) refl

-- and where none does
pub newcomer_other : (cs : List ℕ) (seats : List (Option ℕ)) (r : ℕ) → r < length seats → NoneWaits cs seats (length seats) → ((q : ℕ) → q < r → is_free seats q ≡ false) → is_free seats r ≡ true → newcomer cs seats ≡ Some r
newcomer_other cs seats r l none taken free =
    rw (find_none (λ q. is_free seats q && has q cs) 0 (length seats) (λ u i j. none u (omega (arith, j)))) (find_first (is_free seats) 0 (length seats) r (omega arith) (omega (arith, l)) free (λ u i j. taken u j))

pub newcomer_none : (cs : List ℕ) (seats : List (Option ℕ)) → ((q : ℕ) → q < length seats → is_free seats q ≡ false) → newcomer cs seats ≡ None
newcomer_none cs seats taken =
    rw (find_none (λ q. is_free seats q && has q cs) 0 (length seats) (λ u i j. no_left (is_free seats u) (has u cs) (taken u (omega (arith, j))))) (find_none (is_free seats) 0 (length seats) (λ u i j. taken u (omega (arith, j))))

pub filled_none : (t : ℕ) (cs : List ℕ) (n : ℕ) (seats : List (Option ℕ)) → newcomer cs seats ≡ None → filled t cs n seats ≡ seats
filled_none t cs zero seats h = refl
filled_none t cs (suc n) seats h = ap (λ o. filled t cs n (seated t o seats)) h ∙ filled_none t cs n seats h

pub filled_one : (t : ℕ) (cs : List ℕ) (n : ℕ) (seats : List (Option ℕ)) (r : ℕ) → 0 < n → newcomer cs seats ≡ Some r → filled t cs n seats ≡ filled t cs (n - 1) (set seats r (Some t))
filled_one t cs zero seats r l h = absurd (omega (arith, l))
filled_one t cs (suc n) seats r l h = ap (λ o. filled t cs n (seated t o seats)) h ∙ ap (λ z. filled t cs z (set seats r (Some t))) (let e : n ≡ suc n - 1 = omega arith in e)

-- whoever isn't free stays so when a rank joins, and the rank itself isn't free then
pub taken_stays : (seats : List (Option ℕ)) (r t q : ℕ) → r < length seats → is_free seats q ≡ false → is_free (set seats r (Some t)) q ≡ false
taken_stays seats r t q l h = ⊎_elim
    (λ (e : q ≡ r). subst (λ z. is_free (set seats r (Some t)) z ≡ false) (sym e) (taken_now seats r t l))
    (λ (n : q ≢ r). let e : get_or (set seats r (Some t)) q None ≡ get_or seats q None = get_or-set_other seats r q (Some t) None n in rw e h)
    (let s : (q ≡ r) ⊎ (q ≢ r) = grind arith in s)
  where
    taken_now : (seats : List (Option ℕ)) (r t : ℕ) → r < length seats → is_free (set seats r (Some t)) r ≡ false
    taken_now seats r t l = let e : get_or (set seats r (Some t)) r None ≡ Some t = get_or-set_same seats r (Some t) None l in rw e refl

pub taken_now : (seats : List (Option ℕ)) (r t : ℕ) → r < length seats → is_free (set seats r (Some t)) r ≡ false
taken_now seats r t l = let e : get_or (set seats r (Some t)) r None ≡ Some t = get_or-set_same seats r (Some t) None l in rw e refl

waits_stays : (cs : List ℕ) (seats : List (Option ℕ)) (r t q : ℕ) → r < length seats → (is_free seats q && has q cs) ≡ false → (is_free (set seats r (Some t)) q && has q cs) ≡ false
waits_stays cs seats r t q l h = ⊎_elim
    (λ (k : is_free seats q ≡ false). no_left (is_free (set seats r (Some t)) q) (has q cs) (taken_stays seats r t q l k))
    (λ (k : has q cs ≡ false). rw k (no_right (is_free (set seats r (Some t)) q)))
    (either (is_free seats q) (has q cs) h)
  where
    no_right : (b : Bool) → (b && false) ≡ false
    no_right true = refl
    no_right false = refl

-- what the loop keeps, of the seats and how many are left
abbrev Seating : ℕ → List ℕ → List (Option ℕ) → ℕ → ℕ → List (Option ℕ) × ℕ → Type 0
Seating t cs old count r z = IsSeating t cs old count r z.0 z.1

-- the step of the loop over the marks
marked_step : (t : ℕ) (cs : List ℕ) (old : List (Option ℕ)) (count r : ℕ) (seats : List (Option ℕ)) (left : ℕ) (may : Bool) → may ≡ has r cs → r < length old → IsSeating t cs old count r seats left → Seating t cs old count (r + 1) (next_seated t r may seats left)
marked_step t cs old count r seats left may m l h = go (nat_lt 0 left && (may && is_free seats r)) refl
  where
    within : r < length seats
    within = let e = h.many in omega (arith, e, l)

    go : (b : Bool) → (nat_lt 0 left && (may && is_free seats r)) ≡ b → Seating t cs old count (r + 1) (cond b (set seats r (Some t), left - 1) (seats, left))
    go true e =
        let p = parts (nat_lt 0 left) (may && is_free seats r) e in
        let q = parts may (is_free seats r) p.1 in
        let some : 0 < left = let z = p.0 in grind (arith, nat_tests) in
        record {
          many = length-set seats r (Some t) ∙ h.many;
          rest = h.rest ∙ filled_one t cs left seats r some (newcomer_contributes cs seats r within (h.none some) q.1 (sym m ∙ q.0));
          none = λ k u i. ⊎_elim
              (λ (j : u < r). waits_stays cs seats r t u within (h.none some u j))
              (λ (j : u ≡ r). no_left (is_free (set seats r (Some t)) u) (has u cs) (subst (λ z. is_free (set seats r (Some t)) z ≡ false) (sym j) (taken_now seats r t within)))
              (step r u i);
        }
    go false e = record {
      many = h.many;
      rest = h.rest;
      none = λ k u i. ⊎_elim
          (λ (j : u < r). h.none k u j)
          (λ (j : u ≡ r). subst (λ z. (is_free seats z && has z cs) ≡ false) (sym j) (⊎_elim
          (λ (w : nat_lt 0 left ≡ false). absurd (let z : nat_lt 0 left ≡ true = grind (arith, nat_tests, k) in cc))
          (λ (w : (may && is_free seats r) ≡ false). turned may (is_free seats r) (has r cs) m w)
          (either (nat_lt 0 left) (may && is_free seats r) e)))
          (step r u i);
    }
      where
        turned : (a b c : Bool) → a ≡ c → (a && b) ≡ false → (b && c) ≡ false
        turned true true c e h = absurd (cc)
        turned true false c e h = refl
        turned false true c e h = sym e
        turned false false c e h = refl

pub marked_more : (t : ℕ) (old : List (Option ℕ)) (marks : List Bool) (count r : ℕ) (seats new : List (Option ℕ)) (left after : ℕ) → r < length marks → length marks ≡ length old → ((cs : List ℕ) → AreMarks (length old) cs marks → IsSeating t cs old count r seats left) → (new, after) ≡ next_seated t r (get_or marks r false) seats left → (cs : List ℕ) → AreMarks (length old) cs marks → IsSeating t cs old count (r + 1) new after
marked_more t old marks count r seats new left after l e h k cs m =
    let w : r < length old = omega (arith, e, l) in
    let s = marked_step t cs old count r seats left (get_or marks r false) (m.are r w) w (h cs m) in
    subst (Seating t cs old count (r + 1)) (sym k) s

-- behind the contributors: as many as are left join from the lowest free rank on
pub record IsFilling (t : ℕ) (cs : List ℕ) (old : List (Option ℕ)) (count r : ℕ) (new : List (Option ℕ)) (left : ℕ) : Type 0 where
  pub many : length new ≡ length old
  pub rest : filled t cs count old ≡ filled t cs left new
  pub none : 0 < left → NoneWaits cs new (length new)
  pub taken : 0 < left → (q : ℕ) → q < r → is_free new q ≡ false

abbrev Filling : ℕ → List ℕ → List (Option ℕ) → ℕ → ℕ → List (Option ℕ) × ℕ → Type 0
Filling t cs old count r z = IsFilling t cs old count r z.0 z.1

free_step : (t : ℕ) (cs : List ℕ) (old : List (Option ℕ)) (count r : ℕ) (seats : List (Option ℕ)) (left : ℕ) → r < length old → IsFilling t cs old count r seats left → Filling t cs old count (r + 1) (next_seated t r true seats left)
free_step t cs old count r seats left l h = go (nat_lt 0 left && is_free seats r) refl
  where
    within : r < length seats
    within = let e = h.many in omega (arith, e, l)

    go : (b : Bool) → (nat_lt 0 left && is_free seats r) ≡ b → Filling t cs old count (r + 1) (cond b (set seats r (Some t), left - 1) (seats, left))
    go true e =
        let p = parts (nat_lt 0 left) (is_free seats r) e in
        let some : 0 < left = let z = p.0 in grind (arith, nat_tests) in
        record {
          many = length-set seats r (Some t) ∙ h.many;
          rest = h.rest ∙ filled_one t cs left seats r some (newcomer_other cs seats r within (h.none some) (h.taken some) p.1);
          none = λ k u i. waits_stays cs seats r t u within (h.none some u (let z = length-set seats r (Some t) in omega (arith, z, i)));
          taken = λ k u i. ⊎_elim
              (λ (j : u < r). taken_stays seats r t u within (h.taken some u j))
              (λ (j : u ≡ r). subst (λ z. is_free (set seats r (Some t)) z ≡ false) (sym j) (taken_now seats r t within))
              (step r u i);
        }
    go false e = record {
      many = h.many;
      rest = h.rest;
      none = h.none;
      taken = λ k u i. ⊎_elim
          (λ (j : u < r). h.taken k u j)
          (λ (j : u ≡ r). subst (λ z. is_free seats z ≡ false) (sym j) (⊎_elim
          (λ (w : nat_lt 0 left ≡ false). absurd (let z : nat_lt 0 left ≡ true = grind (arith, nat_tests, k) in cc))
          (λ (w : is_free seats r ≡ false). w)
          (either (nat_lt 0 left) (is_free seats r) e)))
          (step r u i);
    }

pub free_more : (t : ℕ) (old : List (Option ℕ)) (count r : ℕ) (seats new : List (Option ℕ)) (left after : ℕ) → r < length old → ((cs : List ℕ) → (0 < count → NoneWaits cs old (length old)) → IsFilling t cs old count r seats left) → (new, after) ≡ next_seated t r true seats left → (cs : List ℕ) → (0 < count → NoneWaits cs old (length old)) → IsFilling t cs old count (r + 1) new after
free_more t old count r seats new left after l h k cs m =
    subst (Filling t cs old count (r + 1)) (sym k) (free_step t cs old count r seats left l (h cs m))

pub free_begins : (t : ℕ) (cs : List ℕ) (old : List (Option ℕ)) (count : ℕ) → (0 < count → NoneWaits cs old (length old)) → IsFilling t cs old count 0 old count
free_begins t cs old count h = record { many = refl; rest = refl; none = h; taken = λ k q i. absurd (omega (arith, i)) }

pub free_ends : (t : ℕ) (cs : List ℕ) (old : List (Option ℕ)) (count : ℕ) (new : List (Option ℕ)) (left : ℕ) → IsFilling t cs old count (length old) new left → new ≡ filled t cs count old
free_ends t cs old count new zero h = sym h.rest
free_ends t cs old count new (suc left) h = sym (h.rest ∙ filled_none t cs (suc left) new (newcomer_none cs new (λ q i. h.taken (omega arith) q (let e = h.many in omega (arith, e, i)))))

pub seats_kept : (t r : ℕ) (may : Bool) (seats new : List (Option ℕ)) (left after : ℕ) → (new, after) ≡ next_seated t r may seats left → length new ≡ length seats
seats_kept t r may seats new left after k = ap (λ (z : List (Option ℕ) × ℕ). length z.0) k ∙ go (nat_lt 0 left && (may && is_free seats r))
  where
    go : (b : Bool) → length (cond {A = List (Option ℕ) × ℕ} b (set seats r (Some t), left - 1) (seats, left)).0 ≡ length seats
    go true = length-set seats r (Some t)
    go false = refl

pub seating_begins : (t : ℕ) (cs : List ℕ) (old : List (Option ℕ)) (count : ℕ) → IsSeating t cs old count 0 old count
seating_begins t cs old count = record { many = refl; rest = refl; none = λ k q i. absurd (omega (arith, i)) }

has_append : (r x : ℕ) (xs : List ℕ) → has r (xs ++ x ∷ []) ≡ (has r xs || (x == r))
has_append r x [] = go (x == r)
  where
    go : (b : Bool) → (b || false) ≡ b
    go true = refl
    go false = refl
has_append r x (y ∷ ys) = ap (λ b. (y == r) || b) (has_append r x ys) ∙ go (y == r) (has r ys) (x == r)
  where
    go : (a b c : Bool) → (a || (b || c)) ≡ ((a || b) || c)
    go true b c = refl
    go false b c = refl

-- one rank more is marked
pub marks_more : (n : ℕ) (marked : List ℕ) (i x : ℕ) (old new : List Bool) → AreMarks n (take i marked) old → i < length marked → x ≡ get_or marked i x → new ≡ set old x true → AreMarks n (take (i + 1) marked) new
marks_more n marked i x old new h l e k = record {
  many = ap length k ∙ (length-set old x true ∙ h.many);
  are = λ r m. ap (λ z. get_or z r false) k ∙ (go r m ∙ sym (ap (has r) (take_more marked i x l ∙ ap (λ z. take i marked ++ z ∷ []) (sym e)) ∙ has_append r x (take i marked)));
}
  where
    or_true : (b : Bool) → true ≡ (b || true)
    or_true true = refl
    or_true false = refl

    or_false : (b : Bool) → b ≡ (b || false)
    or_false true = refl
    or_false false = refl

    go : (r : ℕ) → r < n → get_or (set old x true) r false ≡ (has r (take i marked) || (x == r))
    go r m = ⊎_elim
        (λ (s : x ≡ r). let w : x < length old = let a = h.many in omega (arith, a, m, s) in
        let y : (x == r) ≡ true = grind (arith, nat_tests, s) in
        subst (λ z. get_or (set old x true) z false ≡ (has r (take i marked) || (x == r))) s (get_or-set_same old x true false w ∙ (or_true (has r (take i marked)) ∙ ap (λ b. has r (take i marked) || b) (sym y))))
        (λ (s : x ≢ r). let y : (x == r) ≡ false = grind (arith, nat_tests, s) in
        get_or-set_other old x r true false (λ q. s (sym q)) ∙ (h.are r m ∙ (or_false (has r (take i marked)) ∙ ap (λ b. has r (take i marked) || b) (sym y))))
        (let s : (x ≡ r) ⊎ (x ≢ r) = grind arith in s)

pub marked_ends : (t : ℕ) (old : List (Option ℕ)) (marks : List Bool) (count r : ℕ) (seats : List (Option ℕ)) (left : ℕ) → r ≡ length old → ((cs : List ℕ) → AreMarks (length old) cs marks → IsSeating t cs old count r seats left) → (cs : List ℕ) → AreMarks (length old) cs marks → IsSeating t cs old count (length old) seats left
marked_ends t old marks count r seats left e h cs m = subst (λ z. IsSeating t cs old count z seats left) e (h cs m)

pub free_all : (t : ℕ) (old : List (Option ℕ)) (count r : ℕ) (new : List (Option ℕ)) (left : ℕ) → r ≡ length old → ((cs : List ℕ) → (0 < count → NoneWaits cs old (length old)) → IsFilling t cs old count r new left) → (cs : List ℕ) → (0 < count → NoneWaits cs old (length old)) → new ≡ filled t cs count old
free_all t old count r new left e h cs m = free_ends t cs old count new left (subst (λ z. IsFilling t cs old count z new left) e (h cs m))
