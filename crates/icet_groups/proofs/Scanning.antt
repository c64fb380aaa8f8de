-- The scan over all tiles ends at the next tile to get a place.
use Rattle.std.proofs.Common.{◌≡◌, ℕ, zero, suc, ◌+◌, ◌*◌, ◌<◌, ◌≤◌, Bool, true, false, cond, not, List, length, get_or, refl, sym, ap, ◌∙◌, subst, arith, ⊎_elim, inl, inr}
use Rattle.std.proofs.Math.Nat.{mul-le-mul_right}
use Rattle.std.proofs.lemmas.Bool.Decides.{nat_tests}
use Rattle.std.specs.Prelude.{◌⊎◌, ◌&&◌, ◌||◌, nat_lt, find, Option, Some, None}
use Rattle.std.specs.List.{list_any, range_with_len}
use Rattle.icet_groups.specs.Places.{is_fuller, next_tile, wants, yields}
use Rattle.icet_groups.specs.Scan.{AreScanned, IsBest, is_ahead}

-- numbers in a range, of which the first passes a test
pub find_none : (p : ℕ → Bool) (a n : ℕ) → ((u : ℕ) → a ≤ u → u < a + n → p u ≡ false) → find p (range_with_len a n) ≡ None
find_none p a zero h = refl
find_none p a (suc n) h = rw (h a (omega arith) (omega arith)) (find_none p (a + 1) n (λ u l m. h u (omega (arith, l)) (omega (arith, m))))

pub find_first : (p : ℕ → Bool) (a n t : ℕ) → a ≤ t → t < a + n → p t ≡ true → ((u : ℕ) → a ≤ u → u < t → p u ≡ false) → find p (range_with_len a n) ≡ Some t
find_first p a zero t l m holds fails = absurd (omega (arith, l, m))
find_first p a (suc n) t l m holds fails = ⊎_elim
    (λ (e : a ≡ t). let y : p a ≡ true = ap p e ∙ holds in rw y (ap Some e))
    (λ (k : a + 1 ≤ t). rw (fails a (omega arith) (omega (arith, k))) (find_first p (a + 1) n t k (omega (arith, m)) holds (λ u i j. fails u (omega (arith, i)) j)))
    (let s : (a ≡ t) ⊎ (a + 1 ≤ t) = grind (arith, l) in s)

pub any_none : (p : ℕ → Bool) (a n : ℕ) → ((u : ℕ) → a ≤ u → u < a + n → p u ≡ false) → list_any p (range_with_len a n) ≡ false
any_none p a zero h = refl
any_none p a (suc n) h = rw (h a (omega arith) (omega arith)) (any_none p (a + 1) n (λ u l m. h u (omega (arith, l)) (omega (arith, m))))

pub any_one : (p : ℕ → Bool) (a n t : ℕ) → a ≤ t → t < a + n → p t ≡ true → list_any p (range_with_len a n) ≡ true
any_one p a zero t l m holds = absurd (omega (arith, l, m))
any_one p a (suc n) t l m holds = ⊎_elim
    (λ (e : a ≡ t). let y : p a ≡ true = ap p e ∙ holds in rw y refl)
    (λ (k : a + 1 ≤ t). let past : list_any p (range_with_len (a + 1) n) ≡ true = any_one p (a + 1) n t k (omega (arith, m)) holds in rw past (or_true (p a)))
    (let s : (a ≡ t) ⊎ (a + 1 ≤ t) = grind (arith, l) in s)
  where
    or_true : (b : Bool) → (b || true) ≡ true
    or_true true = refl
    or_true false = refl

-- quotients c / g, compared by products
cancel : (a b g : ℕ) → 0 < g → a * g ≤ b * g → a ≤ b
cancel a b g l h = ⊎_elim
    (λ (k : a ≤ b). k)
    (λ (k : b + 1 ≤ a). let m : (b + 1) * g ≤ a * g = mul-le-mul_right g k in absurd (omega (arith, l, h, m)))
    (let s : (a ≤ b) ⊎ (b + 1 ≤ a) = grind arith in s)

-- c u / g u <= c t / g t <= c v / g v
through : (cu gu ct gt cv gv : ℕ) → 0 < gt → cu * gt ≤ ct * gu → ct * gv ≤ cv * gt → cu * gv ≤ cv * gu
through cu gu ct gt cv gv l h k =
    let a : cu * gt * gv ≤ ct * gu * gv = mul-le-mul_right gv h in
    let b : ct * gv * gu ≤ cv * gt * gu = mul-le-mul_right gu k in
    cancel (cu * gv) (cv * gu) gt l (omega (arith, a, b))

-- and with the second one strict
through_below : (cu gu ct gt cv gv : ℕ) → 0 < gu → 0 < gt → cu * gt ≤ ct * gu → ct * gv < cv * gt → cu * gv < cv * gu
through_below cu gu ct gt cv gv m l h k = ⊎_elim
    (λ (s : cu * gv < cv * gu). s)
    (λ (s : cv * gu ≤ cu * gv).
    let a : cu * gt * gv ≤ ct * gu * gv = mul-le-mul_right gv h in
    let b : (ct * gv + 1) * gu ≤ cv * gt * gu = mul-le-mul_right gu (let z : ct * gv + 1 ≤ cv * gt = omega (arith, k) in z) in
    let d : cv * gu * gt ≤ cu * gv * gt = mul-le-mul_right gt s in
    absurd (omega (arith, a, b, d, m)))
    (let s : (cu * gv < cv * gu) ⊎ (cv * gu ≤ cu * gv) = grind arith in s)

below : (a b : ℕ) → nat_lt a b ≡ true → a < b
below a b h = grind (arith, nat_tests)

at_most : (a b : ℕ) → nat_lt a b ≡ false → b ≤ a
at_most a b h = grind (arith, nat_tests)

is_below : (a b : ℕ) → a < b → nat_lt a b ≡ true
is_below a b h = grind (arith, nat_tests)

isnt_below : (a b : ℕ) → b ≤ a → nat_lt a b ≡ false
isnt_below a b h = grind (arith, nat_tests)

-- a factor of a number above another isn't 0
some_factor : (a c g : ℕ) → a < c * g → 0 < g
some_factor a c zero h = absurd (let z : c * 0 ≡ 0 = omega arith in omega (arith, z, h))
some_factor a c (suc g) h = omega arith

some_place : (cu gu cb gb : ℕ) → gu < cu → 0 < gb → cu * gb ≤ cb * gu → 0 < gu
some_place cu zero cb gb w l h =
    let z : cb * 0 ≡ 0 = omega arith in
    let m : 1 * gb ≤ cu * gb = mul-le-mul_right gb (let q : 1 ≤ cu = omega (arith, w) in q) in
    absurd (omega (arith, z, h, m, l))
some_place cu (suc gu) cb gb w l h = omega arith

step : (t u : ℕ) → u < suc t → (u < t) ⊎ (u ≡ t)
step t u l = grind (arith, l)

apart_tests : (b : Bool) → b ≡ true → b ≡ false → ⊥
apart_tests b h k = cc

fuller_itself : (counts places : List ℕ) (t : ℕ) → is_fuller counts places t t ≡ false
fuller_itself counts places t = isnt_below (get_or counts t 0 * get_or places t 0) (get_or counts t 0 * get_or places t 0) (omega arith)

pub best_takes : (counts places : List ℕ) (t : ℕ) (best : Option ℕ) → AreScanned counts places t best → wants counts places t ≡ true → is_ahead counts places best t ≡ true → IsBest counts places (suc t) t
best_takes counts places t None h w a = record {
  within = omega arith;
  wants_one = w;
  most = λ u l wu. ⊎_elim
      (λ (k : u < t). absurd (apart_tests (wants counts places u) wu (h u k)))
      (λ (k : u ≡ t). subst (λ z. is_fuller counts places z t ≡ false) (sym k) (fuller_itself counts places t))
      (step t u l);
  lowest = λ u l wu. absurd (apart_tests (wants counts places u) wu (h u l));
}
best_takes counts places t (Some b) h w a =
    let c : ℕ → ℕ = λ u. get_or counts u 0 in
    let g : ℕ → ℕ = λ u. get_or places u 0 in
    let ahead : c b * g t < c t * g b = below (c b * g t) (c t * g b) a in
    let some : 0 < g b = some_factor (c b * g t) (c t) (g b) ahead in
    let past : (u : ℕ) → u < t → wants counts places u ≡ true → c u * g b ≤ c b * g u = λ u l wu. at_most (c b * g u) (c u * g b) (h.most u l wu) in
    record {
      within = omega arith;
      wants_one = w;
      most = λ u l wu. ⊎_elim
          (λ (k : u < t). isnt_below (c t * g u) (c u * g t) (through (c u) (g u) (c b) (g b) (c t) (g t) some (past u k wu) (omega (arith, ahead))))
          (λ (k : u ≡ t). subst (λ z. is_fuller counts places z t ≡ false) (sym k) (fuller_itself counts places t))
          (step t u l);
      lowest = λ u l wu. is_below (c u * g t) (c t * g u) (through_below (c u) (g u) (c b) (g b) (c t) (g t) (some_place (c u) (g u) (c b) (g b) (below (g u) (c u) wu) some (past u l wu)) some (past u l wu) ahead);
    }

either : (a b : Bool) → (a && b) ≡ false → (a ≡ false) ⊎ (b ≡ false)
either true b h = inr h
either false b h = inl refl

pub best_keeps : (counts places : List ℕ) (t : ℕ) (best : Option ℕ) → AreScanned counts places t best → (wants counts places t && is_ahead counts places best t) ≡ false → AreScanned counts places (suc t) best
best_keeps counts places t None h n = λ u l. ⊎_elim
    (λ (k : u < t). h u k)
    (λ (k : u ≡ t). ⊎_elim
    (λ (m : wants counts places t ≡ false). subst (λ z. wants counts places z ≡ false) (sym k) m)
    (λ (m : true ≡ false). absurd (cc))
    (either (wants counts places t) true n))
    (step t u l)
best_keeps counts places t (Some b) h n = record {
  within = let z = h.within in omega (arith, z);
  wants_one = h.wants_one;
  most = λ u l wu. ⊎_elim
      (λ (k : u < t). h.most u k wu)
      (λ (k : u ≡ t). ⊎_elim
      (λ (m : wants counts places t ≡ false). absurd (apart_tests (wants counts places t) (subst (λ z. wants counts places z ≡ true) k wu) m))
      (λ (m : is_fuller counts places t b ≡ false). subst (λ z. is_fuller counts places z b ≡ false) (sym k) m)
      (either (wants counts places t) (is_fuller counts places t b) n))
      (step t u l);
  lowest = h.lowest;
}

both : (a b : Bool) → a ≡ true → b ≡ false → (a && not b) ≡ true
both a b h k = rw (h, k) refl

neither : (a b : Bool) → (a ≡ true → b ≡ false) → (a && b) ≡ false
neither true b h = h refl
neither false b h = refl

next_is : (counts places : List ℕ) (o : Option ℕ) → AreScanned counts places (length counts) o → next_tile counts places ≡ o
next_is counts places None h = find_none (λ t. wants counts places t && not (yields counts places t)) 0 (length counts) (λ u l m. neither (wants counts places u) (not (yields counts places u)) (λ wu. absurd (apart_tests (wants counts places u) wu (h u (omega (arith, m))))))
next_is counts places (Some t) h = find_first (λ t. wants counts places t && not (yields counts places t)) 0 (length counts) t (omega arith) (let z = h.within in omega (arith, z))
    (both (wants counts places t) (yields counts places t) h.wants_one (any_none (λ u. wants counts places u && is_fuller counts places u t) 0 (length counts) (λ u l m. neither (wants counts places u) (is_fuller counts places u t) (h.most u (omega (arith, m))))))
    (λ u l m. neither (wants counts places u) (not (yields counts places u)) (λ wu. ap not (any_one (λ v. wants counts places v && is_fuller counts places v u) 0 (length counts) t (omega arith) (let z = h.within in omega (arith, z)) (holds (wants counts places t) (is_fuller counts places t u) h.wants_one (h.lowest u m wu)))))
  where
    holds : (a b : Bool) → a ≡ true → b ≡ true → (a && b) ≡ true
    holds a b h k = rw (h, k) refl

-- the best of the first i tiles
abbrev best_of : List ℕ → List ℕ → ℕ → Option ℕ
best_of counts places zero = None
best_of counts places (suc i) = cond (wants counts places i && is_ahead counts places (best_of counts places i) i) (Some i) (best_of counts places i)

best_is : (counts places : List ℕ) (i : ℕ) → AreScanned counts places i (best_of counts places i)
best_is counts places zero = λ u l. absurd (omega (arith, l))
best_is counts places (suc i) = go (wants counts places i && is_ahead counts places (best_of counts places i) i) refl (best_is counts places i)
  where
    parts : (a b : Bool) → (a && b) ≡ true → (a ≡ true) × (b ≡ true)
    parts true b h = (refl, h)
    parts false b h = absurd (cc)

    go : (b : Bool) → (wants counts places i && is_ahead counts places (best_of counts places i) i) ≡ b → AreScanned counts places i (best_of counts places i) → AreScanned counts places (suc i) (cond b (Some i) (best_of counts places i))
    go true e past = let p = parts (wants counts places i) (is_ahead counts places (best_of counts places i) i) e in best_takes counts places i (best_of counts places i) past p.0 p.1
    go false e past = best_keeps counts places i (best_of counts places i) past e

pub next_scanned : (counts places : List ℕ) → AreScanned counts places (length counts) (next_tile counts places)
next_scanned counts places = subst (AreScanned counts places (length counts)) (sym (next_is counts places (best_of counts places (length counts)) (best_is counts places (length counts)))) (best_is counts places (length counts))

-- at the scan's end
pub is_next : (counts places : List ℕ) (i : ℕ) (o : Option ℕ) → i ≡ length counts → AreScanned counts places i o → o ≡ next_tile counts places
is_next counts places i o e h = sym (next_is counts places o (subst (λ z. AreScanned counts places z o) e h))
