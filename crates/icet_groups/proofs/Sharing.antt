-- Places are shared out fairly, place by place.
use Rattle.std.proofs.Common.{◌≡◌, ◌≢◌, ℕ, zero, suc, ◌+◌, ◌-◌, ◌*◌, ◌<◌, ◌≤◌, min, Bool, true, false, List, [], ◌∷◌, length, get_or, set, refl, sym, ap, ◌∙◌, subst, arith, ⊎_elim}
use Rattle.std.proofs.Math.ListN.{length-set}
use Rattle.std.proofs.Math.Nat.{mul-le-mul_left}
use Rattle.std.proofs.lemmas.Bool.Decides.{nat_tests}
use Rattle.std.proofs.lemmas.List.{get_or-set_same, get_or-set_other, length-map}
use Rattle.std.proofs.lemmas.List.Sums.{sum_by-cons, sum_by-set}
use Rattle.std.specs.Prelude.{◌⊎◌, nat_lt, sum, sum_by, Option, Some, None}
use Rattle.icet_groups.specs.Places.{AreShared, first_places, next_tile, place_added, place_given, places_after, places_of, wants}
use Rattle.icet_groups.specs.Scan.{AreScanned, IsBest}
use Rattle.icet_groups.proofs.Scanning.{next_scanned}

-- beyond a list there is nothing
pub inside : (xs : List ℕ) (i : ℕ) → 0 < get_or xs i 0 → i < length xs
inside [] i h = absurd (omega (arith, h))
inside (x ∷ xs) zero h = omega arith
inside (x ∷ xs) (suc i) h = let z = inside xs i h in omega (arith, z)

pub first_at : (counts : List ℕ) (t : ℕ) → get_or (first_places counts) t 0 ≡ min (get_or counts t 0) 1
first_at [] t = refl
first_at (c ∷ cs) zero = refl
first_at (c ∷ cs) (suc t) = first_at cs t

-- without its first place
unfoldable pub extra : ℕ → ℕ
extra g = g - 1

no_extra : (counts : List ℕ) → sum_by extra (first_places counts) ≡ 0
unfolding extra
no_extra [] = refl
no_extra (c ∷ cs) =
    let p = no_extra cs in
    let z : min c 1 - 1 ≡ 0 = omega arith in
    sum_by-cons extra (min c 1) (first_places cs) ∙ (let e : (min c 1 - 1) + sum_by extra (first_places cs) ≡ 0 = omega (arith, p, z) in e)

pub few_first : (counts : List ℕ) → sum (first_places counts) ≤ length counts
few_first [] = omega arith
few_first (c ∷ cs) =
    let p = few_first cs in
    let s = sum_by-cons (λ x. x) (min c 1) (first_places cs) in
    let z : min c 1 ≤ 1 = omega arith in
    omega (arith, p, s, z)

-- the places when n beside the first ones are given
pub record IsSharing (counts places : List ℕ) (n : ℕ) : Type 0 where
  pub each : length places ≡ length counts
  pub within : sum places ≤ sum (first_places counts) + n
  pub extras : sum_by extra places ≤ n
  pub some : (t : ℕ) → 0 < get_or counts t 0 → 0 < get_or places t 0
  pub few : (t : ℕ) → get_or places t 0 ≤ get_or counts t 0
  pub full : (u : ℕ) → get_or places u 0 < get_or counts u 0 → sum places ≡ sum (first_places counts) + n
  pub fair : (t u : ℕ) → get_or places u 0 < get_or counts u 0 → get_or counts u 0 * (get_or places t 0 - 1) ≤ get_or counts t 0 * get_or places u 0

begins : (counts : List ℕ) → IsSharing counts (first_places counts) 0
begins counts = record {
  each = length-map counts (λ c. min c 1);
  within = omega arith;
  extras = let z = no_extra counts in omega (arith, z);
  some = λ t l. let z = first_at counts t in omega (arith, z, l);
  few = λ t. let z = first_at counts t in omega (arith, z);
  full = λ u l. omega arith;
  fair = λ t u l.
      let z = first_at counts t in
      let n : get_or (first_places counts) t 0 - 1 ≡ 0 = omega (arith, z) in
      let m : get_or counts u 0 * 0 ≡ 0 = omega arith in
      let e : get_or counts u 0 * (get_or (first_places counts) t 0 - 1) ≡ 0 = ap (λ w. get_or counts u 0 * w) n ∙ m in
      omega (arith, e);
}

below : (a b : ℕ) → nat_lt a b ≡ true → a < b
below a b h = grind (arith, nat_tests)

is_below : (a b : ℕ) → a < b → nat_lt a b ≡ true
is_below a b h = grind (arith, nat_tests)

at_most : (a b : ℕ) → nat_lt a b ≡ false → b ≤ a
at_most a b h = grind (arith, nat_tests)

apart_tests : (b : Bool) → b ≡ true → b ≡ false → ⊥
apart_tests b h k = cc

-- nobody wants a place
at_rest : (counts places : List ℕ) (n : ℕ) → IsSharing counts places n → AreScanned counts places (length counts) None → IsSharing counts places (suc n)
at_rest counts places n h none = record {
  each = h.each;
  within = let z = h.within in omega (arith, z);
  extras = let z = h.extras in omega (arith, z);
  some = h.some;
  few = h.few;
  full = λ u l. absurd (apart_tests (wants counts places u) (is_below (get_or places u 0) (get_or counts u 0) l) (none u (inside counts u (omega (arith, l)))));
  fair = h.fair;
}

-- tile t gets one
given : (counts places : List ℕ) (n t : ℕ) → IsSharing counts places n → IsBest counts places (length counts) t → IsSharing counts (set places t (get_or places t 0 + 1)) (suc n)
unfolding extra
given counts places n t h best = record {
  each = length-set places t (get_or places t 0 + 1) ∙ h.each;
  within = let z = h.within in omega (arith, z, more);
  extras = let z = h.extras in let s = sum_by-set extra places t (get_or places t 0 + 1) 0 within in let o = place in omega (arith, z, s, o);
  some = λ u l. let z = h.some u l in let g = grows u in omega (arith, z, g);
  few = λ u. ⊎_elim
      (λ (e : u ≡ t). let s = same in let w = wanted in subst (λ z. get_or (set places t (get_or places t 0 + 1)) z 0 ≤ get_or counts z 0) (sym e) (omega (arith, s, w)))
      (λ (e : u ≢ t). let o = other u e in let z = h.few u in omega (arith, o, z))
      (cases u);
  full = λ u l. let g = grows u in let z = h.full u (omega (arith, g, l)) in omega (arith, z, more);
  fair = λ v u l.
      let g = grows u in
      let before : get_or places u 0 < get_or counts u 0 = omega (arith, g, l) in
      let wider : get_or counts v 0 * get_or places u 0 ≤ get_or counts v 0 * get_or (set places t (get_or places t 0 + 1)) u 0 = mul-le-mul_left (get_or counts v 0) g in
      ⊎_elim
      (λ (e : v ≡ t).
      let s = same in
      let one : get_or (set places t (get_or places t 0 + 1)) v 0 - 1 ≡ get_or places t 0 = ap (λ z. get_or (set places t (get_or places t 0 + 1)) z 0 - 1) e ∙ (let q : get_or (set places t (get_or places t 0 + 1)) t 0 - 1 ≡ get_or places t 0 = omega (arith, s) in q) in
      let m : get_or counts u 0 * get_or places t 0 ≤ get_or counts t 0 * get_or places u 0 = at_most (get_or counts t 0 * get_or places u 0) (get_or counts u 0 * get_or places t 0) (best.most u (inside counts u (omega (arith, before))) (is_below (get_or places u 0) (get_or counts u 0) before)) in
      let left : get_or counts u 0 * (get_or (set places t (get_or places t 0 + 1)) v 0 - 1) ≡ get_or counts u 0 * get_or places t 0 = ap (λ z. get_or counts u 0 * z) one in
      let right : get_or counts t 0 * get_or places u 0 ≡ get_or counts v 0 * get_or places u 0 = ap (λ z. get_or counts z 0 * get_or places u 0) (sym e) in
      omega (arith, left, right, m, wider))
      (λ (e : v ≢ t).
      let left : get_or counts u 0 * (get_or (set places t (get_or places t 0 + 1)) v 0 - 1) ≡ get_or counts u 0 * (get_or places v 0 - 1) = ap (λ z. get_or counts u 0 * (z - 1)) (other v e) in
      let m = h.fair v u before in
      omega (arith, left, m, wider))
      (cases v);
}
  where
    wanted : get_or places t 0 < get_or counts t 0
    wanted = below (get_or places t 0) (get_or counts t 0) best.wants_one

    within : t < length places
    within = let e = h.each in let w = best.within in omega (arith, e, w)

    place : 0 < get_or places t 0
    place = let w = wanted in h.some t (omega (arith, w))

    same : get_or (set places t (get_or places t 0 + 1)) t 0 ≡ get_or places t 0 + 1
    same = get_or-set_same places t (get_or places t 0 + 1) 0 within

    other : (u : ℕ) → u ≢ t → get_or (set places t (get_or places t 0 + 1)) u 0 ≡ get_or places u 0
    other u e = get_or-set_other places t u (get_or places t 0 + 1) 0 e

    cases : (u : ℕ) → (u ≡ t) ⊎ (u ≢ t)
    cases u = grind arith

    grows : (u : ℕ) → get_or places u 0 ≤ get_or (set places t (get_or places t 0 + 1)) u 0
    grows u = ⊎_elim
        (λ (e : u ≡ t). let s = same in subst (λ z. get_or places z 0 ≤ get_or (set places t (get_or places t 0 + 1)) z 0) (sym e) (omega (arith, s)))
        (λ (e : u ≢ t). let o = other u e in omega (arith, o))
        (cases u)

    more : sum (set places t (get_or places t 0 + 1)) ≡ sum places + 1
    more = let s = sum_by-set (λ x. x) places t (get_or places t 0 + 1) 0 within in omega (arith, s)

shared_step : (counts places : List ℕ) (n : ℕ) → IsSharing counts places n → IsSharing counts (place_given counts places) (suc n)
shared_step counts places n h = go (next_tile counts places) (next_scanned counts places)
  where
    go : (o : Option ℕ) → AreScanned counts places (length counts) o → IsSharing counts (place_added places o) (suc n)
    go None s = at_rest counts places n h s
    go (Some t) s = given counts places n t h s

pub is_sharing : (counts : List ℕ) (n : ℕ) → IsSharing counts (places_after counts n) n
is_sharing counts zero = begins counts
is_sharing counts (suc n) = shared_step counts (places_after counts n) n (is_sharing counts n)

pub are_shared : (ranks : ℕ) (counts : List ℕ) → sum (first_places counts) ≤ ranks → AreShared ranks counts (places_of ranks counts)
are_shared ranks counts l =
    let h = is_sharing counts (ranks - sum (first_places counts)) in
    record {
      each = h.each;
      within = let z = h.within in omega (arith, z, l);
      some = h.some;
      few = h.few;
      full = λ u w. let z = h.full u w in omega (arith, z, l);
      fair = h.fair;
    }

-- there is a number for each tile
pub places_many : (ranks : ℕ) (counts : List ℕ) → length (places_of ranks counts) ≡ length counts
places_many ranks counts = (is_sharing counts (ranks - sum (first_places counts))).each
