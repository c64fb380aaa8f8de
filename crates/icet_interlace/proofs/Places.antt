-- Places in closed form: which there are, that they differ, and the pixel at each.
use Rattle.std.proofs.Common.{◌≡◌, ⊎_elim, inl, inr, ◌⊎◌, ℕ, zero, suc, ◌+◌, ◌-◌, ◌*◌, ◌/◌, ◌%◌, ◌<◌, ◌≤◌, min, Bool, true, false, cond, ltb, List, [], ◌∷◌, ◌++◌, length, filter, refl, sym, ◌∙◌, ap, arith, length-append, zero-add, add-zero, add-one, lit<}
use Rattle.std.specs.Prelude.{◌==◌}
use Rattle.std.specs.List.{range_with_len, sum_by}
use Rattle.std.proofs.lemmas.Bool.{lt-ltb, le-ltb, cases_lt}
use Rattle.std.proofs.lemmas.Bool.Decides.{nat_tests}
use Rattle.std.proofs.lemmas.List.Sums.{sum_by-append}
use Rattle.std.proofs.lemmas.Grind.{common_steps}
use Rattle.std.proofs.lemmas.List.Elements.{filter-append}
use Rattle.std.proofs.lemmas.Nat.{div-add-mod', div-mul-add, mod-mul-add, div_below, mod_below, mul-le}
use Rattle.std.proofs.Math.Nat.{suc-mul, mul-suc, add-mul, mul_comm, mod-one, div-one}
use Rattle.icet_interlace.specs.Interlace.{strand, place}

pub range_more : (a n : ℕ) → range_with_len a (suc n) ≡ range_with_len a n ++ (a + n) ∷ []
range_more a zero = ap (λ x. x ∷ []) (let e : a ≡ a + 0 = omega arith in e)
range_more a (suc n) = ap (λ l. a ∷ l) (range_more (a + 1) n ∙ ap (λ x. range_with_len (a + 1) n ++ x ∷ []) (let e : a + 1 + n ≡ a + suc n = omega arith in e))

sum_more : (f : ℕ → ℕ) (ks : List ℕ) (k : ℕ) → sum_by f (ks ++ k ∷ []) ≡ sum_by f ks + f k
sum_more f ks k = let e : sum_by f (k ∷ []) ≡ f k = grind (arith, common_steps) in sum_by-append f ks (k ∷ []) ∙ ap (λ x. sum_by f ks + x) e

one_or_none : (b : Bool) (x : ℕ) → length (cond b (x ∷ []) []) ≡ cond b 1 0
one_or_none true x = refl
one_or_none false x = refl

module _ (S j : ℕ) (h : j < S) where
  size_more : (n : ℕ) → length (strand j (suc n) S) ≡ length (strand j n S) + cond (n % S == j) 1 0
  size_more n = ap length (ap (filter (λ i. i % S == j)) (range_more 0 n) ∙ filter-append (λ i. i % S == j) (range_with_len 0 n) ((0 + n) ∷ [])) ∙ length-append (strand j n S) (filter (λ i. i % S == j) ((0 + n) ∷ [])) ∙ ap (λ k. length (strand j n S) + k) (ap (λ m. length (filter (λ i. i % S == j) (m ∷ []))) (zero-add n) ∙ one_or_none (n % S == j) n)

  next_size : (q r : ℕ) → q + cond (ltb j r) 1 0 + cond (r == j) 1 0 ≡ q + cond (ltb j (suc r)) 1 0
  next_size q r = grind (arith, nat_tests)

  -- the first r of one more round are dealt out
  size_in : (q : ℕ) → length (strand j (q * S) S) ≡ q → (r : ℕ) → r ≤ S → length (strand j (q * S + r) S) ≡ q + cond (ltb j r) 1 0
  size_in q e zero l = ap (λ n. length (strand j n S)) (add-zero (q * S)) ∙ e ∙ rw (le-ltb j 0 (omega arith)) (let z : q ≡ q + 0 = omega arith in z)
  size_in q e (suc r) l =
      let next : q * S + suc r ≡ suc (q * S + r) = omega arith in
      let rest : (q * S + r) % S ≡ r = mod-mul-add q S r (omega arith) in
      ap (λ n. length (strand j n S)) next ∙ size_more (q * S + r) ∙ ap (λ k. k + cond ((q * S + r) % S == j) 1 0) (size_in q e r (omega arith)) ∙ ap (λ m. q + cond (ltb j r) 1 0 + cond (m == j) 1 0) rest ∙ next_size q r

  size_whole : (q : ℕ) → length (strand j (q * S) S) ≡ q
  size_whole zero = ap (λ n. length (strand j n S)) (let e : 0 * S ≡ 0 = omega arith in e)
  size_whole (suc q) = ap (λ n. length (strand j n S)) (suc-mul q S) ∙ size_in q (size_whole q) S (omega arith) ∙ rw (lt-ltb j S h) (let e : q + 1 ≡ suc q = omega arith in e)

  pub size_is : (n : ℕ) → length (strand j n S) ≡ n / S + cond (ltb j (n % S)) 1 0
  size_is n = let small = mod_below n S (omega arith) in ap (λ m. length (strand j m S)) (sym (div-add-mod' n S)) ∙ size_in (n / S) (size_whole (n / S)) (n % S) (omega arith)

-- where strand k begins
start_more : (k q r : ℕ) → k * q + min k r + (q + cond (ltb k r) 1 0) ≡ suc k * q + min (suc k) r
start_more k q r = let e = suc-mul k q in ⊎_elim (λ (h : k < r). rw (lt-ltb k r h) (omega arith)) (λ (h : r ≤ k). rw (le-ltb k r h) (omega arith)) (cases_lt k r)

pub start_is : (n S k : ℕ) → k ≤ S → sum_by (λ j. length (strand j n S)) (range_with_len 0 k) ≡ k * (n / S) + min k (n % S)
start_is n S zero l = omega arith
start_is n S (suc k) l =
    let size : ℕ → ℕ = λ j. length (strand j n S) in
    ap (sum_by size) (range_more 0 k) ∙ sum_more size (range_with_len 0 k) (0 + k) ∙ ap (λ m. sum_by size (range_with_len 0 k) + length (strand m n S)) (zero-add k) ∙ ap (λ s. s + length (strand k n S)) (start_is n S k (omega arith)) ∙ ap (λ s. k * (n / S) + min k (n % S) + s) (size_is S k (omega arith) n) ∙ start_more k (n / S) (n % S)

-- the place of the pixel of turn k in strand j, where each strand has q pixels and the first r one more
abbrev pub at : ℕ → ℕ → ℕ → ℕ → ℕ
at j k q r = j * q + min j r + k

pub place_is : (i n S : ℕ) → 0 < S → place i n S ≡ at (i % S) (i / S) (n / S) (n % S)
place_is i n S h = let l = mod_below i S h in ap (λ s. s + i / S) (start_is n S (i % S) (omega arith))

-- the pixel's turn is one that its strand has
pub turn : (j k q r S : ℕ) → r < S → k * S + j < q * S + r → (k < q) ⊎ ((k ≡ q) × (j < r))
turn j k q r S h l = ⊎_elim (λ (g : k < q). inl g) (λ (g : q ≤ k). ⊎_elim (λ (f : q < k). let m = mul-le (suc q) S k S (omega arith) (omega arith) in let e = suc-mul q S in absurd (omega arith)) (λ (f : k ≤ q). let same : k ≡ q = omega arith in inr (same, (let p : k * S ≡ q * S = ap (λ x. x * S) same in omega arith))) (cases_lt q k)) (cases_lt k q)

before_next : (j k q r S : ℕ) → r < S → k * S + j < q * S + r → at j k q r < suc j * q + min (suc j) r
before_next j k q r S h l = let e = suc-mul j q in ⊎_elim (λ (g : k < q). omega arith) (λ (g : (k ≡ q) × (j < r)). let same = g.0 in let low = g.1 in omega arith) (turn j k q r S h l)

at_within : (j k q r S : ℕ) → j < S → r < S → k * S + j < q * S + r → at j k q r < q * S + r
at_within j k q r S g h l = let b = before_next j k q r S h l in let m = mul-le (suc j) q S q (omega arith) (omega arith) in let c = mul_comm S q in omega arith

strands_apart : (i j k l q r S : ℕ) → i < j → r < S → k * S + i < q * S + r → at i k q r < at j l q r
strands_apart i j k l q r S less h f = let b = before_next i k q r S h f in let m = mul-le (suc i) q j q (omega arith) (omega arith) in omega arith

module _ (i n S : ℕ) (h : 0 < S) (l : i < n) where
  pub in_rounds : i / S * S + i % S < n / S * S + n % S
  in_rounds = let e = div-add-mod' i S in let f = div-add-mod' n S in omega arith

  pub place_within : place i n S < n
  place_within =
      let small = mod_below i S h in
      let rest = mod_below n S h in
      let w = at_within (i % S) (i / S) (n / S) (n % S) S (omega arith) (omega arith) in_rounds in
      omega (arith, place_is i n S h, w, div-add-mod' n S)

pub place_apart : (i j n S : ℕ) → i < n → j < n → 0 < S → place i n S ≡ place j n S → i ≡ j
place_apart i j n S li lj h e =
    let same : at (i % S) (i / S) (n / S) (n % S) ≡ at (j % S) (j / S) (n / S) (n % S) = sym (place_is i n S h) ∙ e ∙ place_is j n S h in
    let rest = mod_below n S h in
    ⊎_elim (λ (g : i % S < j % S). let a = strands_apart (i % S) (j % S) (i / S) (j / S) (n / S) (n % S) S g (omega arith) (in_rounds i n S h li) in absurd (omega arith)) (λ (g : j % S ≤ i % S). ⊎_elim (λ (f : j % S < i % S). let a = strands_apart (j % S) (i % S) (j / S) (i / S) (n / S) (n % S) S f (omega arith) (in_rounds j n S h lj) in absurd (omega arith)) (λ (f : i % S ≤ j % S).
    let strand_is : i % S ≡ j % S = omega arith in
    let turn_is : i / S ≡ j / S = (let p : at (i % S) (i / S) (n / S) (n % S) ≡ at (i % S) (j / S) (n / S) (n % S) = same ∙ ap (λ s. at s (j / S) (n / S) (n % S)) (sym strand_is) in omega arith) in
    sym (div-add-mod' i S) ∙ ap (λ t. t * S + i % S) turn_is ∙ ap (λ s. j / S * S + s) strand_is ∙ div-add-mod' j S) (cases_lt (j % S) (i % S))) (cases_lt (i % S) (j % S))

-- a pixel, its strand and its turn
pub place_of : (j k n S : ℕ) → j < S → place (k * S + j) n S ≡ at j k (n / S) (n % S)
place_of j k n S h = place_is (k * S + j) n S (omega arith) ∙ ap (λ s. at s ((k * S + j) / S) (n / S) (n % S)) (mod-mul-add k S j h) ∙ ap (λ t. at j t (n / S) (n % S)) (div-mul-add k S j h)

one_more : (x q : ℕ) → x * (q + 1) ≡ x * q + x
one_more x q = ap (λ y. x * y) (add-one q) ∙ mul-suc x q

-- there is a pixel at each position, in one of the longer strands or in one behind them
module _ (p n S : ℕ) (h : 0 < S) (l : p < n) where
  long : p < n % S * (n / S + 1) → p / (n / S + 1) < n % S
  long g = div_below p ((n / S + 1)) (n % S) (omega arith) g

  pub long_within : p < n % S * (n / S + 1) → p % (n / S + 1) * S + p / (n / S + 1) < n
  long_within g =
      let x = long g in
      let y = mod_below p ((n / S + 1)) (omega arith) in
      let m = mul-le (p % (n / S + 1)) S (n / S) S (omega arith) (omega arith) in
      omega (arith, div-add-mod' n S)

  pub long_place : p < n % S * (n / S + 1) → place (p % (n / S + 1) * S + p / (n / S + 1)) n S ≡ p
  long_place g =
      let x = long g in
      let rest = mod_below n S h in
      let e = one_more (p / (n / S + 1)) (n / S) in
      let f = div-add-mod' p ((n / S + 1)) in
      place_of (p / (n / S + 1)) (p % (n / S + 1)) n S (omega arith) ∙ (let a : at (p / (n / S + 1)) (p % (n / S + 1)) (n / S) (n % S) ≡ p = omega arith in a)

  -- how far behind the longer strands
  abbrev behind : ℕ
  behind = p - n % S * (n / S + 1)

  short_room : n % S * (n / S + 1) ≤ p → behind < (S - n % S) * (n / S)
  short_room g =
      let rest = mod_below n S h in
      let whole : S ≡ n % S + (S - n % S) = omega arith in
      let parts : S * (n / S) ≡ n % S * (n / S) + (S - n % S) * (n / S) = ap (λ s. s * (n / S)) whole ∙ add-mul (n % S) (S - n % S) (n / S) in
      let e = one_more (n % S) (n / S) in
      let c = mul_comm S (n / S) in
      omega (arith, div-add-mod' n S)

  some : (t q b : ℕ) → b < t * q → 0 < q
  some t zero b g = absurd (omega arith)
  some t (suc q) b g = omega arith

  pub short_some : n % S * (n / S + 1) ≤ p → 0 < n / S
  short_some g = some (S - n % S) (n / S) behind (short_room g)

  short : n % S * (n / S + 1) ≤ p → n % S + behind / (n / S) < S
  short g = let x = div_below behind (n / S) (S - n % S) (short_some g) (short_room g) in let rest = mod_below n S h in omega arith

  pub short_within : n % S * (n / S + 1) ≤ p → behind % (n / S) * S + (n % S + behind / (n / S)) < n
  short_within g =
      let x = short g in
      let y = mod_below behind (n / S) (short_some g) in
      let m = mul-le (suc (behind % (n / S))) S (n / S) S (omega arith) (omega arith) in
      let e = suc-mul (behind % (n / S)) S in
      omega (arith, div-add-mod' n S)

  pub short_place : n % S * (n / S + 1) ≤ p → place (behind % (n / S) * S + (n % S + behind / (n / S))) n S ≡ p
  short_place g =
      let d = add-mul (n % S) (behind / (n / S)) (n / S) in
      let e = one_more (n % S) (n / S) in
      let f = div-add-mod' behind (n / S) in
      place_of (n % S + behind / (n / S)) (behind % (n / S)) n S (short g) ∙ (let a : at (n % S + behind / (n / S)) (behind % (n / S)) (n / S) (n % S) ≡ p = omega arith in a)

  pub place_onto : (i : ℕ) × ((i < n) × (place i n S ≡ p))
  place_onto = ⊎_elim (λ (g : p < n % S * (n / S + 1)). (p % (n / S + 1) * S + p / (n / S + 1), (long_within g, long_place g))) (λ (g : n % S * (n / S + 1) ≤ p). (behind % (n / S) * S + (n % S + behind / (n / S)), (short_within g, short_place g))) (cases_lt p (n % S * (n / S + 1)))

-- one strand has the pixels as they are
pub place_one : (i n : ℕ) → place i n 1 ≡ i
place_one i n = place_is i n 1 (lit< tt) ∙ rw (mod-one i, div-one i) (let e : 0 * (n / 1) + min 0 (n % 1) + i ≡ i = omega arith in e)
