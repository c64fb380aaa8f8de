-- The bracket by neighbours is the one by digits.
use Rattle.std.proofs.Common.{◌≡◌, ℕ, zero, suc, ◌+◌, ◌-◌, ◌*◌, ◌/◌, ◌%◌, ◌<◌, ◌≤◌, [], ◌∷◌, map, length, take, drop, refl, sym, ap, ◌∙◌, arith, inl, inr, ⊎_elim}
use Rattle.std.proofs.lemmas.Nat.{mod-mul-add, div-mul-add}
use Rattle.std.proofs.lemmas.List.FromFn.{length-map-range_with_len, take-map-range_with_len}
use Rattle.std.specs.List.{range_with_len}
use Rattle.std.specs.Prelude.{◌⊎◌}
use mathlib.Core.Path.{fun_ext}
use Rattle.icet_model.specs.BracketFold.{left, left_from}
use Rattle.icet_model.specs.declared.bracket.Bracket.{Bracket}
use Rattle.icet_legs.specs.Team.{Team}
use Rattle.icet_legs.specs.Group.{member}
use Rattle.icet_legs.specs.Radix.{stride, left_of, radix_of}
use Rattle.icet_legs.proofs.Tests.{split}
use Rattle.icet_legs.proofs.Pairings.{row, row_same}
use Rattle.icet_legs.proofs.Radixes.{AreFactors, stride_wide}
use Rattle.icet_radixk.specs.Radixk.{AreFactorsOf, first_of, folded, folded_by, radix_fold, radix_bracket}

-- the product of some factors is a multiple of that of the first ones
times : (factor : ℕ → ℕ) (q i : ℕ) → i ≤ q → (r : ℕ) × (stride factor q ≡ r * stride factor i)
times factor zero i l = (1, let z : 0 ≡ i = omega arith in let e : 1 ≡ 1 * 1 = omega arith in e ∙ ap (λ y. 1 * stride factor y) z)
times factor (suc q) i l = ⊎_elim
    (λ (s : i ≤ q).
    let h = times factor q i s in
    let e : factor q * (h.0 * stride factor i) ≡ factor q * h.0 * stride factor i = omega arith in (factor q * h.0, ap (λ z. factor q * z) h.1 ∙ e))
    (λ (s : suc q ≡ i). (1, let e : stride factor i ≡ 1 * stride factor i = omega arith in ap (stride factor) s ∙ e))
    (let s : (i ≤ q) ⊎ (suc q ≡ i) = grind arith in s)

pub factors_are : (g : Team) (factor : ℕ → ℕ) (q : ℕ) → AreFactorsOf g.n factor q → AreFactors g factor q
factors_are g factor q f = record {
  many = f.many;
  above = λ i. above i (split (suc i) (suc q));
  whole = λ i l. whole i l (split (suc i) (suc q));
}
  where
    above : (i : ℕ) → (suc i < suc q) ⊎ (suc q ≤ suc i) → ℕ
    above i c = ⊎_elim (λ (s : suc i < suc q). (times factor q (suc i) (omega arith)).0) (λ (s : suc q ≤ suc i). 0) c

    whole : (i : ℕ) → i < q → (c : (suc i < suc q) ⊎ (suc q ≤ suc i)) → g.n ≡ above i c * factor i * stride factor i
    whole i l (inl s) =
        let h = times factor q (suc i) (omega arith) in
        let e : h.0 * (factor i * stride factor i) ≡ h.0 * factor i * stride factor i = omega arith in
        f.product ∙ (h.1 ∙ e)
    whole i l (inr s) = absurd (omega arith)

-- a row in two
row_drop : {X : Type 0} (f : ℕ → X) (k a n : ℕ) → drop k (row f a (k + n)) ≡ row f (a + k) n
row_drop f zero a n = let z : 0 + n ≡ n = omega arith in let y : a ≡ a + 0 = omega arith in ap (λ m. row f a m) z ∙ ap (λ b. row f b n) y
row_drop f (suc k) a n =
    let z : suc k + n ≡ suc (k + n) = omega arith in
    let y : a + 1 + k ≡ a + suc k = omega arith in
    ap (λ m. drop (suc k) (row f a m)) z ∙ (row_drop f k (a + 1) n ∙ ap (λ b. row f b n) y)

left_row : (n j a : ℕ) (f : ℕ → Bracket) → left_from (left_of (λ x. f (a + x)) j) (row f (a + suc j) n) ≡ left_of (λ x. f (a + x)) (j + n)
left_row zero j a f = ap (left_of (λ x. f (a + x))) (let z : j ≡ j + 0 = omega arith in z)
left_row (suc n) j a f =
    let z : a + suc j + 1 ≡ a + suc (suc j) = omega arith in
    let y : suc j + n ≡ j + suc n = omega arith in
    ap (λ b. left_from (left_of (λ x. f (a + x)) (suc j)) (row f b n)) z ∙ (left_row n (suc j) a f ∙ ap (left_of (λ x. f (a + x))) y)

left_is : (k a : ℕ) (f : ℕ → Bracket) → left (row f a (suc k)) ≡ left_of (λ x. f (a + x)) k
left_is k a f =
    let z : a + 0 ≡ a = omega arith in
    let y : a + 1 ≡ a + suc 0 = omega arith in
    ap (λ b. left_from b (row f (a + 1) k)) (ap f (sym z))
    ∙ (ap (λ b. left_from (f (a + 0)) (row f b k)) y ∙ (left_row k 0 a f ∙ ap (left_of (λ x. f (a + x))) (let v : 0 + k ≡ k = omega arith in v)))

folded_none : (m k : ℕ) → folded_by m k [] ≡ []
folded_none zero k = refl
folded_none (suc m) k = refl

-- c times k + 1 neighbours
folded_row : (k c a b m : ℕ) (f h : ℕ → Bracket) → c ≤ m → ((j : ℕ) → j < c → h (b + j) ≡ left_of (λ x. f (a + j * suc k + x)) k) → folded_by m (suc k) (row f a (c * suc k)) ≡ row h b c
folded_row k zero a b m f h l e = ap (λ n. folded_by m (suc k) (row f a n)) (let z : 0 * suc k ≡ 0 = omega arith in z) ∙ folded_none m (suc k)
folded_row k (suc c) a b zero f h l e = absurd (omega arith)
folded_row k (suc c) a b (suc m) f h l e =
    let n = c * suc k in
    let s : suc c * suc k ≡ suc (k + n) = omega arith in
    let w : suc k + n ≡ suc (k + n) = omega arith in
    let xs = row f a (suc (k + n)) in
    let front : left (take (suc k) xs) ≡ h b =
    ap left (take-map-range_with_len f a (suc (k + n)) (suc k) (omega arith)) ∙ (left_is k a f
    ∙ (ap (λ (q : ℕ → Bracket). left_of q k) (fun_ext (λ x. ap f (let z : a + x ≡ a + 0 * suc k + x = omega arith in z)))
    ∙ (sym (e 0 (omega arith)) ∙ ap h (let z : b + 0 ≡ b = omega arith in z)))) in
    let back : folded_by m (suc k) (drop (suc k) xs) ≡ row h (b + 1) c =
    ap (λ y. folded_by m (suc k) (drop (suc k) (row f a y))) (sym w) ∙ (ap (folded_by m (suc k)) (row_drop f (suc k) a n)
    ∙ folded_row k c (a + suc k) (b + 1) m f h (omega arith) (λ j i.
    ap h (let z : b + 1 + j ≡ b + suc j = omega arith in z) ∙ (e (suc j) (omega arith)
    ∙ ap (λ (q : ℕ → Bracket). left_of q k) (fun_ext (λ x. ap f (let z : a + suc j * suc k + x ≡ a + suc k + j * suc k + x = omega arith in z)))))) in
    ap (λ y. folded_by (suc m) (suc k) (row f a y)) s ∙ (λ i. front i ∷ back i)

module _ (g : Team) (factor : ℕ → ℕ) (q : ℕ) (f : AreFactors g factor q) (product : g.n ≡ stride factor q) where
  -- the brackets of the first of each block before round i
  abbrev firsts : ℕ → ℕ → Bracket
  firsts i j = radix_of g factor i (j * stride factor i)

  -- a block of the next round is the fold of its parts
  inner : (i j k : ℕ) → factor i ≡ suc k → firsts (suc i) j ≡ left_of (λ x. firsts i (0 + j * suc k + x)) k
  inner i j k e =
      let s = stride factor i in
      let wide = stride_wide g factor q f i in
      let p = j * (factor i * s) in
      let last : factor i - 1 ≡ k = omega (arith, e) in
      let p_is : p ≡ (j * factor i) * s + 0 = omega arith in
      let d1 : p / s ≡ j * factor i = ap (λ z. z / s) p_is ∙ div-mul-add (j * factor i) s 0 wide in
      let q_is : j * factor i ≡ j * factor i + 0 = omega arith in
      let d2 : p / s / factor i ≡ j = ap (λ z. z / factor i) (d1 ∙ q_is) ∙ div-mul-add j (factor i) 0 (f.many i) in
      let m0 : p % s ≡ 0 = ap (λ z. z % s) p_is ∙ mod-mul-add (j * factor i) s 0 wide in
      ap (left_of (λ h. radix_of g factor i (member s (factor i) p h))) last
      ∙ ap (λ (r : ℕ → Bracket). left_of r k) (fun_ext (λ h.
      ap (radix_of g factor i) (
      ap (λ z. (p / s / factor i * factor i + h) * s + z) m0
      ∙ (ap (λ z. (z * factor i + h) * s + 0) d2
      ∙ (ap (λ z. (j * z + h) * s + 0) e
      ∙ (let y : (j * suc k + h) * s + 0 ≡ (0 + j * suc k + h) * s = omega arith in y))))))

  pub fold_is : (i c : ℕ) → i ≤ q → g.n ≡ c * stride factor i → radix_fold factor i (row g.leaf 0 g.n) ≡ row (firsts i) 0 c
  fold_is zero c l e =
      let n : g.n ≡ c = omega (arith, e) in
      ap (row g.leaf 0) n ∙ row_same c 0 0 g.leaf (firsts 0) (λ j i. ap g.leaf (let z : 0 + j ≡ (0 + j) * 1 = omega arith in z))
  fold_is (suc i) c l e = go (factor i) refl (λ n. fold_is i (c * factor i) (omega arith) n)
    where
      go : (k : ℕ) → factor i ≡ k → (g.n ≡ c * factor i * stride factor i → radix_fold factor i (row g.leaf 0 g.n) ≡ row (firsts i) 0 (c * factor i)) → radix_fold factor (suc i) (row g.leaf 0 g.n) ≡ row (firsts (suc i)) 0 c
      go zero h past = absurd (let m = f.many i in omega (arith, m, h))
      go (suc k) h past =
          let s = stride factor i in
          let m = c * suc k in
          let long = length-map-range_with_len (firsts i) 0 m in
          let few : c ≤ length (row (firsts i) 0 m) = omega (arith, long) in
          let n : g.n ≡ c * factor i * s = e ∙ (let z : c * (factor i * s) ≡ c * factor i * s = omega arith in z) in
          ap (folded (factor i)) (past n)
          ∙ (ap (λ y. folded y (row (firsts i) 0 (c * y))) h
          ∙ folded_row k c 0 0 (length (row (firsts i) 0 m)) (firsts i) (firsts (suc i)) few (λ j b. inner i (0 + j) k h ∙ ap (λ (r : ℕ → Bracket). left_of r k) (fun_ext (λ x. ap (firsts i) (let z : 0 + (0 + j) * suc k + x ≡ 0 + j * suc k + x = omega arith in z)))))

  pub bracket_is : radix_of g factor q 0 ≡ radix_bracket factor q (map g.leaf (range_with_len 0 g.n))
  bracket_is =
      let n : g.n ≡ 1 * stride factor q = product ∙ (let z : stride factor q ≡ 1 * stride factor q = omega arith in z) in
      let z : 0 ≡ 0 * stride factor q = omega arith in
      ap (radix_of g factor q) z ∙ sym (ap first_of (fold_is q 1 (omega arith) n))
