-- What all swappers have in the end is the stated bracket: the first e couples, and then the tree.
use Rattle.std.proofs.Common.{◌≡◌, ℕ, zero, suc, ◌+◌, ◌-◌, ◌*◌, ◌/◌, ◌%◌, ◌^◌, ◌<◌, true, false, cond, [], ◌∷◌, map, length, sym, ap, ◌∙◌, arith, eq-eqb}
use Rattle.std.proofs.Math.Nat.{pow-succ'}
use Rattle.std.proofs.lemmas.Nat.{div-mul-add, pow_pos}
use Rattle.std.proofs.lemmas.List.FromFn.{length-map-range_with_len}
use Rattle.std.specs.Prelude.{◌==◌, ◌&&◌, nat_lt}
use Rattle.std.specs.List.{range_with_len}
use Rattle.icet_model.specs.declared.bracket.Bracket.{Bracket}
use Rattle.icet_model.specs.declared.bracket.Bracket.TheVariants.{Pair}
use Rattle.icet_legs.specs.Team.{Team}
use Rattle.icet_legs.specs.Merge.{merged}
use Rattle.icet_legs.specs.Pairing.{pair_up, couples, tree}
use Rattle.icet_legs.specs.Radix.{stride, radix_of}
use Rattle.icet_legs.proofs.Tests.{and_both, and_false, below_test, past_test}
use Rattle.icet_legs.proofs.Pairings.{row, row_same, ArePairs, pair_row, couples_row, pairs_up, until_is}
use Rattle.icet_legs.proofs.Radixes.{radix_block}
use Rattle.icet_bswap.specs.Bswap.{folding, seat, swappers, side, block, bswap_bracket}
use Rattle.icet_bswap.proofs.Folding.{seat_low, seat_high}
use Rattle.icet_bswap.proofs.HalvingIsRadix.{twos, stride_twos, are_twos, side_by_side, held, held_is}

grows : (m : ℕ) → m < 2 ^ m
grows zero = omega arith
grows (suc m) = let h = grows m in let e = pow-succ' 2 m in omega (arith, h, e)

module _ (g : Team) where
  -- the brackets of the first of each block before round i
  abbrev firsts : ℕ → ℕ → Bracket
  firsts i j = held g i (j * 2 ^ i)

  blocks_pair : (i b n : ℕ) → ArePairs (firsts i) (2 * b) (firsts (suc i)) b n
  blocks_pair i b n j l =
      let w = 2 ^ i in
      let q = (b + j) * 2 ^ suc i in
      let two = pow-succ' 2 i in
      let q_is : q ≡ 2 * (b + j) * w + 0 = ap (λ z. (b + j) * z) two ∙ (let e : (b + j) * (2 * w) ≡ 2 * (b + j) * w + 0 = omega arith in e) in
      let even : (2 * (b + j)) % 2 ≡ 0 = omega arith in
      let low : side i q ≡ 0 = ap (λ z. z / w % 2) q_is ∙ (ap (λ z. z % 2) (div-mul-add (2 * (b + j)) w 0 (pow_pos i)) ∙ even) in
      let front : q ≡ (2 * b + 2 * j) * w = q_is ∙ (let e : 2 * (b + j) * w + 0 ≡ (2 * b + 2 * j) * w = omega arith in e) in
      let back : q + w ≡ (2 * b + 2 * j + 1) * w = ap (λ z. z + w) q_is ∙ (let e : 2 * (b + j) * w + 0 + w ≡ (2 * b + 2 * j + 1) * w = omega arith in e) in
      ap (λ d. side_by_side d (held g i q) (held g i (cond (d == 0) (q + w) (q - w)))) low
      ∙ (λ x. Pair (held g i (front x)) (held g i (back x)))

  -- 2 ^ k blocks from c * 2 ^ k on become one
  all_up : (k i c : ℕ) → pairs_up k (row (firsts i) (c * 2 ^ k) (2 ^ k)) ≡ firsts (i + k) c ∷ []
  all_up zero i c =
      let z : c * 1 ≡ c = omega arith in
      let y : i ≡ i + 0 = omega arith in
      ap (λ p. firsts i p ∷ []) z ∙ ap (λ x. firsts x c ∷ []) y
  all_up (suc k) i c =
      let two = pow-succ' 2 k in
      let at : c * 2 ^ suc k ≡ 2 * (c * 2 ^ k) = ap (λ z. c * z) two ∙ (let e : c * (2 * 2 ^ k) ≡ 2 * (c * 2 ^ k) = omega arith in e) in
      let up : suc i + k ≡ i + suc k = omega arith in
      ap (λ n. pairs_up k (pair_up (row (firsts i) n (2 ^ suc k)))) at
      ∙ (ap (λ n. pairs_up k (pair_up (row (firsts i) (2 * (c * 2 ^ k)) n))) two
      ∙ (ap (pairs_up k) (pair_row (2 ^ k) (2 * (c * 2 ^ k)) (c * 2 ^ k) (firsts i) (firsts (suc i)) (blocks_pair i (c * 2 ^ k) (2 ^ k)))
      ∙ (all_up k (suc i) c ∙ ap (λ x. firsts x c ∷ []) up)))

  -- the tree over an aligned block
  pub tree_is : (m c : ℕ) → tree (row g.leaf (c * 2 ^ m) (2 ^ m)) ≡ held g m (c * 2 ^ m)
  tree_is m c =
      let a = c * 2 ^ m in
      let same : row g.leaf a (2 ^ m) ≡ row (firsts 0) a (2 ^ m) = row_same (2 ^ m) a a g.leaf (firsts 0) (λ i l. ap g.leaf (let e : a + i ≡ (a + i) * 1 = omega arith in e)) in
      let long = length-map-range_with_len g.leaf a (2 ^ m) in
      let far = grows m in
      until_is (length (row g.leaf a (2 ^ m))) m (row g.leaf a (2 ^ m)) (held g m a) (omega (arith, long, far))
      (ap (pairs_up m) same ∙ (all_up m 0 c ∙ ap (λ x. firsts x c ∷ []) (let z : 0 + m ≡ m = omega arith in z)))

-- what a swapper has before a round is the tree over its block
pub block_is : (g : Team) (m : ℕ) → g.n ≡ 2 ^ m → (i s : ℕ) → held g i s ≡ block g i s
block_is g m n i s =
    let w = 2 ^ i in
    let q = s / w in
    let same : s / stride twos i ≡ (q * w) / stride twos i =
    ap (λ z. s / z) (stride_twos i) ∙ (sym (let e : q * w ≡ q * w + 0 = omega arith in ap (λ z. z / w) e ∙ div-mul-add q w 0 (pow_pos i)) ∙ ap (λ z. (q * w) / z) (sym (stride_twos i))) in
    let block : radix_of g twos i s ≡ radix_of g twos i (q * w) = radix_block g twos m (are_twos g m n) i s (q * w) same in
    sym (held_is g m n i s) ∙ (block ∙ (held_is g m n i (q * w) ∙ sym (tree_is g i q)))

tree_is_all : (g : Team) (m : ℕ) → tree (row g.leaf 0 (2 ^ m)) ≡ held g m 0
tree_is_all g m =
    let z : 0 * 2 ^ m ≡ 0 = omega arith in
    ap (λ a. tree (row g.leaf a (2 ^ m))) (sym z) ∙ (tree_is g m 0 ∙ ap (held g m) z)

module _ (g : Team) (m e : ℕ) (count : g.n ≡ 2 ^ m + e) (few : e < 2 ^ m) where
  abbrev leaf : ℕ → Bracket
  leaf s = merged (folding g e) (seat e s)

  folded : ArePairs g.leaf 0 leaf 0 e
  folded i l =
      let at = 0 + i in
      let even : (2 * at) % 2 ≡ 0 = omega arith in
      let takes : ((2 * at) % 2 == 0) && nat_lt (2 * at) (2 * e) ≡ true = and_both ((2 * at) % 2 == 0) (nat_lt (2 * at) (2 * e)) (eq-eqb ((2 * at) % 2) 0 even) (below_test (2 * at) (2 * e) (omega arith)) in
      let x : 2 * at ≡ 0 + 2 * i = omega arith in
      let y : 2 * at + 1 ≡ 0 + 2 * i + 1 = omega arith in
      ap (merged (folding g e)) (seat_low e at (omega arith))
      ∙ (ap (λ t. cond t (Pair (g.leaf (2 * at)) (g.leaf (2 * at + 1))) (g.leaf (2 * at))) takes
      ∙ (λ j. Pair (g.leaf (x j)) (g.leaf (y j))))

  unfolded : (i : ℕ) → g.leaf (0 + 2 * e + i) ≡ leaf (0 + e + i)
  unfolded i =
      let at = 0 + e + i in
      let takes : ((at + e) % 2 == 0) && nat_lt (at + e) (2 * e) ≡ false = and_false ((at + e) % 2 == 0) (nat_lt (at + e) (2 * e)) (past_test (at + e) (2 * e) (omega arith)) in
      let x : 0 + 2 * e + i ≡ at + e = omega arith in
      ap g.leaf x
      ∙ (sym (ap (λ t. cond t (Pair (g.leaf (at + e)) (g.leaf (at + e + 1))) (g.leaf (at + e))) takes)
      ∙ sym (ap (merged (folding g e)) (seat_high e at (omega arith))))

  -- the list of the swappers' brackets behind the folding
  pub couples_are : couples e (map g.leaf (range_with_len 0 g.n)) ≡ row leaf 0 (2 ^ m)
  couples_are =
      let n : g.n ≡ 2 * e + (2 ^ m - e) = omega (arith, count, few) in
      let k : e + (2 ^ m - e) ≡ 2 ^ m = omega (arith, few) in
      ap (λ z. couples e (row g.leaf 0 z)) n ∙ (couples_row e (2 ^ m - e) 0 0 g.leaf leaf folded (λ i l. unfolded i) ∙ ap (row leaf 0) k)

  -- in the end each swapper has the bracket of the whole
  pub whole_is : (s : ℕ) → s < 2 ^ m → held (swappers g e) m s ≡ bswap_bracket g e
  whole_is s l =
      let n : g.n - e ≡ 2 ^ m = omega (arith, count) in
      let h = swappers g e in
      let block : s / stride twos m ≡ 0 / stride twos m =
      ap (λ w. s / w) (stride_twos m) ∙ (small s l ∙ (sym (small 0 (pow_pos m)) ∙ ap (λ w. 0 / w) (sym (stride_twos m)))) in
      let same : radix_of h twos m s ≡ radix_of h twos m 0 = radix_block h twos m (are_twos h m n) m s 0 block in
      sym (held_is h m n m s) ∙ (same ∙ (held_is h m n m 0 ∙ (sym (tree_is_all h m) ∙ ap tree (sym couples_are))))
    where
      small : (x : ℕ) → x < 2 ^ m → x / 2 ^ m ≡ 0
      small x l = let z : x ≡ 0 * 2 ^ m + x = omega arith in ap (λ y. y / 2 ^ m) z ∙ div-mul-add 0 (2 ^ m) x l
