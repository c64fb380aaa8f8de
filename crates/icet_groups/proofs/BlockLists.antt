-- Blocks are not empty, and one behind the other they are the contributors.
use Rattle.std.proofs.Common.{◌≡◌, ℕ, zero, suc, ◌+◌, ◌-◌, ◌*◌, ◌/◌, ◌<◌, ◌≤◌, List, [], ◌∷◌, ◌++◌, length, take, drop, refl, sym, ap, ◌∙◌, arith}
use Rattle.std.proofs.Math.Nat.{add-mul-div_left, mul-div_left, div-le_of_le-mul}
use Rattle.std.proofs.Math.ListN.{length-take, length-drop}
use Rattle.std.proofs.Math.Seq.{take-add}
use Rattle.std.proofs.lemmas.List.{append-nil}
use Rattle.std.proofs.lemmas.List.Concat.{flat_map-append}
use Rattle.std.proofs.lemmas.Nat.{le-div}
use Rattle.std.specs.List.{flat_map, range_with_len}
use Rattle.icet_groups.specs.Blocks.{block_of, block_start}
use Rattle.icet_groups.specs.Lawful.{AreBlocks}
use Rattle.icet_groups.proofs.GroupLists.{range_more}

-- the next block begins behind the start of one
starts_grow : (c g j : ℕ) → 0 < g → g ≤ c → block_start c g j < block_start c g (suc j)
starts_grow c g j some few =
    let one : (c * j + g * 1) / g ≡ c * j / g + 1 = add-mul-div_left (c * j) 1 some in
    let wide : c * j + g * 1 ≤ c * suc j = omega (arith, few) in
    let more : (c * j + g * 1) / g ≤ c * suc j / g = div_grows (c * j + g * 1) (c * suc j) g some wide in
    omega (arith, one, more)
  where
    div_grows : (m n k : ℕ) → 0 < k → m ≤ n → m / k ≤ n / k
    div_grows m n k l h = le-div (m / k) n k l (let z : m / k * k ≤ m = omega (arith, l) in omega (arith, z, h))

starts_within : (c g j : ℕ) → 0 < g → j ≤ g → block_start c g j ≤ c
starts_within c g j some low = div-le_of_le-mul g (let z : c * j ≤ g * c = grind (arith, low) in z)

last_start : (c g : ℕ) → 0 < g → block_start c g g ≡ c
last_start c g some = mul-div_left c some

blocks_front : (cs : List ℕ) (g k : ℕ) → 0 < g → g ≤ length cs → k ≤ g → flat_map (block_of cs g) (range_with_len 0 k) ≡ take (block_start (length cs) g k) cs
blocks_front cs g zero some few low = let z : block_start (length cs) g 0 ≡ 0 = omega (arith, some) in sym (ap (λ n. take n cs) z)
blocks_front cs g (suc k) some few low =
    let past = blocks_front cs g k some few (omega (arith, low)) in
    let a : ℕ = block_start (length cs) g k in
    let b : ℕ = block_start (length cs) g (suc k) in
    let grows = starts_grow (length cs) g k some few in
    let sum : block_start (length cs) g k + (block_start (length cs) g (suc k) - block_start (length cs) g k) ≡ block_start (length cs) g (suc k) = omega (arith, grows) in
    let zero_first : 0 + k ≡ k = omega arith in
    ap (flat_map (block_of cs g)) (range_more 0 k)
    ∙ (flat_map-append (block_of cs g) (range_with_len 0 k) ((0 + k) ∷ [])
    ∙ (ap (λ z. flat_map (block_of cs g) (range_with_len 0 k) ++ (block_of cs g z ++ [])) zero_first
    ∙ (ap (λ z. flat_map (block_of cs g) (range_with_len 0 k) ++ z) (append-nil (block_of cs g k))
    ∙ (ap (λ z. z ++ block_of cs g k) past
    ∙ (sym (take-add a (b - a) cs)
    ∙ ap (λ n. take n cs) sum)))))

pub blocks : (cs : List ℕ) (g : ℕ) → 0 < g → g ≤ length cs → AreBlocks cs g
blocks cs g some few = record {
  some = λ j l.
      let grows = starts_grow (length cs) g j some few in
      let last = starts_within (length cs) g (suc j) some l in
      let t = length-take (block_start (length cs) g (suc j) - block_start (length cs) g j) (drop (block_start (length cs) g j) cs) in
      let d = length-drop (block_start (length cs) g j) cs in
      omega (arith, grows, last, t, d);
  whole = blocks_front cs g g some few (omega arith) ∙ (ap (λ n. take n cs) (last_start (length cs) g some) ∙ all cs);
}
  where
    all : (xs : List ℕ) → take (length xs) xs ≡ xs
    all [] = refl
    all (x ∷ xs) = ap (λ z. x ∷ z) (all xs)
