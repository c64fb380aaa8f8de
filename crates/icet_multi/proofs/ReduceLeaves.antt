-- The bracket of a tile by reduce has the tile's contributors as its leaves, in their order.
use Rattle.std.proofs.Common.{◌≡◌, ℕ, zero, suc, ◌+◌, ◌<◌, ◌≤◌, Bool, true, false, cond, List, [], ◌∷◌, ◌++◌, map, length, get_or, refl, ap, ◌∙◌, arith, inr}
use Rattle.std.proofs.lemmas.Bool.Decides.{nat_tests}
use Rattle.std.proofs.lemmas.List.FromFn.{length-map-range_with_len}
use Rattle.std.specs.Prelude.{slice_get, nat_lt, Some}
use Rattle.std.specs.List.{flat_map, range_with_len}
use Rattle.icet_model.specs.declared.bracket.Bracket.TheVariants.{Empty}
use Rattle.icet_model.specs.Bracket.{leaves}
use Rattle.icet_groups.specs.Blocks.{block_of}
use Rattle.icet_groups.specs.Seats.{counts_of, groups_of}
use Rattle.icet_groups.specs.Tiles.{TileView}
use Rattle.icet_groups.proofs.BlockLists.{blocks}
use Rattle.icet_groups.proofs.Grouped.{each_can, lawful}
use Rattle.icet_groups.proofs.Sharing.{are_shared}
use Rattle.icet_multi.specs.declared.settings.Single.{Single}
use Rattle.icet_multi.specs.Direct.{tile_bracket}
use Rattle.icet_multi.specs.Rules.{strategy_of, tile_of}
use Rattle.icet_multi.proofs.Absent.{tile_leaves}
use Rattle.icet_multi.proofs.BracketLeaves.{all_leaves, made_from, single_over}
use Rattle.icet_multi.specs.Reduce.{ReduceJoinsInOrder, block_brackets, block_tile, reduce_bracket}

-- what stands at a place of a list
at_place : (tiles : List TileView) (t : ℕ) (x : TileView) → slice_get tiles t ≡ Some x → (t < length tiles) × (tile_of tiles t ≡ x)
at_place [] t x e = absurd (cc)
at_place (y ∷ ys) zero x e = (omega arith, let z : y ≡ x = cc in z)
at_place (y ∷ ys) (suc t) x e = let p = at_place ys t x e in (let l = p.0 in omega (arith, l), p.1)

in_range : (a n t : ℕ) → t < n → slice_get (range_with_len a n) t ≡ Some (a + t)
in_range a zero t l = absurd (omega (arith, l))
in_range a (suc n) zero l = ap Some (let z : a ≡ a + 0 = omega arith in z)
in_range a (suc n) (suc t) l = in_range (a + 1) n t (omega (arith, l)) ∙ ap Some (let z : a + 1 + t ≡ a + suc t = omega arith in z)

pub count_at : (tiles : List TileView) (t : ℕ) → get_or (counts_of tiles) t 0 ≡ length (tile_of tiles t).contributors
count_at [] t = refl
count_at (x ∷ xs) zero = refl
count_at (x ∷ xs) (suc t) = count_at xs t

folds_leaves : (x : TileView) (group : List ℕ) (js : List ℕ) → all_leaves (map (λ j. tile_bracket (block_tile x group j)) js) ≡ flat_map (block_of x.contributors (length group)) js
folds_leaves x group [] = refl
folds_leaves x group (j ∷ js) = ap (λ z. z ++ all_leaves (map (λ i. tile_bracket (block_tile x group i)) js)) (tile_leaves (block_tile x group j)) ∙ ap (λ z. block_of x.contributors (length group) j ++ z) (folds_leaves x group js)

nothing : (xs : List ℕ) → nat_lt 0 (length xs) ≡ false → [] ≡ xs
nothing [] h = refl
nothing (x ∷ xs) h = absurd (let z : nat_lt 0 (suc (length xs)) ≡ true = grind (arith, nat_tests) in cc)

-- a group of at least one and at most as many members as contributors
bracket_leaves : (single : Single) (k : ℕ) (x : TileView) (group : List ℕ) → (0 < length x.contributors → (0 < length group) × (length group ≤ length x.contributors)) → leaves (reduce_bracket (strategy_of single k) x group) ≡ x.contributors
bracket_leaves single k x group few = go (nat_lt 0 (length x.contributors)) refl
  where
    go : (b : Bool) → nat_lt 0 (length x.contributors) ≡ b → leaves (cond b ((strategy_of single k).bracket (block_brackets x group)) Empty) ≡ x.contributors
    go false e = nothing x.contributors e
    go true e =
        let l : 0 < length x.contributors = grind (arith, nat_tests, e) in
        let f = few l in
        single_over single k (block_brackets x group)
        ∙ (folds_leaves x group (range_with_len 0 (length group))
        ∙ (blocks x.contributors (length group) f.0 f.1).whole)

pub reduce_joins : ReduceJoinsInOrder
reduce_joins single k order tiles are = record {
  count = length-map-range_with_len (λ t. reduce_bracket (strategy_of single k) (tile_of tiles t) (get_or (groups_of (length order) tiles) t [])) 0 (length tiles);
  joined = λ t x b at is.
      let p = at_place tiles t x at in
      let made = made_from (λ t. reduce_bracket (strategy_of single k) (tile_of tiles t) (get_or (groups_of (length order) tiles) t [])) (range_with_len 0 (length tiles)) t t b (in_range 0 (length tiles) t p.0 ∙ ap Some (let z : 0 + t ≡ t = omega arith in z)) is in
      inr (ap leaves made ∙ (bracket_leaves single k (tile_of tiles t) (get_or (groups_of (length order) tiles) t []) (few t p.0) ∙ ap (λ (y : TileView). y.contributors) p.1));
}
  where
    few : (t : ℕ) → t < length tiles → 0 < length (tile_of tiles t).contributors → (0 < length (get_or (groups_of (length order) tiles) t [])) × (length (get_or (groups_of (length order) tiles) t []) ≤ length (tile_of tiles t).contributors)
    few t l some =
        let g = lawful (length order) tiles are in
        let many = g.many t l in
        let shared = are_shared (length order) (counts_of tiles) (each_can (length order) tiles are) in
        let c = count_at tiles t in
        let s = shared.some t (omega (arith, c, some)) in
        let f = shared.few t in
        (omega (arith, many, s), omega (arith, many, f, c))
