-- A strategy's bracket over a list of ranks has them as its leaves, in their order.
use Rattle.std.proofs.Common.{◌≡◌, ℕ, zero, suc, ◌+◌, ◌*◌, ◌<◌, ◌≤◌, List, [], ◌∷◌, ◌++◌, map, length, take, drop, get_or, refl, sym, ap, ◌∙◌, subst, arith, append_assoc, append-nil, ◌⊎◌, inl, inr}
use Rattle.std.specs.Prelude.{slice_get, Some}
use Rattle.std.specs.List.{range_with_len}
use Rattle.std.proofs.lemmas.List.{length-map}
use Rattle.icet_model.specs.declared.bracket.Bracket.{Bracket}
use Rattle.icet_model.specs.declared.bracket.Bracket.TheVariants.{Empty, Leaf, Pair}
use Rattle.icet_model.specs.Bracket.{leaves}
use Rattle.icet_model.specs.BracketFold.{left, left_from}
use Rattle.icet_legs.specs.Pairing.{couples, pair_up, tree, until_one}
use Rattle.icet_legs.specs.Radix.{stride}
use Rattle.icet_legs.specs.Team.{Team, team_of}
use Rattle.icet_legs.proofs.ListTeams.{leaves_are}
use Rattle.icet_bswap.specs.Bswap.{fold_count}
use Rattle.icet_radixk.specs.Factors.{factor_at, factors}
use Rattle.icet_radixk.specs.Radixk.{AreFactorsOf, first_of, folded, folded_by, radix_bracket, radix_fold}
use Rattle.icet_radixk.proofs.FactorLists.{factors_of}
use Rattle.icet_radixk.proofs.Folded.{factors_are, fold_is}
use Rattle.icet_multi.specs.declared.settings.Single.{Single}
use Rattle.icet_multi.specs.declared.settings.Single.TheVariants.{Tree, Bswap, Radixk}
use Rattle.icet_multi.specs.declared.settings.Settings.{Settings}
use Rattle.icet_multi.specs.declared.settings.Strategy.{Strategy}
use Rattle.icet_multi.specs.declared.settings.Strategy.TheVariants.{Sequential, Direct}
use Rattle.icet_multi.specs.Direct.{TileView, tile_bracket}
use Rattle.icet_multi.specs.Rules.{JoinsInOrder, RulesJoinInOrder, rule_by, strategy_of}
use Rattle.icet_multi.proofs.Absent.{tile_leaves}

-- the leaves of brackets, one list behind the other
abbrev pub all_leaves : List Bracket → List ℕ
all_leaves [] = []
all_leaves (x ∷ xs) = leaves x ++ all_leaves xs

leaves_of_pair : (front back : Bracket) → leaves (Pair front back) ≡ leaves front ++ leaves back
unfolding Rattle.icet_model.specs.declared.bracket.Bracket.TheBlock.hidden-the_row-Bracket-0 denote.Hole.Carrier.hidden
leaves_of_pair front back = refl

two_first : (x y : Bracket) (xs : List Bracket) → all_leaves (Pair x y ∷ xs) ≡ all_leaves (x ∷ y ∷ xs)
two_first x y xs = ap (λ ls. ls ++ all_leaves xs) (leaves_of_pair x y) ∙ append_assoc (leaves x) (leaves y) (all_leaves xs)

pair_up_leaves : (xs : List Bracket) → all_leaves (pair_up xs) ≡ all_leaves xs
pair_up_leaves [] = refl
pair_up_leaves (x ∷ []) = refl
pair_up_leaves (x ∷ y ∷ xs) = two_first x y (pair_up xs) ∙ ap (λ ls. leaves x ++ (leaves y ++ ls)) (pair_up_leaves xs)

pair_up_shorter : (xs : List Bracket) → length (pair_up xs) ≤ length xs
pair_up_shorter [] = omega arith
pair_up_shorter (x ∷ []) = omega arith
pair_up_shorter (x ∷ y ∷ xs) = let h = pair_up_shorter xs in omega (arith, h)

until_one_leaves : (fuel : ℕ) (xs : List Bracket) → length xs ≤ suc fuel → leaves (until_one fuel xs) ≡ all_leaves xs
until_one_leaves fuel [] l = refl
until_one_leaves fuel (x ∷ []) l = sym (append-nil (leaves x))
until_one_leaves zero (x ∷ y ∷ xs) l = absurd (omega (arith, l))
until_one_leaves (suc fuel) (x ∷ y ∷ xs) l =
    until_one_leaves fuel (Pair x y ∷ pair_up xs) (let h = pair_up_shorter xs in omega (arith, h, l))
    ∙ two_first x y (pair_up xs)
    ∙ ap (λ ls. leaves x ++ (leaves y ++ ls)) (pair_up_leaves xs)

tree_leaves : (xs : List Bracket) → leaves (tree xs) ≡ all_leaves xs
tree_leaves xs = until_one_leaves (length xs) xs (omega arith)

couples_leaves : (e : ℕ) (xs : List Bracket) → all_leaves (couples e xs) ≡ all_leaves xs
couples_leaves zero xs = refl
couples_leaves (suc e) [] = refl
couples_leaves (suc e) (x ∷ []) = refl
couples_leaves (suc e) (x ∷ y ∷ xs) = two_first x y (couples e xs) ∙ ap (λ ls. leaves x ++ (leaves y ++ ls)) (couples_leaves e xs)

left_from_leaves : (front : Bracket) (xs : List Bracket) → leaves (left_from front xs) ≡ leaves front ++ all_leaves xs
left_from_leaves front [] = sym (append-nil (leaves front))
left_from_leaves front (x ∷ xs) =
    left_from_leaves (Pair front x) xs
    ∙ ap (λ ls. ls ++ all_leaves xs) (leaves_of_pair front x)
    ∙ append_assoc (leaves front) (leaves x) (all_leaves xs)

left_leaves : (xs : List Bracket) → leaves (left xs) ≡ all_leaves xs
left_leaves [] = refl
left_leaves (x ∷ xs) = left_from_leaves x xs

both_parts : (k : ℕ) (xs : List Bracket) → all_leaves (take k xs) ++ all_leaves (drop k xs) ≡ all_leaves xs
both_parts zero xs = refl
both_parts (suc k) [] = refl
both_parts (suc k) (x ∷ xs) = append_assoc (leaves x) (all_leaves (take k xs)) (all_leaves (drop k xs)) ∙ ap (λ ls. leaves x ++ ls) (both_parts k xs)

drop_shorter : (k : ℕ) (xs : List Bracket) → length (drop k xs) ≤ length xs
drop_shorter zero xs = omega arith
drop_shorter (suc k) [] = omega arith
drop_shorter (suc k) (x ∷ xs) = let h = drop_shorter k xs in omega (arith, h)

folded_leaves : (m k : ℕ) (xs : List Bracket) → length xs ≤ m → all_leaves (folded_by m (suc k) xs) ≡ all_leaves xs
folded_leaves zero k [] l = refl
folded_leaves zero k (x ∷ xs) l = absurd (omega (arith, l))
folded_leaves (suc m) k [] l = refl
folded_leaves (suc m) k (x ∷ xs) l =
    ap (λ ls. leaves (left (take (suc k) (x ∷ xs))) ++ ls) (folded_leaves m k (drop k xs) (let h = drop_shorter k xs in omega (arith, h, l)))
    ∙ ap (λ ls. ls ++ all_leaves (drop k xs)) (left_leaves (take (suc k) (x ∷ xs)))
    ∙ both_parts (suc k) (x ∷ xs)

radix_leaves : (factor : ℕ → ℕ) (some : (i : ℕ) → 0 < factor i) (q : ℕ) (xs : List Bracket) → all_leaves (radix_fold factor q xs) ≡ all_leaves xs
radix_leaves factor some zero xs = refl
radix_leaves factor some (suc q) xs = go (factor q) refl ∙ radix_leaves factor some q xs
  where
    go : (k : ℕ) → factor q ≡ k → all_leaves (folded k (radix_fold factor q xs)) ≡ all_leaves (radix_fold factor q xs)
    go zero e = absurd (let h = some q in omega (arith, h, e))
    go (suc k) e = folded_leaves (length (radix_fold factor q xs)) k (radix_fold factor q xs) (omega arith)

single_leaves : (xs : List Bracket) → length xs ≡ 1 → leaves (first_of xs) ≡ all_leaves xs
single_leaves [] l = absurd (omega (arith, l))
single_leaves (x ∷ []) l = sym (append-nil (leaves x))
single_leaves (x ∷ y ∷ xs) l = absurd (omega (arith, l))

-- the radix-k bracket over a list that isn't empty
radix_bracket_leaves : (k : ℕ) (xs : List Bracket) → 0 < length xs → leaves (radix_bracket (factor_at (factors k (length xs))) (length (factors k (length xs))) xs) ≡ all_leaves xs
radix_bracket_leaves k xs some =
    let n = length xs in
    let fs = factors k n in
    let of : AreFactorsOf n (factor_at fs) (length fs) = factors_of k n some in
    let g : Team = team_of (map (λ x. 0) xs) xs 0 0 0 in
    let count : g.n ≡ n = length-map xs (λ x. 0) in
    let listed = leaves_are (map (λ x. 0) xs) xs 0 0 0 (sym count) in
    let of_team : AreFactorsOf g.n (factor_at fs) (length fs) = subst (λ m. AreFactorsOf m (factor_at fs) (length fs)) (sym count) of in
    let whole = fold_is g (factor_at fs) (length fs) (factors_are g (factor_at fs) (length fs) of_team) of_team.product (length fs) 1 (omega arith) (of_team.product ∙ (let z : stride (factor_at fs) (length fs) ≡ 1 * stride (factor_at fs) (length fs) = omega arith in z)) in
    let one : length (radix_fold (factor_at fs) (length fs) xs) ≡ 1 = ap (λ ys. length (radix_fold (factor_at fs) (length fs) ys)) (sym listed) ∙ ap length whole in
    single_leaves (radix_fold (factor_at fs) (length fs) xs) one ∙ radix_leaves (factor_at fs) of.many (length fs) xs

listed_leaves : (order : List ℕ) → all_leaves (map (λ r. Leaf r) order) ≡ order
listed_leaves [] = refl
listed_leaves (r ∷ order) = ap (λ ls. r ∷ ls) (listed_leaves order)

-- over any brackets each strategy for one tile joins their leaves in order
pub single_over : (single : Single) (k : ℕ) (xs : List Bracket) → leaves ((strategy_of single k).bracket xs) ≡ all_leaves xs
single_over Tree k xs = tree_leaves xs
single_over Bswap k xs = tree_leaves (couples (fold_count (length xs)) xs) ∙ couples_leaves (fold_count (length xs)) xs
single_over Radixk k [] = refl
single_over Radixk k (x ∷ xs) = radix_bracket_leaves k (x ∷ xs) (omega arith)

-- and so it does over the ranks of an order
pub single_joins : (single : Single) (k : ℕ) (order : List ℕ) → leaves ((strategy_of single k).bracket (map (λ r. Leaf r) order)) ≡ order
single_joins single k order = single_over single k (map (λ r. Leaf r) order) ∙ listed_leaves order

-- the value at a place of a list that was made of another
pub made_from : {X Y : Type 0} (f : X → Y) (xs : List X) (t : ℕ) (x : X) (y : Y) → slice_get xs t ≡ Some x → slice_get (map f xs) t ≡ Some y → y ≡ f x
made_from f [] t x y e h = absurd (cc)
made_from f (z ∷ xs) zero x y e h = (let a : f z ≡ y = cc in sym a) ∙ ap f (let b : z ≡ x = cc in b)
made_from f (z ∷ xs) (suc t) x y e h = made_from f xs t x y e h
