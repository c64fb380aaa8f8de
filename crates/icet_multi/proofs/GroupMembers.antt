-- Blocks are tiles of their own, and in groups for tiles each rank has one seat at most.
use Rattle.std.proofs.Common.{◌≡◌, ◌≢◌, ℕ, zero, suc, ◌-◌, ◌<◌, ◌≤◌, Bool, true, false, List, [], ◌∷◌, length, get_or, take, drop, refl, sym, ap, ◌∙◌, subst, arith, eq-eqb, Some, ⊎_elim}
use Rattle.std.proofs.lemmas.List.{get_or_past}
use Rattle.std.proofs.lemmas.List.Elements.{All-from_recursion}
use Rattle.std.proofs.lemmas.List.Kept.{AllPairs-cons}
use Rattle.std.specs.Prelude.{◌==◌, ◌||◌, ◌⊎◌, AllPairs}
use Rattle.std.specs.List.{AllByRecursion}
use Rattle.icet_model.proofs.Lists.{no_pairs}
use Rattle.icet_groups.specs.Blocks.{block_start}
use Rattle.icet_groups.specs.Tiles.{IsTile, TileView, has}
use Rattle.icet_legs.specs.Team.{place_in}
use Rattle.icet_legs.proofs.ListTeams.{all_get_or, list_team}
use Rattle.icet_legs.proofs.ListTeams as lists
use Rattle.icet_multi.proofs.Distinct.{Apart, apart_from_pairs}
use Rattle.icet_multi.specs.Reduce.{block_tile}
use Rattle.icet_multi.specs.Reduced.{AreGroupsFor, IsGroupFor}

-- ---- blocks

all_drop : {X : Type 0} (P : X → Type 0) (n : ℕ) (xs : List X) → AllByRecursion P xs → AllByRecursion P (drop n xs)
all_drop P zero xs h = h
all_drop P (suc n) [] h = tt
all_drop P (suc n) (x ∷ xs) h = all_drop P n xs h.1

all_take : {X : Type 0} (P : X → Type 0) (n : ℕ) (xs : List X) → AllByRecursion P xs → AllByRecursion P (take n xs)
all_take P zero xs h = tt
all_take P (suc n) [] h = tt
all_take P (suc n) (x ∷ xs) h = (h.0, all_take P n xs h.1)

apart_drop : {X : Type 0} (R : X → X → Type 0) (n : ℕ) (xs : List X) → Apart R xs → Apart R (drop n xs)
apart_drop R zero xs h = h
apart_drop R (suc n) [] h = tt
apart_drop R (suc n) (x ∷ xs) h = apart_drop R n xs h.1

apart_take : {X : Type 0} (R : X → X → Type 0) (n : ℕ) (xs : List X) → Apart R xs → Apart R (take n xs)
apart_take R zero xs h = tt
apart_take R (suc n) [] h = tt
apart_take R (suc n) (x ∷ xs) h = (all_take (R x) n xs h.0, apart_take R n xs h.1)

pairs_from_apart : {X : Type 0} (R : X → X → Type 0) (xs : List X) → Apart R xs → AllPairs R xs
pairs_from_apart R [] h = no_pairs R
pairs_from_apart R (x ∷ xs) h = AllPairs-cons R x xs (All-from_recursion (R x) xs h.0) (pairs_from_apart R xs h.1)

-- no contributor stands twice in a block
pub block_apart : (ranks : ℕ) (x : TileView) (group : List ℕ) (j : ℕ) → IsTile ranks x → Apart (λ a b. a ≢ b) (block_tile x group j).contributors
block_apart ranks x group j is =
    let n = length x.contributors in
    let g = length group in
    apart_take (λ a b. a ≢ b) (block_start n g (suc j) - block_start n g j) (drop (block_start n g j) x.contributors) (apart_drop (λ a b. a ≢ b) (block_start n g j) x.contributors (apart_from_pairs (λ a b. a ≢ b) x.contributors is.distinct))

-- a block is a tile of its own
pub block_is : (ranks : ℕ) (x : TileView) (group : List ℕ) → IsGroupFor ranks x group → (j : ℕ) → j < length group → IsTile ranks (block_tile x group j)
block_is ranks x group for j l =
    let n = length x.contributors in
    let g = length group in
    record {
      display = all_get_or (λ r. r < ranks) group j 0 for.within l;
      contributors = all_take (λ c. c < ranks) (block_start n g (suc j) - block_start n g j) (drop (block_start n g j) x.contributors) (all_drop (λ c. c < ranks) (block_start n g j) x.contributors for.tile.contributors);
      distinct = pairs_from_apart (λ a b. a ≢ b) (block_tile x group j).contributors (block_apart ranks x group j for.tile);
    }

-- ---- seats

pub has_at : (xs : List ℕ) (j : ℕ) → j < length xs → has (get_or xs j 0) xs ≡ true
has_at [] j l = absurd (omega (arith, l))
has_at (x ∷ xs) zero l = ap (λ b. b || has x xs) (eq-eqb x x refl)
has_at (x ∷ xs) (suc j) l = go (x == get_or xs j 0) (has_at xs j (omega (arith, l)))
  where
    go : (b : Bool) → has (get_or xs j 0) xs ≡ true → (b || has (get_or xs j 0) xs) ≡ true
    go true h = refl
    go false h = h

same_place : (xs : List ℕ) → lists.Apart xs → (j i : ℕ) → j < length xs → i < length xs → get_or xs j 0 ≡ get_or xs i 0 → j ≡ i
same_place xs apart j i l m e =
    let team = list_team xs [] 0 0 0 apart in
    let k : Some j ≡ Some i = sym (team.back j l) ∙ (ap (place_in xs) e ∙ team.back i m) in
    cc

pub record AreSeats (ranks : ℕ) (tiles : List TileView) (groups : List (List ℕ)) : Type 0 where
  pub for : AreGroupsFor ranks tiles groups
  -- no rank is in two groups
  pub apart : (t u r : ℕ) → has r (get_or groups t []) ≡ true → has r (get_or groups u []) ≡ true → t ≡ u

module _ (ranks : ℕ) (tiles : List TileView) (groups : List (List ℕ)) (are : AreSeats ranks tiles groups) where
  abbrev group : ℕ → List ℕ
  group t = get_or groups t []

  pub no_group : (t : ℕ) → length tiles ≤ t → group t ≡ []
  no_group t l = get_or_past groups t [] (let e = are.for.each in omega (arith, l, e))

  pub group_apart : (t : ℕ) → lists.Apart (group t)
  group_apart t = ⊎_elim
      (λ (l : t < length tiles). lists.apart_from_pairs (group t) (are.for.are t l).distinct)
      (λ (l : length tiles ≤ t). subst lists.Apart (sym (no_group t l)) tt)
      (let s : (t < length tiles) ⊎ (length tiles ≤ t) = grind arith in s)

  -- there is a tile where there is a seat
  pub seat_within : (t j : ℕ) → j < length (group t) → t < length tiles
  seat_within t j l = ⊎_elim
      (λ (m : t < length tiles). m)
      (λ (m : length tiles ≤ t). absurd (let e = ap (λ xs. length xs) (no_group t m) in omega (arith, e, l)))
      (let s : (t < length tiles) ⊎ (length tiles ≤ t) = grind arith in s)

  -- a rank has one seat at most
  pub one_seat : (t u j i : ℕ) → j < length (group t) → i < length (group u) → get_or (group t) j 0 ≡ get_or (group u) i 0 → (t ≡ u) × (j ≡ i)
  one_seat t u j i l m e =
      let s : t ≡ u = are.apart t u (get_or (group t) j 0) (has_at (group t) j l) (subst (λ v. has v (group u) ≡ true) (sym e) (has_at (group u) i m)) in
      (s, same_place (group t) (group_apart t) j i l (subst (λ v. i < length (group v)) (sym s) m) (subst (λ v. get_or (group t) j 0 ≡ get_or (group v) i 0) (sym s) e))

  -- where a rank stands in a group
  pub stands : (t r p : ℕ) → place_in (group t) r ≡ Some p → (get_or (group t) p 0 ≡ r) × (p < length (group t))
  stands t r p e = (list_team (group t) [] 0 0 0 (group_apart t)).forth r p e

  -- and in no other
  pub one_group : (t u r p q : ℕ) → place_in (group t) r ≡ Some p → place_in (group u) r ≡ Some q → (t ≡ u) × (p ≡ q)
  one_group t u r p q e f = let a = stands t r p e in let b = stands u r q f in one_seat t u p q a.1 b.1 (a.0 ∙ sym b.0)
