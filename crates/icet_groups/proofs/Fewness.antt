-- A tile has no more contributors than there are ranks, and seats are as many as ranks.
use Rattle.std.proofs.Common.{◌≡◌, ◌≢◌, ℕ, zero, suc, ◌-◌, ◌<◌, ◌≤◌, Bool, true, false, cond, List, [], ◌∷◌, length, get_or, set, refl, ◌∙◌, arith, eqb-true, ne_eqb}
use Rattle.std.specs.Prelude.{◌||◌, All, AllPairs, nat_lt, Option, Some, None}
use Rattle.std.proofs.Math.Dec.{eqb}
use Rattle.std.specs.List.{AllByRecursion, IsDistinct, list_any}
use Rattle.std.proofs.lemmas.Map.Steps.{length-le_from_distinct_below}
use Rattle.std.proofs.lemmas.Map.Keys.{IsDistinct-cons}
use Rattle.std.proofs.lemmas.List.{get_or-map, length-map, length-replicate}
use Rattle.std.proofs.lemmas.List.Elements.{All-from_recursion}
use Rattle.std.proofs.Math.ListN.{length-set}
use Rattle.icet_groups.specs.Seats.{counts_of, displays_seated, filled, newcomer, seated, seats_after, tile_at}
use Rattle.icet_groups.specs.Tiles.{AreTiles, IsTile, TileView}

differs : (c : ℕ) (cs : List ℕ) → ((k : ℕ) → k < length cs → c ≢ get_or cs k c) → AllByRecursion (λ d. eqb c d ≡ false) cs
differs c [] h = tt
differs c (d ∷ ds) h = (ne_eqb c d (h 0 (omega arith)), differs c ds (λ k l. h (suc k) (omega (arith, l))))

distinct : (cs : List ℕ) → AllPairs (λ a b. a ≢ b) cs → IsDistinct eqb cs
unfolding IsDistinct
distinct [] h = tt
distinct (c ∷ cs) h = IsDistinct-cons eqb c cs (differs c cs (λ k l. h 0 (suc k) c (omega arith) (omega (arith, l)))) (distinct cs (λ i j d l m. h (suc i) (suc j) d (omega (arith, l)) (omega (arith, m))))

below : (n : ℕ) (cs : List ℕ) → AllByRecursion (λ c. c < n) cs → (q : ℕ) → list_any (eqb q) cs ≡ true → q < n
below n [] h q k = absurd (cc)
below n (c ∷ cs) h q k = go (eqb q c) refl k (below n cs h.1 q)
  where
    go : (b : Bool) → eqb q c ≡ b → (b || list_any (eqb q) cs) ≡ true → (list_any (eqb q) cs ≡ true → q < n) → q < n
    go true e k f = let l = h.0 in omega (arith, l, eqb-true q c e)
    go false e k f = f k

few : (n : ℕ) (x : TileView) → IsTile n x → length x.contributors ≤ n
few n x i = length-le_from_distinct_below x.contributors n (distinct x.contributors i.distinct) (below n x.contributors i.contributors)

pub few_contributors : (n : ℕ) (tiles : List TileView) → AreTiles n tiles → All (λ x. length x.contributors ≤ n) tiles
few_contributors n tiles are = λ k d l. few n (get_or tiles k d) (All-from_recursion (IsTile n) tiles are.each k d l)

pub few_counts : (n : ℕ) (tiles : List TileView) → AreTiles n tiles → All (λ c. c ≤ n) (counts_of tiles)
few_counts n tiles are = λ k d l.
    let m = length-map tiles (λ x. length x.contributors) in
    let w : k < length tiles = omega (arith, m, l) in
    let none : TileView = record { size = 0; display = 0; contributors = [] } in
    let e = get_or-map (λ (x : TileView). length x.contributors) tiles k none d w in
    let f = few_contributors n tiles are k none w in
    omega (arith, e, f)

pub counts_many : (tiles : List TileView) → length (counts_of tiles) ≡ length tiles
counts_many tiles = length-map tiles (λ x. length x.contributors)

seated_many : (t : ℕ) (o : Option ℕ) (seats : List (Option ℕ)) → length (seated t o seats) ≡ length seats
seated_many t None seats = refl
seated_many t (Some r) seats = length-set seats r (Some t)

filled_many : (t : ℕ) (cs : List ℕ) (n : ℕ) (seats : List (Option ℕ)) → length (filled t cs n seats) ≡ length seats
filled_many t cs zero seats = refl
filled_many t cs (suc n) seats = filled_many t cs n (seated t (newcomer cs seats) seats) ∙ seated_many t (newcomer cs seats) seats

displays_many : (ranks : ℕ) (tiles : List TileView) (t : ℕ) → length (displays_seated ranks tiles t) ≡ ranks
displays_many ranks tiles zero = length-replicate ranks None
displays_many ranks tiles (suc t) = go (nat_lt 0 (length (tile_at tiles t).contributors)) ∙ displays_many ranks tiles t
  where
    go : (b : Bool) → length (cond b (set (displays_seated ranks tiles t) (tile_at tiles t).display (Some t)) (displays_seated ranks tiles t)) ≡ length (displays_seated ranks tiles t)
    go true = length-set (displays_seated ranks tiles t) (tile_at tiles t).display (Some t)
    go false = refl

pub seats_many : (ranks : ℕ) (tiles : List TileView) (places : List ℕ) (t : ℕ) → length (seats_after ranks tiles places t) ≡ ranks
seats_many ranks tiles places zero = displays_many ranks tiles (length tiles)
seats_many ranks tiles places (suc t) = filled_many t (tile_at tiles t).contributors (get_or places t 0 - 1) (seats_after ranks tiles places t) ∙ seats_many ranks tiles places t
