-- One tile, one contributor or one rank more of the direct programs, and how long these are.
use Rattle.std.proofs.Common.{◌≡◌, ℕ, zero, suc, ◌+◌, ◌*◌, ◌<◌, ◌≤◌, Bool, true, false, cond, List, [], ◌∷◌, ◌++◌, map, length, get_or, take, refl, ap, arith, add-one, length-append}
use Rattle.std.specs.List.{AllByRecursion, range_with_len}
use Rattle.std.specs.Prelude.{◌==◌}
use Rattle.icet_model.specs.declared.exchange.Op.TheVariants.{Load, Join, Swap, Keep}
use Rattle.icet_multi.specs.Direct.{TileView, hands_in, send_of, fetch, joins, folds, sending, sendings, showing, showings, direct_program}
use Rattle.icet_model.proofs.Lists.{made_more}
use Rattle.icet_plan.proofs.Lists.{all_weaker}
use Rattle.icet_multi.proofs.ByTile.{always, length_by_tile}

joins_next : (t : ℕ) (x : TileView) (cs : List ℕ) (i d : ℕ) → i < length cs → joins t x (take (suc i) cs) ≡ joins t x (take i cs) ++ fetch t x 1 (get_or cs i d) ∷ Join 0 1 0 ∷ []
joins_next t x [] i d l = absurd (omega arith)
joins_next t x (c ∷ cs) zero d l = refl
joins_next t x (c ∷ cs) (suc i) d l = ap (λ ops. fetch t x 1 c ∷ Join 0 1 0 ∷ ops) (joins_next t x cs i d (omega arith))

folds_next : (t : ℕ) (x : TileView) (cs : List ℕ) (i d : ℕ) → 1 ≤ i → i < length cs → folds t x (take (suc i) cs) ≡ folds t x (take i cs) ++ fetch t x 1 (get_or cs i d) ∷ Join 0 1 0 ∷ []
folds_next t x [] i d a l = absurd (omega arith)
folds_next t x (c ∷ cs) zero d a l = absurd (omega arith)
folds_next t x (c ∷ cs) (suc i) d a l = ap (λ ops. fetch t x 0 c ∷ ops) (joins_next t x cs i d (omega arith))

-- one contributor more
pub folds_more : (t : ℕ) (x : TileView) (cs : List ℕ) (i d : ℕ) → 1 ≤ i → i < length cs → folds t x (take (i + 1) cs) ≡ folds t x (take i cs) ++ fetch t x 1 (get_or cs i d) ∷ Join 0 1 0 ∷ []
folds_more t x cs i d a l = rw add-one (folds_next t x cs i d a l)

pub folds_first : (t : ℕ) (x : TileView) (cs : List ℕ) (d : ℕ) → 0 < length cs → folds t x (take 1 cs) ≡ fetch t x 0 (get_or cs 0 d) ∷ []
folds_first t x [] d l = absurd (omega arith)
folds_first t x (c ∷ cs) d l = refl

-- one rank more
pub listed_more : {V : Type 0} (f : ℕ → V) (n : ℕ) → map f (range_with_len 0 (n + 1)) ≡ map f (range_with_len 0 n) ++ f n ∷ []
listed_more = made_more

-- how long they are
sending_length : (t : ℕ) (x : TileView) (r : ℕ) → length (sending t x r) ≤ 2
sending_length t x r = go (hands_in x r)
  where
    go : (b : Bool) → length (cond b (Load t 0 ∷ Swap (send_of t x) 0 ∷ []) []) ≤ 2
    go true = omega arith
    go false = omega arith

joins_length : (t : ℕ) (x : TileView) (cs : List ℕ) → length (joins t x cs) ≤ 2 * length cs
joins_length t x [] = omega arith
joins_length t x (c ∷ cs) = let h = joins_length t x cs in omega (arith, h)

folds_length : (t : ℕ) (x : TileView) (cs : List ℕ) → length (folds t x cs) ≤ 2 * length cs + 1
folds_length t x [] = omega arith
folds_length t x (c ∷ cs) = let h = joins_length t x cs in omega (arith, h)

showing_length : (t : ℕ) (x : TileView) (r : ℕ) → length (showing t x r) ≤ 2 * length x.contributors + 2
showing_length t x r = go (x.display == r)
  where
    go : (b : Bool) → length (cond b (folds t x x.contributors ++ Keep 0 ∷ []) []) ≤ 2 * length x.contributors + 2
    go true = let h = folds_length t x x.contributors in omega (arith, h, length-append (folds t x x.contributors) (Keep 0 ∷ []))
    go false = omega arith

pub program_length : (xs : List TileView) (r : ℕ) → AllByRecursion (λ x. length x.contributors ≤ 256) xs → length (direct_program xs r) ≤ 516 * length xs
program_length xs r few =
    let given = length_by_tile 2 (λ t x. sending t x r) 0 xs (always (λ x. (t : ℕ) → length (sending t x r) ≤ 2) (λ x t. sending_length t x r) xs) in
    let shown = length_by_tile 514 (λ t x. showing t x r) 0 xs (all_weaker (λ x. length x.contributors ≤ 256) (λ x. (t : ℕ) → length (showing t x r) ≤ 514) (λ x l t. omega (arith, l, showing_length t x r)) xs few) in
    omega (arith, given, shown, length-append (sendings 0 xs r) (showings 0 xs r))
