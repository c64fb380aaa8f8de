-- The programs of legs in a row, participant by participant and tile by tile.
use Rattle.std.proofs.Common.{◌≡◌, ◌≢◌, ℕ, zero, suc, ◌+◌, ◌^◌, ◌<◌, ◌≤◌, Bool, false, cond, List, [], ◌∷◌, ◌++◌, map, length, get_or, set, take, refl, sym, ap, ◌∙◌, subst, arith, add-one, Option, Some, None, ⊎_elim}
use Rattle.std.proofs.lemmas.Bool.Decides.{nat_tests}
use Rattle.std.proofs.lemmas.List.{append-nil, append_assoc, get_or-set_same, get_or-set_other, length-set}
use Rattle.std.specs.Prelude.{◌⊎◌, nat_lt, AllPairs}
use Rattle.std.specs.Prelude.{Result, Ok, Err, IfOk}
use Rattle.std.specs.List.{AllByRecursion, range_with_len, slice_get}
use Rattle.icet_model.proofs.Lists.{take_next_suc}
use Rattle.icet_model.specs.declared.exchange.Op.{Op}
use Rattle.icet_model.specs.declared.exchange.Op.TheVariants.{Load}
use Rattle.icet_legs.specs.InRow.{AreLegsInRow, HasGrown, HasTiles, TileLegView, grown_at, row_program, tile_at, tile_ops_at}
use Rattle.icet_legs.specs.Team.{by_pos, place_in}
use Rattle.icet_legs.proofs.EachMore.{each_length}
use Rattle.icet_legs.proofs.ListTeams.{all_get_or, apart_from_pairs, by_position, list_team}
use Rattle.icet_legs.proofs.Tests.{below_test}

-- one operation more
pub append_more : (xs : List Op) (a : Op) (ops : List Op) (i : ℕ) (y : Op) → slice_get ops i ≡ Some y → (xs ++ a ∷ take i ops) ++ y ∷ [] ≡ xs ++ a ∷ take (i + 1) ops
append_more xs a ops i y h = append_assoc xs (a ∷ take i ops) (y ∷ []) ∙ ap (λ z. xs ++ a ∷ z) (sym (rw add-one (take_next_suc ops i y h)))

same_below : (q p : ℕ) → q ≢ p → nat_lt q p ≡ nat_lt q (p + 1)
same_below q p n = ⊎_elim
    (λ (l : q < p). below_test q p l ∙ sym (below_test q (p + 1) (omega (arith, l))))
    (λ (l : p < q). past q p (omega (arith, l)) ∙ sym (past q (p + 1) (omega (arith, l))))
    (let s : (q < p) ⊎ (p < q) = grind (arith, n) in s)
  where
    past : (a b : ℕ) → b ≤ a → nat_lt a b ≡ false
    past a b l = grind (arith, nat_tests)

not_below : (p : ℕ) → nat_lt p p ≡ false
not_below p = grind (arith, nat_tests)

module _ (ranks t : ℕ) (x : TileLegView) (ranked : AllByRecursion (λ r. r < ranks) x.participants) (distinct : AllPairs (λ a b. a ≢ b) x.participants) where
  team : (p : ℕ) → p < length x.participants → place_in x.participants (get_or x.participants p 0) ≡ Some p
  team p l = (list_team x.participants [] 0 0 0 (apart_from_pairs x.participants distinct)).back p l

  stands : (r p : ℕ) → place_in x.participants r ≡ Some p → (get_or x.participants p 0 ≡ r) × (p < length x.participants)
  stands r p e = (list_team x.participants [] 0 0 0 (apart_from_pairs x.participants distinct)).forth r p e

  -- before the first participant
  pub none_grown : (old : List (List Op)) → length old ≡ ranks → HasGrown ranks t 0 x old old
  none_grown old many = record {
    ranks_old = many;
    ranks_new = many;
    programs = λ r l. sym (ap (λ z. get_or old r [] ++ z) (go (place_in x.participants r)) ∙ append-nil (get_or old r []));
  }
    where
      go : (o : Option ℕ) → by_pos [] (λ p. cond (nat_lt p 0) (Load t 0 ∷ get_or x.programs p []) []) o ≡ []
      go None = refl
      go (Some p) = ap (λ b. cond b (Load t 0 ∷ get_or x.programs p []) []) (let z : nat_lt p 0 ≡ false = grind (arith, nat_tests) in z)

  -- one participant more
  pub one_grown : (p : ℕ) (old now new : List (List Op)) → p < length x.participants → HasGrown ranks t p x old now → new ≡ grown_at t x p now → HasGrown ranks t (p + 1) x old new
  one_grown p old now new l past is =
      let v = get_or x.participants p 0 in
      let added = Load t 0 ∷ get_or x.programs p [] in
      let low = all_get_or (λ r. r < ranks) x.participants p 0 ranked l in
      let many = past.ranks_new in
      record {
        ranks_old = past.ranks_old;
        ranks_new = ap (λ z. length z) is ∙ (length-set now v (get_or now v [] ++ added) ∙ many);
        programs = λ r k. ap (λ z. get_or z r []) is ∙ ⊎_elim
            (λ (s : r ≡ v).
            ap (λ z. get_or (set now v (get_or now v [] ++ added)) z []) s
            ∙ (get_or-set_same now v (get_or now v [] ++ added) [] (omega (arith, low, many))
            ∙ (ap (λ z. z ++ added) (past.programs v low ∙ here old v p (nat_lt p p) (not_below p) (team p l))
            ∙ sym (ap (λ z. get_or old z [] ++ by_pos [] (λ q. cond (nat_lt q (p + 1)) (Load t 0 ∷ get_or x.programs q []) []) (place_in x.participants z)) s
            ∙ there old v p (team p l)))))
            (λ (d : r ≢ v).
            get_or-set_other now v r (get_or now v [] ++ added) [] d
            ∙ (past.programs r k ∙ ap (λ z. get_or old r [] ++ z) (elsewhere r d (place_in x.participants r) refl)))
            (let z : (r ≡ v) ⊎ (r ≢ v) = grind arith in z);
      }
    where
      here : (old : List (List Op)) (v p : ℕ) (b : Bool) → b ≡ false → place_in x.participants v ≡ Some p → get_or old v [] ++ by_pos [] (λ q. cond (nat_lt q p) (Load t 0 ∷ get_or x.programs q []) []) (place_in x.participants v) ≡ get_or old v []
      here old v p b h e =
          ap (λ o. get_or old v [] ++ by_pos [] (λ q. cond (nat_lt q p) (Load t 0 ∷ get_or x.programs q []) []) o) e
          ∙ (ap (λ z. get_or old v [] ++ cond z (Load t 0 ∷ get_or x.programs p []) []) (not_below p) ∙ append-nil (get_or old v []))

      there : (old : List (List Op)) (v p : ℕ) → place_in x.participants v ≡ Some p → get_or old v [] ++ by_pos [] (λ q. cond (nat_lt q (p + 1)) (Load t 0 ∷ get_or x.programs q []) []) (place_in x.participants v) ≡ get_or old v [] ++ Load t 0 ∷ get_or x.programs p []
      there old v p e =
          ap (λ o. get_or old v [] ++ by_pos [] (λ q. cond (nat_lt q (p + 1)) (Load t 0 ∷ get_or x.programs q []) []) o) e
          ∙ ap (λ z. get_or old v [] ++ cond z (Load t 0 ∷ get_or x.programs p []) []) (below_test p (p + 1) (omega arith))

      elsewhere : (r : ℕ) → r ≢ get_or x.participants p 0 → (o : Option ℕ) → place_in x.participants r ≡ o → by_pos [] (λ q. cond (nat_lt q p) (Load t 0 ∷ get_or x.programs q []) []) o ≡ by_pos [] (λ q. cond (nat_lt q (p + 1)) (Load t 0 ∷ get_or x.programs q []) []) o
      elsewhere r d None e = refl
      elsewhere r d (Some q) e = ap (λ b. cond b (Load t 0 ∷ get_or x.programs q []) []) (same_below q p (λ s. d (sym (stands r q e).0 ∙ ap (λ z. get_or x.participants z 0) s)))

  -- all participants
  all_grown : (r : ℕ) (o : Option ℕ) → place_in x.participants r ≡ o → by_pos [] (λ q. cond (nat_lt q (length x.participants)) (Load t 0 ∷ get_or x.programs q []) []) o ≡ by_pos [] (λ q. Load t 0 ∷ []) o ++ by_pos [] (λ q. get_or x.programs q []) o
  all_grown r None e = refl
  all_grown r (Some q) e = ap (λ b. cond b (Load t 0 ∷ get_or x.programs q []) []) (below_test q (length x.participants) (stands r q e).1)

pub rank_low : (ranks : ℕ) (xs : List ℕ) (p : ℕ) → AllByRecursion (λ r. r < ranks) xs → p < length xs → get_or xs p 0 < ranks
rank_low ranks xs p h l = all_get_or (λ r. r < ranks) xs p 0 h l

-- what stands at a place of the list, whatever is said of the places beyond it
tile_is : (legs : List TileLegView) (t : ℕ) (x : TileLegView) → t < length legs → x ≡ get_or legs t x → tile_at legs t ≡ x
tile_is legs t x l h = same legs t l ∙ sym h
  where
    same : (xs : List TileLegView) (i : ℕ) → i < length xs → tile_at xs i ≡ get_or xs i x
    same [] i l = absurd (omega arith)
    same (y ∷ xs) zero l = refl
    same (y ∷ xs) (suc i) l = same xs i (omega arith)

module _ (ranks : ℕ) (legs : List TileLegView) (are : AreLegsInRow ranks legs) where
  -- one tile more
  pub tile_more : (t : ℕ) (old new : List (List Op)) → t < length legs → HasTiles ranks legs t old → HasGrown ranks t (length (tile_at legs t).participants) (tile_at legs t) old new → HasTiles ranks legs (t + 1) new
  tile_more t old new l past grown = record {
    many = grown.ranks_new;
    programs = λ r k.
        let a = are t l in
        let x = tile_at legs t in
        grown.programs r k
        ∙ (ap (λ z. z ++ by_pos [] (λ q. cond (nat_lt q (length x.participants)) (Load t 0 ∷ get_or x.programs q []) []) (place_in x.participants r)) (past.programs r k)
        ∙ (ap (λ z. row_program (tile_ops_at legs) t r ++ z) (all_grown ranks t x a.ranked a.distinct r (place_in x.participants r) refl)
        ∙ rw add-one refl));
  }

  tile_short : (t : ℕ) → t < length legs → (r : ℕ) → length (tile_ops_at legs t r) ≤ 2 ^ 20
  tile_short t l r = go (place_in (tile_at legs t).participants r) refl
    where
      a : AllByRecursion (λ ops. length ops < 2 ^ 20) (tile_at legs t).programs
      a = (are t l).short

      go : (o : Option ℕ) → place_in (tile_at legs t).participants r ≡ o → length (by_pos [] (λ p. Load t 0 ∷ []) o ++ by_pos [] (λ p. get_or (tile_at legs t).programs p []) o) ≤ 2 ^ 20
      go None e = omega arith
      go (Some p) e =
          let f = (list_team (tile_at legs t).participants [] 0 0 0 (apart_from_pairs (tile_at legs t).participants (are t l).distinct)).forth r p e in
          let n = (are t l).programs in
          let s = all_get_or (λ ops. length ops < 2 ^ 20) (tile_at legs t).programs p [] a (let m = f.1 in omega (arith, m, n)) in
          omega (arith, s)

  all_programs : (f : ℕ → List Op) (now : List (List Op)) → length now ≡ ranks → ((r : ℕ) → r < ranks → get_or now r [] ≡ f r) → now ≡ map f (range_with_len 0 ranks)
  all_programs f now many h = sym (by_position now []) ∙ (ap (λ n. map (λ p. get_or now p []) (range_with_len 0 n)) many ∙ same (λ p. get_or now p []) f ranks 0 (λ p l. let z : 0 + p ≡ p = omega arith in ap (λ i. get_or now i []) z ∙ (h p l ∙ ap f (sym z))))
    where
      same : (a b : ℕ → List Op) (n first : ℕ) → ((p : ℕ) → p < n → a (first + p) ≡ b (first + p)) → map a (range_with_len first n) ≡ map b (range_with_len first n)
      same a b zero first h = refl
      same a b (suc n) first h =
          let z : first + 0 ≡ first = omega arith in
          let one : a first ≡ b first = subst (λ i. a i ≡ b i) z (h 0 (omega arith)) in
          let rest = same a b n (first + 1) (λ p l. let y : first + suc p ≡ first + 1 + p = omega arith in subst (λ i. a i ≡ b i) y (h (suc p) (omega (arith, l)))) in
          λ j. one j ∷ rest j

  pub programs_are : (now : List (List Op)) → HasTiles ranks legs (length legs) now → now ≡ map (row_program (tile_ops_at legs) (length legs)) (range_with_len 0 ranks)
  programs_are now h = all_programs (row_program (tile_ops_at legs) (length legs)) now h.many h.programs

  pub programs_short : (now : List (List Op)) → length legs < 2 ^ 12 → HasTiles ranks legs (length legs) now → AllByRecursion (λ ops. length ops < 2 ^ 32) now
  programs_short now few h = all_at now (λ r l.
      let e = h.programs r (let m = h.many in omega (arith, l, m)) in
      let s = each_length (λ t. tile_ops_at legs t r) (2 ^ 20) (length legs) (λ t k. tile_short t k r) in
      let z = ap (λ xs. length xs) e in
      omega (arith, s, z, few))
    where
      all_at : (xs : List (List Op)) → ((r : ℕ) → r < length xs → length (get_or xs r []) < 2 ^ 32) → AllByRecursion (λ ops. length ops < 2 ^ 32) xs
      all_at [] h = tt
      all_at (x ∷ xs) h = (h 0 (omega arith), all_at xs (λ r l. h (suc r) (omega (arith, l))))

pub if_same : {X Z : Type 0} (f : X → List (List Op)) (a b : List (List Op)) → a ≡ b → (r : Result X Z) → IfOk r (λ x. f x ≡ a) → IfOk r (λ x. f x ≡ b)
if_same f a b e (Ok x) h = h ∙ e
if_same f a b e (Err z) h = tt

-- the leg at a place of the list
module _ (ranks : ℕ) (legs : List TileLegView) (are : AreLegsInRow ranks legs) (t : ℕ) (x : TileLegView) (l : t < length legs) (h : x ≡ get_or legs t x) where
  pub leg_ranked : AllByRecursion (λ r. r < ranks) x.participants
  leg_ranked = subst (λ y. AllByRecursion (λ r. r < ranks) y.participants) (tile_is legs t x l h) (are t l).ranked

  pub leg_distinct : AllPairs (λ a b. a ≢ b) x.participants
  leg_distinct = subst (λ (y : TileLegView). AllPairs (λ a b. a ≢ b) y.participants) (tile_is legs t x l h) (are t l).distinct

  pub leg_programs_many : length x.programs ≡ length x.participants
  leg_programs_many = subst (λ (y : TileLegView). length y.programs ≡ length y.participants) (tile_is legs t x l h) (are t l).programs

  pub tile_pushed : (old new : List (List Op)) → HasTiles ranks legs t old → HasGrown (length old) t (length x.participants) x old new → HasTiles ranks legs (t + 1) new
  tile_pushed old new past grown =
      tile_more ranks legs are t old new l past
      (subst (λ (y : TileLegView). HasGrown ranks t (length y.participants) y old new) (sym (tile_is legs t x l h)) (subst (λ n. HasGrown n t (length x.participants) x old new) past.many grown))
