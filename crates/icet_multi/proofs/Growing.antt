-- Drafts that grow, rank by rank.
use Rattle.std.proofs.Common.{◌≡◌, ◌≢◌, ℕ, zero, suc, ◌+◌, ◌<◌, ◌≤◌, Bool, true, false, cond, List, [], ◌∷◌, ◌++◌, map, length, get_or, take, refl, sym, ap, ◌∙◌, subst, arith, add-one, eqb-true, eq-eqb, Option, Some, None, ⊎_elim}
use Rattle.std.proofs.lemmas.List.{append-nil, append_assoc, get_or-set_same, get_or-set_other, get_or_past, length-map, length-set}
use Rattle.std.specs.Prelude.{◌==◌, ◌&&◌, ◌||◌, ◌⊎◌, not, slice_get}
use Rattle.std.specs.List.{AllByRecursion, range_with_len}
use Rattle.icet_model.proofs.Lists.{any_default, take_next_suc}
use Rattle.icet_model.specs.declared.exchange.Op.{Op}
use Rattle.icet_plan.specs.Each.{each}
use Rattle.icet_plan.specs.declared.plan.Leg.{Leg}
use Rattle.icet_groups.specs.Tiles.{IsTile, TileView, has}
use Rattle.icet_legs.specs.Team.{by_pos, place_in}
use Rattle.icet_legs.proofs.EachMore.{each_more}
use Rattle.icet_legs.proofs.ListTeams.{all_get_or, get_from, list_team}
use Rattle.icet_legs.proofs.ListTeams as lists
use Rattle.icet_multi.specs.Direct.{folds, sending}
use Rattle.icet_multi.specs.Rules.{tile_of}
use Rattle.icet_multi.proofs.Distinct.{Apart, has_none}
use Rattle.icet_multi.specs.Reduce.{block_tile}
use Rattle.icet_multi.specs.Reduced.{AllHaveSeats, AreGroupsFor, HaveGrown, HaveSeats, IsGroupFor, folding, given_by, leg_part, programs_in, put_behind}
use Rattle.icet_multi.proofs.EachOf.{each_none, each_one}
use Rattle.icet_multi.proofs.GroupMembers.{block_is}

-- one rank's draft grows
pub put_grown : (rank : ℕ) (ops : List Op) (old new : List (List Op)) → rank < length old → new ≡ put_behind rank ops old → HaveGrown (λ r. cond (rank == r) ops []) old new
put_grown rank ops old new l is = record {
  same = ap (λ z. length z) is ∙ length-set old rank (get_or old rank [] ++ ops);
  grown = λ r k. ap (λ z. get_or z r []) is ∙ go r (rank == r) refl;
}
  where
    go : (r : ℕ) (b : Bool) → (rank == r) ≡ b → get_or (put_behind rank ops old) r [] ≡ get_or old r [] ++ cond b ops []
    go r true e = subst (λ z. get_or (put_behind rank ops old) z [] ≡ get_or old z [] ++ ops) (eqb-true rank r e) (get_or-set_same old rank (get_or old rank [] ++ ops) [] l)
    go r false e = get_or-set_other old rank r (get_or old rank [] ++ ops) [] (λ z. let y = eq-eqb rank r (sym z) in let x : true ≡ false = sym y ∙ e in cc) ∙ sym (append-nil (get_or old r []))

pub none_grown : (old : List (List Op)) → HaveGrown (λ r. []) old old
none_grown old = record { same = refl; grown = λ r k. sym (append-nil (get_or old r [])) }

pub grown_as : (a b : ℕ → List Op) (old new : List (List Op)) → ((r : ℕ) → a r ≡ b r) → HaveGrown a old new → HaveGrown b old new
grown_as a b old new same h = record { same = h.same; grown = λ r k. h.grown r k ∙ ap (λ z. get_or old r [] ++ z) (same r) }

pub both_grown : (a b : ℕ → List Op) (old mid new : List (List Op)) → HaveGrown a old mid → HaveGrown b mid new → HaveGrown (λ r. a r ++ b r) old new
both_grown a b old mid new f g = record {
  same = g.same ∙ f.same;
  grown = λ r k. g.grown r (let s = f.same in omega (arith, k, s)) ∙ (ap (λ z. z ++ b r) (f.grown r k) ∙ append_assoc (get_or old r []) (a r) (b r));
}

-- one part more
pub more_grown : (f : ℕ → ℕ → List Op) (k : ℕ) (old mid new : List (List Op)) → HaveGrown (λ r. each (λ b. f b r) k) old mid → HaveGrown (f k) mid new → HaveGrown (λ r. each (λ b. f b r) (k + 1)) old new
more_grown f k old mid new past here = grown_as (λ r. each (λ b. f b r) k ++ f k r) (λ r. each (λ b. f b r) (k + 1)) old new (λ r. sym (each_more (λ b. f b r) k)) (both_grown (λ r. each (λ b. f b r) k) (f k) old mid new past here)

-- ---- what the contributors of a block hand in

abbrev pub given : ℕ → List Op → List ℕ → ℕ → List Op
given d ops [] r = []
given d ops (c ∷ cs) r = given_by d ops c r ++ given d ops cs r

-- the member itself hands in nothing
pub self_grown : (d rank : ℕ) (ops : List Op) (old : List (List Op)) → rank ≡ d → HaveGrown (given_by d ops rank) old old
self_grown d rank ops old e = grown_as (λ r. []) (given_by d ops rank) old old (λ r. sym (ap (λ b. cond b [] (cond (rank == r) ops [])) (eq-eqb rank d e))) (none_grown old)

pub other_grown : (d rank : ℕ) (ops : List Op) (old new : List (List Op)) → rank < length old → (rank == d) ≡ false → new ≡ put_behind rank ops old → HaveGrown (given_by d ops rank) old new
other_grown d rank ops old new l e is = grown_as (λ r. cond (rank == r) ops []) (given_by d ops rank) old new (λ r. sym (ap (λ b. cond b [] (cond (rank == r) ops [])) e)) (put_grown rank ops old new l is)

given_next : (d : ℕ) (ops : List Op) (cs : List ℕ) (i q r : ℕ) → i < length cs → given d ops (take (suc i) cs) r ≡ given d ops (take i cs) r ++ given_by d ops (get_or cs i q) r
given_next d ops [] i q r l = absurd (omega (arith, l))
given_next d ops (c ∷ cs) zero q r l = append-nil (given_by d ops c r)
given_next d ops (c ∷ cs) (suc i) q r l =
    ap (λ z. given_by d ops c r ++ z) (given_next d ops cs i q r (omega (arith, l)))
    ∙ sym (append_assoc (given_by d ops c r) (given d ops (take i cs) r) (given_by d ops (get_or cs i q) r))

-- one contributor more
pub given_more : (d : ℕ) (ops : List Op) (cs : List ℕ) (i q : ℕ) (old mid new : List (List Op)) → i < length cs → q ≡ get_or cs i q → HaveGrown (given d ops (take i cs)) old mid → HaveGrown (given_by d ops q) mid new → HaveGrown (given d ops (take (i + 1) cs)) old new
given_more d ops cs i q old mid new l is past here = grown_as (λ r. given d ops (take i cs) r ++ given_by d ops q r) (given d ops (take (i + 1) cs)) old new
    (λ r. ap (λ z. given d ops (take i cs) r ++ given_by d ops z r) is ∙ sym (rw add-one (given_next d ops cs i q r l)))
    (both_grown (given d ops (take i cs)) (given_by d ops q) old mid new past here)

-- all contributors: each rank stands among them once at most
pub given_all : (d : ℕ) (ops : List Op) (cs : List ℕ) (r : ℕ) → Apart (λ a b. a ≢ b) cs → given d ops cs r ≡ cond (has r cs && not (r == d)) ops []
given_all d ops [] r h = refl
given_all d ops (c ∷ cs) r h = go (c == r) refl (given_all d ops cs r h.1)
  where
    other : (b : Bool) → cond b [] (cond false ops []) ≡ []
    other true = refl
    other false = refl

    own : (b : Bool) → cond b [] (cond true ops []) ≡ cond (true && not b) ops []
    own true = refl
    own false = refl

    go : (b : Bool) → (c == r) ≡ b → given d ops cs r ≡ cond (has r cs && not (r == d)) ops [] → cond (c == d) [] (cond b ops []) ++ given d ops cs r ≡ cond ((b || has r cs) && not (r == d)) ops []
    go false e ih = ap (λ z. z ++ given d ops cs r) (other (c == d)) ∙ ih
    go true e ih =
        let same : c ≡ r = eqb-true c r e in
        let rest : given d ops cs r ≡ [] = ih ∙ ap (λ b. cond (b && not (r == d)) ops []) (has_none r cs (subst (λ a. AllByRecursion (λ b. a ≢ b) cs) same h.0)) in
        ap (λ a. cond (a == d) [] ops ++ given d ops cs r) same
        ∙ (ap (λ z. cond (r == d) [] ops ++ z) rest
        ∙ (append-nil (cond (r == d) [] ops)
        ∙ own (r == d)))

-- ---- the members of a group

-- lists behind the last that has something
each_past : (f : ℕ → List Op) (k n : ℕ) → k ≤ n → ((b : ℕ) → k ≤ b → f b ≡ []) → each f n ≡ each f k
each_past f k zero l none = let z : k ≡ 0 = omega (arith, l) in sym (ap (each f) z)
each_past f k (suc n) l none = ⊎_elim
    (λ (m : k ≤ n). ap (λ z. each f n ++ z) (none n m) ∙ (append-nil (each f n) ∙ each_past f k n m none))
    (λ (e : k ≡ suc n). sym (ap (each f) e))
    (let s : (k ≤ n) ⊎ (k ≡ suc n) = grind (arith, l) in s)

-- each member does its program
pub seat_sum : (group : List ℕ) (programs : List (List Op)) (r : ℕ) → lists.Apart group → each (λ p. cond (get_or group p 0 == r) (get_or programs p []) []) (length group) ≡ leg_part group programs r
seat_sum group programs r apart = go (place_in group r) refl
  where
    at : (p : ℕ) → p < length group → get_or group p 0 ≡ r → place_in group r ≡ Some p
    at p l e = subst (λ v. place_in group v ≡ Some p) e ((list_team group [] 0 0 0 apart).back p l)

    off : (p : ℕ) (b : Bool) → (get_or group p 0 == r) ≡ b → (get_or group p 0 ≢ r) → cond b (get_or programs p []) [] ≡ []
    off p false e n = refl
    off p true e n = absurd (n (eqb-true (get_or group p 0) r e))

    go : (o : Option ℕ) → place_in group r ≡ o → each (λ p. cond (get_or group p 0 == r) (get_or programs p []) []) (length group) ≡ by_pos [] (λ p. get_or programs p []) o
    go None e = each_none (λ p. cond (get_or group p 0 == r) (get_or programs p []) []) (length group) (λ p l. off p (get_or group p 0 == r) refl (λ s. let z : None ≡ Some p = sym e ∙ at p l s in cc))
    go (Some q) e =
        let f = (list_team group [] 0 0 0 apart).forth r q e in
        each_one (λ p. cond (get_or group p 0 == r) (get_or programs p []) []) q (length group) f.1 (λ p l n. off p (get_or group p 0 == r) refl (λ s. let z : Some q ≡ Some p = sym e ∙ at p l s in n (let y : p ≡ q = cc in y)))
        ∙ ap (λ b. cond b (get_or programs q []) []) (eq-eqb (get_or group q 0) r f.0)

-- ---- all ranks

pub listed : {X : Type 0} (f : ℕ → X) (xs : List X) (d : X) (n : ℕ) → length xs ≡ n → ((r : ℕ) → r < n → get_or xs r d ≡ f r) → xs ≡ map f (range_with_len 0 n)
listed {X} f xs d n many h = from xs 0 n many (λ r l. h r l ∙ ap f (let z : r ≡ 0 + r = omega arith in z))
  where
    from : (xs : List X) (a n : ℕ) → length xs ≡ n → ((r : ℕ) → r < n → get_or xs r d ≡ f (a + r)) → xs ≡ map f (range_with_len a n)
    from [] a zero m g = refl
    from [] a (suc n) m g = absurd (omega (arith, m))
    from (x ∷ xs) a zero m g = absurd (omega (arith, m))
    from (x ∷ xs) a (suc n) m g =
        let one : x ≡ f a = g 0 (omega arith) ∙ ap f (let z : a + 0 ≡ a = omega arith in z) in
        let rest = from xs (a + 1) n (omega (arith, m)) (λ r l. g (suc r) (omega (arith, l)) ∙ ap f (let z : a + suc r ≡ a + 1 + r = omega arith in z)) in
        λ j. one j ∷ rest j

-- ---- tile by tile

pub tile_same : (tiles : List TileView) (t : ℕ) (x : TileView) → t < length tiles → x ≡ get_or tiles t x → tile_of tiles t ≡ x
tile_same tiles t x l h = same tiles t l ∙ sym h
  where
    same : (xs : List TileView) (i : ℕ) → i < length xs → tile_of xs i ≡ get_or xs i x
    same [] i l = absurd (omega (arith, l))
    same (y ∷ xs) zero l = refl
    same (y ∷ xs) (suc i) l = same xs i (omega (arith, l))

-- one tile more
pub tile_grown : (f : ℕ → TileView → ℕ → List Op) (tiles : List TileView) (t : ℕ) (x : TileView) (old mid new : List (List Op)) → t < length tiles → x ≡ get_or tiles t x → HaveGrown (λ r. each (λ u. f u (tile_of tiles u) r) t) old mid → HaveGrown (f t x) mid new → HaveGrown (λ r. each (λ u. f u (tile_of tiles u) r) (t + 1)) old new
tile_grown f tiles t x old mid new l is past here = more_grown (λ u. f u (tile_of tiles u)) t old mid new past (subst (λ y. HaveGrown (f t y) mid new) (sym (tile_same tiles t x l is)) here)

-- one tile and its group more
pub group_grown : (f : ℕ → TileView → List ℕ → ℕ → List Op) (tiles : List TileView) (groups : List (List ℕ)) (t : ℕ) (x : TileView) (group : List ℕ) (old mid new : List (List Op)) → t < length tiles → x ≡ get_or tiles t x → slice_get groups t ≡ Some group → HaveGrown (λ r. each (λ u. f u (tile_of tiles u) (get_or groups u []) r) t) old mid → HaveGrown (f t x group) mid new → HaveGrown (λ r. each (λ u. f u (tile_of tiles u) (get_or groups u []) r) (t + 1)) old new
group_grown f tiles groups t x group old mid new l is found past here =
    more_grown (λ u. f u (tile_of tiles u) (get_or groups u [])) t old mid new past
    (subst (λ y. HaveGrown (f t y (get_or groups t [])) mid new) (sym (tile_same tiles t x l is)) (subst (λ g. HaveGrown (f t x g) mid new) (sym (get_from groups t group [] found)) here))

-- the group of a tile
pub group_at : (ranks now : ℕ) (tiles : List TileView) (groups : List (List ℕ)) (t : ℕ) (x : TileView) (group : List ℕ) → AreGroupsFor ranks tiles groups → t < length tiles → x ≡ get_or tiles t x → slice_get groups t ≡ Some group → now ≡ ranks → IsGroupFor now x group
group_at ranks now tiles groups t x group for l is found same =
    subst (λ n. IsGroupFor n x group) (sym same)
    (subst (λ y. IsGroupFor ranks y group) (tile_same tiles t x l is) (subst (λ g. IsGroupFor ranks (tile_of tiles t) g) (get_from groups t group [] found) (for.are t l)))

-- ---- block by block

-- a member of a block that folds it
pub fold_grown : (t : ℕ) (x : TileView) (old new : List (List Op)) → x.display < length old → new ≡ put_behind x.display (folds t x x.contributors) old → HaveGrown (folding t x) old new
fold_grown t x old new l is = put_grown x.display (folds t x x.contributors) old new l is

-- one block more
pub block_sends_more : (t : ℕ) (x : TileView) (group : List ℕ) (j : ℕ) (b : TileView) (old mid new : List (List Op)) → b ≡ block_tile x group j → HaveGrown (λ r. each (λ i. sending t (block_tile x group i) r) j) old mid → HaveGrown (sending t b) mid new → HaveGrown (λ r. each (λ i. sending t (block_tile x group i) r) (j + 1)) old new
block_sends_more t x group j b old mid new is past here = more_grown (λ i. sending t (block_tile x group i)) j old mid new past (subst (λ y. HaveGrown (sending t y) mid new) is here)

pub block_folds_more : (t : ℕ) (x : TileView) (group : List ℕ) (j : ℕ) (b : TileView) (old mid new : List (List Op)) → b ≡ block_tile x group j → HaveGrown (λ r. each (λ i. folding t (block_tile x group i) r) j) old mid → b.display < length mid → new ≡ put_behind b.display (folds t b b.contributors) mid → HaveGrown (λ r. each (λ i. folding t (block_tile x group i) r) (j + 1)) old new
block_folds_more t x group j b old mid new is past l put = more_grown (λ i. folding t (block_tile x group i)) j old mid new past (subst (λ y. HaveGrown (folding t y) mid new) is (fold_grown t b mid new l put))

-- the block at a place is a tile of its own
pub block_at : (ranks now : ℕ) (x : TileView) (group : List ℕ) (j : ℕ) (b : TileView) → IsGroupFor ranks x group → j < length group → b ≡ block_tile x group j → now ≡ ranks → IsTile now b
block_at ranks now x group j b for l is same = subst (λ n. IsTile n b) (sym same) (subst (IsTile ranks) (sym is) (block_is ranks x group for j l))

-- ---- program by program

-- one member's program more
pub seat_more : (group : List ℕ) (programs : List (List Op)) (p rank : ℕ) (ops : List Op) (old mid new : List (List Op)) → p < length group → rank ≡ get_or group p rank → p < length programs → ops ≡ get_or programs p ops → HaveGrown (λ r. each (λ q. cond (get_or group q 0 == r) (get_or programs q []) []) p) old mid → rank < length mid → new ≡ put_behind rank ops mid → HaveGrown (λ r. each (λ q. cond (get_or group q 0 == r) (get_or programs q []) []) (p + 1)) old new
seat_more group programs p rank ops old mid new in_group rank_at in_programs ops_at past l put =
    let rank_is : rank ≡ get_or group p 0 = rank_at ∙ any_default group p rank 0 in_group in
    let ops_is : ops ≡ get_or programs p [] = ops_at ∙ any_default programs p ops [] in_programs in
    more_grown (λ q r. cond (get_or group q 0 == r) (get_or programs q []) []) p old mid new past
    (grown_as (λ r. cond (rank == r) ops []) (λ r. cond (get_or group p 0 == r) (get_or programs p []) []) mid new (λ r. ap (λ z. cond (z == r) ops []) rank_is ∙ ap (λ z. cond (get_or group p 0 == r) z []) ops_is) (put_grown rank ops mid new l put))

neither : (b : Bool) → cond {A = List Op} b [] [] ≡ []
neither true = refl
neither false = refl

-- all members' programs
pub seats_grown : (ranks : ℕ) (group : List ℕ) (programs : List (List Op)) (n : ℕ) (old new : List (List Op)) → HaveSeats ranks group programs → length group ≤ n → HaveGrown (λ r. each (λ q. cond (get_or group q 0 == r) (get_or programs q []) []) n) old new → HaveGrown (leg_part group programs) old new
seats_grown ranks group programs n old new seats all grown = grown_as (λ r. each (λ q. cond (get_or group q 0 == r) (get_or programs q []) []) n) (leg_part group programs) old new
    (λ r.
    each_past (λ q. cond (get_or group q 0 == r) (get_or programs q []) []) (length group) n all (λ q l. ap (λ z. cond (get_or group q 0 == r) z []) (get_or_past programs q [] (let e = seats.each in omega (arith, l, e))) ∙ neither (get_or group q 0 == r))
    ∙ seat_sum group programs r (lists.apart_from_pairs group seats.distinct)) grown

-- one leg more
pub leg_grown : (groups : List (List ℕ)) (programs : List (List (List Op))) (t : ℕ) (group : List ℕ) (here : List (List Op)) (old mid new : List (List Op)) → slice_get groups t ≡ Some group → here ≡ get_or programs t [] → HaveGrown (λ r. each (λ u. leg_part (get_or groups u []) (get_or programs u []) r) t) old mid → HaveGrown (leg_part group here) mid new → HaveGrown (λ r. each (λ u. leg_part (get_or groups u []) (get_or programs u []) r) (t + 1)) old new
leg_grown groups programs t group here old mid new found is past grown =
    more_grown (λ u. leg_part (get_or groups u []) (get_or programs u [])) t old mid new past
    (subst (λ g. HaveGrown (leg_part g (get_or programs t [])) mid new) (sym (get_from groups t group [] found)) (subst (λ ps. HaveGrown (leg_part group ps) mid new) is grown))

pub seats_at : (ranks now : ℕ) (groups : List (List ℕ)) (programs : List (List (List Op))) (t : ℕ) (group : List ℕ) (here : List (List Op)) → AllHaveSeats ranks groups programs → t < length programs → slice_get groups t ≡ Some group → here ≡ get_or programs t [] → now ≡ ranks → HaveSeats now group here
seats_at ranks now groups programs t group here all l found is same =
    subst (λ n. HaveSeats n group here) (sym same) (subst (λ ps. HaveSeats ranks group ps) (sym is) (subst (λ g. HaveSeats ranks g (get_or programs t [])) (get_from groups t group [] found) (all.are t l)))

pub programs_at : (legs : List Leg) (t : ℕ) (leg : Leg) → t < length legs → leg ≡ get_or legs t leg → leg.programs.items ≡ get_or (programs_in legs) t []
programs_at [] t leg l e = absurd (omega (arith, l))
programs_at (x ∷ legs) zero leg l e = ap (λ (y : Leg). y.programs.items) e
programs_at (x ∷ legs) (suc t) leg l e = programs_at legs t leg (omega (arith, l)) e

pub programs_found : (legs : List Leg) (t : ℕ) (leg : Leg) (programs : List (List Op)) → t < length legs → programs ≡ (get_or legs t leg).programs.items → leg ≡ get_or legs t leg → programs ≡ get_or (programs_in legs) t []
programs_found legs t leg programs l are is = are ∙ (sym (ap (λ (y : Leg). y.programs.items) is) ∙ programs_at legs t leg l is)

pub ranks_low : (ranks : ℕ) (xs : List ℕ) (p v now : ℕ) → AllByRecursion (λ r. r < ranks) xs → p < length xs → v ≡ get_or xs p v → now ≡ ranks → v < now
ranks_low ranks xs p v now h l e same = let a = all_get_or (λ r. r < ranks) xs p v h l in omega (arith, a, e, same)

pub programs_long : (legs : List Leg) → length (programs_in legs) ≡ length legs
programs_long legs = length-map legs (λ leg. leg.programs.items)

-- one operation more
pub append_more : (xs ops : List Op) (i : ℕ) (y : Op) → slice_get ops i ≡ Some y → (xs ++ take i ops) ++ y ∷ [] ≡ xs ++ take (i + 1) ops
append_more xs ops i y h = append_assoc xs (take i ops) (y ∷ []) ∙ ap (λ z. xs ++ z) (sym (rw add-one (take_next_suc ops i y h)))

pub shown_low : (ranks now : ℕ) (tiles : List TileView) (t : ℕ) (x : TileView) → AllByRecursion (IsTile ranks) tiles → t < length tiles → x ≡ get_or tiles t x → now ≡ ranks → x.display < now
shown_low ranks now tiles t x h l is same =
    let d = (all_get_or (IsTile ranks) tiles t x h l).display in
    let e = ap (λ (y : TileView). y.display) is in
    omega (arith, d, e, same)
