-- Groups have as many ranks as places, and no rank is in two.
use Rattle.std.proofs.Common.{◌≡◌, ◌≢◌, ℕ, zero, suc, ◌+◌, ◌-◌, ◌<◌, ◌≤◌, min, Bool, true, false, cond, List, [], ◌∷◌, map, length, get_or, set, take, drop, replicate, refl, sym, ap, ◌∙◌, subst, arith, ⊎_elim, add-one}
use Rattle.std.proofs.Math.ListN.{length-set}
use Rattle.std.proofs.lemmas.Bool.Decides.{nat_tests}
use Rattle.std.proofs.lemmas.List.{get_or-set_same, get_or-set_other, length-map, length-replicate, get_or_past}
use Rattle.std.proofs.lemmas.List.Elements.{All-from_recursion}
use Rattle.std.proofs.lemmas.List.FromFn.{fill_by_all, get_or-map-range_with_len, get_or-range_with_len, length-map-range_with_len, length-range_with_len}
use Rattle.std.proofs.lemmas.List.Kept.{AllPairs-filter}
use Rattle.std.proofs.lemmas.List.Sums.{length-filter, sum_by-cons, sum_by-set, sum_by_more, sum_by-drop_more}
use Rattle.std.specs.Prelude.{◌⊎◌, ◌&&◌, ◌||◌, ◌==◌, nat_lt, is_none, sum, sum_by, count_by, filter, find, AllPairs, Option, Some, None}
use Rattle.std.specs.List.{range_with_len}
use Rattle.std.specs.Option.{option_or}
use Rattle.icet_groups.specs.Lawful.{AreGroups}
use Rattle.icet_groups.specs.Places.{first_places, places_of}
use Rattle.icet_groups.specs.Seats.{counts_of, displays_seated, filled, group_in, groups_in, groups_of, is_free, is_of, newcomer, ranks_in, seated, seats_after, seats_of, tile_at}
use Rattle.icet_groups.specs.Tiles.{AreTiles, IsTile, TileView, has}
use Rattle.icet_groups.proofs.Sharing.{IsSharing, extra, first_at, is_sharing}

-- ---- counting seats

-- how many seats pass a test, when one more is taken
set_count : (f : Option ℕ → Bool) (seats : List (Option ℕ)) (r t : ℕ) (a b : Bool) → r < length seats → f (get_or seats r None) ≡ a → f (Some t) ≡ b → count_by f (set seats r (Some t)) + cond a 1 0 ≡ count_by f seats + cond b 1 0
set_count f seats r t a b l e k =
    ap (λ z. count_by f (set seats r (Some t)) + cond z 1 0) (sym e) ∙ (sum_by-set (λ x. cond (f x) 1 0) seats r (Some t) None l ∙ ap (λ z. count_by f seats + cond z 1 0) k)

none_count : (f : Option ℕ → Bool) (seats : List (Option ℕ)) → ((q : ℕ) → q < length seats → f (get_or seats q None) ≡ false) → count_by f seats ≡ 0
none_count f [] h = refl
none_count f (x ∷ xs) h =
    let e : cond {A = ℕ} (f x) 1 0 ≡ 0 = ap (λ b. cond {A = ℕ} b 1 0) (h 0 (omega arith)) in
    let p = none_count f xs (λ q l. h (suc q) (omega (arith, l))) in
    let s = sum_by-cons (λ x. cond {A = ℕ} (f x) 1 0) x xs in
    s ∙ (let z : cond {A = ℕ} (f x) 1 0 + count_by f xs ≡ 0 = omega (arith, e, p) in z)

abbrev free_seats : List (Option ℕ) → ℕ
free_seats seats = count_by is_none seats

abbrev held : ℕ → List (Option ℕ) → ℕ
held t seats = count_by (is_of t) seats

is_empty : (o : Option ℕ) → is_none o ≡ true → o ≡ None
is_empty None h = refl
is_empty (Some x) h = absurd (cc)

same_number : (t : ℕ) → (t == t) ≡ true
same_number t = grind (arith, nat_tests)

other_number : (t u : ℕ) → u ≢ t → (t == u) ≡ false
other_number t u n = grind (arith, nat_tests, n)

-- ---- a newcomer

pub record IsSeatOf (seats : List (Option ℕ)) (r : ℕ) : Type 0 where
  pub within : r < length seats
  pub free : is_free seats r ≡ true

-- what find tells: where it finds none, nobody passes
abbrev pub Told : (ℕ → Bool) → ℕ → ℕ → Option ℕ → Type 0
Told p a n None = (u : ℕ) → a ≤ u → u < a + n → p u ≡ false
Told p a n (Some r) = (a ≤ r) × (r < a + n) × (p r ≡ true)

-- a newcomer has a free seat, and where there is none no seat is free
abbrev pub Joins : List (Option ℕ) → Option ℕ → Type 0
Joins seats None = free_seats seats ≡ 0
Joins seats (Some r) = IsSeatOf seats r

find_tells : (p : ℕ → Bool) (a n : ℕ) (o : Option ℕ) → find p (range_with_len a n) ≡ o → Told p a n o
find_tells p a zero o e = subst (Told p a 0) e (λ u l m. absurd (omega (arith, l, m)))
find_tells p a (suc n) o e = go (p a) refl e (λ u s. find_tells p (a + 1) n u s)
  where
    later : p a ≡ false → (o : Option ℕ) → Told p (a + 1) n o → Told p a (suc n) o
    later k None h = λ u l m. ⊎_elim
        (λ (j : u ≡ a). subst (λ z. p z ≡ false) (sym j) k)
        (λ (j : a + 1 ≤ u). h u j (omega (arith, m)))
        (let s : (u ≡ a) ⊎ (a + 1 ≤ u) = grind (arith, l) in s)
    later k (Some r) h = (let z = h.0 in omega (arith, z), let z = h.1 in omega (arith, z), h.2)

    go : (b : Bool) → p a ≡ b → cond b (Some a) (find p (range_with_len (a + 1) n)) ≡ o → ((u : Option ℕ) → find p (range_with_len (a + 1) n) ≡ u → Told p (a + 1) n u) → Told p a (suc n) o
    go true k s past = subst (Told p a (suc n)) s (omega arith, omega arith, k)
    go false k s past = later k o (past o s)

newcomer_tells : (cs : List ℕ) (seats : List (Option ℕ)) (o : Option ℕ) → newcomer cs seats ≡ o → Joins seats o
newcomer_tells cs seats o e = go (find (λ r. is_free seats r && has r cs) (ranks_in seats)) (find (is_free seats) (ranks_in seats)) refl refl e
  where
    front : (a b : Bool) → (a && b) ≡ true → a ≡ true
    front true b h = refl
    front false b h = absurd (cc)

    go : (x y : Option ℕ) → find (λ r. is_free seats r && has r cs) (ranks_in seats) ≡ x → find (is_free seats) (ranks_in seats) ≡ y → option_or x y ≡ o → Joins seats o
    go (Some r) y h k s = let t = find_tells (λ r. is_free seats r && has r cs) 0 (length seats) (Some r) h in subst (Joins seats) s (record { within = let z = t.1 in omega (arith, z); free = front (is_free seats r) (has r cs) t.2 })
    go None (Some r) h k s = let t = find_tells (is_free seats) 0 (length seats) (Some r) k in subst (Joins seats) s (record { within = let z = t.1 in omega (arith, z); free = t.2 })
    go None None h k s = let t = find_tells (is_free seats) 0 (length seats) None k in subst (Joins seats) s (none_count is_none seats (λ q l. t q (omega arith) (omega (arith, l))))

-- so many join the group of tile t
pub record HaveJoined (t n : ℕ) (old new : List (Option ℕ)) : Type 0 where
  pub many : length new ≡ length old
  pub free : free_seats new + n ≡ free_seats old
  pub mine : held t new ≡ held t old + n
  pub others : (u : ℕ) → u ≢ t → held u new ≡ held u old
  pub kept : (r u : ℕ) → get_or old r None ≡ Some u → get_or new r None ≡ Some u

one_joins : (t r : ℕ) (seats : List (Option ℕ)) → IsSeatOf seats r → HaveJoined t 1 seats (set seats r (Some t))
one_joins t r seats h = record {
  many = length-set seats r (Some t);
  free = let s = set_count is_none seats r t true false h.within h.free refl in omega (arith, s);
  mine = let s = set_count (is_of t) seats r t false true h.within (ap (is_of t) empty) (same_number t) in omega (arith, s);
  others = λ u n. let s = set_count (is_of u) seats r t false false h.within (ap (is_of u) empty) (other_number t u n) in omega (arith, s);
  kept = λ q u e. ⊎_elim
      (λ (k : q ≡ r). absurd (let z : Some u ≡ None = sym e ∙ (ap (λ i. get_or seats i None) k ∙ empty) in cc))
      (λ (k : q ≢ r). get_or-set_other seats r q (Some t) None k ∙ e)
      (let s : (q ≡ r) ⊎ (q ≢ r) = grind arith in s);
}
  where
    empty : get_or seats r None ≡ None
    empty = is_empty (get_or seats r None) h.free

all_join : (t : ℕ) (cs : List ℕ) (n : ℕ) (seats : List (Option ℕ)) → n ≤ free_seats seats → HaveJoined t n seats (filled t cs n seats)
all_join t cs zero seats l = record { many = refl; free = omega arith; mine = omega arith; others = λ u k. refl; kept = λ r u e. e }
all_join t cs (suc n) seats l = go (newcomer cs seats) (newcomer_tells cs seats (newcomer cs seats) refl) (λ x. all_join t cs n x)
  where
    go : (o : Option ℕ) → Joins seats o → ((x : List (Option ℕ)) → n ≤ free_seats x → HaveJoined t n x (filled t cs n x)) → HaveJoined t (suc n) seats (filled t cs n (seated t o seats))
    go None h past = absurd (omega (arith, h, l))
    go (Some r) h past =
        let a = one_joins t r seats h in
        let f = a.free in
        let b = past (set seats r (Some t)) (omega (arith, f, l)) in
        record {
          many = b.many ∙ a.many;
          free = let g = b.free in omega (arith, f, g);
          mine = let x = a.mine in let y = b.mine in omega (arith, x, y);
          others = λ u k. b.others u k ∙ a.others u k;
          kept = λ q u e. b.kept q u (a.kept q u e);
        }

-- ---- the displays

-- the number of tiles with contributors among the first n
abbrev firsts : List TileView → ℕ → ℕ
firsts tiles n = sum (take n (first_places (counts_of tiles)))

count_at : (tiles : List TileView) (t : ℕ) → get_or (counts_of tiles) t 0 ≡ length (tile_at tiles t).contributors
count_at [] t = refl
count_at (x ∷ xs) zero = refl
count_at (x ∷ xs) (suc t) = count_at xs t

-- the displays of the first n tiles are seated
pub record AreSeated (ranks : ℕ) (tiles : List TileView) (n : ℕ) (seats : List (Option ℕ)) : Type 0 where
  pub many : length seats ≡ ranks
  pub free : free_seats seats + firsts tiles n ≡ ranks
  pub before : (u : ℕ) → u < n → held u seats ≡ min (length (tile_at tiles u).contributors) 1
  pub later : (u : ℕ) → n ≤ u → held u seats ≡ 0
  pub seat : (r u : ℕ) → get_or seats r None ≡ Some u → (u < n) × ((tile_at tiles u).display ≡ r)
  pub shown : (u : ℕ) → u < n → 0 < length (tile_at tiles u).contributors → get_or seats (tile_at tiles u).display None ≡ Some u

all_free : (n : ℕ) → free_seats (replicate n None) ≡ n
all_free zero = refl
all_free (suc n) = let s = sum_by-cons (λ x. cond {A = ℕ} (is_none x) 1 0) None (replicate n None) in let p = all_free n in s ∙ (let z : 1 + free_seats (replicate n None) ≡ suc n = omega (arith, p) in z)

abbrev vacant : Option ℕ
vacant = None

nothing_at : (n r : ℕ) → get_or (replicate n vacant) r vacant ≡ vacant
nothing_at zero r = refl
nothing_at (suc n) zero = refl
nothing_at (suc n) (suc r) = nothing_at n r

nobody : (ranks : ℕ) (tiles : List TileView) → AreSeated ranks tiles 0 (replicate ranks None)
nobody ranks tiles = record {
  many = length-replicate ranks None;
  free = let z = all_free ranks in omega (arith, z);
  before = λ u l. absurd (omega (arith, l));
  later = λ u l. none_count (is_of u) (replicate ranks None) (λ q m. ap (is_of u) (nothing_at ranks q));
  seat = λ r u e. absurd (let z : Some u ≡ None = sym e ∙ nothing_at ranks r in cc);
  shown = λ u l m. absurd (omega (arith, l));
}

firsts_more : (tiles : List TileView) (n : ℕ) → n < length tiles → firsts tiles (n + 1) ≡ firsts tiles n + min (length (tile_at tiles n).contributors) 1
firsts_more tiles n l =
    let many : length (first_places (counts_of tiles)) ≡ length tiles = length-map (counts_of tiles) (λ c. min c 1) ∙ length-map tiles (λ x. length x.contributors) in
    let s = sum_by_more (λ x. x) (first_places (counts_of tiles)) n 0 (omega (arith, many, l)) in
    let a = first_at (counts_of tiles) n in
    let c = count_at tiles n in
    omega (arith, s, a, c)

no_display : (ranks : ℕ) (tiles : List TileView) (n : ℕ) (seats : List (Option ℕ)) → n < length tiles → length (tile_at tiles n).contributors ≡ 0 → AreSeated ranks tiles n seats → AreSeated ranks tiles (suc n) seats
no_display ranks tiles n seats l none h = record {
  many = h.many;
  free = let z = h.free in let s = rw add-one at (firsts_more tiles n l) in omega (arith, z, s, none);
  before = λ u m. ⊎_elim
      (λ (k : u < n). h.before u k)
      (λ (k : u ≡ n). subst (λ z. held z seats ≡ min (length (tile_at tiles z).contributors) 1) (sym k) (h.later n (omega arith) ∙ (let z : 0 ≡ min (length (tile_at tiles n).contributors) 1 = omega (arith, none) in z)))
      (let s : (u < n) ⊎ (u ≡ n) = grind (arith, m) in s);
  later = λ u m. h.later u (omega (arith, m));
  seat = λ r u e. let s = h.seat r u e in (let z = s.0 in omega (arith, z), s.1);
  shown = λ u m c. ⊎_elim
      (λ (k : u < n). h.shown u k c)
      (λ (k : u ≡ n). absurd (let z : length (tile_at tiles u).contributors ≡ 0 = ap (λ i. length (tile_at tiles i).contributors) k ∙ none in omega (arith, z, c)))
      (let s : (u < n) ⊎ (u ≡ n) = grind (arith, m) in s);
}

a_display : (ranks : ℕ) (tiles : List TileView) (n : ℕ) (seats : List (Option ℕ)) → AreTiles ranks tiles → n < length tiles → 0 < length (tile_at tiles n).contributors → AreSeated ranks tiles n seats → AreSeated ranks tiles (suc n) (set seats (tile_at tiles n).display (Some n))
a_display ranks tiles n seats are l some h = record {
  many = length-set seats (tile_at tiles n).display (Some n) ∙ h.many;
  free = let z = h.free in let s = rw add-one at (firsts_more tiles n l) in let f = one.free in omega (arith, z, s, f, some);
  before = λ u m. ⊎_elim
      (λ (k : u < n). one.others u (λ e. omega (arith, k, e)) ∙ h.before u k)
      (λ (k : u ≡ n). subst (λ z. held z (set seats (tile_at tiles n).display (Some n)) ≡ min (length (tile_at tiles z).contributors) 1) (sym k) (one.mine ∙ (let a = h.later n (omega arith) in let z : held n seats + 1 ≡ min (length (tile_at tiles n).contributors) 1 = omega (arith, a, some) in z)))
      (let s : (u < n) ⊎ (u ≡ n) = grind (arith, m) in s);
  later = λ u m. one.others u (λ e. omega (arith, m, e)) ∙ h.later u (omega (arith, m));
  seat = λ r u e. ⊎_elim
      (λ (k : r ≡ (tile_at tiles n).display). let z : Some n ≡ Some u = sym (get_or-set_same seats (tile_at tiles n).display (Some n) None within) ∙ (ap (λ i. get_or (set seats (tile_at tiles n).display (Some n)) i None) (sym k) ∙ e) in let w : n ≡ u = cc in (omega (arith, w), ap (λ i. (tile_at tiles i).display) (sym w) ∙ sym k))
      (λ (k : r ≢ (tile_at tiles n).display). let s = h.seat r u (sym (get_or-set_other seats (tile_at tiles n).display r (Some n) None k) ∙ e) in (let z = s.0 in omega (arith, z), s.1))
      (let s : (r ≡ (tile_at tiles n).display) ⊎ (r ≢ (tile_at tiles n).display) = grind arith in s);
  shown = λ u m c. ⊎_elim
      (λ (k : u < n). one.kept (tile_at tiles u).display u (h.shown u k c))
      (λ (k : u ≡ n). subst (λ z. get_or (set seats (tile_at tiles n).display (Some n)) (tile_at tiles z).display None ≡ Some z) (sym k) (get_or-set_same seats (tile_at tiles n).display (Some n) None within))
      (let s : (u < n) ⊎ (u ≡ n) = grind (arith, m) in s);
}
  where
    within : (tile_at tiles n).display < length seats
    within =
        let i : IsTile ranks (tile_at tiles n) = All-from_recursion (IsTile ranks) tiles are.each n (record { size = 0; display = 0; contributors = [] }) l in
        let d = i.display in
        let m = h.many in
        omega (arith, d, m)

    empty_seat : (o : Option ℕ) → get_or seats (tile_at tiles n).display None ≡ o → is_none o ≡ true
    empty_seat None e = refl
    empty_seat (Some u) e =
        let s = h.seat (tile_at tiles n).display u e in
        absurd (are.displays u n (record { size = 0; display = 0; contributors = [] }) s.0 l s.1)

    one : HaveJoined n 1 seats (set seats (tile_at tiles n).display (Some n))
    one = one_joins n (tile_at tiles n).display seats (record { within = within; free = empty_seat (get_or seats (tile_at tiles n).display None) refl })

displays : (ranks : ℕ) (tiles : List TileView) (n : ℕ) → AreTiles ranks tiles → n ≤ length tiles → AreSeated ranks tiles n (displays_seated ranks tiles n)
displays ranks tiles zero are l = nobody ranks tiles
displays ranks tiles (suc n) are l = go (nat_lt 0 (length (tile_at tiles n).contributors)) refl (displays ranks tiles n are (omega (arith, l)))
  where
    go : (b : Bool) → nat_lt 0 (length (tile_at tiles n).contributors) ≡ b → AreSeated ranks tiles n (displays_seated ranks tiles n) → AreSeated ranks tiles (suc n) (cond b (set (displays_seated ranks tiles n) (tile_at tiles n).display (Some n)) (displays_seated ranks tiles n))
    go true e past = a_display ranks tiles n (displays_seated ranks tiles n) are l (let z : 0 < length (tile_at tiles n).contributors = grind (arith, nat_tests, e) in z) past
    go false e past = no_display ranks tiles n (displays_seated ranks tiles n) l (let z : length (tile_at tiles n).contributors ≡ 0 = grind (arith, nat_tests, e) in z) past

all_firsts : (tiles : List TileView) → firsts tiles (length tiles) ≡ sum (first_places (counts_of tiles))
all_firsts tiles =
    let many : length tiles ≡ length (first_places (counts_of tiles)) = sym (length-map (counts_of tiles) (λ c. min c 1) ∙ length-map tiles (λ x. length x.contributors)) in
    ap sum (ap (λ n. take n (first_places (counts_of tiles))) many ∙ whole (first_places (counts_of tiles)))
  where
    whole : (xs : List ℕ) → take (length xs) xs ≡ xs
    whole [] = refl
    whole (x ∷ xs) = ap (λ z. x ∷ z) (whole xs)

pub each_can : (ranks : ℕ) (tiles : List TileView) → AreTiles ranks tiles → sum (first_places (counts_of tiles)) ≤ ranks
each_can ranks tiles are =
    let h = displays ranks tiles (length tiles) are (omega arith) in
    let f = h.free in
    let a = all_firsts tiles in
    omega (arith, f, a)

-- ---- the groups

-- the groups of the first t tiles have all their places
pub record AreFilled (ranks : ℕ) (tiles : List TileView) (places : List ℕ) (t : ℕ) (seats : List (Option ℕ)) : Type 0 where
  pub many : length seats ≡ ranks
  pub room : sum_by extra (drop t places) ≤ free_seats seats
  pub before : (u : ℕ) → u < t → held u seats ≡ get_or places u 0
  pub later : (u : ℕ) → t ≤ u → u < length tiles → held u seats ≡ min (length (tile_at tiles u).contributors) 1
  pub shown : (u : ℕ) → u < length tiles → 0 < length (tile_at tiles u).contributors → get_or seats (tile_at tiles u).display None ≡ Some u

fill_step : (ranks : ℕ) (tiles : List TileView) (places : List ℕ) (n t : ℕ) (seats : List (Option ℕ)) → IsSharing (counts_of tiles) places n → t < length tiles → AreFilled ranks tiles places t seats → AreFilled ranks tiles places (suc t) (filled t (tile_at tiles t).contributors (get_or places t 0 - 1) seats)
unfolding extra
fill_step ranks tiles places n t seats shared l h = record {
  many = joined.many ∙ h.many;
  room = let f = joined.free in let r = h.room in let s = rw add-one at rest in omega (arith, f, r, s);
  before = λ u m. ⊎_elim
      (λ (k : u < t). joined.others u (λ e. omega (arith, k, e)) ∙ h.before u k)
      (λ (k : u ≡ t). subst (λ z. held z (filled t (tile_at tiles t).contributors (get_or places t 0 - 1) seats) ≡ get_or places z 0) (sym k) (joined.mine ∙ whole))
      (let s : (u < t) ⊎ (u ≡ t) = grind (arith, m) in s);
  later = λ u m i. joined.others u (λ e. omega (arith, m, e)) ∙ h.later u (omega (arith, m)) i;
  shown = λ u m c. joined.kept (tile_at tiles u).display u (h.shown u m c);
}
  where
    within : t < length places
    within = let e = shared.each in let m = length-map tiles (λ x. length x.contributors) in omega (arith, e, m, l)

    rest : sum_by extra (drop t places) ≡ extra (get_or places t 0) + sum_by extra (drop (t + 1) places)
    rest = sum_by-drop_more extra places t 0 within

    joined : HaveJoined t (get_or places t 0 - 1) seats (filled t (tile_at tiles t).contributors (get_or places t 0 - 1) seats)
    joined = all_join t (tile_at tiles t).contributors (get_or places t 0 - 1) seats (let r = h.room in let s = rest in omega (arith, r, s))

    whole : held t seats + (get_or places t 0 - 1) ≡ get_or places t 0
    whole =
        let a = h.later t (omega arith) l in
        let c = count_at tiles t in
        let f = shared.few t in
        ⊎_elim
        (λ (k : 0 < get_or (counts_of tiles) t 0). let s = shared.some t k in let z : held t seats + (get_or places t 0 - 1) ≡ get_or places t 0 = omega (arith, a, c, s, k) in z)
        (λ (k : get_or (counts_of tiles) t 0 ≡ 0). let z : held t seats + (get_or places t 0 - 1) ≡ get_or places t 0 = omega (arith, a, c, f, k) in z)
        (let s : (0 < get_or (counts_of tiles) t 0) ⊎ (get_or (counts_of tiles) t 0 ≡ 0) = grind arith in s)

fills : (ranks : ℕ) (tiles : List TileView) (places : List ℕ) (n t : ℕ) → AreTiles ranks tiles → IsSharing (counts_of tiles) places n → n + sum (first_places (counts_of tiles)) ≤ ranks → t ≤ length tiles → AreFilled ranks tiles places t (seats_after ranks tiles places t)
fills ranks tiles places n zero are shared few l =
    let h = displays ranks tiles (length tiles) are (omega arith) in
    let a = all_firsts tiles in
    let f = h.free in
    let e = shared.extras in
    record {
      many = h.many;
      room = omega (arith, f, a, e, few);
      before = λ u m. absurd (omega (arith, m));
      later = λ u m i. h.before u i;
      shown = h.shown;
    }
fills ranks tiles places n (suc t) are shared few l = fill_step ranks tiles places n t (seats_after ranks tiles places t) shared l (fills ranks tiles places n t are shared few (omega (arith, l)))

pub all_filled : (ranks : ℕ) (tiles : List TileView) → AreTiles ranks tiles → AreFilled ranks tiles (places_of ranks (counts_of tiles)) (length tiles) (seats_of ranks tiles)
all_filled ranks tiles are =
    let c = each_can ranks tiles are in
    fills ranks tiles (places_of ranks (counts_of tiles)) (ranks - sum (first_places (counts_of tiles))) (length tiles) are (is_sharing (counts_of tiles) (ranks - sum (first_places (counts_of tiles)))) (omega (arith, c)) (omega arith)

-- ---- the lists

count_map : (f : Option ℕ → Bool) (g : ℕ → Option ℕ) (l : List ℕ) → count_by f (map g l) ≡ count_by (λ r. f (g r)) l
count_map f g [] = refl
count_map f g (x ∷ xs) =
    let a = sum_by-cons (λ y. cond {A = ℕ} (f y) 1 0) (g x) (map g xs) in
    let b = sum_by-cons (λ y. cond {A = ℕ} (f (g y)) 1 0) x xs in
    a ∙ (ap (λ z. cond {A = ℕ} (f (g x)) 1 0 + z) (count_map f g xs) ∙ sym b)

group_length : (seats : List (Option ℕ)) (t : ℕ) → length (group_in seats t) ≡ held t seats
group_length seats t =
    length-filter (λ r. is_of t (get_or seats r None)) (ranks_in seats)
    ∙ (sym (count_map (is_of t) (λ r. get_or seats r None) (ranks_in seats))
    ∙ ap (count_by (is_of t)) (sym (fill_by_all (λ r. get_or seats r None) seats (length seats) None refl (λ k l. refl))))

range_ascends : (a n : ℕ) → AllPairs (λ x y. x < y) (range_with_len a n)
range_ascends a n i j d l m =
    let many = length-range_with_len a n in
    let x = get_or-range_with_len a n i d (omega (arith, many, l, m)) in
    let y = get_or-range_with_len a n j d (omega (arith, many, m)) in
    omega (arith, x, y, l)

-- a rank is in the filtered range where it passes
has_tells : (p : ℕ → Bool) (a n r : ℕ) → has r (filter p (range_with_len a n)) ≡ true → (r < a + n) × (p r ≡ true)
has_tells p a zero r h = absurd (cc)
has_tells p a (suc n) r h = go (p a) refl h (λ s. has_tells p (a + 1) n r s)
  where
    later : has r (filter p (range_with_len (a + 1) n)) ≡ true → (has r (filter p (range_with_len (a + 1) n)) ≡ true → (r < a + 1 + n) × (p r ≡ true)) → (r < a + suc n) × (p r ≡ true)
    later k past = let s = past k in (let z = s.0 in omega (arith, z), s.1)

    go : (b : Bool) → p a ≡ b → has r (cond b (a ∷ filter p (range_with_len (a + 1) n)) (filter p (range_with_len (a + 1) n))) ≡ true → (has r (filter p (range_with_len (a + 1) n)) ≡ true → (r < a + 1 + n) × (p r ≡ true)) → (r < a + suc n) × (p r ≡ true)
    go true k s past = here (a == r) refl s
      where
        here : (b : Bool) → (a == r) ≡ b → (b || has r (filter p (range_with_len (a + 1) n))) ≡ true → (r < a + suc n) × (p r ≡ true)
        here true e q = let w : a ≡ r = grind (arith, nat_tests, e) in (omega (arith, w), subst (λ z. p z ≡ true) w k)
        here false e q = later q past
    go false k s past = later s past

has_one : (p : ℕ → Bool) (a n r : ℕ) → a ≤ r → r < a + n → p r ≡ true → has r (filter p (range_with_len a n)) ≡ true
has_one p a zero r l m h = absurd (omega (arith, l, m))
has_one p a (suc n) r l m h = ⊎_elim
    (λ (e : a ≡ r). let q : p a ≡ true = ap p e ∙ h in rw q (front (a == r) (has r (filter p (range_with_len (a + 1) n))) (let z : (a == r) ≡ true = grind (arith, nat_tests, e) in z)))
    (λ (k : a + 1 ≤ r). behind (p a) (has_one p (a + 1) n r k (omega (arith, m)) h))
    (let s : (a ≡ r) ⊎ (a + 1 ≤ r) = grind (arith, l) in s)
  where
    front : (x y : Bool) → x ≡ true → (x || y) ≡ true
    front x y e = rw e refl

    or_true : (x y : Bool) → y ≡ true → (x || y) ≡ true
    or_true true y e = refl
    or_true false y e = e

    behind : (b : Bool) → has r (filter p (range_with_len (a + 1) n)) ≡ true → has r (cond b (a ∷ filter p (range_with_len (a + 1) n)) (filter p (range_with_len (a + 1) n))) ≡ true
    behind true e = or_true (a == r) (has r (filter p (range_with_len (a + 1) n))) e
    behind false e = e

one_tile : (t u : ℕ) (o : Option ℕ) → is_of t o ≡ true → is_of u o ≡ true → t ≡ u
one_tile t u None h k = absurd (cc)
one_tile t u (Some v) h k = let a : v ≡ t = grind (arith, nat_tests, h) in let b : v ≡ u = grind (arith, nat_tests, k) in sym a ∙ b

group_at : (seats : List (Option ℕ)) (count t : ℕ) → t < count → get_or (groups_in seats count) t [] ≡ group_in seats t
group_at seats count t l = get_or-map-range_with_len (group_in seats) 0 count t t [] l (omega arith)

no_group : (seats : List (Option ℕ)) (count t : ℕ) → count ≤ t → get_or (groups_in seats count) t [] ≡ []
no_group seats count t l = get_or_past (groups_in seats count) t [] (let z = length-map-range_with_len (group_in seats) 0 count in omega (arith, z, l))

-- whoever is in a group of the list sits there
sits : (seats : List (Option ℕ)) (count t r : ℕ) → has r (get_or (groups_in seats count) t []) ≡ true → (r < length seats) × (is_of t (get_or seats r None) ≡ true)
sits seats count t r h = ⊎_elim
    (λ (l : t < count). let k : has r (group_in seats t) ≡ true = ap (has r) (sym (group_at seats count t l)) ∙ h in let s = has_tells (λ q. is_of t (get_or seats q None)) 0 (length seats) r k in (let z = s.0 in omega (arith, z), s.1))
    (λ (l : count ≤ t). absurd (let k : has r [] ≡ true = ap (has r) (sym (no_group seats count t l)) ∙ h in cc))
    (let s : (t < count) ⊎ (count ≤ t) = grind arith in s)

pub lawful : (ranks : ℕ) (tiles : List TileView) → AreTiles ranks tiles → AreGroups ranks tiles (places_of ranks (counts_of tiles)) (groups_of ranks tiles)
lawful ranks tiles are = record {
  each = length-map-range_with_len (group_in (seats_of ranks tiles)) 0 (length tiles);
  many = λ t l. ap length (group_at (seats_of ranks tiles) (length tiles) t l) ∙ (group_length (seats_of ranks tiles) t ∙ filled.before t l);
  ascend = λ t. ⊎_elim
      (λ (l : t < length tiles). let P : List ℕ → Type 0 = AllPairs (λ a b. a < b) in subst P (sym (group_at (seats_of ranks tiles) (length tiles) t l)) (AllPairs-filter (λ a b. a < b) (λ r. is_of t (get_or (seats_of ranks tiles) r None)) (ranks_in (seats_of ranks tiles)) (range_ascends 0 (length (seats_of ranks tiles)))))
      (λ (l : length tiles ≤ t). let P : List ℕ → Type 0 = AllPairs (λ a b. a < b) in subst P (sym (no_group (seats_of ranks tiles) (length tiles) t l)) (λ i j d k m. absurd (omega (arith, m))))
      (let s : (t < length tiles) ⊎ (length tiles ≤ t) = grind arith in s);
  within = λ t r h. let s = sits (seats_of ranks tiles) (length tiles) t r h in let z = s.0 in let m = filled.many in omega (arith, z, m);
  apart = λ t u r h k. one_tile t u (get_or (seats_of ranks tiles) r None) (sits (seats_of ranks tiles) (length tiles) t r h).1 (sits (seats_of ranks tiles) (length tiles) u r k).1;
  shown = λ t l c.
      let e = filled.shown t l c in
      let yes' : is_of t (get_or (seats_of ranks tiles) (tile_at tiles t).display None) ≡ true = ap (is_of t) e ∙ same_number t in
      let i : IsTile ranks (tile_at tiles t) = All-from_recursion (IsTile ranks) tiles are.each t (record { size = 0; display = 0; contributors = [] }) l in
      let d = i.display in
      let m = filled.many in
      ap (has (tile_at tiles t).display) (group_at (seats_of ranks tiles) (length tiles) t l) ∙ has_one (λ q. is_of t (get_or (seats_of ranks tiles) q None)) 0 (length (seats_of ranks tiles)) (tile_at tiles t).display (omega arith) (omega (arith, d, m)) yes';
}
  where
    filled : AreFilled ranks tiles (places_of ranks (counts_of tiles)) (length tiles) (seats_of ranks tiles)
    filled = all_filled ranks tiles are
