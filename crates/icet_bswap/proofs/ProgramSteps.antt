-- What the builder's numbers keep to.
use Rattle.std.proofs.Common.{map, Bool, true, false, cond, Option, Some, None, length-append, ◌≡◌, ℕ, zero, suc, ◌+◌, ◌-◌, ◌*◌, ◌^◌, ◌<◌, ◌≤◌, List, [], ◌∷◌, ◌++◌, length, refl, sym, ap, ◌∙◌, subst, arith, add-one, ⊎_elim}
use Rattle.std.proofs.Math.Nat.{pow-succ'}
use Rattle.std.proofs.Math.Pow.{pow-lt}
use Rattle.std.specs.Prelude.{◌≢◌, AllPairs, is_some}
use Rattle.std.specs.List.{range_with_len}
use Rattle.std.specs.Option.{option_map}
use Rattle.icet_model.proofs.Lists.{made_more}
use Rattle.icet_model.specs.declared.bracket.Bracket.{Bracket}
use Rattle.icet_model.specs.declared.exchange.Kind.TheVariants.{Send, Take}
use Rattle.icet_model.specs.declared.exchange.Op.{Op}
use Rattle.icet_model.specs.declared.exchange.Op.TheVariants.{Join, Swap}
use Rattle.icet_plan.specs.Each.{each}
use Rattle.icet_legs.specs.declared.range.Range.{Range}
use Rattle.icet_legs.specs.Collect.{final_ops, final_over, hi_of, lo_of}
use Rattle.icet_legs.specs.Leg.{IsLegOf}
use Rattle.icet_legs.specs.Merge.{Merge, merge_gives, merge_ops, merge_swap}
use Rattle.icet_legs.specs.Pairing.{couples, tree}
use Rattle.icet_legs.specs.Powers.{floor_log2}
use Rattle.icet_legs.specs.Task.{IsTask, IsTaskOf, TaskView, task_team}
use Rattle.icet_legs.specs.Team.{Team, by_pos, team_of}
use Rattle.icet_legs.specs.TileStrategy.{leaves_of}
use Rattle.icet_legs.proofs.EachMore.{each_length}
use Rattle.icet_legs.proofs.ListTeams.{apart_from_pairs, leaves_are, list_team}
use Rattle.icet_legs.proofs.PowersOfTwo.{below_power}
use Rattle.icet_legs.proofs.RangeLists.{range_pushed}
use Rattle.icet_legs.proofs.SameFinals.{final_length, same_final_ops}
use Rattle.icet_legs.proofs.Tests.{split}
use Rattle.icet_bswap.specs.declared.split.Split.{Split}
use Rattle.icet_bswap.specs.Bswap.{bswap_strategy, finals, fold_count, folding, half, leg_ops, other, partner, range, seat, side, swap_ops, swapper, swappers}
use Rattle.icet_bswap.specs.Split.{AreFinals, IsSplit, final_range}
use Rattle.icet_bswap.proofs.Folding.{seat_low, seat_high, swaps}
use Rattle.icet_bswap.proofs.HalvingIsRadix.{partner_within}
use Rattle.icet_bswap.proofs.SwapStrategy.{bswap_is_leg, count_is, fold_few}

module _ (x : TaskView) (d : Split) (is : IsSplit x d) where
  pub swapper_count : 2 ^ d.m ≤ 256
  swapper_count = let c = is.count in let l = is.task.low in omega (arith, c, l)

  pub fold_low : d.e ≤ 256
  fold_low = let c = is.count in let l = is.task.low in omega (arith, c, l)

  pub round_count : d.m < 256
  round_count = let c = swapper_count in let g = below_power d.m in omega (arith, c, g)

  pub width_low : (i : ℕ) → i < d.m → 2 ^ i < 256
  width_low i l = let c = swapper_count in let w = pow-lt l in omega (arith, c, w)

  pub seat_within : (s : ℕ) → s < 2 ^ d.m → seat d.e s < length x.participants
  seat_within s l = let c = is.count in let f = is.few in ⊎_elim
      (λ (b : s < d.e). let z = seat_low d.e s b in omega (arith, z, c, f, b))
      (λ (b : d.e ≤ s). let z = seat_high d.e s b in omega (arith, z, c, l)) (split s d.e)

  pub partner_low : (i s : ℕ) → i < d.m → s < 2 ^ d.m → partner i s < 2 ^ d.m
  partner_low i s l b =
      let c = is.count in
      let h : Team = swappers (task_team x) d.e in
      let n : length x.participants - d.e ≡ 2 ^ d.m = omega (arith, c) in
      let p = partner_within h d.m n i s l (omega (arith, b, n)) in
      omega (arith, p, n)

  -- a swapper's number
  pub swapper_low : (p s : ℕ) → p < length x.participants → swapper d.e p ≡ Some s → s < 2 ^ d.m
  swapper_low p s l w = let c = is.count in let f = is.few in let z = (swaps (task_team x) d.e (omega (arith, c, f)) p s l w).1 in omega (arith, z, c)

pub other_is : (d : ℕ) → d < 2 → 1 - d ≡ other d
other_is zero l = refl
other_is (suc zero) l = refl
other_is (suc (suc d)) l = absurd (omega arith)

-- four operations more
pub four_more : (ops : List Op) (a b c d : Op) → (((ops ++ a ∷ []) ++ b ∷ []) ++ c ∷ []) ++ d ∷ [] ≡ ops ++ a ∷ b ∷ c ∷ d ∷ []
four_more [] a b c d = refl
four_more (o ∷ ops) a b c d = ap (λ xs. o ∷ xs) (four_more ops a b c d)

-- one round more
pub each_more : {V : Type 0} (f : ℕ → List V) (i : ℕ) → each f (i + 1) ≡ each f i ++ f i
each_more f i = rw add-one refl

pub range_more : (size i s : ℕ) → range size (i + 1) s ≡ half (side i s) (range size i s)
range_more size i s = rw add-one refl

pub width_more : (i : ℕ) → 2 ^ (i + 1) ≡ 2 ^ i * 2
width_more i = rw add-one (let e = pow-succ' 2 i in omega (arith, e))

pub width_below : (i m : ℕ) → i < m → 2 ^ i < 2 ^ m
width_below i m l = pow-lt l

-- how long a program is
folding_length : (g : Team) (u : Merge) (p : ℕ) → length (merge_ops g u p) ≤ 2
folding_length g u p = go (merge_gives u p) (u.takes p)
  where
    go : (x y : Bool) → length (cond x (Swap (merge_swap g u Send (p - u.w)) 0 ∷ []) (cond y (Swap (merge_swap g u Take (p + u.w)) 1 ∷ Join 0 1 0 ∷ []) [])) ≤ 2
    go true y = omega arith
    go false true = omega arith
    go false false = omega arith

swaps_length : (g : Team) (m : ℕ) (o : Option ℕ) → length (by_pos [] (λ s. each (λ i. swap_ops g i s) m) o) ≤ 4 * m
swaps_length g m None = omega arith
swaps_length g m (Some s) = each_length (λ i. swap_ops g i s) 4 m (λ i l. omega arith)

pub leg_length : (g : Team) (m e shows p : ℕ) → length (leg_ops g m e shows p) ≤ 3 + 4 * m + 2 * g.n
leg_length g m e shows p =
    let h = swappers g e in
    let f = finals g m e shows in
    let one = merge_ops g (folding g e) p in
    let two = by_pos [] (λ s. each (λ i. swap_ops h i s) m) (swapper e p) in
    let three = final_ops g f p in
    let a = folding_length g (folding g e) p in
    let b = swaps_length h m (swapper e p) in
    let c = final_length g f p in
    let d = length-append (one ++ two) three in
    let k = length-append one two in
    omega (arith, a, b, c, d, k)

pub listed_more : {V : Type 0} (f : ℕ → V) (n : ℕ) → map f (range_with_len 0 (n + 1)) ≡ map f (range_with_len 0 n) ++ f n ∷ []
listed_more = made_more

-- one range more
pub final_more : (n pixels : ℕ) (d : Split) (old new : List (Option Range)) → AreFinals n pixels d old → new ≡ old ++ final_range pixels d n ∷ [] → AreFinals (n + 1) pixels d new
final_more n pixels d old new past is = let r = range_pushed n (final_range pixels d) old new past.count past.are is in record { count = r.0; are = r.1 }

-- the collection with these ranges is that of binary-swap
finals_are : (x : TaskView) (d : Split) → IsSplit x d → (ranges : List (Option Range)) → AreFinals (length x.participants) x.pixels d ranges → (p : ℕ) → p < length x.participants → final_ops (task_team x) (final_over ranges (x.first + (d.m + 1)) x.shows) p ≡ final_ops (task_team x) (finals (task_team x) d.m d.e x.shows) p
finals_are x d is ranges are p l = same_final_ops (task_team x) (final_over ranges (x.first + (d.m + 1)) x.shows) (finals (task_team x) d.m d.e x.shows) (record {
  round = omega arith;
  shows = refl;
  holds = λ a k. ap (λ (o : Option Range). is_some o) (are.are a k) ∙ held (swapper d.e a);
  lo = λ a k w. ap lo_of (are.are a k) ∙ low (swapper d.e a);
  hi = λ a k w. ap hi_of (are.are a k) ∙ high (swapper d.e a);
}) is.task.shown p l
  where
    ranged : ℕ → Range
    ranged s = record { lo = (range x.pixels d.m s).0; hi = (range x.pixels d.m s).1 }

    held : (o : Option ℕ) → is_some (option_map ranged o) ≡ by_pos false (λ s. true) o
    held None = refl
    held (Some s) = refl

    low : (o : Option ℕ) → lo_of (option_map ranged o) ≡ by_pos 0 (λ s. (range x.pixels d.m s).0) o
    low None = refl
    low (Some s) = refl

    high : (o : Option ℕ) → hi_of (option_map ranged o) ≡ by_pos 0 (λ s. (range x.pixels d.m s).1) o
    high None = refl
    high (Some s) = refl

module _ (x : TaskView) (d : Split) (is : IsSplit x d) where
  abbrev g : Team
  g = task_team x

  abbrev swapping : ℕ → List Op
  swapping p = by_pos [] (λ s. each (λ i. swap_ops (swappers g d.e) i s) d.m) (swapper d.e p)

  -- a whole program, from no operations on
  pub program_is : (ranges : List (Option Range)) → AreFinals (length x.participants) x.pixels d ranges → (p : ℕ) → p < length x.participants → (start a b c : List Op) → start ≡ [] → a ≡ start ++ merge_ops g (folding g d.e) p → b ≡ a ++ swapping p → c ≡ b ++ final_ops g (final_over ranges (x.first + (d.m + 1)) x.shows) p → c ≡ leg_ops g d.m d.e x.shows p
  program_is ranges are p l start a b c none one two three =
      three
      ∙ (ap (λ z. z ++ final_ops g (final_over ranges (x.first + (d.m + 1)) x.shows) p) (two ∙ ap (λ z. z ++ swapping p) (one ∙ ap (λ z. z ++ merge_ops g (folding g d.e) p) none))
      ∙ ap (λ z. (merge_ops g (folding g d.e) p ++ swapping p) ++ z) (finals_are x d is ranges are p l))

  pub program_short : (p : ℕ) (ops : List Op) → ops ≡ leg_ops g d.m d.e x.shows p → length ops < 2 ^ 16
  program_short p ops e = let a = leg_length g d.m d.e x.shows p in let b = round_count x d is in let c = is.task.low in let n = ap (λ z. length z) e in omega (arith, a, b, c, n)

-- the split of a task
pub is_split : (x : TaskView) (d : Split) → IsTask x → d.m ≡ floor_log2 (length x.participants) → d.e ≡ fold_count (length x.participants) → IsSplit x d
is_split x d is m_is e_is =
    let s = is.shown in
    let some : 0 < length x.participants = omega (arith, s) in
    record {
      task = is;
      count = count_is (length x.participants) some ∙ (λ j. 2 ^ (sym m_is) j + (sym e_is) j);
      few = subst (λ m. d.e < 2 ^ m) (sym m_is) (subst (λ e. e < 2 ^ floor_log2 (length x.participants)) (sym e_is) (fold_few (length x.participants) some));
    }

-- the leg as it is put together
pub leg_made : (participants : List ℕ) (leaves copied : List Bracket) (tile pixels display first : ℕ) (x : TaskView) (d : Split) → IsTask x → IsTaskOf participants tile pixels display first x → d.m ≡ floor_log2 (length x.participants) → d.e ≡ fold_count (length x.participants) → AllPairs (λ a b. a ≢ b) participants → length leaves ≡ length participants → (programs : List (List Op)) → programs ≡ map (leg_ops (task_team x) d.m d.e x.shows) (range_with_len 0 (length x.participants)) → (bracket : Bracket) (halved : List Bracket) → bracket ≡ tree halved → halved ≡ couples d.e copied → copied ≡ leaves → (rounds : ℕ) → rounds ≡ d.m + 2 → IsLegOf bswap_strategy (team_of participants leaves tile pixels first) display programs bracket rounds
leg_made participants leaves copied tile pixels display first x d is of m_is e_is distinct many programs programs_are bracket halved bracket_is halved_is copies rounds rounds_are =
    let g : Team = team_of participants leaves tile pixels first in
    let count : length x.participants ≡ length participants = ap (λ z. length z) of.participants_are in
    let m : d.m ≡ floor_log2 (length participants) = m_is ∙ ap floor_log2 count in
    let e : d.e ≡ fold_count (length participants) = e_is ∙ ap fold_count count in
    let low = is.low in
    let seen = is.shown in
    let shown : x.shows < length participants = omega (arith, seen, count) in
    let leaf : leaves_of g ≡ leaves = leaves_are participants leaves tile pixels first many in
    let long : length (leaves_of g) ≡ length participants = ap (λ z. length z) leaf ∙ many in
    record {
      shows = x.shows;
      shown = shown;
      display_is = of.display_is;
      programs_are = programs_are ∙ (λ j. map (leg_ops (team_of (of.participants_are j) leaves (of.tile_is j) (of.pixels_are j) (of.first_is j)) (m j) (e j) x.shows) (range_with_len 0 (length (of.participants_are j))));
      bracket_is = bracket_is ∙ (ap tree halved_is ∙ (λ j. tree (couples ((e ∙ ap fold_count (sym long)) j) ((copies ∙ sym leaf) j))));
      rounds_are = rounds_are ∙ ap (λ z. z + 2) m;
      few = let b = below_power (floor_log2 g.n) in let c = count_is g.n (omega (arith, shown)) in omega (arith, b, c, low, count);
      short = λ p l. let a = leg_length g (floor_log2 g.n) (fold_count g.n) x.shows p in let b = below_power (floor_log2 g.n) in let c = count_is g.n (omega (arith, shown)) in omega (arith, a, b, c, low, count);
      is_leg = λ tiles ranks shown_by ranked. bswap_is_leg g (list_team participants leaves tile pixels first (apart_from_pairs participants distinct)) x.shows shown tiles shown_by ranks ranked;
    }
