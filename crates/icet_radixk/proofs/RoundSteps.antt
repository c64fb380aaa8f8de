-- Steps of the builder.
use Rattle.std.proofs.Common.{◌≡◌, ℕ, zero, suc, ◌+◌, ◌-◌, ◌*◌, ◌/◌, ◌^◌, ◌<◌, ◌≤◌, Bool, true, false, cond, List, [], ◌∷◌, ◌++◌, map, length, length-append, get_or, refl, ap, ◌∙◌, arith, Option, Some}
use Rattle.std.proofs.Math.Nat.{div-le_of_le-mul, mul-le-mul_left, mul-le-mul_right, mul_comm}
use Rattle.std.specs.Prelude.{◌==◌, is_some}
use Rattle.std.specs.List.{range_with_len}
use Rattle.icet_model.proofs.Lists.{made_more}
use Rattle.icet_model.specs.declared.bracket.Bracket.TheVariants.{Empty}
use Rattle.icet_model.specs.declared.exchange.Kind.TheVariants.{Send, Take}
use Rattle.icet_model.specs.declared.exchange.Exchange.{Exchange}
use Rattle.icet_model.specs.declared.exchange.Op.{Op}
use Rattle.icet_model.specs.declared.exchange.Op.TheVariants.{Swap}
use Rattle.icet_plan.specs.Each.{each}
use Rattle.icet_legs.specs.declared.range.Range.{Range}
use Rattle.icet_legs.specs.Collect.{final_ops, final_over, hi_of, lo_of}
use Rattle.icet_legs.specs.Group.{Group, cut_at, digit, group_cuts, group_joins, group_ops, group_sends, group_swap, group_takes, member}
use Rattle.icet_legs.specs.Radix.{group_at, range_of, stride}
use Rattle.icet_legs.specs.Task.{TaskView, task_team}
use Rattle.icet_legs.specs.Team.{Team}
use Rattle.icet_legs.proofs.EachMore.{each_length, each_pushed}
use Rattle.icet_legs.proofs.Radixes.{AreFactors, is_group, stride_wide}
use Rattle.icet_legs.proofs.RangeLists.{range_pushed}
use Rattle.icet_legs.proofs.SameFinals.{final_length, same_final_ops}
use Rattle.icet_radixk.specs.declared.round.Round.{Round}
use Rattle.icet_radixk.specs.Factors.{factor_at}
use Rattle.icet_radixk.specs.Radixk.{radix_finals, radix_program}
use Rattle.icet_radixk.specs.Round.{AreFinals, IsRoundOf, IsSplitBy, round_group}
use Rattle.icet_radixk.proofs.Folded.{factors_are}

-- a cut lies in the range
pub cut_within : (lo hi k h : ℕ) → h ≤ k → (hi - lo) * h / k ≤ hi - lo
cut_within lo hi k h l = div-le_of_le-mul k (let m : (hi - lo) * h ≤ (hi - lo) * k = mul-le-mul_left (hi - lo) l in let c = mul_comm (hi - lo) k in omega (arith, m, c))

-- a factor and a stride are no more than the number of participants
at_most : (a b c n : ℕ) → n ≡ a * b * c → 0 < n → 0 < b → 0 < c → (b ≤ n) × (c ≤ n) × (b * c ≤ n)
at_most zero b c n e some l m = absurd (let z : 0 * b * c ≡ 0 = omega arith in omega (arith, e, z, some))
at_most (suc a) b c n e some l m =
    let x : b ≤ suc a * b = omega arith in
    let y : b * c ≤ suc a * b * c = mul-le-mul_right c x in
    let u : b * 1 ≤ b * c = mul-le-mul_left b (let z : 1 ≤ c = omega (arith, m) in z) in
    let v : 1 * c ≤ b * c = mul-le-mul_right c (let z : 1 ≤ b = omega (arith, l) in z) in
    (omega (arith, e, y, u), omega (arith, e, y, v), omega (arith, e, y))

module _ (x : TaskView) (fs : List ℕ) (is : IsSplitBy x fs) where
  abbrev g : Team
  g = task_team x

  abbrev factor : ℕ → ℕ
  factor = factor_at fs

  are : AreFactors g factor (length fs)
  are = factors_are g factor (length fs) is.factors

  pub few_rounds : length fs < 256
  few_rounds = let l = is.few in let n = is.task.low in omega (arith, l, n)

  pub bounds : (i : ℕ) → i < length fs → (factor i ≤ length x.participants) × (stride factor i ≤ length x.participants) × (factor i * stride factor i ≤ length x.participants)
  bounds i l = let s = is.task.shown in at_most (are.above i) (factor i) (stride factor i) (length x.participants) (are.whole i l) (omega (arith, s)) (are.many i) (stride_wide g factor (length fs) are i)

  pub stride_low : (i : ℕ) → i < length fs → factor i * stride factor i ≤ 256
  stride_low i l = let b = (bounds i l).2 in let n = is.task.low in omega (arith, b, n)

  pub round_made : (i p : ℕ) (r : Round) → i < length fs → p < length x.participants → r.p ≡ p → r.number ≡ i → r.stride ≡ stride factor i → r.factor ≡ factor i → (r.own.lo, r.own.hi) ≡ range_of factor x.pixels i p → r.own.lo ≤ r.own.hi → IsRoundOf x fs i p r
  round_made i p r l b place number stride_is factor_is own order = record {
    is_round = record {
      task = is.task;
      place = omega (arith, place, b);
      number = let f = few_rounds in omega (arith, number, f, l);
      wide = let w = stride_wide g factor (length fs) are i in omega (arith, w, stride_is);
      many = let m = are.many i in omega (arith, m, factor_is);
      low = let m = (bounds i l).0 in let n = is.task.low in omega (arith, m, n, factor_is);
      inside = λ h m.
          let z : member r.stride r.factor r.p h ≡ member (stride factor i) (factor i) p h = λ j. member (stride_is j) (factor_is j) (place j) h in
          let y = (is_group g factor (length fs) are i l).inside p h b (omega (arith, m, factor_is)) in
          omega (arith, z, y);
      order = order;
    };
    place = place;
    number = number;
    stride_is = stride_is;
    factor_is = factor_is;
    own = own;
  }

  -- the round is one of groups
  ops_by : ℕ → ℕ → ℕ → ℕ × ℕ → ℕ → List Op
  ops_by w k round own p = group_ops g (record { w = w; k = k; round = round; lo = λ _. own.0; hi = λ _. own.1; content = λ _. Empty }) p

  group_is : (i p : ℕ) (r : Round) → IsRoundOf x fs i p r → group_ops g (round_group x r) r.p ≡ group_ops g (group_at g factor i) p
  group_is i p r h = λ j. group_ops g (record { w = h.stride_is j; k = h.factor_is j; round = x.first + h.number j; lo = λ _. (h.own j).0; hi = λ _. (h.own j).1; content = λ _. Empty }) (h.place j)

  pub round_pushed : (i p : ℕ) (r : Round) → IsRoundOf x fs i p r → (start old new : List Op) → old ≡ start ++ each (λ i. group_ops g (group_at g factor i) p) i → new ≡ old ++ group_ops g (round_group x r) r.p → new ≡ start ++ each (λ i. group_ops g (group_at g factor i) p) (i + 1)
  round_pushed i p r h start old new past is_new = each_pushed (λ i. group_ops g (group_at g factor i) p) i start old new past (is_new ∙ ap (λ z. old ++ z) (group_is i p r h))

pub range_behind : (x : TaskView) (fs : List ℕ) (i p : ℕ) (r : Round) → IsRoundOf x fs i p r → (lo hi : ℕ) → lo ≡ cut_at r.own.lo r.own.hi r.factor (digit r.stride r.factor r.p) → hi ≡ cut_at r.own.lo r.own.hi r.factor (suc (digit r.stride r.factor r.p)) → (lo, hi) ≡ range_of (factor_at fs) x.pixels (suc i) p
range_behind x fs i p r h lo hi lo_is hi_is =
    (λ j. (lo_is j, hi_is j))
    ∙ (λ j. (cut_at ((h.own j).0) ((h.own j).1) (h.factor_is j) (digit (h.stride_is j) (h.factor_is j) (h.place j)), cut_at ((h.own j).0) ((h.own j).1) (h.factor_is j) (suc (digit (h.stride_is j) (h.factor_is j) (h.place j)))))

pub stride_behind : (x : TaskView) (fs : List ℕ) (i p : ℕ) (r : Round) → IsRoundOf x fs i p r → r.factor * r.stride ≡ stride (factor_at fs) (suc i)
stride_behind x fs i p r h = λ j. h.factor_is j * h.stride_is j

pub final_more : (n pixels : ℕ) (fs : List ℕ) (old new : List (Option Range)) (lo hi : ℕ) → AreFinals n pixels fs old → (lo, hi) ≡ range_of (factor_at fs) pixels (length fs) n → new ≡ old ++ Some (record { lo = lo; hi = hi }) ∷ [] → AreFinals (n + 1) pixels fs new
final_more n pixels fs old new lo hi past range is =
    let one : new ≡ old ++ Some (record { lo = (range_of (factor_at fs) pixels (length fs) n).0; hi = (range_of (factor_at fs) pixels (length fs) n).1 }) ∷ [] = is ∙ (λ j. old ++ Some (record { lo = (range j).0; hi = (range j).1 }) ∷ []) in
    let r = range_pushed n (λ a. Some (record { lo = (range_of (factor_at fs) pixels (length fs) a).0; hi = (range_of (factor_at fs) pixels (length fs) a).1 })) old new past.count past.are one in
    record { count = r.0; are = r.1 }

pub listed_more : {V : Type 0} (f : ℕ → V) (n : ℕ) → map f (range_with_len 0 (n + 1)) ≡ map f (range_with_len 0 n) ++ f n ∷ []
listed_more = made_more

-- the collection with these ranges is that of radix-k
finals_are : (x : TaskView) (fs : List ℕ) → IsSplitBy x fs → (ranges : List (Option Range)) → AreFinals (length x.participants) x.pixels fs ranges → (p : ℕ) → p < length x.participants → final_ops (task_team x) (final_over ranges (x.first + length fs) x.shows) p ≡ final_ops (task_team x) (radix_finals (task_team x) (factor_at fs) (length fs) x.shows) p
finals_are x fs is ranges are p l = same_final_ops (task_team x) (final_over ranges (x.first + length fs) x.shows) (radix_finals (task_team x) (factor_at fs) (length fs) x.shows) (record {
  round = refl;
  shows = refl;
  holds = λ a k. ap (λ (o : Option Range). is_some o) (are.are a k);
  lo = λ a k w. ap lo_of (are.are a k);
  hi = λ a k w. ap hi_of (are.are a k);
}) is.task.shown p l

-- how long a program is
group_length : (g : Team) (u : Group) (p : ℕ) → length (group_ops g u p) ≤ 4 * u.k
group_length g u p =
    let cuts = each_length (group_cuts u p) 1 (u.k - 1) (λ b l. omega arith) in
    let sends = each_length (group_sends g u p) 1 u.k (λ h l. one h (group_swap g u Send (member u.w u.k p h) p h) (h == digit u.w u.k p)) in
    let takes = each_length (group_takes g u p) 1 u.k (λ h l. one h (group_swap g u Take (member u.w u.k p h) p (digit u.w u.k p)) (h == digit u.w u.k p)) in
    let joins = each_length group_joins 1 (u.k - 1) (λ b l. omega arith) in
    let a = length-append (each (group_cuts u p) (u.k - 1)) (each (group_sends g u p) u.k) in
    let b = length-append (each (group_takes g u p) u.k) (each group_joins (u.k - 1)) in
    let c = length-append (each (group_cuts u p) (u.k - 1) ++ each (group_sends g u p) u.k) (each (group_takes g u p) u.k ++ each group_joins (u.k - 1)) in
    omega (arith, cuts, sends, takes, joins, a, b, c)
  where
    one : (h : ℕ) (e : Exchange) (t : Bool) → length (cond t [] (Swap e h ∷ [])) ≤ 1
    one h e true = omega arith
    one h e false = omega arith

pub program_length : (g : Team) (factor : ℕ → ℕ) (q shows p : ℕ) → ((i : ℕ) → i < q → factor i ≤ 256) → length (radix_program g factor q shows p) ≤ 1024 * q + 1 + 2 * g.n
program_length g factor q shows p low =
    let a = each_length (λ i. group_ops g (group_at g factor i) p) 1024 q (λ i l. let s = group_length g (group_at g factor i) p in let f = low i l in omega (arith, s, f)) in
    let b = final_length g (radix_finals g factor q shows) p in
    let e = length-append (each (λ i. group_ops g (group_at g factor i) p) q) (final_ops g (radix_finals g factor q shows) p) in
    omega (arith, a, b, e)

module _ (x : TaskView) (fs : List ℕ) (is : IsSplitBy x fs) (ranges : List (Option Range)) (are : AreFinals (length x.participants) x.pixels fs ranges) (p : ℕ) (l : p < length x.participants) (start old new : List Op) (none : start ≡ []) (first : old ≡ start ++ each (λ i. group_ops (task_team x) (group_at (task_team x) (factor_at fs) i) p) (length fs)) (last : new ≡ old ++ final_ops (task_team x) (final_over ranges (x.first + length fs) x.shows) p) where
  -- a whole program, from no operations on
  pub program_is : new ≡ radix_program (task_team x) (factor_at fs) (length fs) x.shows p
  program_is =
      last
      ∙ (ap (λ z. z ++ final_ops (task_team x) (final_over ranges (x.first + length fs) x.shows) p) (first ∙ ap (λ z. z ++ each (λ i. group_ops (task_team x) (group_at (task_team x) (factor_at fs) i) p) (length fs)) none)
      ∙ ap (λ z. each (λ i. group_ops (task_team x) (group_at (task_team x) (factor_at fs) i) p) (length fs) ++ z) (finals_are x fs is ranges are p l))

  pub program_short : length new < 2 ^ 20
  program_short =
      let a = program_length (task_team x) (factor_at fs) (length fs) x.shows p (λ i m. let b = (bounds x fs is i m).0 in let n = is.task.low in omega (arith, b, n)) in
      let f = few_rounds x fs is in
      let n = is.task.low in
      let e = ap (λ z. length z) program_is in
      omega (arith, a, f, n, e)

-- what stands in a list, whatever is said of the places beyond it
pub get_any : (xs : List ℕ) (i d e : ℕ) → i < length xs → get_or xs i d ≡ get_or xs i e
get_any [] i d e l = absurd (omega arith)
get_any (y ∷ xs) zero d e l = refl
get_any (y ∷ xs) (suc i) d e l = get_any xs i d e (omega arith)
