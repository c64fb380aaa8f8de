-- The exchanges of a round of groups go together.
use Rattle.std.proofs.Common.{◌≡◌, ℕ, zero, suc, ◌+◌, ◌-◌, ◌*◌, ◌/◌, ◌<◌, ◌≤◌, Bool, true, false, cond, List, [], ◌∷◌, ◌++◌, map, refl, sym, ap, ◌∙◌, subst, arith, Option, Some, None}
use Rattle.std.proofs.lemmas.List.{append-nil, map-append}
use Rattle.std.proofs.lemmas.Nat.{mod_below}
use Rattle.std.specs.Prelude.{◌==◌}
use Rattle.std.specs.List.{AllByRecursion, filter}
use Rattle.icet_legs.proofs.Digits.{member_digit}
use Rattle.icet_legs.proofs.Groups.{IsGroup, by_pos_agree, cond_agree, group_is, mates_in, mates_out}
use Rattle.icet_legs.proofs.Positions.{none_at, nothing, one_at}
use Rattle.icet_legs.specs.Group.{Group, cut_at, digit, group_cuts, group_joins, group_ops, group_sends, group_swap, group_takes, mates, member}
use Rattle.icet_legs.specs.Team.{IsTeam, Team, by_pair, by_pos}
use Rattle.icet_model.specs.Exchange.{Follows, Heading, IsRising, exchanges, heading, key, sends_to, takes_from}
use Rattle.icet_model.specs.declared.exchange.Exchange.{Exchange}
use Rattle.icet_model.specs.declared.exchange.Kind.TheVariants.{Send, Take}
use Rattle.icet_model.specs.declared.exchange.Op.{Op}
use Rattle.icet_model.specs.declared.exchange.Op.TheVariants.{Swap}
use Rattle.icet_plan.proofs.Lists.{all_weaker, filter-append}
use Rattle.icet_plan.proofs.LocalRuns.{exchanges-append}
use Rattle.icet_plan.proofs.Segments.{AreWithin, IsPart, all_append, rising_append}
use Rattle.icet_plan.specs.Each.{each}

-- a family of parts, each with one exchange or none
exchanges_of_each : (ops : ℕ → List Op) (f : ℕ → List Exchange) → ((b : ℕ) → exchanges (ops b) ≡ f b) → (k : ℕ) → exchanges (each ops k) ≡ each f k
exchanges_of_each ops f h zero = refl
exchanges_of_each ops f h (suc k) = exchanges-append (each ops k) (ops k) ∙ (ap (λ z. z ++ exchanges (ops k)) (exchanges_of_each ops f h k) ∙ ap (λ z. each f k ++ z) (h k))

each_empty : {V : Type 0} (k : ℕ) → each {V = V} nothing k ≡ []
each_empty zero = refl
each_empty {V} (suc k) = append-nil (each {V = V} nothing k) ∙ each_empty k

headings_of_each : (p : Exchange → Bool) (f : ℕ → List Exchange) (v : ℕ → List Heading) → ((b : ℕ) → map heading (filter p (f b)) ≡ v b) → (k : ℕ) → map heading (filter p (each f k)) ≡ each v k
headings_of_each p f v h zero = refl
headings_of_each p f v h (suc k) = ap (map heading) (filter-append p (each f k) (f k)) ∙ (map-append heading (filter p (each f k)) (filter p (f k)) ∙ (ap (λ z. z ++ map heading (filter p (f k))) (headings_of_each p f v h k) ∙ ap (λ z. each v k ++ z) (h k)))

module _ (g : Team) (team : IsTeam g) (u : Group) (is : IsGroup g u) where
  module _ (p : ℕ) (below : p < g.n) where
    abbrev pub d : ℕ
    d = digit u.w u.k p

    abbrev pub mem : ℕ → ℕ
    mem h = member u.w u.k p h

    abbrev pub sending : ℕ → List Exchange
    sending h = cond (h == d) [] (group_swap g u Send (mem h) p h ∷ [])

    abbrev pub taking : ℕ → List Exchange
    taking h = cond (h == d) [] (group_swap g u Take (mem h) p d ∷ [])

    sending_is : (h : ℕ) → exchanges (group_sends g u p h) ≡ sending h
    sending_is h = go (h == d)
      where
        go : (t : Bool) → exchanges (cond t [] (Swap (group_swap g u Send (mem h) p h) h ∷ [])) ≡ cond t [] (group_swap g u Send (mem h) p h ∷ [])
        go true = refl
        go false = refl

    taking_is : (h : ℕ) → exchanges (group_takes g u p h) ≡ taking h
    taking_is h = go (h == d)
      where
        go : (t : Bool) → exchanges (cond t [] (Swap (group_swap g u Take (mem h) p d) h ∷ [])) ≡ cond t [] (group_swap g u Take (mem h) p d ∷ [])
        go true = refl
        go false = refl

    pub all_exchanges : exchanges (group_ops g u p) ≡ each sending u.k ++ each taking u.k
    all_exchanges =
        let cuts = each (group_cuts u p) (u.k - 1) in
        let sends = each (group_sends g u p) u.k in
        let takes = each (group_takes g u p) u.k in
        let joins = each group_joins (u.k - 1) in
        let a : exchanges cuts ≡ [] = exchanges_of_each (group_cuts u p) nothing (λ b. refl) (u.k - 1) ∙ each_empty (u.k - 1) in
        let j : exchanges joins ≡ [] = exchanges_of_each group_joins nothing (λ b. refl) (u.k - 1) ∙ each_empty (u.k - 1) in
        let s = exchanges_of_each (group_sends g u p) sending sending_is u.k in
        let t = exchanges_of_each (group_takes g u p) taking taking_is u.k in
        exchanges-append (cuts ++ sends) (takes ++ joins)
        ∙ (ap (λ z. z ++ exchanges (takes ++ joins)) (exchanges-append cuts sends ∙ (ap (λ z. z ++ exchanges sends) a ∙ s))
        ∙ ap (λ z. each sending u.k ++ z) (exchanges-append takes joins ∙ (ap (λ z. exchanges takes ++ z) j ∙ (append-nil (exchanges takes) ∙ t))))

    -- one key, different peers
    pub record IsOne (n k : ℕ) (e : Exchange) : Type 0 where
      pub who : ℕ
      pub before : who < k
      pub peer : e.peer ≡ g.who (mem who)
      pub key_is : key e ≡ n

    apart : (i j : ℕ) → i < j → j < u.k → g.who (mem i) ≡ g.who (mem j) → ⊥
    apart i j l m s =
        let b = team.back (mem i) (is.inside p i below (omega arith)) in
        let c = team.back (mem j) (is.inside p j below m) in
        let e : Some (mem i) ≡ Some (mem j) = sym b ∙ (ap g.pos s ∙ c) in
        let same : mem i ≡ mem j = cc in
        let x = member_digit u.w u.k p i is.wide (omega arith) in
        let y = member_digit u.w u.k p j is.wide m in
        let z : i ≡ j = sym x ∙ (ap (λ v. digit u.w u.k v) same ∙ y) in
        omega (arith, z, l)

    rising_last : (xs : List Exchange) (e : Exchange) → IsRising xs → AllByRecursion (λ x. Follows x e) xs → IsRising (xs ++ e ∷ [])
    rising_last [] e h k = (tt, tt)
    rising_last (x ∷ xs) e h k = (all_append (Follows x) xs (e ∷ []) h.0 (k.0, tt), rising_last xs e h.1 k.1)

    rising_of : (n : ℕ) (make : ℕ → Exchange) → ((h : ℕ) → (make h).peer ≡ g.who (mem h)) → ((h : ℕ) → key (make h) ≡ n) → (k : ℕ) → k ≤ u.k → IsRising (each (λ h. cond (h == d) [] (make h ∷ [])) k) × AllByRecursion (IsOne n k) (each (λ h. cond (h == d) [] (make h ∷ [])) k)
    rising_of n make peers keys zero l = (tt, tt)
    rising_of n make peers keys (suc k) l = go (k == d) (rising_of n make peers keys k (omega arith))
      where
        es : List Exchange
        es = each (λ h. cond (h == d) [] (make h ∷ [])) k

        more : (xs : List Exchange) → AllByRecursion (IsOne n k) xs → AllByRecursion (IsOne n (suc k)) xs
        more xs h = all_weaker (IsOne n k) (IsOne n (suc k)) (λ e w. record { who = w.who; before = omega (arith, w.before); peer = w.peer; key_is = w.key_is }) xs h

        go : (t : Bool) → IsRising es × AllByRecursion (IsOne n k) es → IsRising (es ++ cond t [] (make k ∷ [])) × AllByRecursion (IsOne n (suc k)) (es ++ cond t [] (make k ∷ []))
        go true h = (subst IsRising (sym (append-nil es)) h.0, subst (AllByRecursion (IsOne n (suc k))) (sym (append-nil es)) (more es h.1))
        go false h = (
          rising_last es (make k) h.0 (all_weaker (IsOne n k) (λ x. Follows x (make k)) (λ x w. record { later = (let q = keys k in omega (arith, w.key_is, q)); apart = λ s. absurd (apart w.who k w.before (omega arith) (sym w.peer ∙ (s ∙ peers k))) }) es h.1),
          all_append (IsOne n (suc k)) es (make k ∷ []) (more es h.1) (record { who = k; before = omega arith; peer = peers k; key_is = keys k }, tt),
        )

    pub sends_rise : IsRising (each sending u.k) × AllByRecursion (IsOne (2 * u.round) u.k) (each sending u.k)
    sends_rise = rising_of (2 * u.round) (λ h. group_swap g u Send (mem h) p h) (λ h. refl) (λ h. refl) u.k (omega arith)

    pub takes_rise : IsRising (each taking u.k) × AllByRecursion (IsOne (2 * u.round + 1) u.k) (each taking u.k)
    takes_rise = rising_of (2 * u.round + 1) (λ h. group_swap g u Take (mem h) p d) (λ h. refl) (λ h. refl) u.k (omega arith)

    pub in_round : (l n m : ℕ) → l ≤ n → n < m → (es : List Exchange) → AllByRecursion (IsOne n u.k) es → AreWithin l m es
    in_round l n m a b es h = all_weaker (IsOne n u.k) (λ e. (l ≤ key e) × (key e < m)) (λ e w. (omega (arith, w.key_is), omega (arith, w.key_is))) es h

    rises : IsRising (exchanges (group_ops g u p)) × AreWithin (2 * u.round) (2 * suc u.round) (exchanges (group_ops g u p))
    rises = (
      subst IsRising (sym all_exchanges) (rising_append (2 * u.round + 1) (2 * u.round) (2 * suc u.round) (each sending u.k) (each taking u.k) sends_rise.0 takes_rise.0
          (in_round (2 * u.round) (2 * u.round) (2 * u.round + 1) (omega arith) (omega arith) (each sending u.k) sends_rise.1)
          (in_round (2 * u.round + 1) (2 * u.round + 1) (2 * suc u.round) (omega arith) (omega arith) (each taking u.k) takes_rise.1)),
      subst (AreWithin (2 * u.round) (2 * suc u.round)) (sym all_exchanges) (all_append (λ e. (2 * u.round ≤ key e) × (key e < 2 * suc u.round)) (each sending u.k) (each taking u.k)
          (in_round (2 * u.round) (2 * u.round) (2 * suc u.round) (omega arith) (omega arith) (each sending u.k) sends_rise.1)
          (in_round (2 * u.round) (2 * u.round + 1) (2 * suc u.round) (omega arith) (omega arith) (each taking u.k) takes_rise.1)),
    )

    abbrev heading_at : ℕ → ℕ → Heading
    heading_at x h = record { round = u.round; tile = g.tile; lo = cut_at (u.lo x) (u.hi x) u.k h; hi = cut_at (u.lo x) (u.hi x) u.k (suc h) }

    abbrev headings : ℕ → ℕ → List Heading
    headings a b = cond (mates u a b) (heading_at a (digit u.w u.k b) ∷ []) []

    sends_are : (r : ℕ) → map heading (filter (sends_to r) (exchanges (group_ops g u p))) ≡ by_pos [] (headings p) (g.pos r)
    sends_are r =
        ap (λ z. map heading (filter (sends_to r) z)) all_exchanges
        ∙ (ap (map heading) (filter-append (sends_to r) (each sending u.k) (each taking u.k))
        ∙ (map-append heading (filter (sends_to r) (each sending u.k)) (filter (sends_to r) (each taking u.k))
        ∙ (ap (λ z. z ++ map heading (filter (sends_to r) (each taking u.k))) (headings_of_each (sends_to r) sending (λ h. cond (h == d) [] (one_at (g.who (mem h)) (heading_at p h) r)) out u.k)
        ∙ (ap (λ z. each (λ h. cond (h == d) [] (one_at (g.who (mem h)) (heading_at p h) r)) u.k ++ z) (headings_of_each (sends_to r) taking nothing none u.k ∙ each_empty u.k)
        ∙ (append-nil (each (λ h. cond (h == d) [] (one_at (g.who (mem h)) (heading_at p h) r)) u.k)
        ∙ group_is g team u is p below (λ x. mates u p x) (mates_out g u is p) (heading_at p) r)))))
      where
        single : (t : Bool) (h : ℕ) → map heading (cond t (group_swap g u Send (mem h) p h ∷ []) []) ≡ cond t (heading_at p h ∷ []) []
        single true h = refl
        single false h = refl

        out : (h : ℕ) → map heading (filter (sends_to r) (sending h)) ≡ cond (h == d) [] (one_at (g.who (mem h)) (heading_at p h) r)
        out h = go (h == d)
          where
            go : (t : Bool) → map heading (filter (sends_to r) (cond t [] (group_swap g u Send (mem h) p h ∷ []))) ≡ cond t [] (one_at (g.who (mem h)) (heading_at p h) r)
            go true = refl
            go false = single (g.who (mem h) == r) h

        none : (h : ℕ) → map heading (filter (sends_to r) (taking h)) ≡ []
        none h = go (h == d)
          where
            go : (t : Bool) → map heading (filter (sends_to r) (cond t [] (group_swap g u Take (mem h) p d ∷ []))) ≡ []
            go true = refl
            go false = refl

    takes_are : (q : ℕ) → map heading (filter (takes_from q) (exchanges (group_ops g u p))) ≡ by_pos [] (λ a. headings a p) (g.pos q)
    takes_are q =
        ap (λ z. map heading (filter (takes_from q) z)) all_exchanges
        ∙ (ap (map heading) (filter-append (takes_from q) (each sending u.k) (each taking u.k))
        ∙ (map-append heading (filter (takes_from q) (each sending u.k)) (filter (takes_from q) (each taking u.k))
        ∙ (ap (λ z. z ++ map heading (filter (takes_from q) (each taking u.k))) (headings_of_each (takes_from q) sending nothing none u.k ∙ each_empty u.k)
        ∙ (headings_of_each (takes_from q) taking (λ h. cond (h == d) [] (one_at (g.who (mem h)) (heading_at p d) q)) out u.k
        ∙ (group_is g team u is p below (λ x. mates u x p) (mates_in g u is p) (λ h. heading_at p d) q
        ∙ by_pos_agree (λ x. cond (mates u x p) (heading_at p d ∷ []) []) (λ a. headings a p) same (g.pos q))))))
      where
        single : (t : Bool) (h : ℕ) → map heading (cond t (group_swap g u Take (mem h) p d ∷ []) []) ≡ cond t (heading_at p d ∷ []) []
        single true h = refl
        single false h = refl

        out : (h : ℕ) → map heading (filter (takes_from q) (taking h)) ≡ cond (h == d) [] (one_at (g.who (mem h)) (heading_at p d) q)
        out h = go (h == d)
          where
            go : (t : Bool) → map heading (filter (takes_from q) (cond t [] (group_swap g u Take (mem h) p d ∷ []))) ≡ cond t [] (one_at (g.who (mem h)) (heading_at p d) q)
            go true = refl
            go false = single (g.who (mem h) == q) h

        none : (h : ℕ) → map heading (filter (takes_from q) (sending h)) ≡ []
        none h = go (h == d)
          where
            go : (t : Bool) → map heading (filter (takes_from q) (cond t [] (group_swap g u Send (mem h) p h ∷ []))) ≡ []
            go true = refl
            go false = refl

        same : (x : ℕ) → cond (mates u x p) (heading_at p d ∷ []) [] ≡ headings x p
        same x = cond_agree (mates u x p) (heading_at p d) (heading_at x d) (λ m.
            let w = ((mates_in g u is p).tells x m).0 in
            let l : digit u.w u.k x < u.k = mod_below (x / u.w) u.k is.many in
            let lo : u.lo p ≡ u.lo x = sym (ap u.lo w ∙ is.low p (digit u.w u.k x) l) in
            let hi : u.hi p ≡ u.hi x = sym (ap u.hi w ∙ is.high p (digit u.w u.k x) l) in
            λ i. record { round = u.round; tile = g.tile; lo = cut_at (lo i) (hi i) u.k d; hi = cut_at (lo i) (hi i) u.k (suc d) })

  abbrev pub group_progs : ℕ → List Op
  group_progs r = by_pos [] (group_ops g u) (g.pos r)

  abbrev pair_headings : ℕ → ℕ → List Heading
  pair_headings a b = cond (mates u a b) (record { round = u.round; tile = g.tile; lo = cut_at (u.lo a) (u.hi a) u.k (digit u.w u.k b); hi = cut_at (u.lo a) (u.hi a) u.k (suc (digit u.w u.k b)) } ∷ []) []

  all_sends : (r : ℕ) (o : Option ℕ) → ((a : ℕ) → o ≡ Some a → a < g.n) → map heading (filter (sends_to r) (exchanges (by_pos [] (group_ops g u) o))) ≡ by_pair pair_headings o (g.pos r)
  all_sends r None l = refl
  all_sends r (Some a) l = sends_are a (l a refl) r

  all_takes : (q : ℕ) (o : Option ℕ) → ((a : ℕ) → o ≡ Some a → a < g.n) → map heading (filter (takes_from q) (exchanges (by_pos [] (group_ops g u) o))) ≡ by_pair pair_headings (g.pos q) o
  all_takes q None l = none_at g team (λ a. []) (λ a. refl) q
  all_takes q (Some b) l = takes_are b (l b refl) q

  all_rise : (o : Option ℕ) → ((a : ℕ) → o ≡ Some a → a < g.n) → IsRising (exchanges (by_pos [] (group_ops g u) o)) × AreWithin (2 * u.round) (2 * suc u.round) (exchanges (by_pos [] (group_ops g u) o))
  all_rise None l = (tt, tt)
  all_rise (Some a) l = rises a (l a refl)

  pub group_part : IsPart group_progs (2 * u.round) (2 * suc u.round)
  group_part = record {
    ordered = omega arith;
    matched = record {
      rising = λ r. (all_rise (g.pos r) (λ a e. (team.forth r a e).1)).0;
      pairs = λ q r. all_sends r (g.pos q) (λ a e. (team.forth q a e).1) ∙ sym (all_takes q (g.pos r) (λ a e. (team.forth r a e).1));
    };
    within = λ r. (all_rise (g.pos r) (λ a e. (team.forth r a e).1)).1;
  }
