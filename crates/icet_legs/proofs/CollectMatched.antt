-- The collection is matched.
use Rattle.std.proofs.Common.{◌≡◌, ℕ, zero, suc, ◌+◌, ◌*◌, ◌<◌, ◌≤◌, Bool, true, false, cond, List, [], ◌∷◌, ◌++◌, map, refl, sym, ap, ◌∙◌, subst, arith, Option, Some, None, eq-eqb, ne_eqb}
use Rattle.std.proofs.lemmas.List.{append-nil, map-append}
use Rattle.std.specs.Prelude.{◌==◌, ◌&&◌, not}
use Rattle.std.specs.List.{AllByRecursion, filter}
use Rattle.icet_legs.proofs.Collects.{each_is}
use Rattle.icet_legs.proofs.Positions.{none_at, one_at, pick_at}
use Rattle.icet_legs.proofs.Tests.{and_both, and_false}
use Rattle.icet_legs.specs.Collect.{Final, collect_ops, fetch_ops, final_ops, final_swap, hands_in, own_ops}
use Rattle.icet_legs.specs.Team.{IsTeam, Team, by_pair, by_pos}
use Rattle.icet_model.specs.Exchange.{Follows, Heading, IsRising, exchanges, heading, key, sends_to, takes_from}
use Rattle.icet_model.specs.declared.exchange.Exchange.{Exchange}
use Rattle.icet_model.specs.declared.exchange.Kind.TheVariants.{Send, Take}
use Rattle.icet_model.specs.declared.exchange.Op.TheVariants.{Keep, Swap}
use Rattle.icet_plan.proofs.Lists.{all_weaker, filter-append}
use Rattle.icet_plan.proofs.LocalRuns.{exchanges-append}
use Rattle.icet_plan.proofs.Segments.{AreWithin, IsPart, all_append}
use Rattle.icet_plan.specs.Each.{each}

module _ (g : Team) (team : IsTeam g) (f : Final) where
  abbrev fetches : ℕ → List Exchange
  fetches b = cond (hands_in f b) (final_swap g f Take b b ∷ []) []

  exchanges_fetch : (b : ℕ) → exchanges (fetch_ops g f b) ≡ fetches b
  exchanges_fetch b = go (hands_in f b)
    where
      go : (t : Bool) → exchanges (cond t (Swap (final_swap g f Take b b) 1 ∷ Keep 1 ∷ []) []) ≡ cond t (final_swap g f Take b b ∷ []) []
      go true = refl
      go false = refl

  exchanges_each : (k : ℕ) → exchanges (each (fetch_ops g f) k) ≡ each fetches k
  exchanges_each zero = refl
  exchanges_each (suc k) = exchanges-append (each (fetch_ops g f) k) (fetch_ops g f k) ∙ (ap (λ z. z ++ exchanges (fetch_ops g f k)) (exchanges_each k) ∙ ap (λ z. each fetches k ++ z) (exchanges_fetch k))

  exchanges_own : exchanges (own_ops f) ≡ []
  exchanges_own = go (f.holds f.shows)
    where
      go : (t : Bool) → exchanges (cond t (Keep 0 ∷ []) []) ≡ []
      go true = refl
      go false = refl

  exchanges_display : exchanges (own_ops f ++ each (fetch_ops g f) g.n) ≡ each fetches g.n
  exchanges_display = exchanges-append (own_ops f) (each (fetch_ops g f) g.n) ∙ (ap (λ z. z ++ exchanges (each (fetch_ops g f) g.n)) exchanges_own ∙ exchanges_each g.n)

  abbrev final_heading : ℕ → Heading
  final_heading a = record { round = f.round; tile = g.tile; lo = f.lo a; hi = f.hi a }

  abbrev headings : ℕ → ℕ → List Heading
  headings a b = cond ((b == f.shows) && hands_in f a) (final_heading a ∷ []) []

  no_sends : (r k : ℕ) → filter (sends_to r) (each fetches k) ≡ []
  no_sends r zero = refl
  no_sends r (suc k) = filter-append (sends_to r) (each fetches k) (fetches k) ∙ (ap (λ z. z ++ filter (sends_to r) (fetches k)) (no_sends r k) ∙ go (hands_in f k))
    where
      go : (t : Bool) → filter (sends_to r) (cond t (final_swap g f Take k k ∷ []) []) ≡ []
      go true = refl
      go false = refl

  headings_each : (q k : ℕ) → map heading (filter (takes_from q) (each fetches k)) ≡ each (λ b. cond (hands_in f b) (one_at (g.who b) (final_heading b) q) []) k
  headings_each q zero = refl
  headings_each q (suc k) =
      ap (map heading) (filter-append (takes_from q) (each fetches k) (fetches k)) ∙ (map-append heading (filter (takes_from q) (each fetches k)) (filter (takes_from q) (fetches k))
      ∙ (ap (λ z. z ++ map heading (filter (takes_from q) (fetches k))) (headings_each q k) ∙ ap (λ z. each (λ b. cond (hands_in f b) (one_at (g.who b) (final_heading b) q) []) k ++ z) (go (hands_in f k))))
    where
      inner : (t : Bool) → map heading (cond t (final_swap g f Take k k ∷ []) []) ≡ cond t (final_heading k ∷ []) []
      inner true = refl
      inner false = refl

      go : (t : Bool) → map heading (filter (takes_from q) (cond t (final_swap g f Take k k ∷ []) [])) ≡ cond t (one_at (g.who k) (final_heading k) q) []
      go true = inner (g.who k == q)
      go false = refl

  own_false : (a : ℕ) → (a == f.shows) ≡ true → hands_in f a ≡ false
  own_false a h = and_false (f.holds a) (not (a == f.shows)) (go (a == f.shows) h)
    where
      go : (x : Bool) → x ≡ true → not x ≡ false
      go true h = refl
      go false h = absurd (cc)

  not_own : (a : ℕ) → (a == f.shows) ≡ false → not (a == f.shows) ≡ true
  not_own a h = go (a == f.shows) h
    where
      go : (x : Bool) → x ≡ false → not x ≡ true
      go true h = absurd (cc)
      go false h = refl

  module _ (shown : f.shows < g.n) where
    sends_are : (r : ℕ) (o : Option ℕ) → map heading (filter (sends_to r) (exchanges (by_pos [] (final_ops g f) o))) ≡ by_pair headings o (g.pos r)
    sends_are r None = refl
    sends_are r (Some a) = go (a == f.shows) refl (f.holds a) refl
      where
        single : (t : Bool) → map heading (cond t (final_swap g f Send f.shows a ∷ []) []) ≡ cond t (final_heading a ∷ []) []
        single true = refl
        single false = refl

        go : (x : Bool) → (a == f.shows) ≡ x → (y : Bool) → f.holds a ≡ y → map heading (filter (sends_to r) (exchanges (cond x (own_ops f ++ each (fetch_ops g f) g.n) (cond y (Swap (final_swap g f Send f.shows a) 0 ∷ []) [])))) ≡ by_pos [] (headings a) (g.pos r)
        go true s y h = ap (λ z. map heading (filter (sends_to r) z)) exchanges_display ∙ (ap (map heading) (no_sends r g.n) ∙ none_at g team (headings a) (λ b. ap (λ z. cond z (final_heading a ∷ []) []) (and_false (b == f.shows) (hands_in f a) (own_false a s))) r)
        go false s true h = single (g.who f.shows == r) ∙ pick_at g team f.shows shown (headings a) (final_heading a)
            (ap (λ z. cond z (final_heading a ∷ []) []) (and_both (f.shows == f.shows) (hands_in f a) (eq-eqb f.shows f.shows refl) (and_both (f.holds a) (not (a == f.shows)) h (not_own a s))))
            (λ b n. ap (λ z. cond (z && hands_in f a) (final_heading a ∷ []) []) (ne_eqb b f.shows n)) r
        go false s false h = none_at g team (headings a) (λ b. ap (λ z. cond z (final_heading a ∷ []) []) (and_false (b == f.shows) (hands_in f a) (ap (λ z. z && not (a == f.shows)) h))) r

    takes_are : (q : ℕ) (o : Option ℕ) → map heading (filter (takes_from q) (exchanges (by_pos [] (final_ops g f) o))) ≡ by_pair headings (g.pos q) o
    takes_are q None = none_at g team (λ a. []) (λ a. refl) q
    takes_are q (Some b) = go (b == f.shows) refl (f.holds b)
      where
        go : (x : Bool) → (b == f.shows) ≡ x → (y : Bool) → map heading (filter (takes_from q) (exchanges (cond x (own_ops f ++ each (fetch_ops g f) g.n) (cond y (Swap (final_swap g f Send f.shows b) 0 ∷ []) [])))) ≡ by_pos [] (λ a. headings a b) (g.pos q)
        go true s y = ap (λ z. map heading (filter (takes_from q) z)) exchanges_display ∙ (headings_each q g.n ∙ (each_is g team (hands_in f) final_heading q ∙ ap (λ z. by_pos [] (λ a. cond (z && hands_in f a) (final_heading a ∷ []) []) (g.pos q)) (sym s)))
        go false s true = none_at g team (λ a. headings a b) (λ a. ap (λ z. cond (z && hands_in f a) (final_heading a ∷ []) []) s) q
        go false s false = none_at g team (λ a. headings a b) (λ a. ap (λ z. cond (z && hands_in f a) (final_heading a ∷ []) []) s) q

    -- the display's takes: one key, different peers
    pub record IsFetch (k : ℕ) (e : Exchange) : Type 0 where
      pub who : ℕ
      pub below : who < k
      pub peer : e.peer ≡ g.who who
      pub key_is : key e ≡ 2 * f.round + 1

    rising_last : (xs : List Exchange) (e : Exchange) → IsRising xs → AllByRecursion (λ x. Follows x e) xs → IsRising (xs ++ e ∷ [])
    rising_last [] e h k = (tt, tt)
    rising_last (x ∷ xs) e h k = (all_append (Follows x) xs (e ∷ []) h.0 (k.0, tt), rising_last xs e h.1 k.1)

    rising_each : (k : ℕ) → k ≤ g.n → IsRising (each fetches k) × AllByRecursion (IsFetch k) (each fetches k)
    rising_each zero l = (tt, tt)
    rising_each (suc k) l = go (hands_in f k) (rising_each k (omega arith))
      where
        more : (es : List Exchange) → AllByRecursion (IsFetch k) es → AllByRecursion (IsFetch (suc k)) es
        more es h = all_weaker (IsFetch k) (IsFetch (suc k)) (λ e w. record { who = w.who; below = omega (arith, w.below); peer = w.peer; key_is = w.key_is }) es h

        go : (t : Bool) → IsRising (each fetches k) × AllByRecursion (IsFetch k) (each fetches k) → IsRising (each fetches k ++ cond t (final_swap g f Take k k ∷ []) []) × AllByRecursion (IsFetch (suc k)) (each fetches k ++ cond t (final_swap g f Take k k ∷ []) [])
        go false h = (subst IsRising (sym (append-nil (each fetches k))) h.0, subst (AllByRecursion (IsFetch (suc k))) (sym (append-nil (each fetches k))) (more (each fetches k) h.1))
        go true h = (
          rising_last (each fetches k) (final_swap g f Take k k) h.0
              (all_weaker (IsFetch k) (λ x. Follows x (final_swap g f Take k k))
              (λ x w. record {
                later = omega (arith, w.key_is);
                apart = λ s. absurd (
                    let a : g.who w.who ≡ g.who k = sym w.peer ∙ s in
                    let b = team.back w.who (omega (arith, w.below, l)) in
                    let d = team.back k (omega arith) in
                    let m : Some w.who ≡ Some k = sym b ∙ (ap g.pos a ∙ d) in
                    let n : w.who ≡ k = cc in omega (arith, n, w.below));
              })
              (each fetches k) h.1),
          all_append (IsFetch (suc k)) (each fetches k) (final_swap g f Take k k ∷ []) (more (each fetches k) h.1) (record { who = k; below = omega arith; peer = refl; key_is = refl }, tt),
        )

    within_each : AreWithin (2 * f.round) (2 * suc f.round) (each fetches g.n)
    within_each = all_weaker (IsFetch g.n) (λ e. (2 * f.round ≤ key e) × (key e < 2 * suc f.round)) (λ e w. (omega (arith, w.key_is), omega (arith, w.key_is))) (each fetches g.n) (rising_each g.n (omega arith)).1

    alone : (o : Option ℕ) → IsRising (exchanges (by_pos [] (final_ops g f) o)) × AreWithin (2 * f.round) (2 * suc f.round) (exchanges (by_pos [] (final_ops g f) o))
    alone None = (tt, tt)
    alone (Some a) = go (a == f.shows) (f.holds a)
      where
        go : (x y : Bool) → IsRising (exchanges (cond x (own_ops f ++ each (fetch_ops g f) g.n) (cond y (Swap (final_swap g f Send f.shows a) 0 ∷ []) []))) × AreWithin (2 * f.round) (2 * suc f.round) (exchanges (cond x (own_ops f ++ each (fetch_ops g f) g.n) (cond y (Swap (final_swap g f Send f.shows a) 0 ∷ []) [])))
        go true y = (subst IsRising (sym exchanges_display) (rising_each g.n (omega arith)).0, subst (AreWithin (2 * f.round) (2 * suc f.round)) (sym exchanges_display) within_each)
        go false true = ((tt, tt), ((omega arith, omega arith), tt))
        go false false = (tt, tt)

    pub collect_part : IsPart (collect_ops g f) (2 * f.round) (2 * suc f.round)
    collect_part = record {
      ordered = omega arith;
      matched = record { rising = λ r. (alone (g.pos r)).0; pairs = λ q r. sends_are r (g.pos q) ∙ sym (takes_are q (g.pos r)) };
      within = λ r. (alone (g.pos r)).1;
    }
