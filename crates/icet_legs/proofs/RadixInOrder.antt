-- The rounds of groups in order.
use Rattle.std.proofs.Common.{◌≡◌, ℕ, zero, suc, ◌+◌, ◌*◌, ◌/◌, ◌<◌, ◌≤◌, Bool, true, false, cond, List, [], ◌∷◌, ◌++◌, refl, sym, ap, ◌∙◌, subst, arith, Option, Some, inr}
use Rattle.std.proofs.lemmas.List.{append-nil}
use Rattle.std.proofs.Math.Nat.{mul-le-mul_left}
use Rattle.std.specs.Prelude.{◌==◌}
use Rattle.std.specs.List.{AllByRecursion}
use Rattle.icet_model.specs.declared.exchange.Kind.TheVariants.{Send, Take}
use Rattle.icet_model.specs.declared.exchange.Exchange.{Exchange}
use Rattle.icet_model.specs.Exchange.{exchanges, key}
use Rattle.icet_plan.proofs.Segments.{all_append}
use Rattle.icet_legs.specs.Team.{Team, IsTeam, by_pos}
use Rattle.icet_legs.specs.Group.{Group, digit, group_ops, group_swap, member}
use Rattle.icet_legs.specs.Radix.{group_at, radix_ops}
use Rattle.icet_legs.specs.Order.{AreInOrder, Before, IsLower}
use Rattle.icet_legs.proofs.InOrder.{order_append, order_last, order_ops}
use Rattle.icet_legs.proofs.Radixes.{AreFactors, is_group, radix_part}
use Rattle.icet_legs.proofs.GroupMatched.{IsOne, all_exchanges, group_part, in_round, sending, taking}
use Rattle.icet_legs.proofs.Groups.{IsGroup}
use Rattle.icet_plan.specs.Each.{each}
use Rattle.icet_plan.proofs.Lists.{all_weaker}

-- rounds in order, where each is
pub order_radix : (place : ℕ → Option ℕ) (g : Team) (team : IsTeam g) (factor : ℕ → ℕ) (m : ℕ) (f : AreFactors g factor m) (r : ℕ) → ((i : ℕ) → i < m → AreInOrder place (exchanges (by_pos [] (group_ops g (group_at g factor i)) (g.pos r)))) → (k : ℕ) → k ≤ m → AreInOrder place (exchanges (radix_ops g factor k r))
order_radix place g team factor m f r one zero l = tt
order_radix place g team factor m f r one (suc k) l =
    order_ops place (2 * (g.first + 0)) (2 * (g.first + k)) (2 * suc (g.first + k)) (radix_ops g factor k r) (by_pos [] (group_ops g (group_at g factor k)) (g.pos r))
    (order_radix place g team factor m f r one k (omega arith)) (one k (omega arith))
    ((radix_part g factor m f team k (omega arith)).within r) ((group_part g team (group_at g factor k) (is_group g factor m f k (omega arith))).within r)

-- a round of groups: the sends by the place of the member, and then the takes so
module _ (g : Team) (team : IsTeam g) (u : Group) (is : IsGroup g u) (p : ℕ) (below : p < g.n) where
  climbs : (i j : ℕ) → i < j → member u.w u.k p i < member u.w u.k p j
  climbs i j l =
      let w = is.wide in
      let b = p / u.w / u.k * u.k in
      let step : b + suc i ≤ b + j = omega arith in
      let up = mul-le-mul_left u.w step in
      omega (arith, up, w)

  ordered_of : (n : ℕ) (make : ℕ → Exchange) → ((h : ℕ) → (make h).peer ≡ g.who (member u.w u.k p h)) → ((h : ℕ) → key (make h) ≡ n) → (k : ℕ) → k ≤ u.k → AreInOrder g.pos (each (λ h. cond (h == digit u.w u.k p) [] (make h ∷ [])) k) × AllByRecursion (IsOne g team u is p below n k) (each (λ h. cond (h == digit u.w u.k p) [] (make h ∷ [])) k)
  ordered_of n make peers keys zero l = (tt, tt)
  ordered_of n make peers keys (suc k) l = go (k == digit u.w u.k p) (ordered_of n make peers keys k (omega arith))
    where
      es : List Exchange
      es = each (λ h. cond (h == digit u.w u.k p) [] (make h ∷ [])) k

      more : (xs : List Exchange) → AllByRecursion (IsOne g team u is p below n k) xs → AllByRecursion (IsOne g team u is p below n (suc k)) xs
      more xs h = all_weaker (IsOne g team u is p below n k) (IsOne g team u is p below n (suc k)) (λ e w. record { who = w.who; before = (let b = w.before in omega (arith, b)); peer = w.peer; key_is = w.key_is }) xs h

      before : (e : Exchange) → IsOne g team u is p below n k e → Before g.pos e (make k)
      before e w =
          let b = w.before in
          let low : w.who < u.k = omega (arith, b, l) in
          let one : g.pos e.peer ≡ Some (member u.w u.k p w.who) = ap g.pos w.peer ∙ team.back (member u.w u.k p w.who) (is.inside p w.who below low) in
          let two : g.pos (make k).peer ≡ Some (member u.w u.k p k) = ap g.pos (peers k) ∙ team.back (member u.w u.k p k) (is.inside p k below (omega arith)) in
          inr (w.key_is ∙ sym (keys k), subst (λ o. IsLower o (g.pos (make k).peer)) (sym one) (subst (λ o. IsLower (Some (member u.w u.k p w.who)) o) (sym two) (climbs w.who k b)))

      go : (t : Bool) → AreInOrder g.pos es × AllByRecursion (IsOne g team u is p below n k) es → AreInOrder g.pos (es ++ cond t [] (make k ∷ [])) × AllByRecursion (IsOne g team u is p below n (suc k)) (es ++ cond t [] (make k ∷ []))
      go true h = (subst (AreInOrder g.pos) (sym (append-nil es)) h.0, subst (AllByRecursion (IsOne g team u is p below n (suc k))) (sym (append-nil es)) (more es h.1))
      go false h = (
        order_last g.pos es (make k) h.0 (all_weaker (IsOne g team u is p below n k) (λ x. Before g.pos x (make k)) before es h.1),
        all_append (IsOne g team u is p below n (suc k)) es (make k ∷ []) (more es h.1) (record { who = k; before = omega arith; peer = peers k; key_is = keys k }, tt),
      )

  pub order_group : AreInOrder g.pos (exchanges (group_ops g u p))
  order_group =
      let R = 2 * u.round in
      let sends = ordered_of R (λ h. group_swap g u Send (member u.w u.k p h) p h) (λ h. refl) (λ h. refl) u.k (omega arith) in
      let takes = ordered_of (R + 1) (λ h. group_swap g u Take (member u.w u.k p h) p (digit u.w u.k p)) (λ h. refl) (λ h. refl) u.k (omega arith) in
      subst (AreInOrder g.pos) (sym (all_exchanges g team u is p below))
      (order_append g.pos R (R + 1) (2 * suc u.round) (each (sending g team u is p below) u.k) (each (taking g team u is p below) u.k) sends.0 takes.0
      (in_round g team u is p below R R (R + 1) (omega arith) (omega arith) (each (sending g team u is p below) u.k) sends.1)
      (in_round g team u is p below (R + 1) (R + 1) (2 * suc u.round) (omega arith) (omega arith) (each (taking g team u is p below) u.k) takes.1))
