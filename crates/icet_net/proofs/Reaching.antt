-- The pairs of a plan are opened one after the other: sender by sender, and for each receiver by receiver.
use Rattle.std.proofs.Common.{◌≡◌, ◌≢◌, ℕ, zero, suc, ◌+◌, ◌<◌, ◌≤◌, List, [], ◌∷◌, ◌++◌, length, get_or, set, replicate, refl, sym, ap, ◌∙◌, subst, arith, Some, None, inl, inr, length-append}
use Rattle.std.specs.Prelude.{◌⊎◌}
use Rattle.std.specs.List.{flat_map, range_with_len}
use Rattle.std.proofs.lemmas.List.{get_or-set_same, get_or-set_other, length-set, get_or_append_left, get_or-append-add, append_assoc, append-nil}
use Rattle.icet_model.specs.Wires.{PortView}
use Rattle.icet_model.specs.Plan.{PlanView}
use Rattle.icet_rank.proofs.PortMoves.{by_port}
use Rattle.icet_net.specs.Net.{messages_on, pair_if, pairs_from}
use Rattle.icet_net.specs.Opening.{AreNewPorts, IsOpenedPair, KeepsPortsBut, ports_of}
use Rattle.icet_net.proofs.NewPorts.{none_new}
use Rattle.icet_model.proofs.Numbers.{same_or_not}
use Rattle.icet_model.proofs.Lists.{any_default}

range_more : {X : Type 0} (f : ℕ → List X) (a n : ℕ) → flat_map f (range_with_len a (suc n)) ≡ flat_map f (range_with_len a n) ++ f (a + n)
range_more f a zero = append-nil (f a) ∙ ap f (let e : a ≡ a + 0 = omega arith in e)
range_more f a (suc n) = ap (λ xs. f a ++ xs) (range_more f (a + 1) n) ∙ (sym (append_assoc (f a) (flat_map f (range_with_len (a + 1) n)) (f (a + 1 + n))) ∙ ap (λ k. (f a ++ flat_map f (range_with_len (a + 1) n)) ++ f k) (let e : a + 1 + n ≡ a + suc n = omega arith in e))

pub from_more : {X : Type 0} (f : ℕ → List X) (n : ℕ) → flat_map f (range_with_len 0 (n + 1)) ≡ flat_map f (range_with_len 0 n) ++ f n
from_more f n = ap (λ k. flat_map f (range_with_len 0 k)) (let e : n + 1 ≡ suc n = omega arith in e) ∙ (range_more f 0 n ∙ ap (λ k. flat_map f (range_with_len 0 n) ++ f k) (let e : 0 + n ≡ n = omega arith in e))

module _ where
  set_here : (lists : List (List (ℕ × PortView))) (i : ℕ) (x : List (ℕ × PortView)) → i < length lists → ports_of (set lists i x) i ≡ x
  set_here lists i x l = get_or-set_same lists i x [] l

  set_there : (lists : List (List (ℕ × PortView))) (i k : ℕ) (x : List (ℕ × PortView)) → k ≢ i → ports_of (set lists i x) k ≡ ports_of lists k
  set_there lists i k x n = get_or-set_other lists i k x [] n

  kept_trans : (peer : ℕ) (a b c : List (ℕ × PortView)) → KeepsPortsBut peer a b → KeepsPortsBut peer b c → KeepsPortsBut peer a c
  kept_trans peer a b c f g = record { others = λ k n. g.others k n ∙ f.others k n }

  pub kept_none : (peer : ℕ) (a : List (ℕ × PortView)) → KeepsPortsBut peer a a
  kept_none peer a = record { others = λ k n. refl }

module _ (plan : PlanView) (cap : ℕ) where
  -- the sender's pairs with the receivers below `to` are open
  pub record Reaches (from to : ℕ) (before ins : List (List (ℕ × PortView))) (outs : List (ℕ × PortView)) : Type 0 where
    pub in_count : length ins ≡ length plan.programs
    pub reached : (r : ℕ) → r < to → AreNewPorts (λ q. messages_on plan q r) (from + 1) (ports_of ins r)
    pub left : (r : ℕ) → to ≤ r → r < length plan.programs → AreNewPorts (λ q. messages_on plan q r) from (ports_of ins r)
    pub others : (r : ℕ) → KeepsPortsBut from (ports_of before r) (ports_of ins r)
    pub new_outs : AreNewPorts (λ r. messages_on plan from r) to outs
    pub paired : (r : ℕ) → r < to → 0 < messages_on plan from r → IsOpenedPair cap from r outs (ports_of ins r)

  pub reaches_none : (from : ℕ) (ins : List (List (ℕ × PortView))) → length ins ≡ length plan.programs → ((r : ℕ) → r < length plan.programs → AreNewPorts (λ q. messages_on plan q r) from (ports_of ins r)) → Reaches from 0 ins ins []
  reaches_none from ins c h = record {
    in_count = c;
    reached = λ r l. absurd (omega (arith, l));
    left = λ r l m. h r m;
    others = λ r. kept_none from (ports_of ins r);
    new_outs = none_new (λ r. messages_on plan from r);
    paired = λ r l. absurd (omega (arith, l));
  }

  module _ (from to total : ℕ) (before ins : List (List (ℕ × PortView))) (outs new_outs : List (ℕ × PortView)) (x : List (ℕ × PortView)) (within : to < length plan.programs) (is_total : messages_on plan from to ≡ total) (h : Reaches from to before ins outs) (new_in : (count : ℕ → ℕ) → count from ≡ total → AreNewPorts count from (ports_of ins to) → AreNewPorts count (from + 1) x) (new_out : (count : ℕ → ℕ) → count to ≡ total → AreNewPorts count to outs → AreNewPorts count (to + 1) new_outs) (out_others : KeepsPortsBut to outs new_outs) (in_others : KeepsPortsBut from (ports_of ins to) x) (pair : (a b : ℕ → ℕ) → 0 < total → AreNewPorts a to outs → AreNewPorts b from (ports_of ins to) → IsOpenedPair cap from to new_outs x) where
    room_there : to < length ins
    room_there = let e = h.in_count in omega (arith, e, within)

    here : ports_of (set ins to x) to ≡ x
    here = set_here ins to x room_there

    old_in : AreNewPorts (λ q. messages_on plan q to) from (ports_of ins to)
    old_in = h.left to (omega arith) within

    pub reaches_more : Reaches from (to + 1) before (set ins to x) new_outs
    reaches_more = record {
      in_count = length-set ins to x ∙ h.in_count;
      reached = λ r l. reached_at r l (same_or_not r to);
      left = λ r l m. subst (AreNewPorts (λ q. messages_on plan q r) from) (sym (set_there ins to r x (λ e. omega (arith, e, l)))) (h.left r (omega (arith, l)) m);
      others = λ r. others_at r (same_or_not r to);
      new_outs = new_out (λ r. messages_on plan from r) is_total h.new_outs;
      paired = λ r l u. paired_at r l u (same_or_not r to);
    }
      where
        reached_at : (r : ℕ) → r < to + 1 → (r ≡ to) ⊎ (r ≢ to) → AreNewPorts (λ q. messages_on plan q r) (from + 1) (ports_of (set ins to x) r)
        reached_at r l (inl e) = subst (λ k. AreNewPorts (λ q. messages_on plan q k) (from + 1) (ports_of (set ins to x) k)) (sym e) (subst (AreNewPorts (λ q. messages_on plan q to) (from + 1)) (sym here) (new_in (λ q. messages_on plan q to) is_total old_in))
        reached_at r l (inr n) = subst (AreNewPorts (λ q. messages_on plan q r) (from + 1)) (sym (set_there ins to r x n)) (h.reached r (omega (arith, l, n)))

        others_at : (r : ℕ) → (r ≡ to) ⊎ (r ≢ to) → KeepsPortsBut from (ports_of before r) (ports_of (set ins to x) r)
        others_at r (inl e) = subst (λ k. KeepsPortsBut from (ports_of before k) (ports_of (set ins to x) k)) (sym e) (subst (KeepsPortsBut from (ports_of before to)) (sym here) (kept_trans from (ports_of before to) (ports_of ins to) x (h.others to) in_others))
        others_at r (inr n) = subst (KeepsPortsBut from (ports_of before r)) (sym (set_there ins to r x n)) (h.others r)

        paired_at : (r : ℕ) → r < to + 1 → 0 < messages_on plan from r → (r ≡ to) ⊎ (r ≢ to) → IsOpenedPair cap from r new_outs (ports_of (set ins to x) r)
        paired_at r l u (inl e) = subst (λ k. IsOpenedPair cap from k new_outs (ports_of (set ins to x) k)) (sym e) (subst (IsOpenedPair cap from to new_outs) (sym here) (pair (λ k. messages_on plan from k) (λ q. messages_on plan q to) (subst (λ k. 0 < k) (ap (messages_on plan from) e ∙ is_total) u) h.new_outs old_in))
        paired_at r l u (inr n) =
            let p = h.paired r (omega (arith, l, n)) u in
            subst (IsOpenedPair cap from r new_outs) (sym (set_there ins to r x n)) (record {
              pairing = p.pairing;
              out = by_port (λ (z : PortView). Some z.pairing) None outs new_outs r (out_others.others r (λ z. n (sym z))) ∙ p.out;
              inbox = p.inbox;
              from_is = p.from_is;
              to_is = p.to_is;
              cap_is = p.cap_is;
            })

  -- the same from what code reads: the receiver's number of messages, and its inboxes
  pub reaches_at : (from to total : ℕ) (before ins : List (List (ℕ × PortView))) (outs new_outs : List (ℕ × PortView)) (x y d : List (ℕ × PortView)) (counts : List ℕ) (n : ℕ) → to < length plan.programs → length counts ≡ length plan.programs → ((r : ℕ) → r < length plan.programs → get_or counts r 0 ≡ messages_on plan from r) → total ≡ get_or counts to n → y ≡ get_or ins to d → Reaches from to before ins outs → ((count : ℕ → ℕ) → count from ≡ total → AreNewPorts count from y → AreNewPorts count (from + 1) x) → ((count : ℕ → ℕ) → count to ≡ total → AreNewPorts count to outs → AreNewPorts count (to + 1) new_outs) → KeepsPortsBut to outs new_outs → KeepsPortsBut from y x → ((a b : ℕ → ℕ) → 0 < total → AreNewPorts a to outs → AreNewPorts b from y → IsOpenedPair cap from to new_outs x) → Reaches from (to + 1) before (set ins to x) new_outs
  reaches_at from to total before ins outs new_outs x y d counts n l c counted t yd h new_in new_out oo io pair =
      let e : y ≡ ports_of ins to = yd ∙ any_default ins to d [] (let k = h.in_count in omega (arith, k, l)) in
      let is_total : messages_on plan from to ≡ total = sym (counted to l) ∙ (any_default counts to 0 n (omega (arith, c, l)) ∙ sym t) in
      reaches_more from to total before ins outs new_outs x l is_total h (subst (λ z. (count : ℕ → ℕ) → count from ≡ total → AreNewPorts count from z → AreNewPorts count (from + 1) x) e new_in) new_out oo (subst (λ z. KeepsPortsBut from z x) e io) (subst (λ z. (a b : ℕ → ℕ) → 0 < total → AreNewPorts a to outs → AreNewPorts b from z → IsOpenedPair cap from to new_outs x) e pair)

  -- the pairs of the senders below `from` are open
  pub record Opens (from : ℕ) (ins : List (List (ℕ × PortView))) (outs : List (List (ℕ × PortView))) : Type 0 where
    pub in_count : length ins ≡ length plan.programs
    pub out_count : length outs ≡ from
    pub new_ins : (r : ℕ) → r < length plan.programs → AreNewPorts (λ q. messages_on plan q r) from (ports_of ins r)
    pub new_outs : (q : ℕ) → q < from → AreNewPorts (λ r. messages_on plan q r) (length plan.programs) (ports_of outs q)
    pub paired : (q r : ℕ) → q < from → r < length plan.programs → 0 < messages_on plan q r → IsOpenedPair cap q r (ports_of outs q) (ports_of ins r)

  empty_at : (n r : ℕ) → ports_of {P = PortView} (replicate n []) r ≡ []
  empty_at zero r = refl
  empty_at (suc n) zero = refl
  empty_at (suc n) (suc r) = empty_at n r

  pub opens_none : (ins : List (List (ℕ × PortView))) → ins ≡ replicate (length plan.programs) [] → length ins ≡ length plan.programs → Opens 0 ins []
  opens_none ins e c = record {
    in_count = c;
    out_count = refl;
    new_ins = λ r l. subst (AreNewPorts (λ q. messages_on plan q r) 0) (sym (ap (λ xs. ports_of xs r) e ∙ empty_at (length plan.programs) r)) (none_new (λ q. messages_on plan q r));
    new_outs = λ q l. absurd (omega (arith, l));
    paired = λ q r l. absurd (omega (arith, l));
  }

  module _ (from : ℕ) (ins new_ins : List (List (ℕ × PortView))) (outs : List (List (ℕ × PortView))) (x : List (ℕ × PortView)) (h : Opens from ins outs) (count : length new_ins ≡ length plan.programs) (news : (r : ℕ) → r < length plan.programs → AreNewPorts (λ q. messages_on plan q r) (from + 1) (ports_of new_ins r)) (others : (r : ℕ) → KeepsPortsBut from (ports_of ins r) (ports_of new_ins r)) (new_out : AreNewPorts (λ r. messages_on plan from r) (length plan.programs) x) (pairs : (r : ℕ) → r < length plan.programs → 0 < messages_on plan from r → IsOpenedPair cap from r x (ports_of new_ins r)) where
    last_here : ports_of (outs ++ x ∷ []) from ≡ x
    last_here = ap (λ n. ports_of (outs ++ x ∷ []) n) (let c = h.out_count in let e : from ≡ length outs + 0 = omega (arith, c) in e) ∙ get_or-append-add outs (x ∷ []) 0 []

    last_there : (q : ℕ) → q < from → ports_of (outs ++ x ∷ []) q ≡ ports_of outs q
    last_there q l = get_or_append_left outs (x ∷ []) [] q (let c = h.out_count in omega (arith, c, l))

    pub opens_more : Opens (from + 1) new_ins (outs ++ x ∷ [])
    opens_more = record {
      in_count = count;
      out_count = let c = h.out_count in let e = length-append outs (x ∷ []) in omega (arith, c, e);
      new_ins = news;
      new_outs = λ q l. outs_at q l (same_or_not q from);
      paired = λ q r l m u. paired_at q r l m u (same_or_not q from);
    }
      where
        outs_at : (q : ℕ) → q < from + 1 → (q ≡ from) ⊎ (q ≢ from) → AreNewPorts (λ r. messages_on plan q r) (length plan.programs) (ports_of (outs ++ x ∷ []) q)
        outs_at q l (inl e) = subst (λ k. AreNewPorts (λ r. messages_on plan k r) (length plan.programs) (ports_of (outs ++ x ∷ []) k)) (sym e) (subst (AreNewPorts (λ r. messages_on plan from r) (length plan.programs)) (sym last_here) new_out)
        outs_at q l (inr n) = subst (AreNewPorts (λ r. messages_on plan q r) (length plan.programs)) (sym (last_there q (omega (arith, l, n)))) (h.new_outs q (omega (arith, l, n)))

        paired_at : (q r : ℕ) → q < from + 1 → r < length plan.programs → 0 < messages_on plan q r → (q ≡ from) ⊎ (q ≢ from) → IsOpenedPair cap q r (ports_of (outs ++ x ∷ []) q) (ports_of new_ins r)
        paired_at q r l m u (inl e) = subst (λ k. IsOpenedPair cap k r (ports_of (outs ++ x ∷ []) k) (ports_of new_ins r)) (sym e) (subst (λ z. IsOpenedPair cap from r z (ports_of new_ins r)) (sym last_here) (pairs r m (subst (λ k. 0 < messages_on plan k r) e u)))
        paired_at q r l m u (inr n) =
            let p = h.paired q r (omega (arith, l, n)) m u in
            subst (λ z. IsOpenedPair cap q r z (ports_of new_ins r)) (sym (last_there q (omega (arith, l, n)))) (record {
              pairing = p.pairing;
              out = p.out;
              inbox = by_port (λ (z : PortView). Some z.pairing) None (ports_of ins r) (ports_of new_ins r) q ((others r).others q (λ z. n (sym z))) ∙ p.inbox;
              from_is = p.from_is;
              to_is = p.to_is;
              cap_is = p.cap_is;
            })

-- the row of pairs with one more
pub pairs_more : (plan : PlanView) (before after : List (ℕ × ℕ)) (from to total : ℕ) → messages_on plan from to ≡ total → after ≡ before ++ pair_if from to total → (start : List (ℕ × ℕ)) → before ≡ start ++ pairs_from plan to from → after ≡ start ++ pairs_from plan (to + 1) from
pairs_more plan before after from to total t e start b = e ∙ (ap (λ xs. xs ++ pair_if from to total) b ∙ (append_assoc start (pairs_from plan to from) (pair_if from to total) ∙ ap (λ xs. start ++ xs) (ap (λ n. pairs_from plan to from ++ pair_if from to n) (sym t) ∙ sym (from_more (λ r. pair_if from r (messages_on plan from r)) to))))

pub pairs_count : (plan : PlanView) (from to total : ℕ) → messages_on plan from to ≡ total → length (pairs_from plan (to + 1) from) ≡ length (pairs_from plan to from) + length (pair_if from to total)
pairs_count plan from to total t = ap length (from_more (λ r. pair_if from r (messages_on plan from r)) to) ∙ (length-append (pairs_from plan to from) (pair_if from to (messages_on plan from to)) ∙ ap (λ n. length (pairs_from plan to from) + length (pair_if from to n)) t)

pub total_is : (plan : PlanView) (from to total n : ℕ) (counts : List ℕ) → to < length plan.programs → length counts ≡ length plan.programs → ((r : ℕ) → r < length plan.programs → get_or counts r 0 ≡ messages_on plan from r) → total ≡ get_or counts to n → messages_on plan from to ≡ total
total_is plan from to total n counts l c counted t = sym (counted to l) ∙ (any_default counts to 0 n (omega (arith, c, l)) ∙ sym t)

pub owed_more : (plan : PlanView) (from to total before now start : ℕ) → messages_on plan from to ≡ total → now ≡ before + length (pair_if from to total) → before ≡ start + length (pairs_from plan to from) → now ≡ start + length (pairs_from plan (to + 1) from)
owed_more plan from to total before now start t a b = let d = pairs_count plan from to total t in omega (arith, a, b, d)

-- the pairs of one sender more
pub senders_more : (plan : PlanView) (before after : List (ℕ × ℕ)) (from : ℕ) → after ≡ before ++ pairs_from plan (length plan.programs) from → before ≡ flat_map (pairs_from plan (length plan.programs)) (range_with_len 0 from) → after ≡ flat_map (pairs_from plan (length plan.programs)) (range_with_len 0 (from + 1))
senders_more plan before after from e b = e ∙ (ap (λ xs. xs ++ pairs_from plan (length plan.programs) from) b ∙ sym (from_more (pairs_from plan (length plan.programs)) from))

pub senders_owed : (plan : PlanView) (from before now start : ℕ) → now ≡ before + length (pairs_from plan (length plan.programs) from) → before ≡ start + length (flat_map (pairs_from plan (length plan.programs)) (range_with_len 0 from)) → now ≡ start + length (flat_map (pairs_from plan (length plan.programs)) (range_with_len 0 (from + 1)))
senders_owed plan from before now start a b =
    let d = ap length (from_more (pairs_from plan (length plan.programs)) from) in
    let e = length-append (flat_map (pairs_from plan (length plan.programs)) (range_with_len 0 from)) (pairs_from plan (length plan.programs) from) in
    omega (arith, a, b, d, e)
