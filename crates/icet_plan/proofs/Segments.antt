-- Programs one behind the other: what each part does alone is what it does there.
use Rattle.std.proofs.Common.{◌≡◌, ℕ, suc, ◌+◌, ◌<◌, ◌≤◌, Bool, true, false, cond, List, [], ◌∷◌, ◌++◌, map, length, refl, sym, ap, ◌∙◌, subst, arith, Option, Some, None, length-append, eqb-true}
use Rattle.std.proofs.lemmas.List.{append_assoc, append-nil, map-append}
use Rattle.std.specs.Prelude.{◌==◌}
use Rattle.std.specs.List.{AllByRecursion, filter, slice_get}
use mathlib.Core.Path.{fun_ext}
use Rattle.icet_model.specs.declared.exchange.Kind.{Kind}
use Rattle.icet_model.specs.declared.exchange.Kind.TheVariants.{Send, Take}
use Rattle.icet_model.specs.declared.exchange.Exchange.{Exchange}
use Rattle.icet_model.specs.declared.exchange.Op.{Op}
use Rattle.icet_model.specs.declared.exchange.Op.TheVariants.{Load, Blank, Cut, Join, Swap, Keep}
use Rattle.icet_model.specs.Exchange.{key, sends_to, takes_from, heading, Follows, IsRising}
use Rattle.icet_model.specs.Exchange.{of_op, exchanges}
use Rattle.icet_model.specs.Run.{Carrier, Piece, MessageView, Local, put, given, with_kept, message_of, swapped, step, taken_by, message_for, run}
use Rattle.icet_model.specs.Flow.{Messages, IsFlow}
use Rattle.icet_plan.proofs.Lists.{all_weaker, filter-append, slice_get_append}
use Rattle.icet_plan.proofs.LocalRuns.{exchanges-append, run-append, run_uses, step_uses}
use Rattle.icet_plan.proofs.SomeEnabled.{one_passes, take_is}
use Rattle.icet_plan.proofs.FlowIsOne.{AreMatched}
use Rattle.icet_plan.proofs.CarrierImages.{local_same}
use Rattle.icet_model.specs.Fit.{Tiles, shape_at, AllFit}
use Rattle.icet_plan.proofs.Shapes.{fits_anyhow}

abbrev pub shift : {T : Type 0} → List (Piece T) → (ℕ → List (MessageView T)) → (ℕ → ℕ) → Local T → Local T
shift K S U s = record { slots = s.slots; kept = K ++ s.kept; sent = λ r. S r ++ s.sent r; used = λ p. U p + s.used p }

slice_get_behind : {X : Type 0} (xs ys : List X) (n j : ℕ) → n ≡ length xs → slice_get (xs ++ ys) (n + j) ≡ slice_get ys j
slice_get_behind [] ys n j e = ap (slice_get ys) (let z : n + j ≡ j = omega arith in z)
slice_get_behind (x ∷ xs) ys n j e = ap (slice_get (x ∷ (xs ++ ys))) (let z : n + j ≡ suc (length xs + j) = omega arith in z) ∙ slice_get_behind xs ys (length xs) j refl

module _ {T : Type 0} (c : Carrier T) (me : ℕ) where
  module _ (K : List (Piece T)) (S : ℕ → List (MessageView T)) (U : ℕ → ℕ) where
    put_sent : (f : ℕ → List (MessageView T)) (i : ℕ) (m : MessageView T) → put (λ r. S r ++ f r) i ((S i ++ f i) ++ m ∷ []) ≡ (λ r. S r ++ put f i (f i ++ m ∷ []) r)
    put_sent f i m = fun_ext (λ r. go r (i == r) refl)
      where
        go : (r : ℕ) (b : Bool) → (i == r) ≡ b → cond b ((S i ++ f i) ++ m ∷ []) (S r ++ f r) ≡ S r ++ cond b (f i ++ m ∷ []) (f r)
        go r true e = ap (λ z. (S z ++ f z) ++ m ∷ []) (eqb-true i r e) ∙ (append_assoc (S r) (f r) (m ∷ []) ∙ ap (λ z. S r ++ (f z ++ m ∷ [])) (sym (eqb-true i r e)))
        go r false e = refl

    put_used : (f : ℕ → ℕ) (i : ℕ) → put (λ p. U p + f p) i (suc (U i + f i)) ≡ (λ p. U p + put f i (suc (f i)) p)
    put_used f i = fun_ext (λ r. go r (i == r) refl)
      where
        go : (r : ℕ) (b : Bool) → (i == r) ≡ b → cond b (suc (U i + f i)) (U r + f r) ≡ U r + cond b (suc (f i)) (f r)
        go r true e = let a = ap U (eqb-true i r e) in omega (arith, a)
        go r false e = refl

    keep_shift : (kept : List (Piece T)) (o : Option (Piece T)) → with_kept (K ++ kept) o ≡ K ++ with_kept kept o
    keep_shift kept None = refl
    keep_shift kept (Some p) = append_assoc K kept (p ∷ [])

    swap_shift : (m : Option (MessageView T)) (k : Kind) (e : Exchange) (slot : ℕ) (s : Local T) → swapped c me m k e slot (shift K S U s) ≡ shift K S U (swapped c me m k e slot s)
    swap_shift m Send e slot s = local_same (swapped c me m Send e slot (shift K S U s)) (shift K S U (swapped c me m Send e slot s)) refl refl (put_sent s.sent e.peer (message_of e me (given c e (s.slots slot)))) refl
    swap_shift m Take e slot s = local_same (swapped c me m Take e slot (shift K S U s)) (shift K S U (swapped c me m Take e slot s)) refl refl refl (put_used s.used e.peer)

    step_shift : (m : Option (MessageView T)) (op : Op) (s : Local T) → step c me m op (shift K S U s) ≡ shift K S U (step c me m op s)
    step_shift m (Load t slot) s = refl
    step_shift m (Blank t slot) s = refl
    step_shift m (Cut slot at into) s = refl
    step_shift m (Join front back into) s = refl
    step_shift m (Swap e slot) s = swap_shift m e.kind e slot s
    step_shift m (Keep slot) s = local_same (step c me m (Keep slot) (shift K S U s)) (shift K S U (step c me m (Keep slot) s)) refl (keep_shift s.kept (s.slots slot)) refl refl

    module _ (a b : ℕ → List (MessageView T)) (long : (p : ℕ) → U p ≡ length (a p)) where
      taken_shift : (used : ℕ → ℕ) (k : Kind) (peer : ℕ) → taken_by (λ p. a p ++ b p) (λ p. U p + used p) k peer ≡ taken_by b used k peer
      taken_shift used Send peer = refl
      taken_shift used Take peer = slice_get_behind (a peer) (b peer) (U peer) (used peer) (long peer)

      message_shift : (used : ℕ → ℕ) (op : Op) → message_for (λ p. a p ++ b p) (λ p. U p + used p) op ≡ message_for b used op
      message_shift used (Load t slot) = refl
      message_shift used (Blank t slot) = refl
      message_shift used (Cut slot at into) = refl
      message_shift used (Join front back into) = refl
      message_shift used (Swap e slot) = taken_shift used e.kind e.peer
      message_shift used (Keep slot) = refl

      pub run_shift : (ops : List Op) (s : Local T) → run c me (λ p. a p ++ b p) ops (shift K S U s) ≡ shift K S U (run c me b ops s)
      run_shift [] s = refl
      run_shift (op ∷ ops) s =
          ap (λ o. run c me (λ p. a p ++ b p) ops (step c me o op (shift K S U s))) (message_shift s.used op)
          ∙ (ap (λ z. run c me (λ p. a p ++ b p) ops z) (step_shift (message_for b s.used op) op s)
          ∙ run_shift ops (step c me (message_for b s.used op) op s))

  -- messages behind those that a run uses change nothing
  taken_more : (a b : ℕ → List (MessageView T)) (used : ℕ → ℕ) (k : Kind) (peer : ℕ) → (k ≡ Take → used peer < length (a peer)) → taken_by (λ p. a p ++ b p) used k peer ≡ taken_by a used k peer
  taken_more a b used Send peer h = refl
  taken_more a b used Take peer h = slice_get_append (a peer) (b peer) (used peer) (h refl)

  message_more : (a b : ℕ → List (MessageView T)) (used : ℕ → ℕ) (op : Op) → ((q : ℕ) → used q + length (filter (takes_from q) (of_op op)) ≤ length (a q)) → message_for (λ p. a p ++ b p) used op ≡ message_for a used op
  message_more a b used (Load t slot) h = refl
  message_more a b used (Blank t slot) h = refl
  message_more a b used (Cut slot at into) h = refl
  message_more a b used (Join front back into) h = refl
  message_more a b used (Swap e slot) h = taken_more a b used e.kind e.peer (λ k. omega (arith, h e.peer, one_passes (takes_from e.peer) e (take_is e.kind e.peer k)))
  message_more a b used (Keep slot) h = refl

  pub run_more : (a b : ℕ → List (MessageView T)) (ops : List Op) (s : Local T) → ((q : ℕ) → (run c me a ops s).used q ≤ length (a q)) → run c me (λ p. a p ++ b p) ops s ≡ run c me a ops s
  run_more a b [] s h = refl
  run_more a b (op ∷ ops) s h =
      ap (λ o. run c me (λ p. a p ++ b p) ops (step c me o op s))
      (message_more a b s.used op (λ q. omega (arith, h q, step_uses c me (message_for a s.used op) op s q, run_uses c me a ops (step c me (message_for a s.used op) op s) q)))
      ∙ run_more a b ops (step c me (message_for a s.used op) op s) h

  abbrev pub from_slots : (ℕ → Option (Piece T)) → Local T
  from_slots sl = record { slots = sl; kept = []; sent = λ _. []; used = λ _. 0 }

  -- a part of a program by itself: from these slots, with these messages, all of which it takes
  pub record Does (tiles : Tiles) (ops : List Op) (taken : ℕ → List (MessageView T)) (before after : ℕ → Option (Piece T)) (sent : ℕ → List (MessageView T)) (kept : List (Piece T)) : Type 0 where
    pub fits : AllFit tiles c me taken ops (from_slots before)
    pub does : run c me taken ops (from_slots before) ≡ record { slots = after; kept = kept; sent = sent; used = λ p. length (taken p) }

  pub does_nothing : (tiles : Tiles) (sl : ℕ → Option (Piece T)) → Does tiles [] (λ _. []) sl sl (λ _. []) []
  does_nothing tiles sl = record { fits = tt; does = refl }

  fits_append : (tiles : Tiles) (taken : ℕ → List (MessageView T)) (xs ys : List Op) (s : Local T) → AllFit tiles c me taken xs s → AllFit tiles c me taken ys (run c me taken xs s) → AllFit tiles c me taken (xs ++ ys) s
  fits_append tiles taken [] ys s f g = g
  fits_append tiles taken (op ∷ xs) ys s f g = (f.0, fits_append tiles taken xs ys (step c me (message_for taken s.used op) op s) f.1 g)

  pub does_both : (tiles : Tiles) (xs ys : List Op) (a b : ℕ → List (MessageView T)) (s0 s1 s2 : ℕ → Option (Piece T)) (S S' : ℕ → List (MessageView T)) (K K' : List (Piece T)) → Does tiles xs a s0 s1 S K → Does tiles ys b s1 s2 S' K' → Does tiles (xs ++ ys) (λ p. a p ++ b p) s0 s2 (λ r. S r ++ S' r) (K ++ K')
  does_both tiles xs ys a b s0 s1 s2 S S' K K' f g =
      let middle : Local T = record { slots = s1; kept = K; sent = S; used = λ p. length (a p) } in
      let first : run c me (λ p. a p ++ b p) xs (from_slots s0) ≡ middle =
      run_more a b xs (from_slots s0) (λ q. let e = ap (λ (s : Local T). s.used q) f.does in omega (arith, e)) ∙ f.does in
      let moved : middle ≡ shift K S (λ p. length (a p)) (from_slots s1) =
      local_same middle (shift K S (λ p. length (a p)) (from_slots s1)) refl (sym (append-nil K)) (fun_ext (λ r. sym (append-nil (S r)))) (fun_ext (λ p. let e : length (a p) ≡ length (a p) + 0 = omega arith in e)) in
      record {
        fits = fits_append tiles (λ p. a p ++ b p) xs ys (from_slots s0)
            (fits_anyhow tiles c c refl me a (λ p. a p ++ b p) xs (from_slots s0) (from_slots s0) refl f.fits)
            (fits_anyhow tiles c c refl me b (λ p. a p ++ b p) ys (from_slots s1) (run c me (λ p. a p ++ b p) xs (from_slots s0)) (ap shape_at (sym first)) g.fits);
        does = run-append c me (λ p. a p ++ b p) xs ys (from_slots s0)
            ∙ (ap (run c me (λ p. a p ++ b p) ys) (first ∙ moved)
            ∙ (run_shift K S (λ p. length (a p)) a b (λ p. refl) ys (from_slots s1)
            ∙ (ap (shift K S (λ p. length (a p))) g.does
            ∙ local_same (shift K S (λ p. length (a p)) (record { slots = s2; kept = K'; sent = S'; used = λ p. length (b p) })) (record { slots = s2; kept = K ++ K'; sent = λ r. S r ++ S' r; used = λ p. length (a p ++ b p) }) refl refl refl (fun_ext (λ p. sym (length-append (a p) (b p)))))));
      }

-- programs that do what is said are a flow
pub flow_of_does : {T : Type 0} (tiles : Tiles) (c : ℕ → Carrier T) (progs : ℕ → List Op) (ms : Messages T) (after : ℕ → ℕ → Option (Piece T)) (kept : ℕ → List (Piece T)) → ((r : ℕ) → Does (c r) r tiles (progs r) (λ p. ms p r) (λ _. None) (after r) (λ q. ms r q) (kept r)) → IsFlow c progs ms
flow_of_does {T} tiles c progs ms after kept h q r = sym (ap (λ (s : Local T). s.sent r) (h q).does)

-- matched programs one behind the other
abbrev pub AreWithin : ℕ → ℕ → List Exchange → Type 0
AreWithin l u es = AllByRecursion (λ e. (l ≤ key e) × (key e < u)) es

pub record IsPart (progs : ℕ → List Op) (l u : ℕ) : Type 0 where
  pub ordered : l ≤ u
  pub matched : AreMatched progs
  pub within : (r : ℕ) → AreWithin l u (exchanges (progs r))

pub all_append : {X : Type 0} (P : X → Type 0) (xs ys : List X) → AllByRecursion P xs → AllByRecursion P ys → AllByRecursion P (xs ++ ys)
all_append P [] ys h k = k
all_append P (x ∷ xs) ys h k = (h.0, all_append P xs ys h.1 k)

pub rising_append : (m l u : ℕ) (xs ys : List Exchange) → IsRising xs → IsRising ys → AreWithin l m xs → AreWithin m u ys → IsRising (xs ++ ys)
rising_append m l u [] ys f g h k = g
rising_append m l u (e ∷ xs) ys f g h k = (
  all_append (Follows e) xs ys f.0 (all_weaker (λ x. (m ≤ key x) × (key x < u)) (Follows e) (λ x w. record { later = omega (arith, w.0, h.0.1); apart = λ _. omega (arith, w.0, h.0.1) }) ys k),
  rising_append m l u xs ys f.1 g h.1 k,
)

pub parts_join : (xs ys : ℕ → List Op) (l m u : ℕ) → IsPart xs l m → IsPart ys m u → IsPart (λ r. xs r ++ ys r) l u
parts_join xs ys l m u f g = record {
  ordered = omega (arith, f.ordered, g.ordered);
  matched = record {
    rising = λ r. subst IsRising (sym (exchanges-append (xs r) (ys r))) (rising_append m l u (exchanges (xs r)) (exchanges (ys r)) (f.matched.rising r) (g.matched.rising r) (f.within r) (g.within r));
    pairs = λ q r.
        faces (sends_to r) (xs q) (ys q)
        ∙ (ap (λ z. z ++ map heading (filter (sends_to r) (exchanges (ys q)))) (f.matched.pairs q r)
        ∙ (ap (λ z. map heading (filter (takes_from q) (exchanges (xs r))) ++ z) (g.matched.pairs q r)
        ∙ sym (faces (takes_from q) (xs r) (ys r))));
  };
  within = λ r. subst (AreWithin l u) (sym (exchanges-append (xs r) (ys r)))
      (all_append (λ e. (l ≤ key e) × (key e < u)) (exchanges (xs r)) (exchanges (ys r))
      (all_weaker (λ e. (l ≤ key e) × (key e < m)) (λ e. (l ≤ key e) × (key e < u)) (λ e w. (w.0, omega (arith, w.1, g.ordered))) (exchanges (xs r)) (f.within r))
      (all_weaker (λ e. (m ≤ key e) × (key e < u)) (λ e. (l ≤ key e) × (key e < u)) (λ e w. (omega (arith, w.0, f.ordered), w.1)) (exchanges (ys r)) (g.within r)));
}
  where
    faces : (p : Exchange → Bool) (us vs : List Op) → map heading (filter p (exchanges (us ++ vs))) ≡ map heading (filter p (exchanges us)) ++ map heading (filter p (exchanges vs))
    faces p us vs = ap (λ z. map heading (filter p z)) (exchanges-append us vs) ∙ (ap (map heading) (filter-append p (exchanges us) (exchanges vs)) ∙ map-append heading (filter p (exchanges us)) (filter p (exchanges vs)))
