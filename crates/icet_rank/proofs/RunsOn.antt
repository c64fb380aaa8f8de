-- The machine's invariant is kept by each move.
use Rattle.std.proofs.Common.{◌≡◌, ℕ, zero, suc, ◌+◌, ◌-◌, ◌<◌, ◌≤◌, Bool, true, false, cond, List, [], ◌∷◌, ◌++◌, length, take, drop, filter, refl, sym, ap, ◌∙◌, subst, arith, Option, Some, None, eqb-true, eq-eqb, add-one, length-append}
use Rattle.std.specs.Prelude.{◌==◌, option_map}
use Rattle.std.specs.List.{AllByRecursion, slice_get}
use Rattle.icet_model.specs.declared.exchange.Kind.TheVariants.{Send, Take}
use Rattle.icet_model.specs.declared.exchange.Exchange.{Exchange}
use Rattle.icet_model.specs.declared.exchange.Op.{Op}
use Rattle.icet_model.specs.declared.exchange.Op.TheVariants.{Load, Blank, Cut, Join, Swap, Keep}
use Rattle.icet_model.specs.Pixel.{Pixel}
use Rattle.icet_model.specs.Exchange.{of_op, exchanges, sends_to, takes_from, is_send_of, is_take_of}
use Rattle.icet_model.specs.Run.{Carrier, Piece, MessageView, Local, fresh, put, run, upto, step, message_for, message_of, received}
use Rattle.icet_model.specs.Fit.{FitsSwap, FitsSend, shape_at, shape_of}
use Rattle.icet_model.specs.Ports.{messages_to, room_to, AreAscending, at_list, IsAt}
use Rattle.icet_model.proofs.Lists.{take_next_suc}
use Rattle.icet_plan.proofs.Lists.{all_get}
use Rattle.icet_plan.proofs.LocalRuns.{exchanges-append}
use Rattle.icet_plan.proofs.MachineSteps.{local_moves, send_moves, take_moves}
use Rattle.icet_rank.specs.Fits.{IsFilled, undisplayed, FitsAnyDisplay, AllFitAnyDisplay}
use Rattle.icet_rank.specs.Moves.{Carried}
use Rattle.icet_rank.specs.Machine.{Names, Runs}
use Rattle.icet_plan.proofs.FlowIsOne.{at_exchange}
use Rattle.icet_model.specs.Wires.{PortView, PixelMessage}

pub below : {X : Type 0} (xs : List X) (n : ℕ) (x : X) → slice_get xs n ≡ Some x → n < length xs
below [] n x h = absurd (cc)
below (y ∷ ys) zero x h = omega arith
below (y ∷ ys) (suc n) x h = let e = below ys n x h in omega (arith, e)

drop_here : {X : Type 0} (xs : List X) (n : ℕ) (x : X) → slice_get xs n ≡ Some x → drop n xs ≡ x ∷ drop (suc n) xs
drop_here [] n x h = absurd (cc)
drop_here (y ∷ ys) zero x h = ap (λ z. z ∷ ys) (let e : y ≡ x = cc in e)
drop_here (y ∷ ys) (suc n) x h = drop_here ys n x h

hit : (f : Exchange → Bool) (e : Exchange) (es : List Exchange) → f e ≡ true → length (filter f (e ∷ es)) ≡ suc (length (filter f es))
hit f e es h = ap (λ b. length (cond b (e ∷ filter f es) (filter f es))) h

pass : (f : Exchange → Bool) (e : Exchange) (es : List Exchange) → f e ≡ false → length (filter f (e ∷ es)) ≡ length (filter f es)
pass f e es h = ap (λ b. length (cond b (e ∷ filter f es) (filter f es))) h

fits_at : {T : Type 0} (sizes : List ℕ) (c : Carrier T) (me : ℕ) (t : ℕ → List (MessageView T)) (ops : List Op) (n : ℕ) (op : Op) (s : Local T) → slice_get ops n ≡ Some op → AllFitAnyDisplay sizes c me t ops s → FitsAnyDisplay sizes op (shape_at (run c me t (take n ops) s))
fits_at sizes c me t [] n op s h a = absurd (cc)
fits_at sizes c me t (o ∷ ops) zero op s h a = subst (λ z. FitsAnyDisplay sizes z (shape_at s)) (let e : o ≡ op = cc in e) a.0
fits_at sizes c me t (o ∷ ops) (suc n) op s h a = fits_at sizes c me t ops n op (step c me (message_for t s.used o) o s) h a.1

module _ (ops : List Op) (place : ℕ) where
  left : (op : Op) → slice_get ops place ≡ Some op → exchanges (drop place ops) ≡ of_op op ++ exchanges (drop (suc place) ops)
  left op h = ap exchanges (drop_here ops place op h)

  done : (op : Op) → slice_get ops place ≡ Some op → length (exchanges (take (suc place) ops)) ≡ length (exchanges (take place ops)) + length (of_op op)
  done op h =
      let a : exchanges (take (suc place) ops) ≡ exchanges (take place ops) ++ exchanges (op ∷ []) = ap exchanges (take_next_suc ops place op h) ∙ exchanges-append (take place ops) (op ∷ []) in
      ap length a ∙ (length-append (exchanges (take place ops)) (exchanges (op ∷ [])) ∙ ap (λ n. length (exchanges (take place ops)) + n) (tail (of_op op)))
    where
      tail : (es : List Exchange) → length (es ++ []) ≡ length es
      tail [] = refl
      tail (e ∷ es) = ap suc (tail es)

  rooms_after : (w : ℕ → Exchange → Bool) (old new : ℕ → ℕ) (e : Exchange) (slot : ℕ) → slice_get ops place ≡ Some (Swap e slot) → ((r : ℕ) → w r e ≡ (e.peer == r)) → new ≡ put old e.peer (old e.peer - 1) → ((r : ℕ) → old r ≡ length (filter (w r) (exchanges (drop place ops)))) → (r : ℕ) → new r ≡ length (filter (w r) (exchanges (drop (suc place) ops)))
  rooms_after w old new e slot h z n o r = ap (λ f. f r) n ∙ go (e.peer == r) refl
    where
      all : exchanges (drop place ops) ≡ e ∷ exchanges (drop (suc place) ops)
      all = left (Swap e slot) h

      go : (b : Bool) → (e.peer == r) ≡ b → cond b (old e.peer - 1) (old r) ≡ length (filter (w r) (exchanges (drop (suc place) ops)))
      go true y =
          let a = o r ∙ (ap (λ es. length (filter (w r) es)) all ∙ hit (w r) e (exchanges (drop (suc place) ops)) (z r ∙ y)) in
          let b = ap old (eqb-true e.peer r y) in
          omega (arith, a, b)
      go false y = o r ∙ (ap (λ es. length (filter (w r) es)) all ∙ pass (w r) e (exchanges (drop (suc place) ops)) (z r ∙ y))

  rooms_beside : (w : ℕ → Exchange → Bool) (old : ℕ → ℕ) (e : Exchange) (slot : ℕ) → slice_get ops place ≡ Some (Swap e slot) → ((r : ℕ) → w r e ≡ false) → ((r : ℕ) → old r ≡ length (filter (w r) (exchanges (drop place ops)))) → (r : ℕ) → old r ≡ length (filter (w r) (exchanges (drop (suc place) ops)))
  rooms_beside w old e slot h z o r = o r ∙ (ap (λ es. length (filter (w r) es)) (left (Swap e slot) h) ∙ pass (w r) e (exchanges (drop (suc place) ops)) (z r))

  has_room : (w : ℕ → Exchange → Bool) (old : ℕ → ℕ) (e : Exchange) (slot : ℕ) → slice_get ops place ≡ Some (Swap e slot) → w e.peer e ≡ true → ((r : ℕ) → old r ≡ length (filter (w r) (exchanges (drop place ops)))) → 0 < old e.peer
  has_room w old e slot h z o = let a = o e.peer ∙ (ap (λ es. length (filter (w e.peer) es)) (left (Swap e slot) h) ∙ hit (w e.peer) e (exchanges (drop (suc place) ops)) z) in omega (arith, a)

module _ (sizes : List ℕ) (c : Carrier (List Pixel)) (me : ℕ) (ops : List Op) where
  module _ (place counter : ℕ) (slots : List (Option (Piece (List Pixel)))) (kept : List (Piece (List Pixel))) (inboxes : List (ℕ × PortView)) (outboxes : List (ℕ × PortView)) (r : Runs sizes c me ops place counter slots kept inboxes outboxes) where
    pub fits_now : (op : Op) → slice_get ops place ≡ Some op → FitsAnyDisplay sizes op (λ k. option_map shape_of (at_list slots k))
    fits_now op h = subst (λ (f : ℕ → Option (Piece (List Pixel))). FitsAnyDisplay sizes op (λ k. option_map shape_of (f k))) (sym r.is_at.slots_are) (fits_at sizes c me (messages_to inboxes) ops place op fresh h (r.fits (messages_to inboxes)))

    pub names_now : (op : Op) → slice_get ops place ≡ Some op → Names (length slots) op
    names_now op h = all_get (Names (length slots)) ops place op h r.named

    module _ (e : Exchange) (slot : ℕ) (h : slice_get ops place ≡ Some (Swap e slot)) where
      is_full : (o : Option (Piece (List Pixel))) → FitsSend e (option_map shape_of o) → IsFilled o
      is_full None f = f
      is_full (Some p) f = tt

      pub filled_now : e.kind ≡ Send → IsFilled (at_list slots slot)
      filled_now k = is_full (at_list slots slot) (subst (λ z. FitsSwap (undisplayed sizes) z e (option_map shape_of (at_list slots slot))) k (fits_now (Swap e slot) h))

      pub out_room_now : e.kind ≡ Send → 0 < room_to outboxes e.peer
      out_room_now k = has_room ops place sends_to (room_to outboxes) e slot h (ap (λ z. is_send_of z e.peer e.peer) k ∙ eq-eqb e.peer e.peer refl) r.out_rooms

      pub in_room_now : e.kind ≡ Take → 0 < room_to inboxes e.peer
      in_room_now k = has_room ops place takes_from (room_to inboxes) e slot h (ap (λ z. is_take_of z e.peer e.peer) k ∙ eq-eqb e.peer e.peer refl) r.in_rooms

      pub sent_on : (slots_new : List (Option (Piece (List Pixel)))) (out_new : List (ℕ × PortView)) (p : Piece (List Pixel)) → e.kind ≡ Send → at_list slots slot ≡ Some p → at_list slots_new ≡ put (at_list slots) slot None → length slots_new ≡ length slots → Carried e.peer (message_of e me p) outboxes out_new → Runs sizes c me ops (place + 1) (counter + 1) slots_new kept inboxes out_new
      sent_on slots_new out_new p k full s l m = subst (λ (n : ℕ). Runs sizes c me ops n (counter + 1) slots_new kept inboxes out_new) (sym (add-one place)) (record {
        is_at = subst (λ f. IsAt c me ops (suc place) (messages_to inboxes) f kept (messages_to out_new)) (sym s) (subst (λ f. IsAt c me ops (suc place) (messages_to inboxes) (put (at_list slots) slot None) kept f) (sym m.lists_are) (send_moves c me ops place (messages_to inboxes) (at_list slots) kept (messages_to outboxes) e slot p h k full r.is_at));
        within = let z = below ops place (Swap e slot) h in omega (arith, z);
        count = let z = done ops place (Swap e slot) h in let y = r.count in omega (arith, z, y);
        in_ascend = r.in_ascend;
        out_ascend = m.beside.ascend;
        in_rooms = rooms_beside ops place takes_from (room_to inboxes) e slot h (λ q. ap (λ z. is_take_of z e.peer q) k) r.in_rooms;
        out_rooms = rooms_after ops place sends_to (room_to outboxes) (room_to out_new) e slot h (λ q. ap (λ z. is_send_of z e.peer q) k) m.rooms_are r.out_rooms;
        fits = r.fits;
        named = subst (λ n. AllByRecursion (Names n) ops) (sym l) r.named;
      })

      pub taken_on : (slots_new : List (Option (Piece (List Pixel)))) (in_new : List (ℕ × PortView)) (m : PixelMessage) → e.kind ≡ Take → at_list slots_new ≡ put (at_list slots) slot (Some (received c e (Some m))) → length slots_new ≡ length slots → Carried e.peer m inboxes in_new → Runs sizes c me ops (place + 1) (counter + 1) slots_new kept in_new outboxes
      taken_on slots_new in_new p k s l m = subst (λ (n : ℕ). Runs sizes c me ops n (counter + 1) slots_new kept in_new outboxes) (sym (add-one place)) (record {
        is_at = subst (λ f. IsAt c me ops (suc place) (messages_to in_new) f kept (messages_to outboxes)) (sym s) (subst (λ t. IsAt c me ops (suc place) t (put (at_list slots) slot (Some (received c e (Some p)))) kept (messages_to outboxes)) (sym m.lists_are) (take_moves c me ops place (messages_to inboxes) (at_list slots) kept (messages_to outboxes) e slot p h k r.is_at));
        within = let z = below ops place (Swap e slot) h in omega (arith, z);
        count = let z = done ops place (Swap e slot) h in let y = r.count in omega (arith, z, y);
        in_ascend = m.beside.ascend;
        out_ascend = r.out_ascend;
        in_rooms = rooms_after ops place takes_from (room_to inboxes) (room_to in_new) e slot h (λ q. ap (λ z. is_take_of z e.peer q) k) m.rooms_are r.in_rooms;
        out_rooms = rooms_beside ops place sends_to (room_to outboxes) e slot h (λ q. ap (λ z. is_send_of z e.peer q) k) r.out_rooms;
        fits = r.fits;
        named = subst (λ n. AllByRecursion (Names n) ops) (sym l) r.named;
      })

    -- outboxes, or inboxes, that carry the same lists and have the same rooms serve as well
    pub with_outboxes : (out_new : List (ℕ × PortView)) → messages_to out_new ≡ messages_to outboxes → room_to out_new ≡ room_to outboxes → AreAscending out_new → Runs sizes c me ops place counter slots kept inboxes out_new
    with_outboxes out_new lists rooms ascend = record {
      is_at = subst (λ f. IsAt c me ops place (messages_to inboxes) (at_list slots) kept f) (sym lists) r.is_at;
      within = r.within;
      count = r.count;
      in_ascend = r.in_ascend;
      out_ascend = ascend;
      in_rooms = r.in_rooms;
      out_rooms = λ q. ap (λ f. f q) rooms ∙ r.out_rooms q;
      fits = r.fits;
      named = r.named;
    }

    pub with_inboxes : (in_new : List (ℕ × PortView)) → messages_to in_new ≡ messages_to inboxes → room_to in_new ≡ room_to inboxes → AreAscending in_new → Runs sizes c me ops place counter slots kept in_new outboxes
    with_inboxes in_new lists rooms ascend = record {
      is_at = subst (λ t. IsAt c me ops place t (at_list slots) kept (messages_to outboxes)) (sym lists) r.is_at;
      within = r.within;
      count = r.count;
      in_ascend = ascend;
      out_ascend = r.out_ascend;
      in_rooms = λ q. ap (λ f. f q) rooms ∙ r.in_rooms q;
      out_rooms = r.out_rooms;
      fits = r.fits;
      named = r.named;
    }

    pub due_now : (e : Exchange) (slot : ℕ) → slice_get ops place ≡ Some (Swap e slot) → slice_get (exchanges ops) counter ≡ Some e
    due_now e slot h = ap (λ n. slice_get (exchanges ops) n) r.count ∙ at_exchange ops place e slot h

    pub local_on : (op : Op) → slice_get ops place ≡ Some op → of_op op ≡ [] → ((t : ℕ → List PixelMessage) (u : ℕ → ℕ) → message_for t u op ≡ None) → ((s : Local (List Pixel)) → (step c me None op s).sent ≡ s.sent) → ((s : Local (List Pixel)) → (step c me None op s).used ≡ s.used) → (slots_new : List (Option (Piece (List Pixel)))) (kept_new : List (Piece (List Pixel))) → at_list slots_new ≡ (step c me None op (record { slots = at_list slots; kept = kept; sent = messages_to outboxes; used = λ p. length (messages_to inboxes p) })).slots → kept_new ≡ (step c me None op (record { slots = at_list slots; kept = kept; sent = messages_to outboxes; used = λ p. length (messages_to inboxes p) })).kept → length slots_new ≡ length slots → Runs sizes c me ops (place + 1) counter slots_new kept_new inboxes outboxes
    local_on op h none quiet same_sent same_used slots_new kept_new s k l =
        let now : Local (List Pixel) = record { slots = at_list slots; kept = kept; sent = messages_to outboxes; used = λ p. length (messages_to inboxes p) } in
        let rest : exchanges (drop place ops) ≡ exchanges (drop (suc place) ops) = left ops place op h ∙ ap (λ es. es ++ exchanges (drop (suc place) ops)) none in
        subst (λ (n : ℕ). Runs sizes c me ops n counter slots_new kept_new inboxes outboxes) (sym (add-one place)) (record {
          is_at = subst (λ f. IsAt c me ops (suc place) (messages_to inboxes) f kept_new (messages_to outboxes)) (sym s) (subst (λ f. IsAt c me ops (suc place) (messages_to inboxes) (step c me None op now).slots f (messages_to outboxes)) (sym k) (local_moves c me ops place (messages_to inboxes) (at_list slots) kept (messages_to outboxes) op h (quiet (messages_to inboxes) (upto c me (messages_to inboxes) ops place).used) same_sent same_used r.is_at));
          within = let z = below ops place op h in omega (arith, z);
          count = let z = done ops place op h in let y = r.count in let x = ap length none in omega (arith, z, y, x);
          in_ascend = r.in_ascend;
          out_ascend = r.out_ascend;
          in_rooms = λ q. r.in_rooms q ∙ ap (λ es. length (filter (takes_from q) es)) rest;
          out_rooms = λ q. r.out_rooms q ∙ ap (λ es. length (filter (sends_to q) es)) rest;
          fits = r.fits;
          named = subst (λ n. AllByRecursion (Names n) ops) (sym l) r.named;
        })

-- a slice of a whole vector, written back
front : {X : Type 0} (n : ℕ) (xs zs : List X) → length xs ≡ n → take n (xs ++ zs) ≡ xs
front zero [] zs l = refl
front (suc n) [] zs l = absurd (omega (arith, l))
front zero (x ∷ xs) zs l = absurd (omega (arith, l))
front (suc n) (x ∷ xs) zs l = ap (λ ys. x ∷ ys) (front n xs zs (omega (arith, l)))

pub written : {X : Type 0} (n : ℕ) (xs ys : List X) → length xs ≡ n → take n (xs ++ drop (length xs) ys) ≡ xs
written n xs ys l = front n xs (drop (length xs) ys) l

pub few : (ops : List Op) (n : ℕ) → length (exchanges (take n ops)) ≤ n
few [] zero = omega arith
few [] (suc n) = omega arith
few (o ∷ ops) zero = omega arith
few (o ∷ ops) (suc n) = let a = few ops n in let b = one o in let z = length-append (of_op o) (exchanges (take n ops)) in omega (arith, a, b, z)
  where
    one : (op : Op) → length (of_op op) ≤ 1
    one (Load tile slot) = omega arith
    one (Blank tile slot) = omega arith
    one (Cut slot at into) = omega arith
    one (Join front back into) = omega arith
    one (Swap exchange slot) = omega arith
    one (Keep slot) = omega arith

pub with_piece : {P Z : Type 0} (o : Option P) → IsFilled o → ((p : P) → o ≡ Some p → Z) → Z
with_piece None f k = absurd f
with_piece (Some p) f k = k p refl
