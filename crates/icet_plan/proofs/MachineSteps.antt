-- A machine's step: from a place to the next.
use Rattle.std.proofs.Common.{◌≡◌, ℕ, suc, ◌<◌, Bool, true, false, cond, List, [], ◌∷◌, ◌++◌, length, get_or, set, refl, sym, ap, ◌∙◌, arith, Option, Some, None, eqb-true, eq-eqb, length-append}
use Rattle.std.proofs.lemmas.List.{append-nil, get_or-set_same, get_or-set_other}
use Rattle.std.proofs.lemmas.Bool.{eqb-false}
use Rattle.std.specs.Prelude.{◌==◌}
use Rattle.std.specs.List.{slice_get}
use mathlib.Core.Path.{fun_ext}
use Rattle.icet_model.specs.declared.exchange.Kind.TheVariants.{Send, Take}
use Rattle.icet_model.specs.declared.exchange.Exchange.{Exchange}
use Rattle.icet_model.specs.declared.exchange.Op.{Op}
use Rattle.icet_model.specs.declared.exchange.Op.TheVariants.{Swap}
use Rattle.icet_model.specs.Run.{Carrier, Piece, MessageView, Local, put, given, received, message_of, swapped, step, taken_by, message_for, upto}
use Rattle.icet_model.specs.Ports.{at_list, IsAt}
use Rattle.icet_plan.proofs.LocalRuns.{upto_next}
use Rattle.icet_plan.proofs.Headings.{more_taken}

-- a write to the list of slots
pub slots_set : {T : Type 0} (slots : List (Option (Piece T))) (i : ℕ) (v : Option (Piece T)) → i < length slots → at_list (set slots i v) ≡ put (at_list slots) i v
slots_set {T} slots i v l = fun_ext (λ k. go k (i == k) refl)
  where
    go : (k : ℕ) (b : Bool) → (i == k) ≡ b → get_or (set slots i v) k None ≡ cond b v (get_or slots k None)
    go k true h = ap (λ z. get_or (set slots i v) z None) (sym (eqb-true i k h)) ∙ get_or-set_same slots i v None l
    go k false h = get_or-set_other slots i k v None (λ e. eqb-false i k h (sym e))

module _ {T : Type 0} (c : Carrier T) (me : ℕ) (ops : List Op) where
  -- local work: an operation that takes no message and sends none
  pub local_moves : (place : ℕ) (taken : ℕ → List (MessageView T)) (slots : ℕ → Option (Piece T)) (kept : List (Piece T)) (sent : ℕ → List (MessageView T)) (op : Op) → slice_get ops place ≡ Some op → message_for taken (upto c me taken ops place).used op ≡ None → ((s : Local T) → (step c me None op s).sent ≡ s.sent) → ((s : Local T) → (step c me None op s).used ≡ s.used) → IsAt c me ops place taken slots kept sent → IsAt c me ops (suc place) taken (step c me None op (record { slots = slots; kept = kept; sent = sent; used = λ p. length (taken p) })).slots (step c me None op (record { slots = slots; kept = kept; sent = sent; used = λ p. length (taken p) })).kept sent
  local_moves place taken slots kept sent op h quiet same_sent same_used a =
      let before = upto c me taken ops place in
      let next : upto c me taken ops (suc place) ≡ step c me None op before = upto_next c me taken ops place op h ∙ ap (λ o. step c me o op before) quiet in
      let here : record { slots = slots; kept = kept; sent = sent; used = λ p. length (taken p) } ≡ before = λ i. record { slots = a.slots_are i; kept = a.kept_are i; sent = λ r. a.sent_are r i; used = λ p. a.used_are p i } in
      record {
        slots_are = ap (λ (s : Local T). (step c me None op s).slots) here ∙ sym (ap (λ (s : Local T). s.slots) next);
        kept_are = ap (λ (s : Local T). (step c me None op s).kept) here ∙ sym (ap (λ (s : Local T). s.kept) next);
        sent_are = λ r. a.sent_are r ∙ (sym (ap (λ f. f r) (same_sent before)) ∙ sym (ap (λ (s : Local T). s.sent r) next));
        used_are = λ p. a.used_are p ∙ (sym (ap (λ f. f p) (same_used before)) ∙ sym (ap (λ (s : Local T). s.used p) next));
      }

  -- a send: the slot's piece goes out
  pub send_moves : (place : ℕ) (taken : ℕ → List (MessageView T)) (slots : ℕ → Option (Piece T)) (kept : List (Piece T)) (sent : ℕ → List (MessageView T)) (e : Exchange) (slot : ℕ) (p : Piece T) → slice_get ops place ≡ Some (Swap e slot) → e.kind ≡ Send → slots slot ≡ Some p → IsAt c me ops place taken slots kept sent → IsAt c me ops (suc place) taken (put slots slot None) kept (put sent e.peer (sent e.peer ++ message_of e me p ∷ []))
  send_moves place taken slots kept sent e slot p h k full a =
      let before = upto c me taken ops place in
      let here : record { slots = slots; kept = kept; sent = sent; used = λ p. length (taken p) } ≡ before = λ i. record { slots = a.slots_are i; kept = a.kept_are i; sent = λ r. a.sent_are r i; used = λ p. a.used_are p i } in
      let quiet : taken_by taken before.used e.kind e.peer ≡ None = ap (λ z. taken_by taken before.used z e.peer) k in
      let next : upto c me taken ops (suc place) ≡ swapped c me None Send e slot before = upto_next c me taken ops place (Swap e slot) h ∙ (ap (λ o. swapped c me o e.kind e slot before) quiet ∙ ap (λ z. swapped c me None z e slot before) k) in
      let done : record { slots = put slots slot None; kept = kept; sent = put sent e.peer (sent e.peer ++ message_of e me p ∷ []); used = λ p. length (taken p) } ≡ upto c me taken ops (suc place) =
      ap (λ o. record { slots = put slots slot None; kept = kept; sent = put sent e.peer (sent e.peer ++ message_of e me (given c e o) ∷ []); used = λ p. length (taken p) }) (sym full)
      ∙ (ap (λ (s : Local T). swapped c me None Send e slot s) here ∙ sym next) in
      record { slots_are = ap (λ (s : Local T). s.slots) done; kept_are = ap (λ (s : Local T). s.kept) done; sent_are = λ r. ap (λ (s : Local T). s.sent r) done; used_are = λ q. ap (λ (s : Local T). s.used q) done }

  -- a take: the list of that peer grows by the message
  pub take_moves : (place : ℕ) (taken : ℕ → List (MessageView T)) (slots : ℕ → Option (Piece T)) (kept : List (Piece T)) (sent : ℕ → List (MessageView T)) (e : Exchange) (slot : ℕ) (m : MessageView T) → slice_get ops place ≡ Some (Swap e slot) → e.kind ≡ Take → IsAt c me ops place taken slots kept sent → IsAt c me ops (suc place) (put taken e.peer (taken e.peer ++ m ∷ [])) (put slots slot (Some (received c e (Some m)))) kept sent
  take_moves place taken slots kept sent e slot m h k a =
      let more = put taken e.peer (taken e.peer ++ m ∷ []) in
      let before = upto c me taken ops place in
      let same : before ≡ upto c me more ops place = more_taken c me ops taken more place (λ p. let z = a.used_are p in omega (arith, z)) (λ p. grown p (e.peer == p) refl) in
      let here : record { slots = slots; kept = kept; sent = sent; used = λ p. length (taken p) } ≡ before = λ i. record { slots = a.slots_are i; kept = a.kept_are i; sent = λ r. a.sent_are r i; used = λ p. a.used_are p i } in
      let there : record { slots = slots; kept = kept; sent = sent; used = λ p. length (taken p) } ≡ upto c me more ops place = here ∙ same in
      let got : taken_by more (λ p. length (taken p)) Take e.peer ≡ Some m = ap (λ z. slice_get (cond z (taken e.peer ++ m ∷ []) (taken e.peer)) (length (taken e.peer))) (eq-eqb e.peer e.peer refl) ∙ last (taken e.peer) in
      let next : upto c me more ops (suc place) ≡ swapped c me (Some m) Take e slot (record { slots = slots; kept = kept; sent = sent; used = λ p. length (taken p) }) =
      upto_next c me more ops place (Swap e slot) h
      ∙ (ap (λ (s : Local T). swapped c me (taken_by more s.used e.kind e.peer) e.kind e slot s) (sym there)
      ∙ (ap (λ z. swapped c me (taken_by more (λ p. length (taken p)) z e.peer) z e slot (record { slots = slots; kept = kept; sent = sent; used = λ p. length (taken p) })) k
      ∙ ap (λ o. swapped c me o Take e slot (record { slots = slots; kept = kept; sent = sent; used = λ p. length (taken p) })) got)) in
      record {
        slots_are = sym (ap (λ (s : Local T). s.slots) next);
        kept_are = sym (ap (λ (s : Local T). s.kept) next);
        sent_are = λ r. sym (ap (λ (s : Local T). s.sent r) next);
        used_are = λ p. longer p (e.peer == p) refl ∙ sym (ap (λ (s : Local T). s.used p) next);
      }
    where
      last : (xs : List (MessageView T)) → slice_get (xs ++ m ∷ []) (length xs) ≡ Some m
      last [] = refl
      last (x ∷ xs) = last xs

      grown : (p : ℕ) (b : Bool) → (e.peer == p) ≡ b → (rest : List (MessageView T)) × (cond b (taken e.peer ++ m ∷ []) (taken p) ≡ taken p ++ rest)
      grown p true z = (m ∷ [], ap (λ y. taken y ++ m ∷ []) (eqb-true e.peer p z))
      grown p false z = ([], sym (append-nil (taken p)))

      longer : (p : ℕ) (b : Bool) → (e.peer == p) ≡ b → length (cond b (taken e.peer ++ m ∷ []) (taken p)) ≡ cond b (suc (length (taken e.peer))) (length (taken p))
      longer p true z = let n = length-append (taken e.peer) (m ∷ []) in omega (arith, n)
      longer p false z = refl
