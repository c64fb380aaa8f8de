-- The heads of what a run sends, that each take finds what fits, and one message more.
use Rattle.std.proofs.Common.{◌≡◌, ℕ, ◌≤◌, Bool, true, false, cond, List, [], ◌∷◌, ◌++◌, map, length, take, refl, sym, ap, ◌∙◌, arith, Option, Some, None, eqb-true}
use Rattle.std.proofs.lemmas.List.{append_assoc, append-nil, map-append}
use Rattle.std.specs.Prelude.{◌==◌, option_map}
use Rattle.std.specs.List.{filter, slice_get}
use Rattle.icet_model.specs.declared.exchange.Kind.{Kind}
use Rattle.icet_model.specs.declared.exchange.Kind.TheVariants.{Send, Take}
use Rattle.icet_model.specs.declared.exchange.Exchange.{Exchange}
use Rattle.icet_model.specs.declared.exchange.Op.{Op}
use Rattle.icet_model.specs.declared.exchange.Op.TheVariants.{Load, Blank, Cut, Join, Swap, Keep}
use Rattle.icet_model.specs.Exchange.{is_send_of, sends_to, takes_from}
use Rattle.icet_model.specs.Core.{passed}
use Rattle.icet_model.specs.Exchange.{of_op, exchanges}
use Rattle.icet_model.specs.Run.{Carrier, Piece, MessageView, Local, given, message_of, swapped, step, message_for, run, upto}
use Rattle.icet_model.specs.Fit.{Tiles, Shape, shape_of, shape_at, FitsSend, FitsSwap, Fits, AllFit}
use Rattle.icet_plan.proofs.Lists.{filter-append, slice_get_append}
use Rattle.icet_plan.proofs.LocalRuns.{upto_sends, upto_uses}
use Rattle.icet_plan.proofs.FlowIsOne.{same_upto, front_of_exchanges, used_more, bound, below_bound}

-- all of a message but what its piece carries
pub record Head : Type 0 where
  pub round : ℕ
  pub from : ℕ
  pub to : ℕ
  pub tile : ℕ
  pub lo : ℕ
  pub hi : ℕ

abbrev pub head_of : {T : Type 0} → MessageView T → Head
head_of m = record { round = m.round; from = m.from; to = m.to; tile = m.piece.tile; lo = m.piece.lo; hi = m.piece.hi }

abbrev pub sent_head : ℕ → Exchange → Head
sent_head me e = record { round = e.round; from = me; to = e.peer; tile = e.tile; lo = e.lo; hi = e.hi }

module _ {T : Type 0} (tiles : Tiles) (c : Carrier T) (me : ℕ) where
  given_head : (e : Exchange) (o : Option (Piece T)) → FitsSend e (option_map shape_of o) → head_of (message_of e me (given c e o)) ≡ sent_head me e
  given_head e None f = absurd f
  given_head e (Some p) f = ap (λ (h : Shape). record { round = e.round; from = me; to = e.peer; tile = h.tile; lo = h.lo; hi = h.hi }) f

  swap_heads : (m : Option (MessageView T)) (k : Kind) (e : Exchange) (slot : ℕ) (s : Local T) (r : ℕ) → FitsSwap tiles k e (shape_at s slot) → map head_of ((swapped c me m k e slot s).sent r) ≡ map head_of (s.sent r) ++ map (sent_head me) (cond (is_send_of k e.peer r) (e ∷ []) [])
  swap_heads m Send e slot s r f = go (e.peer == r) refl
    where
      go : (b : Bool) → (e.peer == r) ≡ b → map head_of (cond b (s.sent e.peer ++ message_of e me (given c e (s.slots slot)) ∷ []) (s.sent r)) ≡ map head_of (s.sent r) ++ map (sent_head me) (cond b (e ∷ []) [])
      go true h = ap (λ z. map head_of (s.sent z ++ message_of e me (given c e (s.slots slot)) ∷ [])) (eqb-true e.peer r h) ∙ (map-append head_of (s.sent r) (message_of e me (given c e (s.slots slot)) ∷ []) ∙ ap (λ x. map head_of (s.sent r) ++ x ∷ []) (given_head e (s.slots slot) f))
      go false h = sym (append-nil (map head_of (s.sent r)))
  swap_heads m Take e slot s r f = sym (append-nil (map head_of (s.sent r)))

  step_heads : (m : Option (MessageView T)) (op : Op) (s : Local T) (r : ℕ) → Fits tiles me op (shape_at s) → map head_of ((step c me m op s).sent r) ≡ map head_of (s.sent r) ++ map (sent_head me) (filter (sends_to r) (of_op op))
  step_heads m (Load t slot) s r f = sym (append-nil (map head_of (s.sent r)))
  step_heads m (Blank t slot) s r f = sym (append-nil (map head_of (s.sent r)))
  step_heads m (Cut slot at into) s r f = sym (append-nil (map head_of (s.sent r)))
  step_heads m (Join front back into) s r f = sym (append-nil (map head_of (s.sent r)))
  step_heads m (Swap e slot) s r f = swap_heads m e.kind e slot s r f
  step_heads m (Keep slot) s r f = sym (append-nil (map head_of (s.sent r)))

  -- what is sent has the heads of the sends, in order
  pub run_heads : (taken : ℕ → List (MessageView T)) (ops : List Op) (s : Local T) (r : ℕ) → AllFit tiles c me taken ops s → map head_of ((run c me taken ops s).sent r) ≡ map head_of (s.sent r) ++ map (sent_head me) (filter (sends_to r) (exchanges ops))
  run_heads taken [] s r f = sym (append-nil (map head_of (s.sent r)))
  run_heads taken (op ∷ ops) s r f =
      let m = message_for taken s.used op in
      run_heads taken ops (step c me m op s) r f.1
      ∙ (ap (λ x. x ++ map (sent_head me) (filter (sends_to r) (exchanges ops))) (step_heads m op s r f.0)
      ∙ (append_assoc (map head_of (s.sent r)) (map (sent_head me) (filter (sends_to r) (of_op op))) (map (sent_head me) (filter (sends_to r) (exchanges ops)))
      ∙ ap (λ x. map head_of (s.sent r) ++ x) (sym (map-append (sent_head me) (filter (sends_to r) (of_op op)) (filter (sends_to r) (exchanges ops)))
      ∙ ap (map (sent_head me)) (sym (filter-append (sends_to r) (of_op op) (exchanges ops))))))

-- one message more changes nothing before the place
pub more_taken : {T : Type 0} (c : Carrier T) (me : ℕ) (ops : List Op) (a b : ℕ → List (MessageView T)) (n : ℕ) → ((p : ℕ) → (upto c me a ops n).used p ≤ length (a p)) → ((p : ℕ) → (more : List (MessageView T)) × (b p ≡ a p ++ more)) → upto c me a ops n ≡ upto c me b ops n
more_taken {T} c me ops a b n enough more =
    same_upto c me ops a b (bound (exchanges (take n ops))) n
    (λ i e slot l h kind less.
    let m = more e.peer in
    let j = length (filter (takes_from e.peer) (exchanges (take i ops))) in
    sym (ap (λ xs. slice_get xs j) m.1 ∙ slice_get_append (a e.peer) m.0 j (omega (arith, used_more ops i n e slot l h kind, upto_uses c me a ops n e.peer, enough e.peer))))
    n (omega arith) (below_bound (exchanges (take n ops)))

-- the numbers of the core: what was sent and used up to a place is what passed below the counter
pub sent_passed : {T : Type 0} (c : Carrier T) (me : ℕ) (t : ℕ → List (MessageView T)) (ops : List Op) (n r : ℕ) → length ((upto c me t ops n).sent r) ≡ passed (sends_to r) (length (exchanges (take n ops))) (exchanges ops)
sent_passed c me t ops n r = upto_sends c me t ops n r ∙ ap (λ xs. length (filter (sends_to r) xs)) (front_of_exchanges ops n)

pub used_passed : {T : Type 0} (c : Carrier T) (me : ℕ) (t : ℕ → List (MessageView T)) (ops : List Op) (n q : ℕ) → (upto c me t ops n).used q ≡ passed (takes_from q) (length (exchanges (take n ops))) (exchanges ops)
used_passed c me t ops n q = upto_uses c me t ops n q ∙ ap (λ xs. length (filter (takes_from q) xs)) (front_of_exchanges ops n)
