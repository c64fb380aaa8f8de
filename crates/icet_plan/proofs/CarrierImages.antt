-- One carrier's run as the image of another's, and runs whose shapes are the same.
use Rattle.std.proofs.Common.{◌≡◌, ℕ, ◌<◌, Bool, true, false, cond, List, [], ◌∷◌, ◌++◌, map, length, refl, sym, ap, ◌∙◌, Option, Some, None}
use Rattle.std.proofs.lemmas.List.{map-append}
use Rattle.std.proofs.lemmas.Option.{slice_get-map}
use Rattle.std.specs.Prelude.{◌==◌, option_map}
use mathlib.Core.Path.{fun_ext}
use Rattle.icet_model.specs.declared.exchange.Kind.{Kind}
use Rattle.icet_model.specs.declared.exchange.Kind.TheVariants.{Send, Take}
use Rattle.icet_model.specs.declared.exchange.Exchange.{Exchange}
use Rattle.icet_model.specs.declared.exchange.Op.{Op}
use Rattle.icet_model.specs.declared.exchange.Op.TheVariants.{Load, Blank, Cut, Join, Swap, Keep}
use Rattle.icet_model.specs.Run.{Carrier, Piece, MessageView, Local, put, fresh, whole, blank_of, lower, upper, joined_piece, cut_slots, join_slots, given, has_heading, received, with_kept, message_of, swapped, step, taken_by, message_for, run}
use Rattle.icet_model.specs.Flow.{Messages, IsFlow}
use Rattle.icet_model.specs.Fit.{Tiles, shape_of, shape_at, FitsCut, FitsJoin, Fits, AllFit}
use Rattle.icet_model.specs.Reading.{Reading, read_piece, read_message, read_local, Respects}

put_read : {V W : Type 0} (f : V → W) (g : ℕ → V) (i : ℕ) (v : V) → put (λ k. f (g k)) i (f v) ≡ (λ k. f (put g i v k))
put_read {V} {W} f g i v = fun_ext (λ k. go (i == k) k)
  where
    go : (b : Bool) (k : ℕ) → cond b (f v) (f (g k)) ≡ f (cond b v (g k))
    go true k = refl
    go false k = refl

pub piece_same : {T : Type 0} (p q : Piece T) → p.tile ≡ q.tile → p.lo ≡ q.lo → p.hi ≡ q.hi → p.content ≡ q.content → p ≡ q
piece_same p q t l u c = λ i. record { tile = t i; lo = l i; hi = u i; content = c i }

pub local_same : {T : Type 0} (s t : Local T) → s.slots ≡ t.slots → s.kept ≡ t.kept → s.sent ≡ t.sent → s.used ≡ t.used → s ≡ t
local_same s t a b c d = λ i. record { slots = a i; kept = b i; sent = c i; used = d i }

module _ {A B : Type 0} (tiles : Tiles) (c : Carrier A) (d : Carrier B) (h : Reading A B) (law : Respects tiles c d h) where
  abbrev local_with : Local A → (ℕ → Option (Piece B)) → Local B
  local_with s x = record { slots = x; kept = map (read_piece h) s.kept; sent = λ r. map (read_message h) (s.sent r); used = s.used }

  abbrev read_slots : (ℕ → Option (Piece A)) → ℕ → Option (Piece B)
  read_slots sl = λ k. option_map (read_piece h) (sl k)

  with_slots : (s : Local A) (x y : ℕ → Option (Piece B)) → x ≡ y → local_with s x ≡ local_with s y
  with_slots s x y e = ap (local_with s) e

  put_slot : (sl : ℕ → Option (Piece A)) (i : ℕ) (p : Piece A) → put (read_slots sl) i (Some (read_piece h p)) ≡ read_slots (put sl i (Some p))
  put_slot sl i p = put_read (option_map (read_piece h)) sl i (Some p)

  put_none : (sl : ℕ → Option (Piece A)) (i : ℕ) → put (read_slots sl) i None ≡ read_slots (put sl i None)
  put_none sl i = put_read (option_map (read_piece h)) sl i None

  whole_read : (t : ℕ) → t < length tiles.sizes → whole d t ≡ read_piece h (whole c t)
  whole_read t l = piece_same (whole d t) (read_piece h (whole c t)) refl refl (sym (law.size t)) (sym (law.load t l))

  blank_read : (t lo hi : ℕ) → blank_of d t lo hi ≡ read_piece h (blank_of c t lo hi)
  blank_read t lo hi = piece_same (blank_of d t lo hi) (read_piece h (blank_of c t lo hi)) refl refl refl (sym (law.blank t lo hi))

  cut_read : (slot at into : ℕ) (o : Option (Piece A)) (sl : ℕ → Option (Piece A)) → FitsCut at (option_map shape_of o) → cut_slots d slot at into (option_map (read_piece h) o) (read_slots sl) ≡ read_slots (cut_slots c slot at into o sl)
  cut_read slot at into None sl fit = refl
  cut_read slot at into (Some p) sl fit =
      let low : lower d at (read_piece h p) ≡ read_piece h (lower c at p) = piece_same (lower d at (read_piece h p)) (read_piece h (lower c at p)) refl refl refl (sym (law.front p.tile p.lo at p.hi p.content fit.0 fit.1)) in
      let up : upper d at (read_piece h p) ≡ read_piece h (upper c at p) = piece_same (upper d at (read_piece h p)) (read_piece h (upper c at p)) refl refl refl (sym (law.rest p.tile p.lo at p.hi p.content fit.0 fit.1)) in
      ap (λ x. put (put (read_slots sl) slot (Some x)) into (Some (upper d at (read_piece h p)))) low
      ∙ (ap (λ x. put (put (read_slots sl) slot (Some (read_piece h (lower c at p)))) into (Some x)) up
      ∙ (ap (λ z. put z into (Some (read_piece h (upper c at p)))) (put_slot sl slot (lower c at p))
      ∙ put_slot (put sl slot (Some (lower c at p))) into (upper c at p)))

  join_read : (front back into : ℕ) (o u : Option (Piece A)) (sl : ℕ → Option (Piece A)) → FitsJoin (option_map shape_of o) (option_map shape_of u) → join_slots d front back into (option_map (read_piece h) o) (option_map (read_piece h) u) (read_slots sl) ≡ read_slots (join_slots c front back into o u sl)
  join_read front back into None u sl fit = refl
  join_read front back into (Some p) None sl fit = refl
  join_read front back into (Some p) (Some q) sl fit =
      let t : p.tile ≡ q.tile = ap (λ x. x.tile) fit in
      let l : p.lo ≡ q.lo = ap (λ x. x.lo) fit in
      let u : p.hi ≡ q.hi = ap (λ x. x.hi) fit in
      let second : h p.tile p.lo p.hi q.content ≡ h q.tile q.lo q.hi q.content = λ i. h (t i) (l i) (u i) q.content in
      let j : joined_piece d (read_piece h p) (read_piece h q) ≡ read_piece h (joined_piece c p q) =
      piece_same (joined_piece d (read_piece h p) (read_piece h q)) (read_piece h (joined_piece c p q)) refl refl refl
      (ap (λ x. d.join (h p.tile p.lo p.hi p.content) x) (sym second) ∙ sym (law.join p.tile p.lo p.hi p.content q.content)) in
      ap (λ x. put (put (put (read_slots sl) front None) back None) into (Some x)) j
      ∙ (ap (λ z. put (put z back None) into (Some (read_piece h (joined_piece c p q)))) (put_none sl front)
      ∙ (ap (λ z. put z into (Some (read_piece h (joined_piece c p q)))) (put_none (put sl front None) back)
      ∙ put_slot (put (put sl front None) back None) into (joined_piece c p q)))

  given_read : (e : Exchange) (o : Option (Piece A)) → given d e (option_map (read_piece h) o) ≡ read_piece h (given c e o)
  given_read e None = blank_read e.tile e.lo e.hi
  given_read e (Some p) = refl

  received_read : (e : Exchange) (o : Option (MessageView A)) → received d e (option_map (read_message h) o) ≡ read_piece h (received c e o)
  received_read e None = blank_read e.tile e.lo e.hi
  received_read e (Some m) = go (has_heading e m.piece)
    where
      go : (b : Bool) → cond b (read_piece h m.piece) (blank_of d e.tile e.lo e.hi) ≡ read_piece h (cond b m.piece (blank_of c e.tile e.lo e.hi))
      go true = refl
      go false = blank_read e.tile e.lo e.hi

  kept_read : (kept : List (Piece A)) (o : Option (Piece A)) → with_kept (map (read_piece h) kept) (option_map (read_piece h) o) ≡ map (read_piece h) (with_kept kept o)
  kept_read kept None = refl
  kept_read kept (Some p) = sym (map-append (read_piece h) kept (p ∷ []))

  swap_read : (me : ℕ) (m : Option (MessageView A)) (k : Kind) (e : Exchange) (slot : ℕ) (s : Local A) → swapped d me (option_map (read_message h) m) k e slot (read_local h s) ≡ read_local h (swapped c me m k e slot s)
  swap_read me m Send e slot s =
      let g : message_of e me (given d e (option_map (read_piece h) (s.slots slot))) ≡ read_message h (message_of e me (given c e (s.slots slot))) = ap (message_of e me) (given_read e (s.slots slot)) in
      local_same (swapped d me (option_map (read_message h) m) Send e slot (read_local h s)) (read_local h (swapped c me m Send e slot s)) (put_none s.slots slot) refl
      (ap (λ x. put (λ r. map (read_message h) (s.sent r)) e.peer (map (read_message h) (s.sent e.peer) ++ x ∷ [])) g
      ∙ (ap (λ x. put (λ r. map (read_message h) (s.sent r)) e.peer x) (sym (map-append (read_message h) (s.sent e.peer) (message_of e me (given c e (s.slots slot)) ∷ [])))
      ∙ put_read (map (read_message h)) s.sent e.peer (s.sent e.peer ++ message_of e me (given c e (s.slots slot)) ∷ [])))
      refl
  swap_read me m Take e slot s =
      local_same (swapped d me (option_map (read_message h) m) Take e slot (read_local h s)) (read_local h (swapped c me m Take e slot s))
      (ap (λ x. put (read_slots s.slots) slot (Some x)) (received_read e m) ∙ put_slot s.slots slot (received c e m)) refl refl refl

  -- one operation that fits
  step_read : (me : ℕ) (m : Option (MessageView A)) (op : Op) (s : Local A) → Fits tiles me op (shape_at s) → step d me (option_map (read_message h) m) op (read_local h s) ≡ read_local h (step c me m op s)
  step_read me m (Load t slot) s fit = with_slots s (put (read_slots s.slots) slot (Some (whole d t))) (read_slots (put s.slots slot (Some (whole c t)))) (ap (λ x. put (read_slots s.slots) slot (Some x)) (whole_read t fit) ∙ put_slot s.slots slot (whole c t))
  step_read me m (Blank t slot) s fit = with_slots s (put (read_slots s.slots) slot (Some (blank_of d t 0 (d.size t)))) (read_slots (put s.slots slot (Some (blank_of c t 0 (c.size t)))))
      (ap (λ n. put (read_slots s.slots) slot (Some (blank_of d t 0 n))) (sym (law.size t)) ∙ (ap (λ x. put (read_slots s.slots) slot (Some x)) (blank_read t 0 (c.size t)) ∙ put_slot s.slots slot (blank_of c t 0 (c.size t))))
  step_read me m (Cut slot at into) s fit = with_slots s (cut_slots d slot at into (option_map (read_piece h) (s.slots slot)) (read_slots s.slots)) (read_slots (cut_slots c slot at into (s.slots slot) s.slots)) (cut_read slot at into (s.slots slot) s.slots fit.1)
  step_read me m (Join front back into) s fit = with_slots s (join_slots d front back into (option_map (read_piece h) (s.slots front)) (option_map (read_piece h) (s.slots back)) (read_slots s.slots)) (read_slots (join_slots c front back into (s.slots front) (s.slots back) s.slots)) (join_read front back into (s.slots front) (s.slots back) s.slots fit.1)
  step_read me m (Swap e slot) s fit = swap_read me m e.kind e slot s
  step_read me m (Keep slot) s fit = ap (λ k. record { slots = read_slots s.slots; kept = k; sent = λ r. map (read_message h) (s.sent r); used = s.used }) (kept_read s.kept (s.slots slot))

  taken_read : (taken : ℕ → List (MessageView A)) (used : ℕ → ℕ) (k : Kind) (peer : ℕ) → taken_by (λ p. map (read_message h) (taken p)) used k peer ≡ option_map (read_message h) (taken_by taken used k peer)
  taken_read taken used Send peer = refl
  taken_read taken used Take peer = slice_get-map (read_message h) (taken peer) (used peer)

  message_read : (taken : ℕ → List (MessageView A)) (used : ℕ → ℕ) (op : Op) → message_for (λ p. map (read_message h) (taken p)) used op ≡ option_map (read_message h) (message_for taken used op)
  message_read taken used (Load t slot) = refl
  message_read taken used (Blank t slot) = refl
  message_read taken used (Cut slot at into) = refl
  message_read taken used (Join front back into) = refl
  message_read taken used (Swap e slot) = taken_read taken used e.kind e.peer
  message_read taken used (Keep slot) = refl

  pub run_read : (me : ℕ) (taken : ℕ → List (MessageView A)) (ops : List Op) (s : Local A) → AllFit tiles c me taken ops s → run d me (λ p. map (read_message h) (taken p)) ops (read_local h s) ≡ read_local h (run c me taken ops s)
  run_read me taken [] s fit = refl
  run_read me taken (op ∷ ops) s fit =
      let m = message_for taken s.used op in
      ap (λ o. run d me (λ p. map (read_message h) (taken p)) ops (step d me o op (read_local h s))) (message_read taken s.used op)
      ∙ (ap (λ z. run d me (λ p. map (read_message h) (taken p)) ops z) (step_read me m op s fit.0)
      ∙ run_read me taken ops (step c me m op s) fit.1)

-- the flow of one carrier, read, is the flow of the other
pub flow_read : {A B : Type 0} (tiles : Tiles) (c : ℕ → Carrier A) (d : ℕ → Carrier B) (h : Reading A B) → ((r : ℕ) → Respects tiles (c r) (d r) h) → (progs : ℕ → List Op) (ms : Messages A) → ((r : ℕ) → AllFit tiles (c r) r (λ p. ms p r) (progs r) fresh) → IsFlow c progs ms → IsFlow d progs (λ q r. map (read_message h) (ms q r))
flow_read {A} {B} tiles c d h law progs ms fit flow q r =
    ap (map (read_message h)) (flow q r) ∙ sym (ap (λ (s : Local B). s.sent r) (run_read tiles (c q) (d q) h (law q) q (λ p. ms p q) (progs q) fresh (fit q)))
