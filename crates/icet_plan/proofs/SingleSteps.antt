-- What each operation does alone, and families of parts.
use Rattle.std.proofs.Common.{◌≡◌, ℕ, zero, suc, ◌<◌, ◌≤◌, Bool, true, false, cond, List, [], ◌∷◌, length, get_or, refl, sym, ap, ◌∙◌, subst, arith, Option, Some, None, eq-eqb}
use Rattle.std.specs.Prelude.{◌==◌, ◌&&◌, ◌≢◌, option_map}
use Rattle.std.specs.List.{slice_get}
use mathlib.Core.Path.{fun_ext}
use Rattle.icet_model.specs.declared.exchange.Kind.{Kind}
use Rattle.icet_model.specs.declared.exchange.Kind.TheVariants.{Send, Take}
use Rattle.icet_model.specs.declared.exchange.Exchange.{Exchange}
use Rattle.icet_model.specs.declared.exchange.Op.{Op}
use Rattle.icet_model.specs.declared.exchange.Op.TheVariants.{Load, Blank, Cut, Join, Swap, Keep}
use Rattle.icet_model.specs.Run.{Carrier, Piece, MessageView, put, whole, blank_of, lower, upper, joined_piece, cut_slots, join_slots, given, has_heading, received, with_kept, message_of, step, message_for}
use Rattle.icet_model.specs.Fit.{Tiles, shape_of, FitsCut, FitsSend, FitsJoin, FitsKeep}
use Rattle.icet_plan.specs.Each.{each}
use Rattle.icet_plan.proofs.Segments.{from_slots, Does, does_nothing, does_both}

module _ {T : Type 0} (c : Carrier T) (me : ℕ) (tiles : Tiles) where
  abbrev pub Slots : Type 0
  Slots = ℕ → Option (Piece T)

  abbrev pub no_msgs : ℕ → List (MessageView T)
  no_msgs q = []

  abbrev pub one_msg : ℕ → MessageView T → ℕ → List (MessageView T)
  one_msg peer m = put (λ _. []) peer (m ∷ [])

  pub does_as : (ops : List Op) (a b : ℕ → List (MessageView T)) (s0 s1 : Slots) (S R : ℕ → List (MessageView T)) (K : List (Piece T)) → a ≡ b → S ≡ R → Does c me tiles ops a s0 s1 S K → Does c me tiles ops b s0 s1 R K
  does_as ops a b s0 s1 S R K e f h = subst (λ x. Does c me tiles ops x s0 s1 R K) e (subst (λ x. Does c me tiles ops a s0 s1 x K) f h)

  pub load_does : (t slot : ℕ) (sl : Slots) → t < length tiles.sizes → Does c me tiles (Load t slot ∷ []) no_msgs sl (put sl slot (Some (whole c t))) no_msgs []
  load_does t slot sl l = record { fits = (l, tt); does = refl }

  pub blank_does : (t slot : ℕ) (sl : Slots) → t < length tiles.sizes → Does c me tiles (Blank t slot ∷ []) no_msgs sl (put sl slot (Some (blank_of c t 0 (c.size t)))) no_msgs []
  blank_does t slot sl l = record { fits = (l, tt); does = refl }

  pub cut_does : (slot at into : ℕ) (p : Piece T) (sl : Slots) → sl slot ≡ Some p → slot ≢ into → p.lo ≤ at → at ≤ p.hi → Does c me tiles (Cut slot at into ∷ []) no_msgs sl (put (put sl slot (Some (lower c at p))) into (Some (upper c at p))) no_msgs []
  cut_does slot at into p sl h n l u = record {
    fits = ((n, subst (λ o. FitsCut at (option_map shape_of o)) (sym h) (l, u)), tt);
    does = ap (λ o. record { slots = cut_slots c slot at into o sl; kept = []; sent = λ _. []; used = λ _. 0 }) h;
  }

  pub join_does : (front back into : ℕ) (p q : Piece T) (sl : Slots) → sl front ≡ Some p → sl back ≡ Some q → front ≢ back → shape_of p ≡ shape_of q → Does c me tiles (Join front back into ∷ []) no_msgs sl (put (put (put sl front None) back None) into (Some (joined_piece c p q))) no_msgs []
  join_does front back into p q sl h k n e = record {
    fits = ((n, subst (λ o. FitsJoin (option_map shape_of o) (option_map shape_of (sl back))) (sym h) (subst (λ o. FitsJoin (Some (shape_of p)) (option_map shape_of o)) (sym k) e)), tt);
    does = ap (λ o. record { slots = join_slots c front back into o (sl back) sl; kept = []; sent = λ _. []; used = λ _. 0 }) h
        ∙ ap (λ o. record { slots = join_slots c front back into (Some p) o sl; kept = []; sent = λ _. []; used = λ _. 0 }) k;
  }

  pub keep_does : (slot : ℕ) (p : Piece T) (sl : Slots) → sl slot ≡ Some p → slice_get tiles.displays p.tile ≡ Some me → Does c me tiles (Keep slot ∷ []) no_msgs sl sl no_msgs (p ∷ [])
  keep_does slot p sl h d = record {
    fits = (subst (λ o. FitsKeep tiles me (option_map shape_of o)) (sym h) d, tt);
    does = ap (λ o. record { slots = sl; kept = with_kept [] o; sent = λ _. []; used = λ _. 0 }) h;
  }

  abbrev pub swap_of : ℕ → Kind → ℕ → Piece T → Exchange
  swap_of round k peer p = record { round = round; kind = k; peer = peer; tile = p.tile; lo = p.lo; hi = p.hi }

  pub give_does : (round peer slot : ℕ) (p : Piece T) (sl : Slots) → sl slot ≡ Some p → Does c me tiles (Swap (swap_of round Send peer p) slot ∷ []) no_msgs sl (put sl slot None) (one_msg peer (record { round = round; from = me; to = peer; piece = p })) []
  give_does round peer slot p sl h = record {
    fits = (subst (λ o. FitsSend (swap_of round Send peer p) (option_map shape_of o)) (sym h) refl, tt);
    does = ap (λ o. record { slots = put sl slot None; kept = []; sent = put (λ _. []) peer (message_of (swap_of round Send peer p) me (given c (swap_of round Send peer p) o) ∷ []); used = λ _. 0 }) h;
  }

  one_length : (peer : ℕ) (m : MessageView T) → put (λ _. 0) peer 1 ≡ (λ p. length (one_msg peer m p))
  one_length peer m = fun_ext (λ p. go (peer == p))
    where
      go : (b : Bool) → cond b 1 0 ≡ length (cond b (m ∷ []) [])
      go true = refl
      go false = refl

  and_true : (p q : Bool) → p ≡ true → q ≡ true → (p && q) ≡ true
  and_true true true h k = refl
  and_true true false h k = absurd (cc)
  and_true false q h k = absurd (cc)

  pub take_does : (round peer slot : ℕ) (m : MessageView T) (sl : Slots) → m.piece.tile < length tiles.sizes → m.piece.lo ≤ m.piece.hi → m.piece.hi ≤ get_or tiles.sizes m.piece.tile 0 → Does c me tiles (Swap (swap_of round Take peer m.piece) slot ∷ []) (one_msg peer m) sl (put sl slot (Some m.piece)) no_msgs []
  take_does round peer slot m sl l o u =
      let e = swap_of round Take peer m.piece in
      let p = m.piece in
      let same : (peer == peer) ≡ true = eq-eqb peer peer refl in
      let heading : has_heading e p ≡ true = and_true (p.tile == p.tile) ((p.lo == p.lo) && (p.hi == p.hi)) (eq-eqb p.tile p.tile refl) (and_true (p.lo == p.lo) (p.hi == p.hi) (eq-eqb p.lo p.lo refl) (eq-eqb p.hi p.hi refl)) in
      let got : message_for (one_msg peer m) (λ _. 0) (Swap e slot) ≡ Some m = ap (λ z. slice_get (cond z (m ∷ []) []) 0) same in
      let pc : received c e (Some m) ≡ p = ap (λ z. cond z p (blank_of c p.tile p.lo p.hi)) heading in
      record {
        fits = ((l, o, u), tt);
        does = ap (λ o. step c me o (Swap e slot) (from_slots c me sl)) got
            ∙ (ap (λ x. record { slots = put sl slot (Some x); kept = []; sent = λ _. []; used = put (λ _. 0) peer 1 }) pc
            ∙ ap (λ u. record { slots = put sl slot (Some p); kept = []; sent = λ _. []; used = u }) (one_length peer m));
      }

  -- parts one for each number
  pub does_each : (ops : ℕ → List Op) (slots : ℕ → Slots) (F G : ℕ → ℕ → List (MessageView T)) (K : ℕ → List (Piece T)) (k : ℕ) → ((b : ℕ) → b < k → Does c me tiles (ops b) (F b) (slots b) (slots (suc b)) (G b) (K b)) → Does c me tiles (each ops k) (λ q. each (λ b. F b q) k) (slots 0) (slots k) (λ q. each (λ b. G b q) k) (each K k)
  does_each ops slots F G K zero h = does_nothing c me tiles (slots 0)
  does_each ops slots F G K (suc k) h =
      does_both c me tiles (each ops k) (ops k) (λ q. each (λ b. F b q) k) (F k) (slots 0) (slots k) (slots (suc k)) (λ q. each (λ b. G b q) k) (G k) (each K k) (K k)
      (does_each ops slots F G K k (λ b l. h b (omega arith))) (h k (omega arith))

  -- the same where the slots are known by what they hold
  pub record Ran (I : Slots → Type 0) (ops : List Op) (taken : ℕ → List (MessageView T)) (before : Slots) (sent : ℕ → List (MessageView T)) (kept : List (Piece T)) : Type 0 where
    pub after : Slots
    pub does : Does c me tiles ops taken before after sent kept
    pub holds : I after

  pub ran_each : (I : ℕ → Slots → Type 0) (ops : ℕ → List Op) (F G : ℕ → ℕ → List (MessageView T)) (K : ℕ → List (Piece T)) (k : ℕ) → ((b : ℕ) (sl : Slots) → b < k → I b sl → Ran (I (suc b)) (ops b) (F b) sl (G b) (K b)) → (sl : Slots) → I 0 sl → Ran (I k) (each ops k) (λ q. each (λ b. F b q) k) sl (λ q. each (λ b. G b q) k) (each K k)
  ran_each I ops F G K zero h sl i = record { after = sl; does = does_nothing c me tiles sl; holds = i }
  ran_each I ops F G K (suc k) h sl i =
      let past = ran_each I ops F G K k (λ b s l. h b s (omega arith)) sl i in
      let next = h k past.after (omega arith) past.holds in
      record {
        after = next.after;
        does = does_both c me tiles (each ops k) (ops k) (λ q. each (λ b. F b q) k) (F k) sl past.after next.after (λ q. each (λ b. G b q) k) (G k) (each K k) (K k) past.does next.does;
        holds = next.holds;
      }
