-- The kept pieces of a plan lie within their tiles.
use Rattle.std.proofs.Common.{◌≡◌, ℕ, ◌≤◌, Bool, true, false, cond, List, [], ◌∷◌, ◌++◌, map, get_or, refl, subst, arith, Option, Some, None, eqb-true}
use Rattle.std.specs.Prelude.{◌==◌, ◌&&◌, option_map}
use Rattle.std.specs.List.{AllByRecursion}
use Rattle.std.proofs.lemmas.Bool.{and_parts}
use Rattle.icet_model.specs.declared.bracket.Bracket.{Bracket}
use Rattle.icet_model.specs.declared.exchange.Kind.{Kind}
use Rattle.icet_model.specs.declared.exchange.Kind.TheVariants.{Send, Take}
use Rattle.icet_model.specs.declared.exchange.Exchange.{Exchange}
use Rattle.icet_model.specs.declared.exchange.Op.{Op}
use Rattle.icet_model.specs.declared.exchange.Op.TheVariants.{Load, Blank, Cut, Join, Swap, Keep}
use Rattle.icet_model.specs.Pixel.{Pixel}
use Rattle.icet_model.specs.Run.{Carrier, Piece, MessageView, Local, put, fresh, whole, blank_of, lower, upper, joined_piece, cut_slots, join_slots, has_heading, received, swapped, with_kept, step, message_for, run}
use Rattle.icet_model.specs.Fit.{Tiles, shape_of, shape_at, Fits, FitsCut, FitsTake, FitsSwap, AllFit}
use Rattle.icet_model.specs.Flow.{program}
use Rattle.icet_model.specs.Plan.{PlanView, IsPlan, bracket_carrier, bracket_flow, kept_by}
use Rattle.icet_model.specs.Reading.{Reading, read_piece}

abbrev pub IsWithin : {T : Type 0} → List ℕ → Piece T → Type 0
IsWithin sizes p = p.hi ≤ get_or sizes p.tile 0

module _ (tiles : Tiles) (me : ℕ) where
  abbrev P : Type 0
  P = Piece Bracket

  abbrev c : Carrier Bracket
  c = bracket_carrier tiles.sizes me

  abbrev In : P → Type 0
  In p = IsWithin tiles.sizes p

  abbrev AllIn : (ℕ → Option P) → Type 0
  AllIn g = (k : ℕ) (p : P) → g k ≡ Some p → In p

  abbrev OptIn : Option P → Type 0
  OptIn v = (p : P) → v ≡ Some p → In p

  some_in : (q : P) → In q → OptIn (Some q)
  some_in q h p e = subst In (let z : q ≡ p = cc in z) h

  none_in : OptIn None
  none_in p e = absurd (cc)

  put_in : (g : ℕ → Option P) (i : ℕ) (v : Option P) → AllIn g → OptIn v → AllIn (put g i v)
  put_in g i v a o k p e = go (i == k) e
    where
      go : (b : Bool) → cond b v (g k) ≡ Some p → In p
      go true h = o p h
      go false h = a k p h

  cut_in : (slot at into : ℕ) (o : Option P) (g : ℕ → Option P) → AllIn g → OptIn o → FitsCut at (option_map shape_of o) → AllIn (cut_slots c slot at into o g)
  cut_in slot at into None g a o f = a
  cut_in slot at into (Some p) g a o f =
      let h = o p refl in
      put_in (put g slot (Some (lower c at p))) into (Some (upper c at p)) (put_in g slot (Some (lower c at p)) a (some_in (lower c at p) (let l = f.1 in omega (arith, h, l)))) (some_in (upper c at p) h)

  join_in : (front back into : ℕ) (o u : Option P) (g : ℕ → Option P) → AllIn g → OptIn o → AllIn (join_slots c front back into o u g)
  join_in front back into None u g a o = a
  join_in front back into (Some p) None g a o = a
  join_in front back into (Some p) (Some q) g a o = put_in (put (put g front None) back None) into (Some (joined_piece c p q)) (put_in (put g front None) back None (put_in g front None a none_in) none_in) (some_in (joined_piece c p q) (o p refl))

  received_in : (e : Exchange) (m : Option (MessageView Bracket)) → FitsTake tiles e → In (received c e m)
  received_in e None f = f.2
  received_in e (Some m) f = go (has_heading e m.piece) refl
    where
      go : (b : Bool) → has_heading e m.piece ≡ b → In (cond b m.piece (blank_of c e.tile e.lo e.hi))
      go true h =
          let parts = and_parts (m.piece.tile == e.tile) ((m.piece.lo == e.lo) && (m.piece.hi == e.hi)) h in
          let t = eqb-true m.piece.tile e.tile parts.0 in
          let u = eqb-true m.piece.hi e.hi (and_parts (m.piece.lo == e.lo) (m.piece.hi == e.hi) parts.1).1 in
          rw (t, u) f.2
      go false h = f.2

  pub record Holds (s : Local Bracket) : Type 0 where
    pub slots : AllIn s.slots
    pub kept : AllByRecursion In s.kept

  swap_in : (m : Option (MessageView Bracket)) (k : Kind) (e : Exchange) (slot : ℕ) (s : Local Bracket) → Holds s → FitsSwap tiles k e (shape_at s slot) → Holds (swapped c me m k e slot s)
  swap_in m Send e slot s h f = record { slots = put_in s.slots slot None h.slots none_in; kept = h.kept }
  swap_in m Take e slot s h f = record { slots = put_in s.slots slot (Some (received c e m)) h.slots (some_in (received c e m) (received_in e m f)); kept = h.kept }

  push_in : (ps : List P) (p : P) → AllByRecursion In ps → In p → AllByRecursion In (ps ++ p ∷ [])
  push_in [] p a h = (h, tt)
  push_in (q ∷ qs) p a h = (a.0, push_in qs p a.1 h)

  keep_in : (ps : List P) (o : Option P) → AllByRecursion In ps → OptIn o → AllByRecursion In (with_kept ps o)
  keep_in ps None a o = a
  keep_in ps (Some p) a o = push_in ps p a (o p refl)

  step_in : (m : Option (MessageView Bracket)) (op : Op) (s : Local Bracket) → Holds s → Fits tiles me op (shape_at s) → Holds (step c me m op s)
  step_in m (Load tile slot) s h f = record { slots = put_in s.slots slot (Some (whole c tile)) h.slots (some_in (whole c tile) (omega arith)); kept = h.kept }
  step_in m (Blank tile slot) s h f = record { slots = put_in s.slots slot (Some (blank_of c tile 0 (c.size tile))) h.slots (some_in (blank_of c tile 0 (c.size tile)) (omega arith)); kept = h.kept }
  step_in m (Cut slot at into) s h f = record { slots = cut_in slot at into (s.slots slot) s.slots h.slots (h.slots slot) f.1; kept = h.kept }
  step_in m (Join front back into) s h f = record { slots = join_in front back into (s.slots front) (s.slots back) s.slots h.slots (h.slots front); kept = h.kept }
  step_in m (Swap e slot) s h f = swap_in m e.kind e slot s h f
  step_in m (Keep slot) s h f = record { slots = h.slots; kept = keep_in s.kept (s.slots slot) h.kept (h.slots slot) }

  run_in : (t : ℕ → List (MessageView Bracket)) (ops : List Op) (s : Local Bracket) → Holds s → AllFit tiles c me t ops s → Holds (run c me t ops s)
  run_in t [] s h f = h
  run_in t (op ∷ ops) s h f = run_in t ops (step c me (message_for t s.used op) op s) (step_in (message_for t s.used op) op s h f.0) f.1

read_within : (h : Reading Bracket (List Pixel)) (sizes : List ℕ) (ps : List (Piece Bracket)) → AllByRecursion (λ (p : Piece Bracket). IsWithin sizes p) ps → AllByRecursion (λ (p : Piece (List Pixel)). IsWithin sizes p) (map (read_piece h) ps)
read_within h sizes [] a = tt
read_within h sizes (p ∷ ps) a = (a.0, read_within h sizes ps a.1)

pub kept_within : (plan : PlanView) → IsPlan plan → (h : Reading Bracket (List Pixel)) (r : ℕ) → AllByRecursion (λ (p : Piece (List Pixel)). IsWithin plan.tiles.sizes p) (map (read_piece h) (kept_by plan r))
kept_within plan is h r = read_within h plan.tiles.sizes (kept_by plan r) (run_in plan.tiles r (λ p. bracket_flow plan p r) (program plan.programs r) fresh (record { slots = λ k p e. absurd (cc); kept = tt }) (is.sound.fit r)).kept
