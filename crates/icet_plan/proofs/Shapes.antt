-- Whether operations fit depends on the program alone, not on what is carried or taken.
use Rattle.std.proofs.Common.{◌≡◌, ℕ, Bool, true, false, cond, List, [], ◌∷◌, refl, sym, ap, ◌∙◌, subst, Option, Some, None, eqb-true}
use Rattle.std.specs.Prelude.{◌==◌, ◌&&◌, option_map}
use Rattle.icet_model.specs.declared.exchange.Kind.{Kind}
use Rattle.icet_model.specs.declared.exchange.Kind.TheVariants.{Send, Take}
use Rattle.icet_model.specs.declared.exchange.Exchange.{Exchange}
use Rattle.icet_model.specs.declared.exchange.Op.{Op}
use Rattle.icet_model.specs.declared.exchange.Op.TheVariants.{Load, Blank, Cut, Join, Swap, Keep}
use Rattle.icet_model.specs.Run.{Carrier, Piece, MessageView, Local, put, whole, blank_of, lower, upper, joined_piece, cut_slots, join_slots, has_heading, received, swapped, step, message_for}
use Rattle.icet_model.specs.Fit.{Tiles, Shape, shape_of, shape_at, Fits, AllFit}
use mathlib.Core.Path.{fun_ext}

taken_shape : {T : Type 0} (c : Carrier T) (e : Exchange) (m : Option (MessageView T)) → shape_of (received c e m) ≡ record { tile = e.tile; lo = e.lo; hi = e.hi }
taken_shape c e None = refl
taken_shape {T} c e (Some m) = go (has_heading e m.piece) refl
  where
    three : (p q r : Bool) → (p && (q && r)) ≡ true → (p ≡ true) × (q ≡ true) × (r ≡ true)
    three true true true h = (refl, refl, refl)
    three true true false h = absurd (cc)
    three true false r h = absurd (cc)
    three false q r h = absurd (cc)

    go : (b : Bool) → has_heading e m.piece ≡ b → shape_of (cond b m.piece (blank_of c e.tile e.lo e.hi)) ≡ record { tile = e.tile; lo = e.lo; hi = e.hi }
    go true h =
        let f = three (m.piece.tile == e.tile) (m.piece.lo == e.lo) (m.piece.hi == e.hi) h in
        let t = eqb-true m.piece.tile e.tile f.0 in
        let l = eqb-true m.piece.lo e.lo f.1 in
        let u = eqb-true m.piece.hi e.hi f.2 in
        λ i. record { tile = t i; lo = l i; hi = u i }
    go false h = refl

-- what an operation makes of the shapes
abbrev cut_shapes : ℕ → ℕ → ℕ → Option Shape → (ℕ → Option Shape) → ℕ → Option Shape
cut_shapes slot at into None sl = sl
cut_shapes slot at into (Some p) sl = put (put sl slot (Some (record { tile = p.tile; lo = p.lo; hi = at }))) into (Some (record { tile = p.tile; lo = at; hi = p.hi }))

abbrev join_shapes : ℕ → ℕ → ℕ → Option Shape → Option Shape → (ℕ → Option Shape) → ℕ → Option Shape
join_shapes front back into (Some p) (Some q) sl = put (put (put sl front None) back None) into (Some p)
join_shapes front back into (Some p) None sl = sl
join_shapes front back into None q sl = sl

abbrev swap_shapes : Kind → Exchange → ℕ → (ℕ → Option Shape) → ℕ → Option Shape
swap_shapes Send e slot sl = put sl slot None
swap_shapes Take e slot sl = put sl slot (Some (record { tile = e.tile; lo = e.lo; hi = e.hi }))

abbrev step_shapes : (ℕ → ℕ) → Op → (ℕ → Option Shape) → ℕ → Option Shape
step_shapes size (Load t slot) sl = put sl slot (Some (record { tile = t; lo = 0; hi = size t }))
step_shapes size (Blank t slot) sl = put sl slot (Some (record { tile = t; lo = 0; hi = size t }))
step_shapes size (Cut slot at into) sl = cut_shapes slot at into (sl slot) sl
step_shapes size (Join front back into) sl = join_shapes front back into (sl front) (sl back) sl
step_shapes size (Swap e slot) sl = swap_shapes e.kind e slot sl
step_shapes size (Keep slot) sl = sl

module _ {T : Type 0} (c : Carrier T) where
  put_shape : (g : ℕ → Option (Piece T)) (i : ℕ) (v : Option (Piece T)) → (λ k. option_map shape_of (put g i v k)) ≡ put (λ k. option_map shape_of (g k)) i (option_map shape_of v)
  put_shape g i v = fun_ext (λ k. go (i == k) k)
    where
      go : (b : Bool) (k : ℕ) → option_map shape_of (cond b v (g k)) ≡ cond b (option_map shape_of v) (option_map shape_of (g k))
      go true k = refl
      go false k = refl

  abbrev shapes : (ℕ → Option (Piece T)) → ℕ → Option Shape
  shapes g k = option_map shape_of (g k)

  cut_shape : (slot at into : ℕ) (o : Option (Piece T)) (g : ℕ → Option (Piece T)) → shapes (cut_slots c slot at into o g) ≡ cut_shapes slot at into (option_map shape_of o) (shapes g)
  cut_shape slot at into None g = refl
  cut_shape slot at into (Some p) g = put_shape (put g slot (Some (lower c at p))) into (Some (upper c at p)) ∙ ap (λ z. put z into (Some (shape_of (upper c at p)))) (put_shape g slot (Some (lower c at p)))

  join_shape : (front back into : ℕ) (o u : Option (Piece T)) (g : ℕ → Option (Piece T)) → shapes (join_slots c front back into o u g) ≡ join_shapes front back into (option_map shape_of o) (option_map shape_of u) (shapes g)
  join_shape front back into None u g = refl
  join_shape front back into (Some p) None g = refl
  join_shape front back into (Some p) (Some q) g =
      put_shape (put (put g front None) back None) into (Some (joined_piece c p q))
      ∙ (ap (λ z. put z into (Some (shape_of p))) (put_shape (put g front None) back None)
      ∙ ap (λ z. put (put z back None) into (Some (shape_of p))) (put_shape g front None))

  swap_shape : (me : ℕ) (m : Option (MessageView T)) (k : Kind) (e : Exchange) (slot : ℕ) (s : Local T) → shapes (swapped c me m k e slot s).slots ≡ swap_shapes k e slot (shapes s.slots)
  swap_shape me m Send e slot s = put_shape s.slots slot None
  swap_shape me m Take e slot s = put_shape s.slots slot (Some (received c e m)) ∙ ap (λ z. put (shapes s.slots) slot (Some z)) (taken_shape c e m)

  step_shape : (me : ℕ) (m : Option (MessageView T)) (op : Op) (s : Local T) → shapes (step c me m op s).slots ≡ step_shapes c.size op (shapes s.slots)
  step_shape me m (Load t slot) s = put_shape s.slots slot (Some (whole c t))
  step_shape me m (Blank t slot) s = put_shape s.slots slot (Some (blank_of c t 0 (c.size t)))
  step_shape me m (Cut slot at into) s = cut_shape slot at into (s.slots slot) s.slots
  step_shape me m (Join front back into) s = join_shape front back into (s.slots front) (s.slots back) s.slots
  step_shape me m (Swap e slot) s = swap_shape me m e.kind e slot s
  step_shape me m (Keep slot) s = refl

-- a program that fits in one run fits in each
pub fits_anyhow : {A B : Type 0} (tiles : Tiles) (c : Carrier A) (d : Carrier B) → c.size ≡ d.size → (me : ℕ) (a : ℕ → List (MessageView A)) (b : ℕ → List (MessageView B)) (ops : List Op) (s : Local A) (t : Local B) → shape_at s ≡ shape_at t → AllFit tiles c me a ops s → AllFit tiles d me b ops t
fits_anyhow tiles c d sizes me a b [] s t same fit = tt
fits_anyhow tiles c d sizes me a b (op ∷ ops) s t same fit = (
  subst (Fits tiles me op) same fit.0,
  fits_anyhow tiles c d sizes me a b ops (step c me (message_for a s.used op) op s) (step d me (message_for b t.used op) op t)
      (step_shape c me (message_for a s.used op) op s ∙ (ap (λ z. step_shapes z op (shape_at s)) sizes ∙ (ap (step_shapes d.size op) same ∙ sym (step_shape d me (message_for b t.used op) op t))))
      fit.1,
)
