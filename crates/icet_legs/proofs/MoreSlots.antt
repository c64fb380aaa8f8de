-- A program that fits does the same where further slots are filled.
use Rattle.std.proofs.Common.{◌≡◌, ℕ, suc, Bool, true, false, cond, List, [], ◌∷◌, ◌++◌, refl, sym, ap, ◌∙◌, subst, Option, Some, None}
use Rattle.std.specs.Prelude.{◌==◌, option_map}
use Rattle.icet_model.specs.declared.exchange.Kind.{Kind}
use Rattle.icet_model.specs.declared.exchange.Kind.TheVariants.{Send, Take}
use Rattle.icet_model.specs.declared.exchange.Exchange.{Exchange}
use Rattle.icet_model.specs.declared.exchange.Op.{Op}
use Rattle.icet_model.specs.declared.exchange.Op.TheVariants.{Load, Blank, Cut, Join, Swap, Keep}
use Rattle.icet_model.specs.Run.{Carrier, Piece, MessageView, Local, blank_of, cut_slots, given, join_slots, joined_piece, lower, message_for, message_of, put, received, run, step, swapped, upper, whole, with_kept}
use Rattle.icet_model.specs.Fit.{Tiles, AllFit, Fits, FitsCut, FitsJoin, FitsKeep, FitsSend, FitsSwap, shape_at, shape_of}

module _ {T : Type 0} (c : Carrier T) (me : ℕ) (tiles : Tiles) where
  abbrev Slots : Type 0
  Slots = ℕ → Option (Piece T)

  -- what is in a slot of the one is there in the other as well
  abbrev HoldsAll : Slots → Slots → Type 0
  HoldsAll f h = (k : ℕ) (p : Piece T) → f k ≡ Some p → h k ≡ Some p

  -- two states alike but for further slots of the second
  pub record HasMore (s t : Local T) : Type 0 where
    pub slots : (k : ℕ) (p : Piece T) → s.slots k ≡ Some p → t.slots k ≡ Some p
    pub kept : s.kept ≡ t.kept
    pub sent : s.sent ≡ t.sent
    pub used : s.used ≡ t.used

  put_holds : (f h : Slots) → HoldsAll f h → (i : ℕ) (v : Option (Piece T)) → HoldsAll (put f i v) (put h i v)
  put_holds f h all i v k p e = go (i == k) e
    where
      go : (b : Bool) → cond b v (f k) ≡ Some p → cond b v (h k) ≡ Some p
      go true e = e
      go false e = all k p e

  -- a slot that an operation needs
  cut_fits : (at : ℕ) (o u : Option (Piece T)) → ((p : Piece T) → o ≡ Some p → u ≡ Some p) → FitsCut at (option_map shape_of o) → FitsCut at (option_map shape_of u)
  cut_fits at None u h f = absurd f
  cut_fits at (Some p) u h f = subst (λ z. FitsCut at (option_map shape_of z)) (sym (h p refl)) f

  send_fits : (e : Exchange) (o u : Option (Piece T)) → ((p : Piece T) → o ≡ Some p → u ≡ Some p) → FitsSend e (option_map shape_of o) → FitsSend e (option_map shape_of u)
  send_fits e None u h f = absurd f
  send_fits e (Some p) u h f = subst (λ z. FitsSend e (option_map shape_of z)) (sym (h p refl)) f

  keep_fits : (o u : Option (Piece T)) → ((p : Piece T) → o ≡ Some p → u ≡ Some p) → FitsKeep tiles me (option_map shape_of o) → FitsKeep tiles me (option_map shape_of u)
  keep_fits None u h f = absurd f
  keep_fits (Some p) u h f = subst (λ z. FitsKeep tiles me (option_map shape_of z)) (sym (h p refl)) f

  join_fits : (o u x y : Option (Piece T)) → ((p : Piece T) → o ≡ Some p → x ≡ Some p) → ((p : Piece T) → u ≡ Some p → y ≡ Some p) → FitsJoin (option_map shape_of o) (option_map shape_of u) → FitsJoin (option_map shape_of x) (option_map shape_of y)
  join_fits None u x y h k f = absurd f
  join_fits (Some p) None x y h k f = absurd f
  join_fits (Some p) (Some q) x y h k f = subst (λ z. FitsJoin (option_map shape_of z) (option_map shape_of y)) (sym (h p refl)) (subst (λ z. FitsJoin (Some (shape_of p)) (option_map shape_of z)) (sym (k q refl)) f)

  swap_fits : (k : Kind) (e : Exchange) (o u : Option (Piece T)) → ((p : Piece T) → o ≡ Some p → u ≡ Some p) → FitsSwap tiles k e (option_map shape_of o) → FitsSwap tiles k e (option_map shape_of u)
  swap_fits Send e o u h f = send_fits e o u h f
  swap_fits Take e o u h f = f

  fits_more : (s t : Local T) → HasMore s t → (op : Op) → Fits tiles me op (shape_at s) → Fits tiles me op (shape_at t)
  fits_more s t m (Load tile slot) f = f
  fits_more s t m (Blank tile slot) f = f
  fits_more s t m (Cut slot at into) f = (f.0, cut_fits at (s.slots slot) (t.slots slot) (m.slots slot) f.1)
  fits_more s t m (Join front back into) f = (f.0, join_fits (s.slots front) (s.slots back) (t.slots front) (t.slots back) (m.slots front) (m.slots back) f.1)
  fits_more s t m (Swap e slot) f = swap_fits e.kind e (s.slots slot) (t.slots slot) (m.slots slot) f
  fits_more s t m (Keep slot) f = keep_fits (s.slots slot) (t.slots slot) (m.slots slot) f

  with_slots : (s t : Local T) → HasMore s t → (f h : Slots) → HoldsAll f h → HasMore (record { slots = f; kept = s.kept; sent = s.sent; used = s.used }) (record { slots = h; kept = t.kept; sent = t.sent; used = t.used })
  with_slots s t m f h all = record { slots = all; kept = m.kept; sent = m.sent; used = m.used }

  cut_more : (slot at into : ℕ) (f h : Slots) → HoldsAll f h → (o u : Option (Piece T)) → ((p : Piece T) → o ≡ Some p → u ≡ Some p) → FitsCut at (option_map shape_of o) → HoldsAll (cut_slots c slot at into o f) (cut_slots c slot at into u h)
  cut_more slot at into f h all None u k fit = absurd fit
  cut_more slot at into f h all (Some p) u k fit = subst (λ z. HoldsAll (put (put f slot (Some (lower c at p))) into (Some (upper c at p))) (cut_slots c slot at into z h)) (sym (k p refl))
      (put_holds (put f slot (Some (lower c at p))) (put h slot (Some (lower c at p))) (put_holds f h all slot (Some (lower c at p))) into (Some (upper c at p)))

  join_more : (front back into : ℕ) (f h : Slots) → HoldsAll f h → (o u x y : Option (Piece T)) → ((p : Piece T) → o ≡ Some p → x ≡ Some p) → ((p : Piece T) → u ≡ Some p → y ≡ Some p) → FitsJoin (option_map shape_of o) (option_map shape_of u) → HoldsAll (join_slots c front back into o u f) (join_slots c front back into x y h)
  join_more front back into f h all None u x y k l fit = absurd fit
  join_more front back into f h all (Some p) None x y k l fit = absurd fit
  join_more front back into f h all (Some p) (Some q) x y k l fit =
      subst (λ z. HoldsAll (join_slots c front back into (Some p) (Some q) f) (join_slots c front back into z y h)) (sym (k p refl))
      (subst (λ z. HoldsAll (join_slots c front back into (Some p) (Some q) f) (join_slots c front back into (Some p) z h)) (sym (l q refl))
      (put_holds (put (put f front None) back None) (put (put h front None) back None) (put_holds (put f front None) (put h front None) (put_holds f h all front None) back None) into (Some (joined_piece c p q))))

  given_more : (e : Exchange) (o u : Option (Piece T)) → ((p : Piece T) → o ≡ Some p → u ≡ Some p) → FitsSend e (option_map shape_of o) → given c e o ≡ given c e u
  given_more e None u h f = absurd f
  given_more e (Some p) u h f = sym (ap (given c e) (h p refl))

  kept_more : (kept : List (Piece T)) (o u : Option (Piece T)) → ((p : Piece T) → o ≡ Some p → u ≡ Some p) → FitsKeep tiles me (option_map shape_of o) → with_kept kept o ≡ with_kept kept u
  kept_more kept None u h f = absurd f
  kept_more kept (Some p) u h f = sym (ap (with_kept kept) (h p refl))

  swap_more : (s t : Local T) → HasMore s t → (m : Option (MessageView T)) (k : Kind) (e : Exchange) (slot : ℕ) → FitsSwap tiles k e (shape_at s slot) → HasMore (swapped c me m k e slot s) (swapped c me m k e slot t)
  swap_more s t more m Send e slot f = record {
    slots = put_holds s.slots t.slots more.slots slot None;
    kept = more.kept;
    sent = (λ j. put (more.sent j) e.peer ((more.sent j) e.peer ++ message_of e me (given_more e (s.slots slot) (t.slots slot) (more.slots slot) f j) ∷ []));
    used = more.used;
  }
  swap_more s t more m Take e slot f = record {
    slots = put_holds s.slots t.slots more.slots slot (Some (received c e m));
    kept = more.kept;
    sent = more.sent;
    used = ap (λ u. put u e.peer (suc (u e.peer))) more.used;
  }

  step_more : (s t : Local T) → HasMore s t → (m : Option (MessageView T)) (op : Op) → Fits tiles me op (shape_at s) → HasMore (step c me m op s) (step c me m op t)
  step_more s t more m (Load tile slot) f = with_slots s t more (put s.slots slot (Some (whole c tile))) (put t.slots slot (Some (whole c tile))) (put_holds s.slots t.slots more.slots slot (Some (whole c tile)))
  step_more s t more m (Blank tile slot) f = with_slots s t more (put s.slots slot (Some (blank_of c tile 0 (c.size tile)))) (put t.slots slot (Some (blank_of c tile 0 (c.size tile)))) (put_holds s.slots t.slots more.slots slot (Some (blank_of c tile 0 (c.size tile))))
  step_more s t more m (Cut slot at into) f = with_slots s t more (cut_slots c slot at into (s.slots slot) s.slots) (cut_slots c slot at into (t.slots slot) t.slots) (cut_more slot at into s.slots t.slots more.slots (s.slots slot) (t.slots slot) (more.slots slot) f.1)
  step_more s t more m (Join front back into) f = with_slots s t more (join_slots c front back into (s.slots front) (s.slots back) s.slots) (join_slots c front back into (t.slots front) (t.slots back) t.slots) (join_more front back into s.slots t.slots more.slots (s.slots front) (s.slots back) (t.slots front) (t.slots back) (more.slots front) (more.slots back) f.1)
  step_more s t more m (Swap e slot) f = swap_more s t more m e.kind e slot f
  step_more s t more m (Keep slot) f = record { slots = more.slots; kept = kept_more s.kept (s.slots slot) (t.slots slot) (more.slots slot) f ∙ ap (λ k. with_kept k (t.slots slot)) more.kept; sent = more.sent; used = more.used }

  pub record RunsOn (taken : ℕ → List (MessageView T)) (ops : List Op) (s t : Local T) : Type 0 where
    pub more : HasMore (run c me taken ops s) (run c me taken ops t)
    pub fits : AllFit tiles c me taken ops t

  pub runs_on : (taken : ℕ → List (MessageView T)) (ops : List Op) (s t : Local T) → HasMore s t → AllFit tiles c me taken ops s → RunsOn taken ops s t
  runs_on taken [] s t more f = record { more = more; fits = tt }
  runs_on taken (op ∷ ops) s t more f =
      let m = message_for taken s.used op in
      let same : m ≡ message_for taken t.used op = ap (λ u. message_for taken u op) more.used in
      let rest = runs_on taken ops (step c me m op s) (step c me m op t) (step_more s t more m op f.0) f.1 in
      record {
        more = subst (λ z. HasMore (run c me taken ops (step c me m op s)) (run c me taken ops (step c me z op t))) same rest.more;
        fits = (fits_more s t more op f.0, subst (λ z. AllFit tiles c me taken ops (step c me z op t)) same rest.fits);
      }
