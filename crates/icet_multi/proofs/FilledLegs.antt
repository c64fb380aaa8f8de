-- A leg runs on from a piece in slot 0.
use Rattle.std.proofs.Common.{◌≡◌, ℕ, zero, suc, Bool, true, false, cond, List, [], ◌∷◌, ◌++◌, get_or, refl, sym, ap, ◌∙◌, subst, arith, eqb-true, Option, Some, None}
use Rattle.std.specs.Prelude.{◌==◌}
use Rattle.icet_model.specs.declared.bracket.Bracket.{Bracket}
use Rattle.icet_model.specs.declared.bracket.Bracket.TheVariants.{Empty, Leaf}
use Rattle.icet_model.specs.declared.exchange.Op.{Op}
use Rattle.icet_model.specs.declared.exchange.Op.TheVariants.{Load}
use Rattle.icet_model.specs.Fit.{AllFit, Tiles}
use Rattle.icet_model.specs.Flow.{Messages}
use Rattle.icet_model.specs.Plan.{bracket_carrier}
use Rattle.icet_model.specs.Run.{Carrier, Local, MessageView, Piece, fresh, run, step, whole}
use Rattle.icet_plan.proofs.Shapes.{fits_anyhow}
use Rattle.icet_legs.specs.Leg.{IsLeg, leaf_carrier, leg_end}
use Rattle.icet_legs.specs.Team.{Team, by_pos, loaded}
use Rattle.icet_legs.proofs.Loads.{LoadNothing, run_same}
use Rattle.icet_legs.proofs.MoreSlots.{HasMore, RunsOn, runs_on}
use Rattle.icet_multi.specs.FilledSlot.{LegsBeginFromASlot, RunsLeg, leaf_piece, rank_with}

module _ (tiles : Tiles) (ranks : ℕ) (g : Team) (rounds : ℕ) (bracket : Bracket) (ops : ℕ → List Op) (ms : Messages Bracket) (kept : ℕ → List (Piece Bracket)) (is : IsLeg tiles ranks g rounds bracket ops ms kept) (size : g.size ≡ get_or tiles.sizes g.tile 0) (r p : ℕ) (at : g.pos r ≡ Some p) (nothing : LoadNothing (ops r)) (slots : ℕ → Option (Piece Bracket)) (holds : slots 0 ≡ Some (leaf_piece g p)) where
  abbrev c : Carrier Bracket
  c = leaf_carrier tiles.sizes g r

  abbrev taken : ℕ → List (MessageView Bracket)
  taken = λ q. ms q r

  program : loaded g ops r ≡ Load g.tile 0 ∷ ops r
  program = ap (λ o. by_pos [] (λ (q : ℕ). Load g.tile 0 ∷ []) o ++ ops r) at

  -- behind the load
  abbrev began : Local Bracket
  began = step c r None (Load g.tile 0) fresh

  same_piece : leaf_piece g p ≡ whole c g.tile
  same_piece =
      let leaf : g.leaf p ≡ by_pos Empty g.leaf (g.pos r) = sym (ap (by_pos Empty g.leaf) at) in
      λ j. record { tile = g.tile; lo = 0; hi = size j; content = leaf j }

  more : HasMore c r tiles began (rank_with slots)
  more = record {
    slots = λ k q e. go k (0 == k) refl q e;
    kept = refl;
    sent = refl;
    used = refl;
  }
    where
      first : (k : ℕ) → (0 == k) ≡ true → slots k ≡ slots 0
      first zero e = refl
      first (suc k) e = let z : 0 ≡ suc k = eqb-true 0 (suc k) e in absurd (omega (arith, z))

      go : (k : ℕ) (b : Bool) → (0 == k) ≡ b → (q : Piece Bracket) → cond b (Some (whole c g.tile)) None ≡ Some q → slots k ≡ Some q
      go k true e q h = first k e ∙ (holds ∙ (ap Some same_piece ∙ h))
      go k false e q h = absurd (cc)

  on : RunsOn c r tiles taken (ops r) began (rank_with slots)
  on = runs_on c r tiles taken (ops r) began (rank_with slots) more (subst (λ xs. AllFit tiles c r taken xs fresh) program (is.fits r)).1

  same : run (bracket_carrier tiles.sizes r) r taken (ops r) (rank_with slots) ≡ run c r taken (ops r) (rank_with slots)
  same = sym (run_same tiles.sizes (λ t. by_pos Empty g.leaf (g.pos r)) (λ t. Leaf r) r taken (ops r) nothing (rank_with slots))

  end : leg_end tiles.sizes g ops ms r ≡ run c r taken (ops r) began
  end = ap (λ xs. run c r taken xs fresh) program

  pub runs_leg : RunsLeg tiles r (ops r) ms kept slots
  runs_leg = record {
    fits = fits_anyhow tiles c (bracket_carrier tiles.sizes r) refl r taken taken (ops r) (rank_with slots) (rank_with slots) refl on.fits;
    sends = ap (λ (s : Local Bracket). s.sent) same ∙ (sym on.more.sent ∙ (sym (ap (λ (s : Local Bracket). s.sent) end) ∙ is.sends r));
    takes = ap (λ (s : Local Bracket). s.used) same ∙ (sym on.more.used ∙ (sym (ap (λ (s : Local Bracket). s.used) end) ∙ is.takes r));
    keeps = ap (λ (s : Local Bracket). s.kept) same ∙ (sym on.more.kept ∙ (sym (ap (λ (s : Local Bracket). s.kept) end) ∙ is.keeps r));
  }

pub legs_begin : LegsBeginFromASlot
legs_begin = runs_leg
