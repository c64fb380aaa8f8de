-- What fits in a plan fits whoever displays the tiles.
use Rattle.std.proofs.Common.{ℕ, List, [], ◌∷◌, Option, Some, None}
use Rattle.icet_model.specs.declared.exchange.Kind.{Kind}
use Rattle.icet_model.specs.declared.exchange.Kind.TheVariants.{Send, Take}
use Rattle.icet_model.specs.declared.exchange.Exchange.{Exchange}
use Rattle.icet_model.specs.declared.exchange.Op.{Op}
use Rattle.icet_model.specs.declared.exchange.Op.TheVariants.{Load, Blank, Cut, Join, Swap, Keep}
use Rattle.icet_model.specs.Run.{Carrier, MessageView, Local, step, message_for}
use Rattle.icet_model.specs.Fit.{Tiles, Shape, FitsSwap, FitsKeep, Fits, AllFit, shape_at}
use Rattle.icet_rank.specs.Fits.{IsFilled, undisplayed, FitsAnyDisplay, AllFitAnyDisplay}

module _ (tiles : Tiles) (me : ℕ) where
  swap_fits : (k : Kind) (e : Exchange) (h : Option Shape) → FitsSwap tiles k e h → FitsSwap (undisplayed tiles.sizes) k e h
  swap_fits Send e h f = f
  swap_fits Take e h f = f

  keep_fits : (h : Option Shape) → FitsKeep tiles me h → IsFilled h
  keep_fits None f = f
  keep_fits (Some h) f = tt

  pub fits_any_display : (op : Op) (at_slot : ℕ → Option Shape) → Fits tiles me op at_slot → FitsAnyDisplay tiles.sizes op at_slot
  fits_any_display (Load tile slot) at_slot f = f
  fits_any_display (Blank tile slot) at_slot f = f
  fits_any_display (Cut slot at into) at_slot f = f
  fits_any_display (Join front back into) at_slot f = f
  fits_any_display (Swap e slot) at_slot f = swap_fits e.kind e (at_slot slot) f
  fits_any_display (Keep slot) at_slot f = keep_fits (at_slot slot) f

  pub all_fit_any_display : {T : Type 0} (c : Carrier T) (taken : ℕ → List (MessageView T)) (ops : List Op) (s : Local T) → AllFit tiles c me taken ops s → AllFitAnyDisplay tiles.sizes c me taken ops s
  all_fit_any_display c taken [] s f = tt
  all_fit_any_display c taken (op ∷ ops) s f = (fits_any_display op (shape_at s) f.0, all_fit_any_display c taken ops (step c me (message_for taken s.used op) op s) f.1)
