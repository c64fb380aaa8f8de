-- What a strategy shows of its leg, from any slots that have the leaf in slot 0.
use Rattle.std.proofs.Common.{Bool, true, false, cond, ◌≡◌, ℕ, ◌<◌, List, [], ◌∷◌, ◌++◌, length, refl, Option, Some, None}
use Rattle.std.specs.Prelude.{◌==◌}
use Rattle.std.specs.List.{AllByRecursion, filter}
use Rattle.icet_model.specs.declared.bracket.Bracket.{Bracket}
use Rattle.icet_model.specs.declared.exchange.Op.{Op}
use Rattle.icet_model.specs.Exchange.{exchanges}
use Rattle.icet_model.specs.Run.{Piece}
use Rattle.icet_model.specs.Fit.{Tiles}
use Rattle.icet_model.specs.Flow.{Messages}
use Rattle.icet_model.specs.Plan.{bracket_carrier, has_place}
use Rattle.icet_plan.specs.Each.{each}
use Rattle.icet_plan.proofs.Segments.{all_append, IsPart}
use Rattle.icet_plan.proofs.SingleSteps.{Ran}
use Rattle.icet_plan.proofs.PlanRows.{Anyhow}
use Rattle.icet_legs.specs.Team.{Team}
use Rattle.icet_legs.specs.Collect.{Final, final_piece, final_kept, hands_in}
use Rattle.icet_legs.specs.Order.{AreInOrder}
use Rattle.icet_legs.proofs.Loads.{LoadNothing}
use Rattle.icet_legs.proofs.Others.{AreOther}
use Rattle.icet_legs.proofs.LegsInRow.{all_each}

-- the keys are from l to u
pub record MakesLeg (tiles : Tiles) (g : Team) (shows : ℕ) (bracket : Bracket) (l u : ℕ) (ops : ℕ → List Op) (ms : Messages Bracket) (kept : ℕ → List (Piece Bracket)) : Type 0 where
  pub part : IsPart ops l u
  pub others : (r p : ℕ) → g.pos r ≡ Some p → AreOther g p (ops r)
  pub outside : (r : ℕ) → g.pos r ≡ None → ops r ≡ []
  pub no_loads : (r : ℕ) → LoadNothing (ops r)
  pub runs : (r : ℕ) (before : ℕ → Option (Piece Bracket)) → ((p : ℕ) → g.pos r ≡ Some p → before 0 ≡ Some (record { tile = g.tile; lo = 0; hi = g.size; content = g.leaf p })) → Ran (bracket_carrier tiles.sizes r) r tiles (Anyhow (bracket_carrier tiles.sizes r) r tiles) (ops r) (λ q. ms q r) before (λ q. ms r q) (kept r)
  pub carries : (r : ℕ) → AllByRecursion (λ p. (p.tile ≡ g.tile) × (p.content ≡ bracket)) (kept r)
  pub once : (i : ℕ) → i < g.size → length (filter (has_place g.tile i) (kept (g.who shows))) ≡ 1
  pub in_order : (r : ℕ) → AreInOrder g.pos (exchanges (ops r))

-- what the display keeps is of the tile, with the bracket of the whole
pub final_carries : (g : Team) (f : Final) (p : ℕ) → AllByRecursion (λ x. (x.tile ≡ g.tile) × (x.content ≡ f.content)) (final_kept g f p)
final_carries g f p = go (p == f.shows)
  where
    one : (t : Bool) (a : ℕ) → AllByRecursion (λ x. (x.tile ≡ g.tile) × (x.content ≡ f.content)) (cond t (final_piece g f a ∷ []) [])
    one true a = ((refl, refl), tt)
    one false a = tt

    go : (x : Bool) → AllByRecursion (λ x. (x.tile ≡ g.tile) × (x.content ≡ f.content)) (cond x (cond (f.holds f.shows) (final_piece g f f.shows ∷ []) [] ++ each (λ b. cond (hands_in f b) (final_piece g f b ∷ []) []) g.n) [])
    go true = all_append (λ x. (x.tile ≡ g.tile) × (x.content ≡ f.content)) (cond (f.holds f.shows) (final_piece g f f.shows ∷ []) []) (each (λ b. cond (hands_in f b) (final_piece g f b ∷ []) []) g.n) (one (f.holds f.shows) f.shows) (all_each (λ x. (x.tile ≡ g.tile) × (x.content ≡ f.content)) (λ b. cond (hands_in f b) (final_piece g f b ∷ []) []) g.n (λ b l. one (hands_in f b) b))
    go false = tt
