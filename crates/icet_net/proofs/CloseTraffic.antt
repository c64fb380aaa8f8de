-- The entries of the log for a plan's pairs are the plan's traffic.
use Rattle.std.proofs.Common.{◌≡◌, ℕ, zero, suc, List, [], ◌∷◌, ◌++◌, map, length, refl, ap, ◌∙◌, arith}
use Rattle.std.specs.List.{flat_map, range_with_len}
use Rattle.std.proofs.lemmas.List.{map-append}
use Rattle.icet_model.specs.declared.names.Mode.{Mode}
use Rattle.icet_model.specs.Pixel.{Pixel}
use Rattle.icet_model.specs.Run.{MessageView}
use Rattle.icet_model.specs.Bracket.{Images}
use Rattle.icet_model.specs.Plan.{PlanView}
use Rattle.icet_model.specs.Ports.{messages_to}
use Rattle.icet_model.specs.Traffic.{entry, pixel_messages, traffic}
use Rattle.icet_net.specs.Net.{messages_on, pair_if, pairs_from, pairs_of}
use Rattle.icet_net.specs.Opening.{ports_of}
use Rattle.icet_net.specs.CloseSteps.{entry_of}
use Rattle.icet_model.specs.Wires.{PortView}

map_flat : {A B : Type 0} (f : A → B) (g : ℕ → List A) (h : ℕ → List B) → ((k : ℕ) → map f (g k) ≡ h k) → (xs : List ℕ) → map f (flat_map g xs) ≡ flat_map h xs
map_flat f g h each [] = refl
map_flat f g h each (x ∷ xs) = map-append f (g x) (flat_map g xs) ∙ (ap (λ ys. ys ++ map f (flat_map g xs)) (each x) ∙ ap (λ ys. h x ++ ys) (map_flat f g h each xs))

module _ (outs : List (List (ℕ × PortView))) where
  one_entry : (q r n : ℕ) (ms : List (MessageView (List Pixel))) → messages_to (ports_of outs q) r ≡ ms → length ms ≡ n → map (entry_of outs) (pair_if q r n) ≡ entry q r ms
  one_entry q r zero [] e l = refl
  one_entry q r zero (m ∷ ms) e l = absurd (omega (arith, l))
  one_entry q r (suc n) [] e l = absurd (omega (arith, l))
  one_entry q r (suc n) (m ∷ ms) e l = ap (λ xs. record { from = q; to = r; messages = xs } ∷ []) e

  pub log_is_traffic : (mode : Mode) (plan : PlanView) (images : Images) → ((q r : ℕ) → messages_to (ports_of outs q) r ≡ pixel_messages mode plan images q r) → ((q r : ℕ) → length (pixel_messages mode plan images q r) ≡ messages_on plan q r) → map (entry_of outs) (pairs_of plan) ≡ traffic mode plan images
  log_is_traffic mode plan images same long =
      map_flat (entry_of outs) (pairs_from plan (length plan.programs)) (λ q. flat_map (λ r. entry q r (pixel_messages mode plan images q r)) (range_with_len 0 (length plan.programs))) (λ q.
      map_flat (entry_of outs) (λ r. pair_if q r (messages_on plan q r)) (λ r. entry q r (pixel_messages mode plan images q r)) (λ r.
      one_entry q r (messages_on plan q r) (pixel_messages mode plan images q r) (same q r) (long q r)) (range_with_len 0 (length plan.programs))) (range_with_len 0 (length plan.programs))
