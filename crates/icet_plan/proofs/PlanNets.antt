-- What machines of a plan have sent, counted and kept, wherever they stand, and what they have when all are done.
use Rattle.std.proofs.Common.{◌≡◌, ℕ, ◌+◌, ◌<◌, ◌≤◌, List, ◌++◌, map, length, get_or, sym, ap, ◌∙◌, subst, arith, Option}
use Rattle.std.proofs.lemmas.List.{take_all}
use Rattle.std.specs.List.{AllByRecursion, filter}
use Rattle.icet_model.specs.declared.names.Mode.{Mode}
use Rattle.icet_model.specs.Pixel.{Pixel}
use Rattle.icet_model.specs.Bracket.{Images}
use Rattle.icet_model.specs.Core.{IsLawful}
use Rattle.icet_model.specs.Run.{Carrier, Piece, Local, fresh, run}
use Rattle.icet_model.specs.Flow.{Messages, program, end_of}
use Rattle.icet_model.specs.Plan.{PlanView, IsPlan, plan_exchanges, pixel_carrier, kept_by, has_place, values, AreWhole}
use Rattle.icet_model.specs.Reading.{read_piece}
use Rattle.icet_model.specs.Traffic.{pixel_messages}
use Rattle.icet_model.specs.Ports.{IsAt}
use Rattle.icet_plan.proofs.MachineNets.{Front, is_net, is_lawful, counter_at, carried}
use Rattle.icet_plan.proofs.PlanFlows.{traffic_flow, sent_front, at_place, end_is, kept_right, kept_once, IsRight}

module _ (mode : Mode) (plan : PlanView) (is : IsPlan plan) (images : Images) (sized : AreWhole plan.tiles images) where
  -- each rank's own kind of content: its images' pixels
  abbrev pub pixels_of : ℕ → Carrier (List Pixel)
  pixels_of r = pixel_carrier mode plan.tiles.sizes (images r)

  module _ (place : ℕ → ℕ) (taken : Messages (List Pixel)) (slots : ℕ → ℕ → Option (Piece (List Pixel))) (kept : ℕ → List (Piece (List Pixel))) (sent : Messages (List Pixel)) (at : (r : ℕ) → IsAt (pixels_of r) r (program plan.programs r) (place r) (λ p. taken p r) (slots r) (kept r) (λ q. sent r q)) (fronts : (q r : ℕ) → Front (taken q r) (sent q r)) where
    -- what a pair has sent is a front of its traffic
    pub sent_is_front : ((r : ℕ) → place r ≤ length (program plan.programs r)) → (q r : ℕ) → Front (sent q r) (pixel_messages mode plan images q r)
    sent_is_front within q r =
        let h = sent_front mode plan images is.matched is.sound sized place taken (is_net pixels_of plan.programs place taken slots kept sent at fronts) within q r in
        record { more = h.0; is = h.1 ∙ ap (λ xs. xs ++ h.0) (sym ((at q).sent_are r)) }

    -- the counters are a lawful state where at most `cap` messages wait on each pair
    pub counters_are_lawful : (cap : ℕ) (done : List ℕ) → length done ≡ length plan.programs → ((r : ℕ) → get_or done r 0 ≡ counter_at (program plan.programs r) (place r)) → ((q r : ℕ) → length (sent q r) ≤ length (taken q r) + cap) → IsLawful (plan_exchanges plan) cap done
    counters_are_lawful = is_lawful pixels_of plan.programs place taken slots kept sent at fronts

    module _ (ended : (r : ℕ) → place r ≡ length (program plan.programs r)) where
      -- each pair has sent its traffic, and all of it was taken
      pub all_carried : (q r : ℕ) → (sent q r ≡ pixel_messages mode plan images q r) × (taken q r ≡ sent q r)
      all_carried = carried pixels_of plan.programs place taken slots kept sent at fronts is.matched (pixel_messages mode plan images) (traffic_flow mode plan images is.matched is.sound sized) ended

      at_end : (r : ℕ) → kept r ≡ (end_of pixels_of plan.programs (pixel_messages mode plan images) r).kept
      at_end r =
          (at r).kept_are
          ∙ (ap (λ (s : Local (List Pixel)). s.kept) (at_place mode plan images is.matched is.sound sized place taken (is_net pixels_of plan.programs place taken slots kept sent at fronts) (λ x. let e = ended x in omega (arith, e)) r (place r) (omega arith))
          ∙ ap (λ ops. (run (pixels_of r) r (λ p. pixel_messages mode plan images p r) ops fresh).kept) (take_all (place r) (program plan.programs r) (let e = ended r in omega (arith, e))))

      -- a rank keeps the values of the pieces that the flow leaves it
      pub kept_are_values : (r : ℕ) → kept r ≡ map (read_piece (values mode images)) (kept_by plan r)
      kept_are_values r = at_end r ∙ ap (λ (s : Local (List Pixel)). s.kept) (end_is mode plan images is.matched is.sound sized r)

      -- each kept piece has at each of its positions the value of its tile's bracket
      pub kept_are_right : (r : ℕ) → AllByRecursion (IsRight mode plan images is.matched is.sound sized) (kept r)
      kept_are_right r = subst (AllByRecursion (IsRight mode plan images is.matched is.sound sized)) (sym (at_end r)) (kept_right mode plan images is.matched is.sound sized r)

      -- the display of a tile keeps each of its positions once
      pub kept_are_once : (t i : ℕ) → t < length plan.tiles.sizes → i < get_or plan.tiles.sizes t 0 → length (filter (has_place t i) (kept (get_or plan.tiles.displays t 0))) ≡ 1
      kept_are_once t i l u = ap (λ ps. length (filter (has_place t i) ps)) (at_end (get_or plan.tiles.displays t 0)) ∙ kept_once mode plan images is.matched is.sound sized t i l u
