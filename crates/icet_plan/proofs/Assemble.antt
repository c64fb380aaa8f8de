-- A plan whose programs do what is said: it is matched, its flow is what is said, and it is sound where the kept pieces are right.
use Rattle.std.proofs.Common.{◌≡◌, ℕ, ◌<◌, List, length, get_or, sym, ap, ◌∙◌, subst, Option, None}
use Rattle.std.specs.List.{AllByRecursion, filter}
use mathlib.Core.Path.{fun_ext}
use Rattle.std.proofs.lemmas.List.{length-map}
use Rattle.icet_model.specs.Matched.{HasPeerIn, IsMatched}
use Rattle.icet_plan.proofs.OneRound.{one_a_round}
use Rattle.icet_model.specs.Exchange.{exchanges}
use Rattle.icet_model.specs.Run.{Piece, MessageView, Local, fresh, run}
use Rattle.icet_model.specs.Flow.{Messages}
use Rattle.icet_model.specs.Fit.{AllFit}
use Rattle.icet_model.specs.declared.bracket.Bracket.{Bracket}
use Rattle.icet_model.specs.declared.bracket.Bracket.TheVariants.{Empty}
use Rattle.icet_model.specs.Plan.{bracket_carrier, PlanView, has_place, bracket_flow, kept_by, IsSound, plan_exchanges}
use Rattle.icet_model.specs.Flow.{program}
use Rattle.icet_plan.proofs.FlowIsOne.{AreMatched, flow_unique}
use Rattle.icet_plan.proofs.Segments.{Does, flow_of_does}
use Rattle.icet_plan.proofs.PlanFlows.{of_program, flow_is}

-- what a builder shows of each rank
pub record DoesAll (plan : PlanView) (ms : Messages Bracket) (kept : ℕ → List (Piece Bracket)) : Type 0 where
  pub matched : AreMatched (program plan.programs)
  pub peers : (r : ℕ) → AllByRecursion (HasPeerIn (length plan.programs) r) (exchanges (program plan.programs r))
  pub after : ℕ → ℕ → Option (Piece Bracket)
  pub does : (r : ℕ) → Does (bracket_carrier plan.tiles.sizes r) r plan.tiles (program plan.programs r) (λ p. ms p r) (λ _. None) (after r) (λ q. ms r q) (kept r)

module _ (plan : PlanView) (ms : Messages Bracket) (kept : ℕ → List (Piece Bracket)) (h : DoesAll plan ms kept) where
  pub plan_matched : IsMatched (plan_exchanges plan)
  plan_matched = record {
    rising = λ r. rw (of_program plan.programs r) (h.matched.rising r);
    peers = λ r. rw (of_program plan.programs r, length-map plan.programs exchanges) (h.peers r);
    one_a_round = λ q r. rw (of_program plan.programs q) (one_a_round r (exchanges (program plan.programs q)) (h.matched.rising q));
    pairs = λ q r. rw (of_program plan.programs q, of_program plan.programs r) (h.matched.pairs q r);
  }

  -- its flow has exactly these messages
  pub plan_flow : (q r : ℕ) → bracket_flow plan q r ≡ ms q r
  plan_flow = flow_unique (bracket_carrier plan.tiles.sizes) (program plan.programs) h.matched (bracket_flow plan) ms (flow_is (bracket_carrier plan.tiles.sizes) plan.programs plan_matched) (flow_of_does plan.tiles (bracket_carrier plan.tiles.sizes) (program plan.programs) ms h.after kept h.does)

  abbrev into : Messages Bracket → ℕ → ℕ → List (MessageView Bracket)
  into xs r p = xs p r

  to_rank : (r : ℕ) → into ms r ≡ into (bracket_flow plan) r
  to_rank r = fun_ext (λ p. sym (plan_flow p r))

  pub plan_kept : (r : ℕ) → kept_by plan r ≡ kept r
  plan_kept r = sym (ap (λ (t : ℕ → List (MessageView Bracket)). (run (bracket_carrier plan.tiles.sizes r) r t (program plan.programs r) fresh).kept) (to_rank r)) ∙ ap (λ (s : Local Bracket). s.kept) (h.does r).does

  -- with the right pieces kept it is sound
  pub plan_sound : ((t i : ℕ) → t < length plan.tiles.sizes → i < get_or plan.tiles.sizes t 0 → length (filter (has_place t i) (kept (get_or plan.tiles.displays t 0))) ≡ 1) → ((r : ℕ) → AllByRecursion (λ p. get_or plan.brackets p.tile Empty ≡ p.content) (kept r)) → IsSound plan
  plan_sound once carries = record {
    fit = λ r. subst (λ (t : ℕ → List (MessageView Bracket)). AllFit plan.tiles (bracket_carrier plan.tiles.sizes r) r t (program plan.programs r) fresh) (to_rank r) (h.does r).fits;
    once = λ t i l u. ap (λ xs. length (filter (has_place t i) xs)) (plan_kept (get_or plan.tiles.displays t 0)) ∙ once t i l u;
    carries = λ r. subst (AllByRecursion (λ p. get_or plan.brackets p.tile Empty ≡ p.content)) (sym (plan_kept r)) (carries r);
  }
