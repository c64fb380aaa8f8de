-- Plans: their flow, in brackets and in pixels, and what their ranks keep.
use Rattle.std.proofs.Common.{◌≡◌, ℕ, zero, suc, ◌+◌, ◌-◌, ◌<◌, ◌≤◌, Bool, true, false, cond, List, [], ◌∷◌, ◌++◌, map, length, get_or, refl, sym, ap, ◌∙◌, subst, arith, None}
use Rattle.std.specs.List.{AllByRecursion, filter}
use Rattle.icet_model.specs.declared.exchange.Exchange.{Exchange}
use Rattle.icet_model.specs.declared.exchange.Op.{Op}
use Rattle.icet_model.specs.Exchange.{key, of_rank}
use Rattle.icet_model.specs.Matched.{IsMatched}
use Rattle.icet_model.specs.Exchange.{exchanges}
use Rattle.icet_model.specs.Run.{Carrier, Piece, MessageView, Local, fresh}
use Rattle.icet_model.specs.Flow.{Messages, IsFlow}
use Rattle.icet_model.specs.Reading.{read_piece, read_local}
use Rattle.icet_model.specs.declared.bracket.Bracket.{Bracket}
use Rattle.icet_model.specs.declared.bracket.Bracket.TheVariants.{Empty}
use Rattle.icet_model.specs.Plan.{bracket_carrier, pixel_carrier, values, PlanView, has_place, bracket_flow, kept_by, IsSound, plan_exchanges, AreWhole}
use Rattle.icet_model.specs.declared.names.Mode.{Mode}
use Rattle.icet_model.specs.Pixel.{Pixel}
use Rattle.icet_model.specs.Traffic.{pixel_messages}
use Rattle.icet_model.specs.Bracket.{Images, value}
use Rattle.std.specs.List.{range_with_len}
use Rattle.icet_model.specs.Flow.{program, keys_end, all_keys_end, flow, end_of}
use Rattle.icet_plan.proofs.Lists.{all_weaker, all_map}
use Rattle.icet_plan.proofs.FlowIsOne.{AreBelow, AreMatched, flow_exists, flow_unique, state, IsNet, net_is_flow, sent_in_flow}
use Rattle.icet_plan.proofs.CarrierImages.{run_read, flow_read}
use Rattle.icet_plan.proofs.Pixels.{values_respect}

pub of_program : (programs : List (List Op)) (r : ℕ) → of_rank (map exchanges programs) r ≡ exchanges (program programs r)
of_program [] r = refl
of_program (ops ∷ programs) zero = refl
of_program (ops ∷ programs) (suc r) = of_program programs r

pub matched_programs : (programs : List (List Op)) → IsMatched (map exchanges programs) → AreMatched (program programs)
matched_programs programs m = record {
  rising = λ r. rw (← of_program programs r) (m.rising r);
  pairs = λ q r. rw (← of_program programs q, ← of_program programs r) (m.pairs q r);
}

below_end : (es : List Exchange) → AreBelow (keys_end es) es
below_end [] = tt
below_end (e ∷ es) = (omega arith, all_weaker (λ x. key x < keys_end es) (λ x. key x < suc (key e) + keys_end es) (λ x l. omega arith) es (below_end es))

below_all : (programs : List (List Op)) (r : ℕ) → AreBelow (all_keys_end programs) (exchanges (program programs r))
below_all [] r = tt
below_all (ops ∷ programs) zero = all_weaker (λ x. key x < keys_end (exchanges ops)) (λ x. key x < keys_end (exchanges ops) + all_keys_end programs) (λ x l. omega arith) (exchanges ops) (below_end (exchanges ops))
below_all (ops ∷ programs) (suc r) = all_weaker (λ x. key x < all_keys_end programs) (λ x. key x < keys_end (exchanges ops) + all_keys_end programs) (λ x l. omega arith) (exchanges (program programs r)) (below_all programs r)

pub flow_is : {T : Type 0} (c : ℕ → Carrier T) (programs : List (List Op)) → IsMatched (map exchanges programs) → IsFlow c (program programs) (flow c programs)
flow_is c programs m = flow_exists c (program programs) (matched_programs programs m) (all_keys_end programs) (below_all programs)

module _ (mode : Mode) (plan : PlanView) (images : Images) (matched : IsMatched (plan_exchanges plan)) (sound : IsSound plan) (sized : AreWhole plan.tiles images) where
  abbrev pub pixels : ℕ → Carrier (List Pixel)
  pixels r = pixel_carrier mode plan.tiles.sizes (images r)

  abbrev pub traffic : Messages (List Pixel)
  traffic = pixel_messages mode plan images

  brackets_flow : IsFlow (bracket_carrier plan.tiles.sizes) (program plan.programs) (bracket_flow plan)
  brackets_flow = flow_is (bracket_carrier plan.tiles.sizes) plan.programs matched

  -- the flow of the pixels is the traffic: the brackets' values
  pub traffic_flow : IsFlow pixels (program plan.programs) traffic
  traffic_flow = flow_read plan.tiles (bracket_carrier plan.tiles.sizes) pixels (values mode images) (values_respect mode plan.tiles images sized) (program plan.programs) (bracket_flow plan) sound.fit brackets_flow

  pub pixel_flow_is_traffic : (q r : ℕ) → flow pixels plan.programs q r ≡ traffic q r
  pixel_flow_is_traffic = flow_unique pixels (program plan.programs) (matched_programs plan.programs matched) (flow pixels plan.programs) traffic (flow_is pixels plan.programs matched) traffic_flow

  -- ranks that run, at whatever places, are where the flow's are, and have sent a front of the traffic
  pub sent_front : (place : ℕ → ℕ) (taken : Messages (List Pixel)) → IsNet pixels (program plan.programs) place taken → ((r : ℕ) → place r ≤ length (program plan.programs r)) → (q r : ℕ) → (more : List (MessageView (List Pixel))) × (traffic q r ≡ (state pixels (program plan.programs) taken q (place q)).sent r ++ more)
  sent_front place taken net l = sent_in_flow pixels (program plan.programs) (matched_programs plan.programs matched) place taken traffic net traffic_flow l

  pub at_place : (place : ℕ → ℕ) (taken : Messages (List Pixel)) → IsNet pixels (program plan.programs) place taken → ((r : ℕ) → place r ≤ length (program plan.programs r)) → (r n : ℕ) → n ≤ place r → state pixels (program plan.programs) taken r n ≡ state pixels (program plan.programs) traffic r n
  at_place place taken net l = net_is_flow pixels (program plan.programs) (matched_programs plan.programs matched) place taken traffic net traffic_flow l

  -- in the end each rank holds the readings of what the flow of brackets leaves
  pub end_is : (r : ℕ) → end_of pixels plan.programs traffic r ≡ read_local (values mode images) (end_of (bracket_carrier plan.tiles.sizes) plan.programs (bracket_flow plan) r)
  end_is r = run_read plan.tiles (bracket_carrier plan.tiles.sizes r) (pixels r) (values mode images) (values_respect mode plan.tiles images sized r) r (λ p. bracket_flow plan p r) (program plan.programs r) fresh (sound.fit r)

  get_value : (f : ℕ → Pixel) (n first j : ℕ) → j < n → get_or (map f (range_with_len first n)) j None ≡ f (first + j)
  get_value f zero first j l = absurd (omega arith)
  get_value f (suc n) first zero l = ap f (let e : first ≡ first + 0 = omega arith in e)
  get_value f (suc n) first (suc j) l = get_value f n (first + 1) j (omega arith) ∙ ap f (let e : first + 1 + j ≡ first + suc j = omega arith in e)

  -- each kept piece has at each of its positions the value of its tile's bracket
  abbrev pub IsRight : Piece (List Pixel) → Type 0
  IsRight p = (i : ℕ) → p.lo ≤ i → i < p.hi → get_or p.content (i - p.lo) None ≡ value mode images (get_or plan.brackets p.tile Empty) p.tile i

  pub kept_right : (r : ℕ) → AllByRecursion IsRight (end_of pixels plan.programs traffic r).kept
  kept_right r =
      let all = sound.carries r in
      subst (λ (s : Local (List Pixel)). AllByRecursion IsRight s.kept) (sym (end_is r))
      (all_map IsRight (read_piece (values mode images)) (kept_by plan r)
      (all_weaker (λ p. get_or plan.brackets p.tile Empty ≡ p.content) (λ p. IsRight (read_piece (values mode images) p))
      (λ p e i l u.
      get_value (λ k. value mode images p.content p.tile k) (p.hi - p.lo) p.lo (i - p.lo) (omega arith)
      ∙ (ap (λ k. value mode images p.content p.tile k) (let z : p.lo + (i - p.lo) ≡ i = omega arith in z)
      ∙ ap (λ b. value mode images b p.tile i) (sym e)))
      (kept_by plan r) all))

  count_read : (t i : ℕ) (ps : List (Piece Bracket)) → length (filter (has_place t i) (map (read_piece (values mode images)) ps)) ≡ length (filter (has_place t i) ps)
  count_read t i [] = refl
  count_read t i (p ∷ ps) = go (has_place t i p) (count_read t i ps)
    where
      go : (b : Bool) → length (filter (has_place t i) (map (read_piece (values mode images)) ps)) ≡ length (filter (has_place t i) ps) → length (cond b (read_piece (values mode images) p ∷ filter (has_place t i) (map (read_piece (values mode images)) ps)) (filter (has_place t i) (map (read_piece (values mode images)) ps))) ≡ length (cond b (p ∷ filter (has_place t i) ps) (filter (has_place t i) ps))
      go true e = ap suc e
      go false e = e

  pub kept_once : (t i : ℕ) → t < length plan.tiles.sizes → i < get_or plan.tiles.sizes t 0 → length (filter (has_place t i) (end_of pixels plan.programs traffic (get_or plan.tiles.displays t 0)).kept) ≡ 1
  kept_once t i l u =
      ap (λ (s : Local (List Pixel)). length (filter (has_place t i) s.kept)) (end_is (get_or plan.tiles.displays t 0)) ∙ (count_read t i (kept_by plan (get_or plan.tiles.displays t 0)) ∙ sound.once t i l u)
