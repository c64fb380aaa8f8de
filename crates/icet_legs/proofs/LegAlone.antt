-- What a strategy shows of its leg makes it a leg.
use Rattle.std.proofs.Common.{◌≡◌, ℕ, ◌+◌, ◌*◌, ◌<◌, ◌≤◌, List, [], ◌∷◌, ◌++◌, map, length, refl, sym, ap, ◌∙◌, subst, arith, Option, Some, None, ⊎_elim}
use Rattle.std.proofs.lemmas.List.{get_or_past, length-map}
use Rattle.std.proofs.lemmas.List.FromFn.{length-map-range_with_len, get_or-map-range_with_len}
use Rattle.std.specs.Prelude.{◌⊎◌}
use Rattle.std.specs.List.{AllByRecursion, filter}
use Rattle.icet_model.specs.declared.bracket.Bracket.{Bracket}
use Rattle.icet_model.specs.declared.bracket.Bracket.TheVariants.{Empty, Leaf}
use Rattle.icet_model.specs.declared.exchange.Kind.{Kind}
use Rattle.icet_model.specs.declared.exchange.Kind.TheVariants.{Send, Take}
use Rattle.icet_model.specs.declared.exchange.Exchange.{Exchange}
use Rattle.icet_model.specs.declared.exchange.Op.{Op}
use Rattle.icet_model.specs.declared.exchange.Op.TheVariants.{Load}
use Rattle.icet_model.specs.Exchange.{IsRising, exchanges, key, key_of}
use Rattle.icet_model.specs.Matched.{HasPeerIn, IsMatched}
use Rattle.icet_model.specs.Run.{Carrier, Local, Piece, put, whole}
use Rattle.icet_model.specs.Fit.{Tiles}
use Rattle.icet_model.specs.Flow.{Messages, IsFlow, flow, program}
use Rattle.icet_model.specs.Plan.{bracket_carrier, has_place}
use Rattle.icet_plan.proofs.Lists.{all_weaker}
use Rattle.icet_plan.proofs.LocalRuns.{exchanges-append}
use Rattle.icet_plan.proofs.FlowIsOne.{flow_unique}
use Rattle.icet_plan.proofs.Segments.{Does, does_both, flow_of_does, from_slots}
use Rattle.icet_plan.proofs.Shapes.{fits_anyhow}
use Rattle.icet_plan.proofs.SingleSteps.{load_does}
use Rattle.icet_plan.proofs.OneRound.{one_a_round}
use Rattle.icet_plan.proofs.PlanFlows.{flow_is, matched_programs, of_program}
use Rattle.icet_legs.specs.Team.{Team, IsTeam, by_pos, loaded}
use Rattle.icet_legs.specs.Leg.{AreRanks, IsInRounds, IsLeg, IsTileOf, leaf_carrier, leg_programs}
use Rattle.icet_legs.proofs.LegFacts.{MakesLeg}
use Rattle.icet_legs.proofs.ListTeams.{get_from}
use Rattle.icet_legs.proofs.Loads.{run_same}
use Rattle.icet_legs.proofs.Others.{others_are}

-- a rank's loads are no exchanges
pub no_exchange : (t : ℕ) (o : Option ℕ) → exchanges (by_pos [] (λ p. Load t 0 ∷ []) o) ≡ []
no_exchange t None = refl
no_exchange t (Some p) = refl

pub same_exchanges : (g : Team) (ops : ℕ → List Op) (r : ℕ) → exchanges (loaded g ops r) ≡ exchanges (ops r)
same_exchanges g ops r = exchanges-append (by_pos [] (λ p. Load g.tile 0 ∷ []) (g.pos r)) (ops r) ∙ ap (λ es. es ++ exchanges (ops r)) (no_exchange g.tile (g.pos r))

module _ (g : Team) (team : IsTeam g) (ranks : ℕ) (ranked : AreRanks ranks g) (ops : ℕ → List Op) (outside : (r : ℕ) → g.pos r ≡ None → ops r ≡ []) where
  -- a rank beyond those of the plan has nothing to do
  pub beyond : (r : ℕ) → ranks ≤ r → loaded g ops r ≡ []
  beyond r m = go (g.pos r) refl
    where
      go : (o : Option ℕ) → g.pos r ≡ o → by_pos [] (λ p. Load g.tile 0 ∷ []) o ++ ops r ≡ []
      go None k = outside r k
      go (Some p) k = absurd (let f = team.forth r p k in let a = f.0 in let b = ranked p f.1 in omega (arith, a, b, m))

  pub is_program : (r : ℕ) → program (leg_programs ranks g ops) r ≡ loaded g ops r
  is_program r = ⊎_elim
      (λ (l : r < ranks). get_or-map-range_with_len (loaded g ops) 0 ranks r r [] l (omega arith))
      (λ (l : ranks ≤ r). let n = length-map-range_with_len (loaded g ops) 0 ranks in get_or_past (leg_programs ranks g ops) r [] (omega (arith, l, n)) ∙ sym (beyond r l))
      (let s : (r < ranks) ⊎ (ranks ≤ r) = grind arith in s)

-- the round of an exchange with such a key
in_rounds : (first rounds : ℕ) (e : Exchange) → (2 * first ≤ key e) × (key e < 2 * (first + rounds)) → IsInRounds first rounds e
in_rounds first rounds e w = go e.kind refl
  where
    go : (k : Kind) → e.kind ≡ k → IsInRounds first rounds e
    go Send h = let z : key e ≡ 2 * e.round = ap (key_of e.round) h in let a = w.0 in let b = w.1 in record { from = omega (arith, z, a); to = omega (arith, z, b) }
    go Take h = let z : key e ≡ 2 * e.round + 1 = ap (key_of e.round) h in let a = w.0 in let b = w.1 in record { from = omega (arith, z, a); to = omega (arith, z, b) }

module _ (tiles : Tiles) (ranks : ℕ) (g : Team) (team : IsTeam g) (shows : ℕ) (of : IsTileOf tiles g shows) (ranked : AreRanks ranks g) (rounds : ℕ) (bracket : Bracket) (ops : ℕ → List Op) (ms : Messages Bracket) (kept : ℕ → List (Piece Bracket)) (is : MakesLeg tiles g shows bracket (2 * g.first) (2 * (g.first + rounds)) ops ms kept) where
  abbrev c : ℕ → Carrier Bracket
  c r = leaf_carrier tiles.sizes g r

  abbrev start : ℕ → Option ℕ → ℕ → Option (Piece Bracket)
  start r None = λ _. None
  start r (Some p) = put (λ _. None) 0 (Some (whole (c r) g.tile))

  -- the operations behind the load, with the leaves for images
  own : (r : ℕ) (before : ℕ → Option (Piece Bracket)) → ((p : ℕ) → g.pos r ≡ Some p → before 0 ≡ Some (record { tile = g.tile; lo = 0; hi = g.size; content = g.leaf p })) → (after : ℕ → Option (Piece Bracket)) × Does (c r) r tiles (ops r) (λ q. ms q r) before after (λ q. ms r q) (kept r)
  own r before has =
      let ran = is.runs r before has in (
        ran.after,
        record {
          fits = fits_anyhow tiles (bracket_carrier tiles.sizes r) (c r) refl r (λ q. ms q r) (λ q. ms q r) (ops r) (from_slots (bracket_carrier tiles.sizes r) r before) (from_slots (c r) r before) refl ran.does.fits;
          does = sym (run_same tiles.sizes (λ t. Leaf r) (λ t. by_pos Empty g.leaf (g.pos r)) r (λ q. ms q r) (ops r) (is.no_loads r) (from_slots (c r) r before)) ∙ ran.does.does;
        },
      )

  alone : (r : ℕ) (o : Option ℕ) → g.pos r ≡ o → (after : ℕ → Option (Piece Bracket)) × Does (c r) r tiles (by_pos [] (λ p. Load g.tile 0 ∷ []) o ++ ops r) (λ q. ms q r) (λ _. None) after (λ q. ms r q) (kept r)
  alone r None k = own r (λ _. None) (λ p e. absurd (let z : None ≡ Some p = sym k ∙ e in cc))
  alone r (Some p) k =
      let sl = put (λ _. None) 0 (Some (whole (c r) g.tile)) in
      let has : (x : ℕ) → g.pos r ≡ Some x → sl 0 ≡ Some (record { tile = g.tile; lo = 0; hi = g.size; content = g.leaf x }) = λ x e. (λ j. Some (record { tile = g.tile; lo = 0; hi = (sym of.size) j; content = by_pos Empty g.leaf (e j) })) in
      let ran = own r sl has in (
        ran.0,
        does_both (c r) r tiles (Load g.tile 0 ∷ []) (ops r) (λ q. []) (λ q. ms q r) (λ _. None) sl ran.0 (λ q. []) (λ q. ms r q) [] (kept r) (load_does (c r) r tiles g.tile 0 (λ _. None) of.tile) ran.1,
      )

  does : (r : ℕ) → (after : ℕ → Option (Piece Bracket)) × Does (c r) r tiles (loaded g ops r) (λ q. ms q r) (λ _. None) after (λ q. ms r q) (kept r)
  does r = alone r (g.pos r) refl

  abbrev programs : List (List Op)
  programs = leg_programs ranks g ops

  at : (r : ℕ) → program programs r ≡ loaded g ops r
  at = is_program g team ranks ranked ops is.outside

  peers : (r : ℕ) (o : Option ℕ) → g.pos r ≡ o → AllByRecursion (HasPeerIn ranks r) (exchanges (ops r))
  peers r None k = subst (λ xs. AllByRecursion (HasPeerIn ranks r) (exchanges xs)) (sym (is.outside r k)) tt
  peers r (Some p) k = others_are g team ranks ranked r p k (exchanges (ops r)) (is.others r p k)

  matched : IsMatched (map exchanges programs)
  matched =
      let m = is.part.matched in
      let n : length (map exchanges programs) ≡ ranks = length-map programs exchanges ∙ length-map-range_with_len (loaded g ops) 0 ranks in
      let row = λ (r : ℕ). of_program programs r ∙ (ap exchanges (at r) ∙ same_exchanges g ops r) in
      record {
        rising = λ r. subst IsRising (sym (row r)) (m.rising r);
        peers = λ r. rw (row r, n) (peers r (g.pos r) refl);
        one_a_round = λ q r. rw (row q) (one_a_round r (exchanges (ops q)) (m.rising q));
        pairs = λ q r. rw (row q, row r) (m.pairs q r);
      }

  is_flow : IsFlow c (program programs) ms
  is_flow = flow_of_does tiles c (program programs) ms (λ r. (does r).0) kept (λ r. subst (λ xs. Does (c r) r tiles xs (λ q. ms q r) (λ _. None) (does r).0 (λ q. ms r q) (kept r)) (sym (at r)) (does r).1)

  pub makes_leg : IsLeg tiles ranks g rounds bracket ops ms kept
  makes_leg = record {
    matched = matched;
    within = λ r. all_weaker (λ e. (2 * g.first ≤ key e) × (key e < 2 * (g.first + rounds))) (IsInRounds g.first rounds) (λ e w. in_rounds g.first rounds e w) (exchanges (ops r)) (is.part.within r);
    outside = is.outside;
    fits = λ r. (does r).1.fits;
    flows = flow_unique c (program programs) (matched_programs programs matched) (flow c programs) ms (flow_is c programs matched) is_flow;
    sends = λ r. ap (λ (s : Local Bracket). s.sent) (does r).1.does;
    takes = λ r. ap (λ (s : Local Bracket). s.used) (does r).1.does;
    keeps = λ r. ap (λ (s : Local Bracket). s.kept) (does r).1.does;
    carries = is.carries;
    once = λ i l. ap (λ z. length (filter (has_place g.tile i) (kept z))) (get_from tiles.displays g.tile (g.who shows) 0 of.display) ∙ is.once i l;
    in_order = is.in_order;
  }
