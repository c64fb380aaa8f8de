-- Legs in a row are a plan, and its messages are theirs.
use Rattle.std.proofs.Common.{◌≡◌, ℕ, zero, suc, ◌+◌, ◌*◌, ◌<◌, ◌≤◌, List, [], ◌∷◌, ◌++◌, map, length, get_or, refl, sym, ap, ◌∙◌, subst, arith, Option, Some, None}
use Rattle.std.proofs.lemmas.List.{length-map}
use Rattle.std.proofs.lemmas.List.FromFn.{length-map-range_with_len}
use Rattle.std.specs.Prelude.{Result, Ok, Err, IfOk}
use Rattle.std.specs.List.{AllByRecursion, filter, range_with_len}
use mathlib.Core.Path.{fun_ext}
use Rattle.icet_model.specs.declared.bracket.Bracket.{Bracket}
use Rattle.icet_model.specs.declared.bracket.Bracket.TheVariants.{Empty, Leaf}
use Rattle.icet_model.specs.declared.exchange.Kind.{Kind}
use Rattle.icet_model.specs.declared.exchange.Kind.TheVariants.{Send, Take}
use Rattle.icet_model.specs.declared.exchange.Exchange.{Exchange}
use Rattle.icet_model.specs.declared.exchange.Op.{Op}
use Rattle.icet_model.specs.declared.exchange.Op.TheVariants.{Load}
use Rattle.icet_model.specs.Exchange.{IsRising, exchanges, heading, key, key_of, sends_to, takes_from}
use Rattle.icet_model.specs.Matched.{HasPeerIn}
use Rattle.icet_model.specs.Run.{Carrier, Local, Piece, fresh, run}
use Rattle.icet_model.specs.Fit.{Tiles}
use Rattle.icet_model.specs.Flow.{Messages, program}
use Rattle.icet_model.specs.Plan.{IsPlan, PlanView, bracket_carrier, bracket_flow}
use Rattle.icet_plan.proofs.Lists.{all_map, all_weaker}
use Rattle.icet_plan.proofs.CarrierImages.{local_same}
use Rattle.icet_plan.proofs.FlowIsOne.{AreMatched}
use Rattle.icet_plan.proofs.PlanFlows.{matched_programs, of_program}
use Rattle.icet_plan.proofs.Segments.{AreWithin, Does, IsPart, from_slots}
use Rattle.icet_plan.proofs.Shapes.{fits_anyhow}
use Rattle.icet_plan.proofs.SingleSteps.{Ran}
use Rattle.icet_plan.proofs.PlanRows.{Anyhow}
use Rattle.icet_legs.specs.InRow.{AreLegsInRow, IsRowPlan, TileLegView, leg_ops_at, row_messages, row_plan, row_program, row_team, rounds_before, tile_at, tile_messages_at, tile_ops_at, tiles_of}
use Rattle.icet_legs.specs.Leg.{AreRanks, IsInRounds, IsLeg, leaf_carrier, leg_end, leg_programs}
use Rattle.icet_legs.specs.Team.{Team, IsTeam, by_pos, loaded}
use Rattle.icet_legs.proofs.LegAlone.{beyond, is_program, same_exchanges}
use Rattle.icet_legs.proofs.LegsInRow.{AreLists, IsTileLeg, row_flow, row_is_plan}
use Rattle.icet_legs.proofs.ListTeams.{all_get_or, apart_from_pairs, list_team}
use Rattle.icet_legs.proofs.Loads.{LoadNothing, run_same}
use Rattle.icet_legs.proofs.MoreSlots.{runs_on}

keys_of : (first rounds : ℕ) (e : Exchange) → IsInRounds first rounds e → (2 * first ≤ key e) × (key e < 2 * (first + rounds))
keys_of first rounds e w = go e.kind refl
  where
    go : (k : Kind) → e.kind ≡ k → (2 * first ≤ key e) × (key e < 2 * (first + rounds))
    go Send h = let z : key e ≡ 2 * e.round = ap (key_of e.round) h in let a = w.from in let b = w.to in (omega (arith, z, a), omega (arith, z, b))
    go Take h = let z : key e ≡ 2 * e.round + 1 = ap (key_of e.round) h in let a = w.from in let b = w.to in (omega (arith, z, a), omega (arith, z, b))

-- a leg whose leaves are the participants is the leg of a tile in a row
module _ (ranks : ℕ) (tiles : Tiles) (brackets : List Bracket) (g : Team) (team : IsTeam g) (ranked : AreRanks ranks g) (size : g.size ≡ get_or tiles.sizes g.tile 0) (rounds : ℕ) (bracket : Bracket) (is_bracket : get_or brackets g.tile Empty ≡ bracket) (leaves : (p : ℕ) → p < g.n → g.leaf p ≡ Leaf (g.who p)) (ops : ℕ → List Op) (ms : Messages Bracket) (kept : ℕ → List (Piece Bracket)) (is : IsLeg tiles ranks g rounds bracket ops ms kept) where
  at : (r : ℕ) → program (leg_programs ranks g ops) r ≡ loaded g ops r
  at = is_program g team ranks ranked ops is.outside

  matched : AreMatched (loaded g ops)
  matched = let m = matched_programs (leg_programs ranks g ops) is.matched in record {
    rising = λ r. subst (λ xs. IsRising (exchanges xs)) (at r) (m.rising r);
    pairs = λ q r. subst (λ xs. map heading (filter (sends_to r) (exchanges xs)) ≡ map heading (filter (takes_from q) (exchanges (loaded g ops r)))) (at q)
        (subst (λ xs. map heading (filter (sends_to r) (exchanges (program (leg_programs ranks g ops) q))) ≡ map heading (filter (takes_from q) (exchanges xs))) (at r) (m.pairs q r));
  }

  part : IsPart (loaded g ops) (2 * g.first) (2 * (g.first + rounds))
  part = record {
    ordered = omega arith;
    matched = matched;
    within = λ r. subst (AreWithin (2 * g.first) (2 * (g.first + rounds))) (sym (same_exchanges g ops r)) (all_weaker (IsInRounds g.first rounds) (λ e. (2 * g.first ≤ key e) × (key e < 2 * (g.first + rounds))) (λ e w. keys_of g.first rounds e w) (exchanges (ops r)) (is.within r));
  }

  abbrev c : ℕ → Carrier Bracket
  c r = leaf_carrier tiles.sizes g r

  does : (r : ℕ) (before : ℕ → Option (Piece Bracket)) → (after : ℕ → Option (Piece Bracket)) × Does (c r) r tiles (loaded g ops r) (λ q. ms q r) before after (λ q. ms r q) (kept r)
  does r before =
      let on = runs_on (c r) r tiles (λ q. ms q r) (loaded g ops r) fresh (from_slots (c r) r before) (record { slots = λ k p e. absurd (cc); kept = refl; sent = refl; used = refl }) (is.fits r) in
      let end : Local Bracket = run (c r) r (λ q. ms q r) (loaded g ops r) (from_slots (c r) r before) in (
        end.slots,
        record {
          fits = on.fits;
          does = local_same end (record { slots = end.slots; kept = kept r; sent = λ q. ms r q; used = λ q. length (ms q r) }) refl (sym on.more.kept ∙ is.keeps r) (sym on.more.sent ∙ is.sends r) (sym on.more.used ∙ is.takes r);
        },
      )

  -- the leaf is the rank's own image
  own : (r : ℕ) (before : ℕ → Option (Piece Bracket)) (o : Option ℕ) → g.pos r ≡ o → Ran (bracket_carrier tiles.sizes r) r tiles (Anyhow (bracket_carrier tiles.sizes r) r tiles) (loaded g ops r) (λ q. ms q r) before (λ q. ms r q) (kept r)
  own r before (Some p) k =
      let f = team.forth r p k in
      let leaf : by_pos Empty g.leaf (g.pos r) ≡ Leaf r = ap (by_pos Empty g.leaf) k ∙ (leaves p f.1 ∙ ap (λ z. Leaf z) f.0) in
      let same : c r ≡ bracket_carrier tiles.sizes r = λ j. record { size = λ t. get_or tiles.sizes t 0; load = λ t. leaf j; blank = λ t lo hi. Empty; front = λ n b. b; rest = λ n b. b; join = (bracket_carrier tiles.sizes r).join } in
      let d = does r before in
      record { after = d.0; does = subst (λ x. Does x r tiles (loaded g ops r) (λ q. ms q r) before d.0 (λ q. ms r q) (kept r)) same d.1; holds = tt }
  own r before None k =
      let none : loaded g ops r ≡ [] = ap (λ o. by_pos [] (λ p. Load g.tile 0 ∷ []) o ++ ops r) k ∙ is.outside r k in
      let d = does r before in
      record {
        after = d.0;
        does = record {
          fits = fits_anyhow tiles (c r) (bracket_carrier tiles.sizes r) refl r (λ q. ms q r) (λ q. ms q r) (loaded g ops r) (from_slots (c r) r before) (from_slots (bracket_carrier tiles.sizes r) r before) refl d.1.fits;
          does = sym (run_same tiles.sizes (λ t. by_pos Empty g.leaf (g.pos r)) (λ t. Leaf r) r (λ q. ms q r) (loaded g ops r) (subst LoadNothing (sym none) tt) (from_slots (c r) r before)) ∙ d.1.does;
        };
        holds = tt;
      }

  pub tile_leg : IsTileLeg ranks tiles brackets g.tile (2 * g.first) (2 * (g.first + rounds)) (loaded g ops) ms kept
  tile_leg = record {
    part = part;
    peers = λ r.
        let n : length (map exchanges (leg_programs ranks g ops)) ≡ ranks = length-map (leg_programs ranks g ops) exchanges ∙ length-map-range_with_len (loaded g ops) 0 ranks in
        subst (λ k. AllByRecursion (HasPeerIn k r) (exchanges (loaded g ops r))) n
        (subst (AllByRecursion (HasPeerIn (length (map exchanges (leg_programs ranks g ops))) r)) (of_program (leg_programs ranks g ops) r ∙ ap exchanges (at r)) (is.matched.peers r));
    beyond = λ r m. beyond g team ranks ranked ops is.outside r m;
    runs = λ r before. own r before (g.pos r) refl;
    carries = λ r. subst (λ b. AllByRecursion (λ p. (p.tile ≡ g.tile) × (p.content ≡ b)) (kept r)) (sym is_bracket) (is.carries r);
    once = λ i l. is.once i (omega (arith, l, size));
  }

get_mapped : {X Y : Type 0} (f : X → Y) (xs : List X) (t : ℕ) (d : X) (e : Y) → t < length xs → get_or (map f xs) t e ≡ f (get_or xs t d)
get_mapped f [] t d e l = absurd (omega arith)
get_mapped f (x ∷ xs) zero d e l = refl
get_mapped f (x ∷ xs) (suc t) d e l = get_mapped f xs t d e (omega arith)

rounds_more : (legs : List TileLegView) (t : ℕ) → t < length legs → rounds_before legs (suc t) ≡ rounds_before legs t + (tile_at legs t).rounds
rounds_more [] t l = absurd (omega arith)
rounds_more (x ∷ legs) zero l = omega arith
rounds_more (x ∷ legs) (suc t) l = let h = rounds_more legs t (omega arith) in omega (arith, h)

all_of_all : {X : Type 0} (P : X → Type 0) (xs : List X) (d : X) → ((t : ℕ) → t < length xs → P (get_or xs t d)) → AllByRecursion P xs
all_of_all P [] d h = tt
all_of_all P (x ∷ xs) d h = (h 0 (omega arith), all_of_all P xs d (λ t l. h (suc t) (omega arith)))

-- what a rank keeps in the end of the leg of tile t
abbrev kept_at : ℕ → List TileLegView → ℕ → ℕ → List (Piece Bracket)
kept_at ranks legs t r = (leg_end (tiles_of legs).sizes (row_team legs t) (leg_ops_at legs t) (tile_messages_at ranks legs t) r).kept

module _ (ranks : ℕ) (legs : List TileLegView) (are : AreLegsInRow ranks legs) where
  abbrev brackets : List Bracket
  brackets = map (λ x. x.bracket) legs

  abbrev sizes : List ℕ
  sizes = map (λ x. x.size) legs

  abbrev displays : List ℕ
  displays = map (λ x. x.display) legs

  abbrev bounds : ℕ → ℕ
  bounds t = 2 * rounds_before legs t

  module _ (t : ℕ) (l : t < length legs) where
    abbrev x : TileLegView
    x = tile_at legs t

    -- with its own messages and kept pieces
    itself : IsLeg (tiles_of legs) ranks (row_team legs t) x.rounds x.bracket (leg_ops_at legs t) (tile_messages_at ranks legs t) (kept_at ranks legs t)
    itself =
        let a = are t l in
        let e : a.messages ≡ tile_messages_at ranks legs t = fun_ext (λ q. fun_ext (λ r. sym (a.is_leg.flows q r))) in
        let one : IsLeg (tiles_of legs) ranks (row_team legs t) x.rounds x.bracket (leg_ops_at legs t) (tile_messages_at ranks legs t) a.kept = subst (λ m. IsLeg (tiles_of legs) ranks (row_team legs t) x.rounds x.bracket (leg_ops_at legs t) m a.kept) e a.is_leg in
        let k : a.kept ≡ kept_at ranks legs t = fun_ext (λ r. sym (one.keeps r)) in
        subst (IsLeg (tiles_of legs) ranks (row_team legs t) x.rounds x.bracket (leg_ops_at legs t) (tile_messages_at ranks legs t)) k one

    in_its_rounds : IsTileLeg ranks (tiles_of legs) brackets t (bounds t) (bounds (suc t)) (tile_ops_at legs t) (tile_messages_at ranks legs t) (kept_at ranks legs t)
    in_its_rounds =
        let a = are t l in
        let d : TileLegView = record { size = 0; display = 0; participants = []; programs = []; bracket = Empty; rounds = 0 } in
        let team = list_team x.participants (map (λ r. Leaf r) x.participants) t x.size (rounds_before legs t) (apart_from_pairs x.participants a.distinct) in
        let z : rounds_before legs t + x.rounds ≡ rounds_before legs (suc t) = sym (rounds_more legs t l) in
        subst (λ u. IsTileLeg ranks (tiles_of legs) brackets t (bounds t) (2 * u) (tile_ops_at legs t) (tile_messages_at ranks legs t) (kept_at ranks legs t)) z
        (tile_leg ranks (tiles_of legs) brackets (row_team legs t) team (λ p k. all_get_or (λ r. r < ranks) x.participants p 0 a.ranked k)
        (sym (get_mapped (λ y. y.size) legs t d 0 l)) x.rounds x.bracket (get_mapped (λ y. y.bracket) legs t d Empty l)
        (λ p k. get_mapped (λ r. Leaf r) x.participants p 0 Empty k) (leg_ops_at legs t) (tile_messages_at ranks legs t) (kept_at ranks legs t) itself)

  many : length sizes ≡ length legs
  many = length-map legs (λ x. x.size)

  lists : AreLists ranks sizes displays brackets
  lists = record {
    as_displays = length-map legs (λ x. x.display) ∙ sym many;
    as_brackets = length-map legs (λ x. x.bracket) ∙ sym many;
    shown = all_map (λ d. d < ranks) (λ x. x.display) legs (all_of_all (λ x. x.display < ranks) legs (record { size = 0; display = 0; participants = []; programs = []; bracket = Empty; rounds = 0 }) (λ t l. (are t l).shown));
  }

  each_leg : (t : ℕ) → t < length sizes → IsTileLeg ranks (tiles_of legs) brackets t (bounds t) (bounds (suc t)) (tile_ops_at legs t) (tile_messages_at ranks legs t) (kept_at ranks legs t)
  each_leg t l = in_its_rounds t (omega (arith, l, many))

  pub row_holds : IsPlan (row_plan ranks legs)
  row_holds = subst (λ k. IsPlan (record { tiles = tiles_of legs; brackets = brackets; programs = map (row_program (tile_ops_at legs) k) (range_with_len 0 ranks) })) many
      (row_is_plan ranks sizes displays brackets lists (tile_ops_at legs) (tile_messages_at ranks legs) (kept_at ranks legs) bounds each_leg)

  pub row_carries : (q r : ℕ) → bracket_flow (row_plan ranks legs) q r ≡ row_messages (tile_messages_at ranks legs) (length legs) q r
  row_carries q r = subst (λ k. bracket_flow (record { tiles = tiles_of legs; brackets = brackets; programs = map (row_program (tile_ops_at legs) k) (range_with_len 0 ranks) }) q r ≡ row_messages (tile_messages_at ranks legs) k q r) many
      (row_flow ranks sizes displays brackets lists (tile_ops_at legs) (tile_messages_at ranks legs) (kept_at ranks legs) bounds each_leg q r)

  -- the plan as it is put together
  module _ (a b d : List TileLegView) (a_is : a ≡ legs) (b_is : b ≡ legs) (d_is : d ≡ legs) (ps : List (List Op)) (ss ds : List ℕ) (bs : List Bracket) (programs : ps ≡ map (row_program (tile_ops_at a) (length a)) (range_with_len 0 ranks)) (sizes_are : ss ≡ map (λ x. x.size) b) (displays_are : ds ≡ map (λ x. x.display) d) (brackets_are : bs ≡ map (λ x. x.bracket) legs) where
    abbrev made : PlanView
    made = record { tiles = record { sizes = ss; displays = ds }; brackets = bs; programs = ps }

    made_is : made ≡ row_plan ranks legs
    made_is =
        let p : ps ≡ map (row_program (tile_ops_at legs) (length legs)) (range_with_len 0 ranks) = programs ∙ ap (λ z. map (row_program (tile_ops_at z) (length z)) (range_with_len 0 ranks)) a_is in
        let s : ss ≡ map (λ x. x.size) legs = sizes_are ∙ ap (map (λ x. x.size)) b_is in
        let e : ds ≡ map (λ x. x.display) legs = displays_are ∙ ap (map (λ x. x.display)) d_is in
        λ j. record { tiles = record { sizes = s j; displays = e j }; brackets = brackets_are j; programs = p j }

    pub made_plan : IsPlan made
    made_plan = subst IsPlan (sym made_is) row_holds

    pub made_ranks : length ps ≡ ranks
    made_ranks = ap (λ z. length z) programs ∙ length-map-range_with_len (row_program (tile_ops_at a) (length a)) 0 ranks

    pub made_row : {Z : Type 0} (r : Result PlanView Z) → IfOk r (λ p. p ≡ made) → IfOk r (IsRowPlan ranks legs)
    made_row (Ok p) h = record { plan_is = h ∙ made_is; messages = subst (λ z. (q r : ℕ) → bracket_flow z q r ≡ row_messages (tile_messages_at ranks legs) (length legs) q r) (sym (h ∙ made_is)) row_carries }
    made_row (Err z) h = tt
