-- Legs in a row are a plan: matched, with the legs' messages one behind the other, and sound.
use Rattle.std.proofs.Common.{◌≡◌, ◌≢◌, ℕ, zero, suc, ◌<◌, ◌≤◌, cond, List, [], ◌∷◌, ◌++◌, length, get_or, refl, sym, ap, ◌∙◌, subst, arith, Option, None, ne_eqb, ⊎_elim}
use Rattle.std.proofs.lemmas.List.{append-nil, get_or_past}
use Rattle.std.proofs.lemmas.List.FromFn.{length-map-range_with_len, get_or-map-range_with_len}
use Rattle.std.specs.Prelude.{◌&&◌, ◌⊎◌, nat_le, nat_lt}
use Rattle.std.specs.List.{AllByRecursion, filter}
use Rattle.icet_model.specs.declared.bracket.Bracket.{Bracket}
use Rattle.icet_model.specs.declared.bracket.Bracket.TheVariants.{Empty}
use Rattle.icet_model.specs.declared.exchange.Op.{Op}
use Rattle.icet_model.specs.Exchange.{IsRising, exchanges}
use Rattle.icet_model.specs.Matched.{HasPeerIn}
use Rattle.icet_model.specs.Run.{Piece}
use Rattle.icet_model.specs.Fit.{Tiles}
use Rattle.icet_model.specs.Flow.{Messages, program}
use Rattle.icet_model.specs.Plan.{PlanView, IsPlan, bracket_carrier, bracket_flow, has_place}
use Rattle.icet_plan.specs.Each.{each}
use Rattle.icet_plan.proofs.Lists.{all_weaker, filter-append}
use Rattle.icet_plan.proofs.LocalRuns.{exchanges-append}
use Rattle.icet_plan.proofs.Segments.{Does, IsPart, all_append}
use Rattle.icet_plan.proofs.SingleSteps.{Ran}
use Rattle.icet_plan.proofs.PlanRows.{Anyhow, does_row, parts_row}
use Rattle.icet_plan.proofs.FlowIsOne.{AreMatched}
use Rattle.icet_plan.proofs.Assemble.{DoesAll, plan_matched, plan_flow, plan_sound}
use Rattle.std.proofs.Common.{map}
use Rattle.std.specs.List.{range_with_len}
use Rattle.icet_legs.specs.InRow.{row_program, row_messages}

-- what is shown of the leg of one tile
pub record IsTileLeg (ranks : ℕ) (tiles : Tiles) (brackets : List Bracket) (t l u : ℕ) (ops : ℕ → List Op) (ms : Messages Bracket) (kept : ℕ → List (Piece Bracket)) : Type 0 where
  -- it is matched, within its rounds
  pub part : IsPart ops l u
  pub peers : (r : ℕ) → AllByRecursion (HasPeerIn ranks r) (exchanges (ops r))
  -- a rank beyond those of the plan has nothing to do
  pub beyond : (r : ℕ) → ranks ≤ r → ops r ≡ []
  -- whatever is in its slots, each rank does what is said
  pub runs : (r : ℕ) (before : ℕ → Option (Piece Bracket)) → Ran (bracket_carrier tiles.sizes r) r tiles (Anyhow (bracket_carrier tiles.sizes r) r tiles) (ops r) (λ q. ms q r) before (λ q. ms r q) (kept r)
  -- it keeps pieces of this tile alone, with the tile's bracket
  pub carries : (r : ℕ) → AllByRecursion (λ p. (p.tile ≡ t) × (p.content ≡ get_or brackets t Empty)) (kept r)
  -- and the display each position once
  pub once : (i : ℕ) → i < get_or tiles.sizes t 0 → length (filter (has_place t i) (kept (get_or tiles.displays t 0))) ≡ 1

-- pieces of another tile don't hold the position
elsewhere : (t i u : ℕ) (ps : List (Piece Bracket)) → u ≢ t → AllByRecursion (λ p. p.tile ≡ u) ps → filter (has_place t i) ps ≡ []
elsewhere t i u [] n h = refl
elsewhere t i u (p ∷ ps) n h =
    ap (λ b. cond (b && (nat_le p.lo i && nat_lt i p.hi)) (p ∷ filter (has_place t i) ps) (filter (has_place t i) ps)) (ne_eqb p.tile t (λ e. n (sym h.0 ∙ e)))
    ∙ elsewhere t i u ps n h.1

module _ (kept : ℕ → List (Piece Bracket)) (t i : ℕ) where
  before_it : (k : ℕ) → k ≤ t → ((u : ℕ) → u < k → AllByRecursion (λ p. p.tile ≡ u) (kept u)) → filter (has_place t i) (each kept k) ≡ []
  before_it zero l h = refl
  before_it (suc k) l h =
      filter-append (has_place t i) (each kept k) (kept k)
      ∙ (ap (λ z. z ++ filter (has_place t i) (kept k)) (before_it k (omega arith) (λ u m. h u (omega arith)))
      ∙ elsewhere t i k (kept k) (λ e. absurd (omega (arith, e, l))) (h k (omega arith)))

  -- the pieces of all tiles that hold a position of tile t are those of that tile
  of_it : (k : ℕ) → t < k → ((u : ℕ) → u < k → AllByRecursion (λ p. p.tile ≡ u) (kept u)) → filter (has_place t i) (each kept k) ≡ filter (has_place t i) (kept t)
  of_it zero l h = absurd (omega arith)
  of_it (suc k) l h =
      filter-append (has_place t i) (each kept k) (kept k) ∙ ⊎_elim
      (λ (s : k ≡ t).
      ap (λ z. z ++ filter (has_place t i) (kept k)) (before_it k (omega (arith, s)) (λ u m. h u (omega arith)))
      ∙ ap (λ z. filter (has_place t i) (kept z)) s)
      (λ (n : k ≢ t).
      ap (λ z. filter (has_place t i) (each kept k) ++ z) (elsewhere t i k (kept k) n (h k (omega arith)))
      ∙ (append-nil (filter (has_place t i) (each kept k)) ∙ of_it k (omega (arith, n)) (λ u m. h u (omega arith))))
      (let s : (k ≡ t) ⊎ (k ≢ t) = grind arith in s)

pub all_each : {X : Type 0} (P : X → Type 0) (f : ℕ → List X) (k : ℕ) → ((b : ℕ) → b < k → AllByRecursion P (f b)) → AllByRecursion P (each f k)
all_each P f zero h = tt
all_each P f (suc k) h = all_append P (each f k) (f k) (all_each P f k (λ b l. h b (omega arith))) (h k (omega arith))

each_nothing : {X : Type 0} (f : ℕ → List X) (k : ℕ) → ((b : ℕ) → b < k → f b ≡ []) → each f k ≡ []
each_nothing f zero h = refl
each_nothing f (suc k) h = ap (λ z. z ++ f k) (each_nothing f k (λ b l. h b (omega arith))) ∙ h k (omega arith)

peers_each : (ranks r : ℕ) (ops : ℕ → List Op) (k : ℕ) → ((t : ℕ) → t < k → AllByRecursion (HasPeerIn ranks r) (exchanges (ops t))) → AllByRecursion (HasPeerIn ranks r) (exchanges (each ops k))
peers_each ranks r ops zero h = tt
peers_each ranks r ops (suc k) h = subst (AllByRecursion (HasPeerIn ranks r)) (sym (exchanges-append (each ops k) (ops k))) (all_append (HasPeerIn ranks r) (exchanges (each ops k)) (exchanges (ops k)) (peers_each ranks r ops k (λ t l. h t (omega arith))) (h k (omega arith)))

-- the lists of a plan's tiles fit
pub record AreLists (ranks : ℕ) (sizes displays : List ℕ) (brackets : List Bracket) : Type 0 where
  pub as_displays : length displays ≡ length sizes
  pub as_brackets : length brackets ≡ length sizes
  pub shown : AllByRecursion (λ d. d < ranks) displays

module _ (ranks : ℕ) (sizes displays : List ℕ) (brackets : List Bracket) (lists : AreLists ranks sizes displays brackets) (ops : ℕ → ℕ → List Op) (ms : ℕ → Messages Bracket) (kept : ℕ → ℕ → List (Piece Bracket)) (bounds : ℕ → ℕ) where
  abbrev tiles : Tiles
  tiles = record { sizes = sizes; displays = displays }

  abbrev plan : PlanView
  plan = record { tiles = tiles; brackets = brackets; programs = map (row_program ops (length sizes)) (range_with_len 0 ranks) }

  abbrev count : ℕ
  count = length sizes

  module _ (legs : (t : ℕ) → t < count → IsTileLeg ranks tiles brackets t (bounds t) (bounds (suc t)) (ops t) (ms t) (kept t)) where
    many : length plan.programs ≡ ranks
    many = length-map-range_with_len (row_program ops count) 0 ranks

    pub is_program : (r : ℕ) → program plan.programs r ≡ row_program ops count r
    is_program r = ⊎_elim
        (λ (l : r < ranks). get_or-map-range_with_len (row_program ops count) 0 ranks r r [] l (omega arith))
        (λ (l : ranks ≤ r). get_or_past plan.programs r [] (omega (arith, l, many)) ∙ sym (each_nothing (λ t. ops t r) count (λ t k. (legs t k).beyond r l)))
        (let s : (r < ranks) ⊎ (ranks ≤ r) = grind arith in s)

    abbrev all_kept : ℕ → List (Piece Bracket)
    all_kept r = each (λ t. kept t r) count

    ran : (r : ℕ) → Ran (bracket_carrier sizes r) r tiles (Anyhow (bracket_carrier sizes r) r tiles) (row_program ops count r) (λ q. row_messages ms count q r) (λ _. None) (λ q. row_messages ms count r q) (all_kept r)
    ran r = does_row (bracket_carrier sizes r) r tiles (λ t. ops t r) (λ t q. ms t q r) (λ t q. ms t r q) (λ t. kept t r) count (λ t l sl. (legs t l).runs r sl) (λ _. None)

    matched : AreMatched (program plan.programs)
    matched = let m = (parts_row ops bounds count (λ t l. (legs t l).part)).matched in record {
      rising = λ r. subst (λ xs. IsRising (exchanges xs)) (sym (is_program r)) (m.rising r);
      pairs = λ q r. rw (is_program q) (rw (is_program r) (m.pairs q r));
    }

    pub all_do : DoesAll plan (row_messages ms count) all_kept
    all_do = record {
      matched = matched;
      peers = λ r. subst (λ xs. AllByRecursion (HasPeerIn (length plan.programs) r) (exchanges xs)) (sym (is_program r)) (subst (λ k. AllByRecursion (HasPeerIn k r) (exchanges (row_program ops count r))) (sym many) (peers_each ranks r (λ t. ops t r) count (λ t l. (legs t l).peers r)));
      after = λ r. (ran r).after;
      does = λ r. subst (λ xs. Does (bracket_carrier sizes r) r tiles xs (λ q. row_messages ms count q r) (λ _. None) (ran r).after (λ q. row_messages ms count r q) (all_kept r)) (sym (is_program r)) (ran r).does;
    }

    -- the flow has exactly the legs' messages, one tile after the other
    pub row_flow : (q r : ℕ) → bracket_flow plan q r ≡ row_messages ms count q r
    row_flow = plan_flow plan (row_messages ms count) all_kept all_do

    pub row_is_plan : IsPlan plan
    row_is_plan = record {
      formed = record { displays = lists.as_displays; brackets = lists.as_brackets; shown = subst (λ k. AllByRecursion (λ d. d < k) displays) (sym many) lists.shown };
      matched = plan_matched plan (row_messages ms count) all_kept all_do;
      sound = plan_sound plan (row_messages ms count) all_kept all_do once carries;
    }
      where
        once : (t i : ℕ) → t < count → i < get_or sizes t 0 → length (filter (has_place t i) (all_kept (get_or displays t 0))) ≡ 1
        once t i l u =
            let d = get_or displays t 0 in
            ap (λ xs. length xs) (of_it (λ v. kept v d) t i count l (λ v m. all_weaker (λ p. (p.tile ≡ v) × (p.content ≡ get_or brackets v Empty)) (λ p. p.tile ≡ v) (λ p h. h.0) (kept v d) ((legs v m).carries d)))
            ∙ (legs t l).once i u

        carries : (r : ℕ) → AllByRecursion (λ p. get_or brackets p.tile Empty ≡ p.content) (all_kept r)
        carries r = all_each (λ p. get_or brackets p.tile Empty ≡ p.content) (λ t. kept t r) count (λ t l. all_weaker (λ p. (p.tile ≡ t) × (p.content ≡ get_or brackets t Empty)) (λ p. get_or brackets p.tile Empty ≡ p.content) (λ p h. ap (λ z. get_or brackets z Empty) h.0 ∙ sym h.1) (kept t r) ((legs t l).carries r))
