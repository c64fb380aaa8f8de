-- The displays of tiles to which nobody contributes keep them blank.
use Rattle.std.proofs.Common.{◌≡◌, ℕ, zero, suc, ◌<◌, Bool, true, false, cond, List, [], ◌∷◌, length, get_or, refl, ap, ◌∙◌, arith, eqb-true, Some}
use Rattle.std.proofs.lemmas.List.{length-map}
use Rattle.std.specs.Prelude.{◌==◌, nat_lt}
use Rattle.std.specs.List.{slice_get}
use Rattle.icet_model.specs.declared.bracket.Bracket.{Bracket}
use Rattle.icet_model.specs.declared.bracket.Bracket.TheVariants.{Empty}
use Rattle.icet_model.specs.declared.exchange.Op.{Op}
use Rattle.icet_model.specs.declared.exchange.Op.TheVariants.{Blank, Keep}
use Rattle.icet_model.specs.Exchange.{exchanges}
use Rattle.icet_model.specs.Plan.{bracket_carrier}
use Rattle.icet_model.specs.Run.{Carrier, Piece, blank_of, put}
use Rattle.icet_plan.specs.Each.{each}
use Rattle.icet_plan.proofs.LocalRuns.{exchanges-append}
use Rattle.icet_plan.proofs.Segments.{Does, does_both, does_nothing}
use Rattle.icet_plan.proofs.SingleSteps.{blank_does, keep_does}
use Rattle.icet_groups.specs.Tiles.{TileView}
use Rattle.icet_legs.proofs.ListTeams.{slice_at}
use Rattle.icet_multi.specs.Rules.{tile_of}
use Rattle.icet_multi.proofs.DirectRuns.{Slots, nothing}
use Rattle.icet_multi.proofs.OnTiles.{tiles_of}
use Rattle.icet_multi.specs.Reduced.{blank_ops, blanking}
use Rattle.icet_multi.proofs.BlocksRun.{get_mapped}
use Rattle.icet_multi.proofs.EachOf.{each_image, each_none}

-- the whole of tile t without an image
abbrev pub blank_piece : ℕ → TileView → Piece Bracket
blank_piece t x = record { tile = t; lo = 0; hi = x.size; content = Empty }

-- what its display keeps, if nobody contributes to it
abbrev pub blank_kept : ℕ → TileView → ℕ → List (Piece Bracket)
blank_kept t x r = cond (nat_lt 0 (length x.contributors)) [] (cond (x.display == r) (blank_piece t x ∷ []) [])

blank_silent : (t : ℕ) (x : TileView) (r : ℕ) → exchanges (blanking t x r) ≡ []
blank_silent t x r = go (nat_lt 0 (length x.contributors)) (x.display == r)
  where
    go : (a b : Bool) → exchanges (cond a [] (cond b (blank_ops t) [])) ≡ []
    go true b = refl
    go false true = refl
    go false false = refl

pub blanks_silent : (tiles : List TileView) (r : ℕ) → exchanges (each (λ t. blanking t (tile_of tiles t) r) (length tiles)) ≡ []
blanks_silent tiles r =
    each_image exchanges refl exchanges-append (λ t. blanking t (tile_of tiles t) r) (λ t. []) (length tiles) (λ t l. blank_silent t (tile_of tiles t) r)
    ∙ each_none (λ t. []) (length tiles) (λ t l. refl)

module _ (tiles : List TileView) (r : ℕ) where
  abbrev c : Carrier Bracket
  c = bracket_carrier (tiles_of tiles).sizes r

  -- parts one for each number that only keep pieces
  keeps_each : (ops : ℕ → List Op) (K : ℕ → List (Piece Bracket)) (k : ℕ) → ((b : ℕ) (sl : Slots) → b < k → (after : Slots) × Does c r (tiles_of tiles) (ops b) nothing sl after nothing (K b)) → (sl : Slots) → (after : Slots) × Does c r (tiles_of tiles) (each ops k) nothing sl after nothing (each K k)
  keeps_each ops K zero h sl = (sl, does_nothing c r (tiles_of tiles) sl)
  keeps_each ops K (suc k) h sl =
      let past = keeps_each ops K k (λ b s l. h b s (omega (arith, l))) sl in
      let next = h k past.0 (omega arith) in
      (next.0, does_both c r (tiles_of tiles) (each ops k) (ops k) nothing nothing sl past.0 next.0 nothing nothing (each K k) (K k) past.1 next.1)

  blank_runs : (t : ℕ) (sl : Slots) → t < length tiles → (after : Slots) × Does c r (tiles_of tiles) (blanking t (tile_of tiles t) r) nothing sl after nothing (blank_kept t (tile_of tiles t) r)
  blank_runs t sl l = go (nat_lt 0 (length (tile_of tiles t).contributors)) ((tile_of tiles t).display == r) refl
    where
      blank : (tile_of tiles t).display ≡ r → (after : Slots) × Does c r (tiles_of tiles) (blank_ops t) nothing sl after nothing (blank_piece t (tile_of tiles t) ∷ [])
      blank mine =
          let a = length-map tiles (λ (z : TileView). z.size) in
          let b = length-map tiles (λ (z : TileView). z.display) in
          let size : get_or (tiles_of tiles).sizes t 0 ≡ (tile_of tiles t).size = get_mapped (λ z. z.size) tiles t (record { size = 0; display = 0; contributors = [] }) 0 l in
          let shown : slice_get (tiles_of tiles).displays t ≡ Some r = slice_at (tiles_of tiles).displays t 0 (omega (arith, l, b)) ∙ ap (λ z. Some z) (get_mapped (λ z. z.display) tiles t (record { size = 0; display = 0; contributors = [] }) 0 l ∙ mine) in
          let made : Slots = put sl 0 (Some (blank_of c t 0 (c.size t))) in (
            made,
            does_both c r (tiles_of tiles) (Blank t 0 ∷ []) (Keep 0 ∷ []) nothing nothing sl made made nothing nothing [] (blank_piece t (tile_of tiles t) ∷ [])
                (blank_does c r (tiles_of tiles) t 0 sl (omega (arith, l, a)))
                (keep_does c r (tiles_of tiles) 0 (blank_piece t (tile_of tiles t)) made (λ i. Some (record { tile = t; lo = 0; hi = size i; content = Empty })) shown),
          )

      go : (a b : Bool) → ((tile_of tiles t).display == r) ≡ b → (after : Slots) × Does c r (tiles_of tiles) (cond a [] (cond b (blank_ops t) [])) nothing sl after nothing (cond a [] (cond b (blank_piece t (tile_of tiles t) ∷ []) []))
      go true b e = (sl, does_nothing c r (tiles_of tiles) sl)
      go false false e = (sl, does_nothing c r (tiles_of tiles) sl)
      go false true e = blank (eqb-true (tile_of tiles t).display r e)

  pub blanks_run : (sl : Slots) → (after : Slots) × Does c r (tiles_of tiles) (each (λ t. blanking t (tile_of tiles t) r) (length tiles)) nothing sl after nothing (each (λ t. blank_kept t (tile_of tiles t) r) (length tiles))
  blanks_run sl = keeps_each (λ t. blanking t (tile_of tiles t) r) (λ t. blank_kept t (tile_of tiles t) r) (length tiles) (λ t s l. blank_runs t s l) sl
