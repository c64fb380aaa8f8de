-- Round 0: each rank sends the images that its blocks' members are to fold, and each member has the fold of its block.
use Rattle.std.proofs.Common.{◌≡◌, ℕ, zero, suc, ◌<◌, Bool, true, false, cond, List, [], ◌∷◌, ◌++◌, map, length, get_or, refl, sym, ap, ◌∙◌, subst, arith, eqb-true, eq-eqb, Some, ⊎_elim}
use Rattle.std.proofs.lemmas.List.{append-nil, length-map}
use Rattle.std.proofs.lemmas.List.FromFn.{get_or-map-range_with_len}
use Rattle.std.specs.Prelude.{◌==◌, ◌&&◌, ◌⊎◌}
use mathlib.Core.Path.{fun_ext}
use Rattle.icet_model.specs.declared.bracket.Bracket.{Bracket}
use Rattle.icet_model.specs.declared.bracket.Bracket.TheVariants.{Empty}
use Rattle.icet_model.specs.declared.exchange.Op.{Op}
use Rattle.icet_model.specs.Fit.{Tiles}
use Rattle.icet_model.specs.Plan.{bracket_carrier}
use Rattle.icet_model.specs.Run.{Carrier, MessageView}
use Rattle.icet_plan.specs.Each.{each}
use Rattle.icet_plan.proofs.Segments.{Does, does_both, does_nothing}
use Rattle.icet_plan.proofs.SingleSteps.{does_as, Ran}
use Rattle.icet_groups.specs.Tiles.{TileView}
use Rattle.icet_legs.specs.Team.{place_in}
use Rattle.icet_legs.proofs.ListTeams.{list_team}
use Rattle.icet_multi.specs.Direct.{folds, hands_in, image_message, messages_for, sending, tile_bracket}
use Rattle.icet_multi.specs.Rules.{tile_of}
use Rattle.icet_multi.proofs.DirectRuns.{Slots, folds_run, nothing, sending_runs}
use Rattle.icet_multi.proofs.OnTiles.{IsSized, tiles_of}
use Rattle.icet_multi.proofs.Picked.{entries, picked}
use Rattle.icet_multi.specs.FilledSlot.{leaf_piece}
use Rattle.icet_multi.specs.Reduce.{block_brackets, block_tile, by_block, group_team}
use Rattle.icet_multi.specs.Reduced.{block_ops, folding}
use Rattle.icet_multi.proofs.GroupMembers.{AreSeats, block_apart, group_apart, one_seat, stands}

pub get_mapped : {X Y : Type 0} (f : X → Y) (xs : List X) (t : ℕ) (d : X) (e : Y) → t < length xs → get_or (map f xs) t e ≡ f (get_or xs t d)
get_mapped f [] t d e l = absurd (omega (arith, l))
get_mapped f (x ∷ xs) zero d e l = refl
get_mapped f (x ∷ xs) (suc t) d e l = get_mapped f xs t d e (omega (arith, l))

-- parts one for each number that only send, and parts that only take
module _ (c : Carrier Bracket) (me : ℕ) (tiles : Tiles) where
  pub sends_each : (ops : ℕ → List Op) (G : ℕ → ℕ → List (MessageView Bracket)) (k : ℕ) → ((b : ℕ) (sl : Slots) → b < k → (after : Slots) × Does c me tiles (ops b) nothing sl after (G b) []) → (sl : Slots) → (after : Slots) × Does c me tiles (each ops k) nothing sl after (λ q. each (λ b. G b q) k) []
  sends_each ops G zero h sl = (sl, does_nothing c me tiles sl)
  sends_each ops G (suc k) h sl =
      let past = sends_each ops G k (λ b s l. h b s (omega (arith, l))) sl in
      let next = h k past.0 (omega arith) in
      (next.0, does_both c me tiles (each ops k) (ops k) nothing nothing sl past.0 next.0 (λ q. each (λ b. G b q) k) (G k) [] [] past.1 next.1)

  pub takes_each : (I : ℕ → Slots → Type 0) (ops : ℕ → List Op) (F : ℕ → ℕ → List (MessageView Bracket)) (k : ℕ) → ((b : ℕ) (sl : Slots) → b < k → I b sl → Ran c me tiles (I (suc b)) (ops b) (F b) sl nothing []) → (sl : Slots) → I 0 sl → Ran c me tiles (I k) (each ops k) (λ q. each (λ b. F b q) k) sl nothing []
  takes_each I ops F zero h sl i = record { after = sl; does = does_nothing c me tiles sl; holds = i }
  takes_each I ops F (suc k) h sl i =
      let past = takes_each I ops F k (λ b s l. h b s (omega (arith, l))) sl i in
      let next = h k past.after (omega arith) past.holds in
      record {
        after = next.after;
        does = does_both c me tiles (each ops k) (ops k) (λ q. each (λ b. F b q) k) (F k) sl past.after next.after nothing nothing [] [] past.does next.does;
        holds = next.holds;
      }

module _ (ranks : ℕ) (tiles : List TileView) (groups : List (List ℕ)) (are : AreSeats ranks tiles groups) (r : ℕ) where
  abbrev group : ℕ → List ℕ
  group t = get_or groups t []

  abbrev block : ℕ → ℕ → TileView
  block t j = block_tile (tile_of tiles t) (group t) j

  abbrev c : Carrier Bracket
  c = bracket_carrier (tiles_of tiles).sizes r

  sized : (t j : ℕ) → t < length tiles → IsSized (tiles_of tiles) t (block t j)
  sized t j l = record {
    within = let n = length-map tiles (λ x. x.size) in omega (arith, l, n);
    size = get_mapped (λ x. x.size) tiles t (record { size = 0; display = 0; contributors = [] }) 0 l;
  }

  pub sends_run : (sl : Slots) → (after : Slots) × Does c r (tiles_of tiles) (by_block (λ t x. sending t x r) tiles groups) nothing sl after (λ q. by_block (λ t x. messages_for t x r q) tiles groups) []
  sends_run sl =
      sends_each c r (tiles_of tiles) (λ t. each (λ j. sending t (block t j) r) (length (group t))) (λ t q. each (λ j. messages_for t (block t j) r q) (length (group t))) (length tiles)
      (λ t s l. sends_each c r (tiles_of tiles) (λ j. sending t (block t j) r) (λ j q. messages_for t (block t j) r q) (length (group t))
      (λ j u m. let ran = sending_runs (tiles_of tiles) [] r t (block t j) (sized t j l) u in (ran.after, ran.does)) s) sl

  -- slot 0 holds the image of the seat at p of tile t
  abbrev Holds : ℕ → ℕ → Slots → Type 0
  Holds t p sl = sl 0 ≡ Some (leaf_piece (group_team tiles groups t) p)

  -- so it is for a seat of this rank in one of the first tiles, or behind all of these in tile t among the first seats
  abbrev pub HoldsBefore : ℕ → Slots → Type 0
  HoldsBefore n sl = (t p : ℕ) → t < n → place_in (group t) r ≡ Some p → Holds t p sl

  abbrev HoldsUpTo : ℕ → ℕ → Slots → Type 0
  HoldsUpTo t j sl = HoldsBefore t sl × ((p : ℕ) → p < j → place_in (group t) r ≡ Some p → Holds t p sl)

  -- the fold of a block is the leaf of its member
  leaf_is : (t p : ℕ) → p < length (group t) → record { tile = t; lo = 0; hi = (block t p).size; content = tile_bracket (block t p) } ≡ leaf_piece (group_team tiles groups t) p
  leaf_is t p l =
      let content : get_or (block_brackets (tile_of tiles t) (group t)) p Empty ≡ tile_bracket (block t p) = get_or-map-range_with_len (λ j. tile_bracket (block t j)) 0 (length (group t)) p p Empty l (omega arith) in
      λ i. record { tile = t; lo = 0; hi = (tile_of tiles t).size; content = (sym content) i }

  place_at : (t j : ℕ) → j < length (group t) → get_or (group t) j 0 ≡ r → place_in (group t) r ≡ Some j
  place_at t j l e = subst (λ v. place_in (group t) v ≡ Some j) e ((list_team (group t) [] 0 0 0 (group_apart ranks tiles groups are t)).back j l)

  fold_runs : (t j : ℕ) → t < length tiles → j < length (group t) → (sl : Slots) → HoldsUpTo t j sl → Ran c r (tiles_of tiles) (HoldsUpTo t (suc j)) (folding t (block t j) r) (λ q. messages_for t (block t j) q r) sl nothing []
  fold_runs t j l m sl i = go ((block t j).display == r) refl
    where
      go : (b : Bool) → ((block t j).display == r) ≡ b → Ran c r (tiles_of tiles) (HoldsUpTo t (suc j)) (cond b (folds t (block t j) (block t j).contributors) []) (λ q. cond (b && hands_in (block t j) q) (image_message t (block t j) q ∷ []) []) sl nothing []
      go true e =
          let mine : get_or (group t) j 0 ≡ r = eqb-true (block t j).display r e in
          let run = folds_run (tiles_of tiles) [] r t (block t j) (sized t j l) mine (block t j).contributors sl in
          let held : Holds t j run.after = run.holds ∙ ap (λ z. Some z) (leaf_is t j m) in
          record {
            after = run.after;
            does = does_as c r (tiles_of tiles) (folds t (block t j) (block t j).contributors) (λ q. entries (block t j).display (image_message t (block t j)) q (block t j).contributors) (λ q. cond (hands_in (block t j) q) (image_message t (block t j) q ∷ []) []) sl run.after nothing nothing []
                (fun_ext (λ q. picked (block t j).display (image_message t (block t j)) q (block t j).contributors (block_apart ranks (tile_of tiles t) (group t) j (are.for.are t l).tile)))
                refl run.does;
            holds = (
              λ u p k at. absurd (let s = stands ranks tiles groups are u r p at in let z = one_seat ranks tiles groups are u t p j s.1 m (s.0 ∙ sym mine) in let y = z.0 in omega (arith, y, k)),
              λ p k at. let s : Some p ≡ Some j = sym at ∙ place_at t j m mine in let y : p ≡ j = cc in subst (λ v. Holds t v run.after) (sym y) held,
            );
          }
      go false e = record {
        after = sl;
        does = does_nothing c r (tiles_of tiles) sl;
        holds = (
          i.0,
          λ p k at. ⊎_elim
              (λ (z : p < j). i.1 p z at)
              (λ (z : p ≡ j). absurd (let s = stands ranks tiles groups are t r p at in let y : (block t j).display ≡ r = ap (λ v. get_or (group t) v 0) (sym z) ∙ s.0 in let w = eq-eqb (block t j).display r y in let q : true ≡ false = sym w ∙ e in cc))
              (let z : (p < j) ⊎ (p ≡ j) = grind (arith, k) in z),
        );
      }

  tile_runs : (t : ℕ) → t < length tiles → (sl : Slots) → HoldsBefore t sl → Ran c r (tiles_of tiles) (HoldsBefore (suc t)) (each (λ j. folding t (block t j) r) (length (group t))) (λ q. each (λ j. messages_for t (block t j) q r) (length (group t))) sl nothing []
  tile_runs t l sl i =
      let ran = takes_each c r (tiles_of tiles) (HoldsUpTo t) (λ j. folding t (block t j) r) (λ j q. messages_for t (block t j) q r) (length (group t)) (λ j s m k. fold_runs t j l m s k) sl (i, λ p k at. absurd (omega (arith, k))) in
      record {
        after = ran.after;
        does = ran.does;
        holds = λ u p k at. ⊎_elim
            (λ (z : u < t). ran.holds.0 u p z at)
            (λ (z : u ≡ t).
            let here : place_in (group t) r ≡ Some p = subst (λ v. place_in (group v) r ≡ Some p) z at in
            subst (λ v. Holds v p ran.after) (sym z) (ran.holds.1 p (stands ranks tiles groups are t r p here).1 here))
            (let z : (u < t) ⊎ (u ≡ t) = grind (arith, k) in z);
      }

  folds_run_all : (sl : Slots) → Ran c r (tiles_of tiles) (HoldsBefore (length tiles)) (by_block (λ t x. folding t x r) tiles groups) (λ q. by_block (λ t x. messages_for t x q r) tiles groups) sl nothing []
  folds_run_all sl = takes_each c r (tiles_of tiles) HoldsBefore (λ t. each (λ j. folding t (block t j) r) (length (group t))) (λ t q. each (λ j. messages_for t (block t j) q r) (length (group t))) (length tiles) (λ t s l i. tile_runs t l s i) sl (λ u p k at. absurd (omega (arith, k)))

  -- all of round 0
  pub blocks_run : (sl : Slots) → Ran c r (tiles_of tiles) (HoldsBefore (length tiles)) (block_ops tiles groups r) (λ q. by_block (λ t x. messages_for t x q r) tiles groups) sl (λ q. by_block (λ t x. messages_for t x r q) tiles groups) []
  blocks_run sl =
      let sent = sends_run sl in
      let ran = folds_run_all sent.0 in
      record {
        after = ran.after;
        does = does_as c r (tiles_of tiles) (block_ops tiles groups r) (λ q. by_block (λ t x. messages_for t x q r) tiles groups) (λ q. by_block (λ t x. messages_for t x q r) tiles groups) sl ran.after (λ q. by_block (λ t x. messages_for t x r q) tiles groups ++ []) (λ q. by_block (λ t x. messages_for t x r q) tiles groups) [] refl
            (fun_ext (λ q. append-nil (by_block (λ t x. messages_for t x r q) tiles groups)))
            (does_both c r (tiles_of tiles) (by_block (λ t x. sending t x r) tiles groups) (by_block (λ t x. folding t x r) tiles groups) nothing (λ q. by_block (λ t x. messages_for t x q r) tiles groups) sl sent.0 ran.after (λ q. by_block (λ t x. messages_for t x r q) tiles groups) nothing [] [] sent.1 ran.does);
        holds = ran.holds;
      }
