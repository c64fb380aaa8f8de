-- Each rank's direct program sends, takes and keeps what is said.
use Rattle.std.proofs.Common.{◌≡◌, ℕ, suc, Bool, true, false, cond, List, [], ◌∷◌, ◌++◌, map, refl, sym, ap, ◌∙◌, subst, arith, eqb-true, Option, Some, None}
use Rattle.std.specs.Prelude.{◌==◌, ◌&&◌, ◌≢◌}
use Rattle.std.proofs.lemmas.List.{append-nil}
use Rattle.std.specs.List.{slice_get}
use Rattle.std.proofs.Math.Bool.{and-true, and-false}
use mathlib.Core.Path.{fun_ext}
use Rattle.icet_model.specs.declared.bracket.Bracket.{Bracket}
use Rattle.icet_model.specs.declared.bracket.Bracket.TheVariants.{Empty, Leaf, Pair}
use Rattle.icet_model.specs.declared.exchange.Op.{Op}
use Rattle.icet_model.specs.declared.exchange.Op.TheVariants.{Load, Blank, Join, Swap, Keep}
use Rattle.icet_model.specs.BracketFold.{left, left_from}
use Rattle.icet_model.specs.Run.{Carrier, Piece, MessageView, put, whole}
use Rattle.icet_model.specs.Fit.{Tiles}
use Rattle.icet_model.specs.Plan.{bracket_carrier}
use Rattle.icet_plan.proofs.Segments.{Does, does_nothing, does_both}
use Rattle.icet_plan.proofs.SingleSteps.{does_as, load_does, blank_does, join_does, keep_does, give_does, take_does}
use Rattle.icet_multi.specs.Direct.{TileView, by_tile, hands_in, tile_bracket, image_message, messages_for, messages_from, direct_messages, send_of, take_of, sending, fetch, joins, folds, showing, sendings, showings, direct_program}
use Rattle.icet_multi.proofs.Distinct.{Apart, EachOnce}
use Rattle.icet_multi.proofs.Picked.{entry, entries, picked}
use Rattle.icet_multi.proofs.OnTiles.{AreOn, IsOn, IsSized, sized}

abbrev pub Slots : Type 0
Slots = ℕ → Option (Piece Bracket)

-- the whole of tile t with this bracket
abbrev pub piece_of : ℕ → TileView → Bracket → Piece Bracket
piece_of t x b = record { tile = t; lo = 0; hi = x.size; content = b }

-- what the display of tile t keeps
abbrev pub kept_of : ℕ → TileView → ℕ → List (Piece Bracket)
kept_of t x r = cond (x.display == r) (piece_of t x (tile_bracket x) ∷ []) []

abbrev pub kept_from : ℕ → List TileView → ℕ → List (Piece Bracket)
kept_from t xs r = by_tile (λ n x. kept_of n x r) t xs

abbrev pub nothing : ℕ → List (MessageView Bracket)
nothing q = []

module _ (tiles : Tiles) (brackets : List Bracket) (r : ℕ) where
  abbrev pub c : Carrier Bracket
  c = bracket_carrier tiles.sizes r

  -- a part of the program, from any slots
  pub record Part (ops : List Op) (taken : ℕ → List (MessageView Bracket)) (before : Slots) (sent : ℕ → List (MessageView Bracket)) (kept : List (Piece Bracket)) : Type 0 where
    pub after : Slots
    pub does : Does c r tiles ops taken before after sent kept

  part_nothing : (sl : Slots) → Part [] nothing sl nothing []
  part_nothing sl = record { after = sl; does = does_nothing c r tiles sl }

  part_as : (ops : List Op) (a b : ℕ → List (MessageView Bracket)) (sl : Slots) (S R : ℕ → List (MessageView Bracket)) (K : List (Piece Bracket)) → a ≡ b → S ≡ R → Part ops a sl S K → Part ops b sl R K
  part_as ops a b sl S R K e f h = record { after = h.after; does = does_as c r tiles ops a b sl h.after S R K e f h.does }

  part_both : (xs ys : List Op) (a b : ℕ → List (MessageView Bracket)) (sl : Slots) (S R : ℕ → List (MessageView Bracket)) (K L : List (Piece Bracket)) → Part xs a sl S K → ((s : Slots) → Part ys b s R L) → Part (xs ++ ys) (λ p. a p ++ b p) sl (λ q. S q ++ R q) (K ++ L)
  part_both xs ys a b sl S R K L f g = let h = g f.after in record { after = h.after; does = does_both c r tiles xs ys a b sl f.after h.after S R K L f.does h.does }

  own_whole : (t : ℕ) (x : TileView) → IsSized tiles t x → whole c t ≡ piece_of t x (Leaf r)
  own_whole t x on = ap (λ n. record { tile = t; lo = 0; hi = n; content = Leaf r }) on.size

  -- a rank that hands in sends its image, and no other does anything
  pub sending_runs : (t : ℕ) (x : TileView) → IsSized tiles t x → (sl : Slots) → Part (sending t x r) nothing sl (messages_for t x r) []
  sending_runs t x on sl = go (hands_in x r)
    where
      go : (b : Bool) → Part (cond b (Load t 0 ∷ Swap (send_of t x) 0 ∷ []) []) nothing sl (λ q. cond ((x.display == q) && b) (image_message t x r ∷ []) []) []
      go true =
          let p = piece_of t x (Leaf r) in
          let loaded : Slots = put sl 0 (Some (whole c t)) in
          let d = does_both c r tiles (Load t 0 ∷ []) (Swap (send_of t x) 0 ∷ []) nothing nothing sl loaded (put loaded 0 None) nothing (λ q. cond (x.display == q) (image_message t x r ∷ []) []) [] []
          (load_does c r tiles t 0 sl on.within)
          (give_does c r tiles 0 x.display 0 p loaded (ap (λ w. Some w) (own_whole t x on))) in
          part_as (Load t 0 ∷ Swap (send_of t x) 0 ∷ []) nothing nothing sl (λ q. cond (x.display == q) (image_message t x r ∷ []) []) (λ q. cond ((x.display == q) && true) (image_message t x r ∷ []) []) [] refl
          (fun_ext (λ q. ap (λ b. cond b (image_message t x r ∷ []) []) (sym (and-true (x.display == q)))))
          (record { after = put loaded 0 None; does = d })
      go false =
          part_as [] nothing nothing sl nothing (λ q. cond ((x.display == q) && false) (image_message t x r ∷ []) []) [] refl
          (fun_ext (λ q. ap (λ b. cond b (image_message t x r ∷ []) []) (sym (and-false (x.display == q)))))
          (part_nothing sl)

  sendings_run : (t : ℕ) (xs : List TileView) → AreOn tiles brackets t xs → (sl : Slots) → Part (sendings t xs r) nothing sl (messages_from t xs r) []
  sendings_run t [] on sl = part_nothing sl
  sendings_run t (x ∷ xs) on sl = part_both (sending t x r) (sendings (suc t) xs r) nothing nothing sl (messages_for t x r) (messages_from (suc t) xs r) [] [] (sending_runs t x (sized tiles brackets t x on.0) sl) (λ s. sendings_run (suc t) xs on.1 s)

  module _ (t : ℕ) (x : TileView) (on : IsSized tiles t x) (mine : x.display ≡ r) where
    -- the messages that the display takes for these contributors
    abbrev pub taken_in : List ℕ → ℕ → List (MessageView Bracket)
    taken_in cs p = entries x.display (image_message t x) p cs

    -- slot 0 holds the images of the tile in this bracket
    pub record Folded (ops : List Op) (cs : List ℕ) (sl : Slots) (b : Bracket) : Type 0 where
      pub after : Slots
      pub does : Does c r tiles ops (taken_in cs) sl after nothing []
      pub holds : after 0 ≡ Some (piece_of t x b)

    fetch_runs : (slot q : ℕ) (sl : Slots) → Does c r tiles (fetch t x slot q ∷ []) (λ p. entry x.display (image_message t x) p q) sl (put sl slot (Some (piece_of t x (Leaf q)))) nothing []
    fetch_runs slot q sl = go (q == x.display) refl
      where
        go : (b : Bool) → (q == x.display) ≡ b → Does c r tiles (cond b (Load t slot) (Swap (take_of t x q) slot) ∷ []) (λ p. cond b [] (cond (q == p) (image_message t x q ∷ []) [])) sl (put sl slot (Some (piece_of t x (Leaf q)))) nothing []
        go true e =
            let own : q ≡ r = eqb-true q x.display e ∙ mine in
            subst (λ a. Does c r tiles (Load t slot ∷ []) nothing sl (put sl slot (Some a)) nothing []) (own_whole t x on ∙ ap (λ a. piece_of t x (Leaf a)) (sym own)) (load_does c r tiles t slot sl on.within)
        go false e = take_does c r tiles 0 q slot (image_message t x q) sl on.within (omega arith) (let s = on.size in omega (arith, s))

    joins_run : (cs : List ℕ) (b : Bracket) (sl : Slots) → sl 0 ≡ Some (piece_of t x b) → Folded (joins t x cs) cs sl (left_from b (map (λ a. Leaf a) cs))
    joins_run [] b sl h = record { after = sl; does = does_nothing c r tiles sl; holds = h }
    joins_run (q ∷ cs) b sl h =
        let p = piece_of t x b in
        let image = piece_of t x (Leaf q) in
        let both = piece_of t x (Pair b (Leaf q)) in
        let fetched : Slots = put sl 1 (Some image) in
        let joined : Slots = put (put (put fetched 0 None) 1 None) 0 (Some both) in
        let rest = joins_run cs (Pair b (Leaf q)) joined refl in
        record {
          after = rest.after;
          does = does_both c r tiles (fetch t x 1 q ∷ []) (Join 0 1 0 ∷ joins t x cs) (λ a. entry x.display (image_message t x) a q) (taken_in cs) sl fetched rest.after nothing nothing [] []
              (fetch_runs 1 q sl)
              (does_both c r tiles (Join 0 1 0 ∷ []) (joins t x cs) nothing (taken_in cs) fetched joined rest.after nothing nothing [] []
              (join_does c r tiles 0 1 0 p image fetched h refl (λ e. absurd (omega (arith, e))) refl)
              rest.does);
          holds = rest.holds;
        }

    pub folds_run : (cs : List ℕ) (sl : Slots) → Folded (folds t x cs) cs sl (left (map (λ a. Leaf a) cs))
    folds_run [] sl = record { after = put sl 0 (Some (piece_of t x Empty)); does = subst (λ n. Does c r tiles (Blank t 0 ∷ []) nothing sl (put sl 0 (Some (record { tile = t; lo = 0; hi = n; content = Empty }))) nothing []) on.size (blank_does c r tiles t 0 sl on.within); holds = refl }
    folds_run (q ∷ cs) sl =
        let fetched : Slots = put sl 0 (Some (piece_of t x (Leaf q))) in
        let rest = joins_run cs (Leaf q) fetched refl in
        record { after = rest.after; does = does_both c r tiles (fetch t x 0 q ∷ []) (joins t x cs) (λ a. entry x.display (image_message t x) a q) (taken_in cs) sl fetched rest.after nothing nothing [] [] (fetch_runs 0 q sl) rest.does; holds = rest.holds }

    shown : slice_get tiles.displays t ≡ Some x.display → (sl : Slots) → Part (folds t x x.contributors ++ Keep 0 ∷ []) (taken_in x.contributors) sl nothing (piece_of t x (tile_bracket x) ∷ [])
    shown display sl =
        let run = folds_run x.contributors sl in
        part_as (folds t x x.contributors ++ Keep 0 ∷ []) (λ p. taken_in x.contributors p ++ []) (taken_in x.contributors) sl nothing nothing (piece_of t x (tile_bracket x) ∷ []) (fun_ext (λ p. append-nil (taken_in x.contributors p))) refl
        (record {
          after = run.after;
          does = does_both c r tiles (folds t x x.contributors) (Keep 0 ∷ []) (taken_in x.contributors) nothing sl run.after run.after nothing nothing [] (piece_of t x (tile_bracket x) ∷ []) run.does
              (keep_does c r tiles 0 (piece_of t x (tile_bracket x)) run.after run.holds (display ∙ ap (λ d. Some d) mine));
        })

  -- the display takes what the contributors hand in, and keeps their images in the tile's bracket
  showing_runs : (t : ℕ) (x : TileView) → IsOn tiles brackets t x → Apart (λ a b. a ≢ b) x.contributors → (sl : Slots) → Part (showing t x r) (λ p. messages_for t x p r) sl nothing (kept_of t x r)
  showing_runs t x on once sl = go (x.display == r) refl
    where
      go : (b : Bool) → (x.display == r) ≡ b → Part (cond b (folds t x x.contributors ++ Keep 0 ∷ []) []) (λ p. cond (b && hands_in x p) (image_message t x p ∷ []) []) sl nothing (cond b (piece_of t x (tile_bracket x) ∷ []) [])
      go true e =
          let mine = eqb-true x.display r e in
          part_as (folds t x x.contributors ++ Keep 0 ∷ []) (λ p. entries x.display (image_message t x) p x.contributors) (λ p. cond (hands_in x p) (image_message t x p ∷ []) []) sl nothing nothing (piece_of t x (tile_bracket x) ∷ [])
          (fun_ext (λ p. picked x.display (image_message t x) p x.contributors once)) refl (shown t x (sized tiles brackets t x on) mine on.display sl)
      go false e = part_nothing sl

  showings_run : (t : ℕ) (xs : List TileView) → AreOn tiles brackets t xs → EachOnce xs → (sl : Slots) → Part (showings t xs r) (λ p. messages_from t xs p r) sl nothing (kept_from t xs r)
  showings_run t [] on once sl = part_nothing sl
  showings_run t (x ∷ xs) on once sl = part_both (showing t x r) (showings (suc t) xs r) (λ p. messages_for t x p r) (λ p. messages_from (suc t) xs p r) sl nothing nothing (kept_of t x r) (kept_from (suc t) xs r) (showing_runs t x on.0 once.0 sl) (λ s. showings_run (suc t) xs on.1 once.1 s)

  pub direct_runs : (xs : List TileView) → AreOn tiles brackets 0 xs → EachOnce xs → (sl : Slots) → Part (direct_program xs r) (λ p. direct_messages xs p r) sl (direct_messages xs r) (kept_from 0 xs r)
  direct_runs xs on once sl =
      part_as (direct_program xs r) (λ p. direct_messages xs p r) (λ p. direct_messages xs p r) sl (λ q. direct_messages xs r q ++ []) (direct_messages xs r) (kept_from 0 xs r) refl
      (fun_ext (λ q. append-nil (direct_messages xs r q)))
      (part_both (sendings 0 xs r) (showings 0 xs r) nothing (λ p. direct_messages xs p r) sl (direct_messages xs r) nothing [] (kept_from 0 xs r) (sendings_run 0 xs on sl) (λ s. showings_run 0 xs on once s))
