-- The leaves of the fold from the left, and what a rank outside of them draws.
use Rattle.std.proofs.Common.{◌≡◌, ℕ, zero, suc, ◌+◌, ◌<◌, Bool, true, false, cond, List, [], ◌∷◌, ◌++◌, map, get_or, filter, Some, None, refl, sym, ap, ◌∙◌, subst, arith, eq-eqb}
use Rattle.std.specs.Prelude.{slice_get, ◌==◌, ◌||◌}
use Rattle.std.specs.List.{range_with_len}
use Rattle.std.proofs.lemmas.List.{append_assoc, append-nil}
use Rattle.icet_model.specs.declared.names.Mode.{Mode}
use Rattle.icet_model.specs.declared.bracket.Bracket.{Bracket}
use Rattle.icet_model.specs.declared.bracket.Bracket.TheVariants.{Leaf, Pair}
use Rattle.icet_scene_model.specs.Raster.{Drawing}
use Rattle.icet_model.specs.Tiles.{Area}
use Rattle.icet_scene_model.specs.Boxes.{box, reaches_into, contributors}
use Rattle.icet_model.specs.Bracket.{leaves}
use Rattle.icet_model.specs.BracketFold.{left, left_from}
use Rattle.icet_raster.proofs.Outside.{blank_outside}
use Rattle.std.specs.Prelude.{All}
use Rattle.std.proofs.lemmas.List.Elements.{All-head, All-tail}
use Rattle.icet_multi.specs.Absent.{IsBlank, LeavesOutBlank}
use Rattle.icet_multi.specs.Direct.{TileView, has, tile_bracket}

leaves_of_pair : (front back : Bracket) → leaves (Pair front back) ≡ leaves front ++ leaves back
unfolding Rattle.icet_model.specs.declared.bracket.Bracket.TheBlock.hidden-the_row-Bracket-0 denote.Hole.Carrier.hidden
leaves_of_pair front back = refl

leaves_behind : (front : Bracket) (ranks : List ℕ) → leaves (left_from front (map (λ c. Leaf c) ranks)) ≡ leaves front ++ ranks
leaves_behind front [] = sym (append-nil (leaves front))
leaves_behind front (rank ∷ ranks) =
    leaves_behind (Pair front (Leaf rank)) ranks
    ∙ ap (λ xs. xs ++ ranks) (leaves_of_pair front (Leaf rank))
    ∙ append_assoc (leaves front) (rank ∷ []) ranks

pub leaves_of_fold : (ranks : List ℕ) → leaves (left (map (λ c. Leaf c) ranks)) ≡ ranks
leaves_of_fold [] = refl
leaves_of_fold (rank ∷ ranks) = leaves_behind (Leaf rank) ranks

pub tile_leaves : (tile : TileView) → leaves (tile_bracket tile) ≡ tile.contributors
tile_leaves tile = leaves_of_fold tile.contributors

-- a rank that a filter leaves out fails its test
left_out : (keeps : ℕ → Bool) (order : List ℕ) (k r : ℕ) → slice_get order k ≡ Some r → has r (filter keeps order) ≡ false → keeps r ≡ false
left_out keeps [] k r at out = absurd cc
left_out keeps (q ∷ order) zero r at out = go (keeps r) refl (subst (λ x. has r (cond (keeps x) (x ∷ filter keeps order) (filter keeps order)) ≡ false) (let e : q ≡ r = cc in e) out)
  where
    go : (b : Bool) → keeps r ≡ b → has r (cond b (r ∷ filter keeps order) (filter keeps order)) ≡ false → b ≡ false
    go false e h = refl
    go true e h = absurd (let s : (r == r) ≡ true = eq-eqb r r refl in let t : false ≡ true = sym h ∙ ap (λ b. b || has r (filter keeps order)) s in cc)
left_out keeps (q ∷ order) (suc k) r at out = left_out keeps order k r at (rest (keeps q) out)
  where
    rest : (b : Bool) → has r (cond b (q ∷ filter keeps order) (filter keeps order)) ≡ false → has r (filter keeps order) ≡ false
    rest false h = h
    rest true h = behind (q == r) (has r (filter keeps order)) h
      where
        behind : (a c : Bool) → (a || c) ≡ false → c ≡ false
        behind true c e = absurd cc
        behind false c e = e

-- the box of a rank in the list of boxes
box_at : (shapes : ℕ → List Drawing) (first ranks r : ℕ) → r < ranks → get_or (map (λ q. box (shapes q)) (range_with_len first ranks)) r None ≡ box (shapes (first + r))
box_at shapes first zero r l = absurd (omega arith)
box_at shapes first (suc ranks) zero l = ap (λ n. box (shapes n)) (let e : first ≡ first + 0 = omega arith in e)
box_at shapes first (suc ranks) (suc r) l = box_at shapes (first + 1) ranks r (omega arith) ∙ ap (λ n. box (shapes n)) (let e : first + 1 + r ≡ first + suc r = omega arith in e)

-- an element of a list of which all elements have a property
all_at : (P : ℕ → Type 0) (xs : List ℕ) (k x : ℕ) → All P xs → slice_get xs k ≡ Some x → P x
all_at P [] k x h e = absurd cc
all_at P (y ∷ xs) zero x h e = subst P (let s : y ≡ x = cc in s) (All-head P y xs h)
all_at P (y ∷ xs) (suc k) x h e = all_at P xs k x (All-tail P y xs h) e

module _ (mode : Mode) (shapes : ℕ → List Drawing) (ranks : ℕ) (order : List ℕ) (area : Area) (known : All (λ r. r < ranks) order) where
  abbrev keeps : ℕ → Bool
  keeps r = reaches_into (get_or (map (λ q. box (shapes q)) (range_with_len 0 ranks)) r None) area

  not_kept : (k r : ℕ) → slice_get order k ≡ Some r → keeps r ≡ false → IsBlank mode (shapes r) area
  not_kept k r at out =
      let l = all_at (λ q. q < ranks) order k r known at in
      blank_outside mode (shapes r) area
      (ap (λ b. reaches_into b area) (sym (box_at shapes 0 ranks r l ∙ ap (λ n. box (shapes n)) (let e : 0 + r ≡ r = omega arith in e))) ∙ out)

  pub leaves_out_blank : (list : List ℕ) → list ≡ contributors (map (λ q. box (shapes q)) (range_with_len 0 ranks)) order area → LeavesOutBlank mode (record { ranks = ranks; shapes = shapes; order = order; known = known }) area list
  leaves_out_blank list e = record {
    keeps = keeps;
    is = e;
    left_out = not_kept;
    absent = λ k r at out. not_kept k r at (left_out keeps order k r at (subst (λ xs. has r xs ≡ false) e out));
  }
