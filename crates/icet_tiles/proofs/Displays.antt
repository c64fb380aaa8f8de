-- The display ranks of tiles differ where each differs from those before it.
use Rattle.std.proofs.Common.{◌≡◌, ◌≢◌, ℕ, ◌+◌, ◌<◌, ◌≤◌, ⊎_elim, Bool, true, false, List, length, get_or, take, sym, ap, ◌∙◌, arith, eq-eqb}
use Rattle.std.specs.Prelude.{◌==◌, AllPairs}
use Rattle.std.specs.List.{list_any}
use Rattle.std.proofs.lemmas.Bool.{eqb-true, cases_lt}
use Rattle.std.proofs.lemmas.List.{get_or-take, length-take, get_or_default}
use Rattle.std.proofs.lemmas.List.Folds.{Any-from_list_any, list_any_at}
use Rattle.icet_tiles.specs.declared.layout.Tile.{Tile}

-- the display ranks of the tiles before this place differ
pub record AreApartBelow (tiles : List Tile) (at : ℕ) : Type 0 where
  pub apart : (i j : ℕ) (d : Tile) → i < j → j < at → (get_or tiles i d).display ≢ (get_or tiles j d).display

abbrev shows : ℕ → Tile → Bool
shows rank tile = tile.display == rank

within_front : (tiles : List Tile) (at i : ℕ) → at < length tiles → i < at → i < length (take at tiles)
within_front tiles at i within below = omega (arith, length-take at tiles)

-- a rank that none of the first tiles shows
not_shown : (tiles : List Tile) (at rank : ℕ) → at < length tiles → list_any (shows rank) (take at tiles) ≡ false → (i : ℕ) (d : Tile) → i < at → (get_or tiles i d).display ≢ rank
not_shown tiles at rank within none i d below same =
    let here : shows rank (get_or (take at tiles) i d) ≡ true = ap (shows rank) (get_or-take at tiles i d below) ∙ eq-eqb _ rank same in
    let some : list_any (shows rank) (take at tiles) ≡ true = list_any_at (shows rank) (take at tiles) i d (within_front tiles at i within below) here in
    absurd (let e : true ≡ false = sym some ∙ none in cc)

-- the tile at this place, and the default that it is read with
display_at : (tiles : List Tile) (at : ℕ) (c d : Tile) → at < length tiles → (get_or tiles at c).display ≡ (get_or tiles at d).display
display_at tiles at c d within = ap (λ tile. tile.display) (get_or_default tiles at c d within)

pub apart_more : (tiles : List Tile) (at : ℕ) (c : Tile) → at < length tiles → list_any (shows (get_or tiles at c).display) (take at tiles) ≡ false → AreApartBelow tiles at → AreApartBelow tiles (at + 1)
apart_more tiles at c within none before = record {
  apart = λ i j d first second same. ⊎_elim
      (λ (below : j < at). before.apart i j d first below same)
      (λ (here : at ≤ j). let e : j ≡ at = omega (arith, here, second) in
      let now : (get_or tiles i d).display ≡ (get_or tiles at d).display = rw (← e) same in
      not_shown tiles at (get_or tiles at c).display within none i d (omega (arith, e, first)) (now ∙ display_at tiles at d c within))
      (cases_lt j at);
}

pub shown_twice : (tiles : List Tile) (at : ℕ) (c : Tile) → at < length tiles → list_any (shows (get_or tiles at c).display) (take at tiles) ≡ true → AllPairs (λ one other. one.display ≢ other.display) tiles → ⊥
shown_twice tiles at c within some apart =
    let a = Any-from_list_any (shows (get_or tiles at c).display) (take at tiles) some in
    let below : a.0 < at = let l = a.2 in omega (arith, l, length-take at tiles) in
    let same : a.1.display ≡ (get_or tiles at c).display = eqb-true _ _ a.4 in
    let here : get_or tiles a.0 a.1 ≡ a.1 = sym (get_or-take at tiles a.0 a.1 below) ∙ a.3 in
    apart a.0 at a.1 below within (ap (λ tile. tile.display) here ∙ same ∙ display_at tiles at c a.1 within)
