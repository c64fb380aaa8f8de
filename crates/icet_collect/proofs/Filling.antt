-- A canvas filled piece by piece: it shows the pieces that were placed, and in the end the wanted picture.
use Rattle.std.proofs.Common.{◌≡◌, ⊎_elim, ℕ, ◌-◌, ◌*◌, ◌<◌, ◌≤◌, Bool, true, false, cond, ◌||◌, List, [], ◌∷◌, ◌++◌, length, map, filter, get_or, replicate, None, refl, sym, ◌∙◌, ap, arith, length-append}
use Rattle.std.specs.List.{list_any, range_with_len}
use Rattle.std.proofs.lemmas.Bool.{both_ways, cases_lt, cond-true}
use Rattle.std.proofs.lemmas.List.{ext_get_or, get_or-replicate, get_or_past, length-replicate}
use Rattle.std.proofs.lemmas.List.Elements.{filter-append}
use Rattle.std.proofs.lemmas.List.FromFn.{get_or-map-range_with_len, length-map-range_with_len}
use Rattle.icet_model.specs.Pixel.{Pixel}
use Rattle.icet_model.specs.Run.{Piece}
use Rattle.icet_model.specs.Plan.{has_place}
use Rattle.icet_interlace.specs.Interlace.{place, restored}
use Rattle.icet_interlace.proofs.Places.{place_within}
use Rattle.icet_interlace.proofs.Strands.{restored_of}
use Rattle.icet_collect.specs.Collect.{CanvasView, blank_canvas, position_of, IsFree, IsFull, Places, Shows, HasWanted}
use Rattle.icet_model.proofs.Lists.{any_last}
use Rattle.icet_collect.proofs.Positions.{in_range}

blank_place : (n i : ℕ) → get_or (replicate n false) i false ≡ false
blank_place n i = ⊎_elim (λ (h : i < n). get_or-replicate n i false false h) (λ (h : n ≤ i). get_or_past (replicate n false) i false (rw (length-replicate n false) h)) (cases_lt i n)

pub shows_blank : (wanted : ℕ → Pixel) (tile w h strands : ℕ) → Shows wanted (blank_canvas tile w h strands) []
shows_blank wanted tile w h strands = record {
  placed = λ i. blank_place (w * h) i;
  pixels = λ i l e. absurd (both_ways (get_or (replicate (w * h) false) (place i (w * h) strands) false) (blank_place (w * h) (place i (w * h) strands)) e);
}

-- the pixel with position j, once one more piece is placed
wanted_at : (wanted : ℕ → Pixel) (t : ℕ) (p : Piece (List Pixel)) (j : ℕ) (old : Pixel) (placed : Bool) → HasWanted wanted p → (placed ≡ true → old ≡ wanted j) → (b : Bool) → has_place t j p ≡ b → (b || placed) ≡ true → cond b (get_or p.content (j - p.lo) None) old ≡ wanted j
wanted_at wanted t p j old placed has before true q e = let r = in_range t j p q in has j r.0 r.1
wanted_at wanted t p j old placed has before false q e = before e

module _ (wanted : ℕ → Pixel) (c d : CanvasView) (ps : List (Piece (List Pixel))) (p : Piece (List Pixel)) (shows : Shows wanted c ps) (places : Places c d p) (has : HasWanted wanted p) where
  same_size : d.w * d.h ≡ c.w * c.h
  same_size = λ j. places.w j * places.h j

  same_position : (i : ℕ) → position_of d i ≡ position_of c i
  same_position i = λ j. place i (same_size j) (places.strands j)

  -- one more piece is placed
  pub shows_more : Shows wanted d (ps ++ p ∷ [])
  shows_more = record {
    placed = λ i. places.placed i ∙ ap (λ b. has_place c.tile i p || b) (shows.placed i) ∙ sym (any_last (has_place c.tile i) ps p) ∙ ap (λ t. list_any (has_place t i) (ps ++ p ∷ [])) (sym places.tile);
    pixels = λ i l e.
        let low : i < c.w * c.h = omega (arith, l, same_size) in
        places.pixels i low
        ∙ wanted_at wanted c.tile p (position_of c i) (get_or c.pixels i None) (get_or c.placed (position_of c i) false) has (shows.pixels i low) (has_place c.tile (position_of c i) p) refl (sym (places.placed (position_of c i)) ∙ ap (λ q. get_or d.placed q false) (sym (same_position i)) ∙ e)
        ∙ ap wanted (sym (same_position i));
  }

module _ (test : Piece (List Pixel) → Bool) where
  none_step : (b any : Bool) (p : Piece (List Pixel)) (found : List (Piece (List Pixel))) → length (cond b (p ∷ found) found) ≡ 0 → (length found ≡ 0 → any ≡ false) → (b || any) ≡ false
  none_step true any p found h rest = absurd (omega arith)
  none_step false any p found h rest = rest h

  none_of : (ps : List (Piece (List Pixel))) → length (filter test ps) ≡ 0 → list_any test ps ≡ false
  none_of [] h = refl
  none_of (p ∷ ps) h = none_step (test p) (list_any test ps) p (filter test ps) h (none_of ps)

  some_step : (b any : Bool) (p : Piece (List Pixel)) (found : List (Piece (List Pixel))) → length (cond b (p ∷ found) found) ≡ 1 → (length found ≡ 1 → any ≡ true) → (b || any) ≡ true
  some_step true any p found h rest = refl
  some_step false any p found h rest = rest h

  -- where one passes there is some
  some_of : (ps : List (Piece (List Pixel))) → length (filter test ps) ≡ 1 → list_any test ps ≡ true
  some_of [] h = absurd (omega arith)
  some_of (p ∷ ps) h = some_step (test p) (list_any test ps) p (filter test ps) h (some_of ps)

  -- where at most one passes, none before it does
  none_before : (ps rest : List (Piece (List Pixel))) (p : Piece (List Pixel)) → test p ≡ true → length (filter test (ps ++ p ∷ rest)) ≤ 1 → list_any test ps ≡ false
  none_before ps rest p e h =
      let both = ap length (filter-append test ps (p ∷ rest)) ∙ length-append (filter test ps) (filter test (p ∷ rest)) in
      let one = ap length (cond-true (test p) (p ∷ filter test rest) (filter test rest) e) in
      none_of ps (omega arith)

-- the positions of these pieces are placed and no others
abbrev pub ArePlaced : CanvasView → List (Piece (List Pixel)) → Type 0
ArePlaced c ps = (i : ℕ) → get_or c.placed i false ≡ list_any (has_place c.tile i) ps

-- a piece whose positions no other one has is free
pub is_free : (c : CanvasView) (ps rest : List (Piece (List Pixel))) (p : Piece (List Pixel)) → ArePlaced c ps → ((i : ℕ) → length (filter (has_place c.tile i) (ps ++ p ∷ rest)) ≤ 1) → IsFree c p
is_free c ps rest p placed once i e = placed i ∙ none_before (has_place c.tile i) ps rest p e (once i)

-- where each position is in one piece, the canvas is full
pub is_full : (c : CanvasView) (ps : List (Piece (List Pixel))) → ArePlaced c ps → ((i : ℕ) → i < c.w * c.h → length (filter (has_place c.tile i) ps) ≡ 1) → IsFull c
is_full c ps placed once i h = placed i ∙ some_of (has_place c.tile i) ps (once i h)

-- a full canvas shows the wanted picture: the wanted pixels by position, restored
pub shown : (wanted : ℕ → Pixel) (c : CanvasView) (ps : List (Piece (List Pixel))) (n : ℕ) → 1 ≤ c.strands → Shows wanted c ps → IsFull c → n ≡ c.w * c.h → length c.pixels ≡ n → c.pixels ≡ restored n c.strands (map wanted (range_with_len 0 n))
shown wanted c ps n some shows full e size =
    let m : ℕ = c.w * c.h in
    let here : ℕ → Pixel = λ i. wanted (position_of c i) in
    let each : c.pixels ≡ map here (range_with_len 0 (c.w * c.h)) = ext_get_or None c.pixels (map here (range_with_len 0 (c.w * c.h))) (size ∙ e ∙ sym (length-map-range_with_len here 0 (c.w * c.h))) (λ i l.
    let low : i < c.w * c.h = omega (arith, l, size, e) in
    shows.pixels i low (full (position_of c i) (place_within i (c.w * c.h) c.strands some low)) ∙ sym (get_or-map-range_with_len here 0 (c.w * c.h) i i None low (omega arith))) in
    each ∙ sym (restored_of wanted (c.w * c.h) c.strands some) ∙ ap (λ k. restored k c.strands (map wanted (range_with_len 0 k))) (sym e)
