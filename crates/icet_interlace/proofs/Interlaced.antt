-- Images whose pixels come to their places one by one.
use Rattle.std.proofs.Common.{◌≡◌, ℕ, ◌+◌, ◌<◌, ◌≤◌, ⊎_elim, List, [], ◌∷◌, ◌++◌, length, get_or, None, refl, sym, ◌∙◌, ap, arith}
use Rattle.std.proofs.lemmas.Bool.{cases_lt}
use Rattle.std.proofs.lemmas.List.{ext_get_or, get_or_append_left}
use Rattle.std.proofs.Math.Seq.{get_or-append_seam}
use Rattle.icet_model.specs.Pixel.{Pixel}
use Rattle.icet_model.specs.Run.{Piece}
use Rattle.icet_interlace.specs.Interlace.{place, IsWhole, IsInterlaced}
use Rattle.icet_interlace.proofs.Places.{place_apart, place_one}

module _ (before now : List Pixel) (x : Pixel) (e : now ≡ before ++ x ∷ []) where
  at_seam : (k : ℕ) → k ≡ length before → get_or now k None ≡ x
  at_seam k s = ap (λ l. get_or l k None) e ∙ ap (λ i. get_or (before ++ x ∷ []) i None) s ∙ get_or-append_seam before x [] None

  at_old : (k : ℕ) → k < length before → get_or now k None ≡ get_or before k None
  at_old k h = ap (λ l. get_or l k None) e ∙ get_or_append_left before (x ∷ []) None k h

  -- one more position has its pixel
  pub placed_more : (content : List Pixel) (n S found position : ℕ) → 0 < S → length before ≡ position → found < n → place found n S ≡ position → x ≡ get_or content found None → ((i : ℕ) → i < n → place i n S < position → get_or before (place i n S) None ≡ get_or content i None) → (i : ℕ) → i < n → place i n S < position + 1 → get_or now (place i n S) None ≡ get_or content i None
  placed_more content n S found position h size f p v old i l k = ⊎_elim (λ (g : place i n S < position). at_old (place i n S) (omega arith) ∙ old i l g) (λ (g : position ≤ place i n S).
      let here : place i n S ≡ position = omega arith in
      let same = place_apart i found n S l f h (here ∙ sym p) in
      at_seam (place i n S) (here ∙ sym size) ∙ v ∙ ap (λ j. get_or content j None) (sym same)) (cases_lt (place i n S) position)

  -- one more pixel is taken from its place
  pub taken_more : (content : List Pixel) (n S count : ℕ) → length before ≡ count → x ≡ get_or content (place count n S) None → ((i : ℕ) → i < count → get_or content (place i n S) None ≡ get_or before i None) → (i : ℕ) → i < count + 1 → get_or content (place i n S) None ≡ get_or now i None
  taken_more content n S count size v old i l = ⊎_elim (λ (g : i < count). old i g ∙ sym (at_old i (omega arith))) (λ (g : count ≤ i).
      let here : i ≡ count = omega arith in
      ap (λ j. get_or content (place j n S) None) here ∙ sym v ∙ sym (at_seam i (here ∙ sym size))) (cases_lt i count)

abbrev piece : ℕ → ℕ → ℕ → List Pixel → Piece (List Pixel)
piece tile lo hi content = record { tile = tile; lo = lo; hi = hi; content = content }

same_piece : (a b : Piece (List Pixel)) → a.tile ≡ b.tile → a.lo ≡ b.lo → a.hi ≡ b.hi → a.content ≡ b.content → piece a.tile a.lo a.hi a.content ≡ piece b.tile b.lo b.hi b.content
same_piece a b t l h c = rw (t, l, h, c)

-- no two images are the same one interlaced
pub one_origin : (S : ℕ) (a b z : Piece (List Pixel)) → IsInterlaced S a z → IsInterlaced S b z → a ≡ b
one_origin S a b z x y =
    let tiles = sym x.tile ∙ y.tile in
    let ends : a.hi ≡ b.hi = sym x.hi ∙ y.hi in
    let contents : a.content ≡ b.content = ext_get_or None a.content b.content (x.whole.size ∙ ends ∙ sym y.whole.size) (λ i h. sym (x.each i (omega (arith, x.whole.size))) ∙ ap (λ n. get_or z.content (place i n S) None) ends ∙ y.each i (omega (arith, x.whole.size))) in
    same_piece a b tiles (x.whole.from_first ∙ sym y.whole.from_first) ends contents

-- one strand leaves an image as it is
pub one_strand : (S : ℕ) (z : Piece (List Pixel)) → S ≡ 1 → IsWhole z → IsInterlaced S z z
one_strand S z e w = record {
  tile = refl;
  hi = refl;
  whole = w;
  whole_too = w;
  each = λ i h. ap (λ k. get_or z.content k None) (ap (place i z.hi) e ∙ place_one i z.hi);
}
