-- Which pixels a strand has, and where they stand when the strands are one behind the other.
use Rattle.std.proofs.Common.{◌≡◌, ⊎_elim, ℕ, zero, suc, ◌+◌, ◌*◌, ◌/◌, ◌%◌, ◌<◌, ◌≤◌, min, Bool, true, false, cond, ltb, List, [], ◌∷◌, ◌++◌, length, filter, map, get_or, replicate, take, None, refl, sym, ◌∙◌, ap, arith, lit<, eqb-true, length-append}
use Rattle.std.specs.Prelude.{◌==◌}
use Rattle.std.specs.List.{flat_map, range_with_len, sum_by}
use Rattle.std.proofs.lemmas.Bool.{lt-ltb, le-ltb, cases_lt}
use Rattle.std.proofs.lemmas.List.{append-nil, ext_get_or, get_or_append_left, get_or-map, length-map}
use Rattle.std.proofs.lemmas.List.Concat.{get_or-flat_map, length-flat_map}
use Rattle.std.proofs.lemmas.List.Elements.{filter-append}
use Rattle.std.proofs.lemmas.List.FromFn.{get_or-map-range_with_len, get_or-range_with_len, length-map-range_with_len, length-range_with_len}
use Rattle.std.proofs.lemmas.Nat.{div-add-mod', mod_below}
use Rattle.std.proofs.Math.Nat.{mul_comm}
use Rattle.std.proofs.Math.Seq.{get_or-append_seam}
use mathlib.Core.Path.{fun_ext}
use Rattle.icet_model.specs.Pixel.{Pixel}
use Rattle.icet_model.specs.Run.{Piece}
use Rattle.icet_interlace.specs.Interlace.{strand, place, interlaced, interlaced_piece, restored, IsInterlaced}
use Rattle.icet_interlace.proofs.Places.{range_more, size_is, start_is, turn, in_rounds, place_within, place_onto, place_one}

-- the entry of turn m in strand j
module _ (S j : ℕ) (h : j < S) where
  strand_more : (n : ℕ) → strand j (suc n) S ≡ strand j n S ++ cond (n % S == j) (n ∷ []) []
  strand_more n = ap (filter (λ i. i % S == j)) (range_more 0 n) ∙ filter-append (λ i. i % S == j) (range_with_len 0 n) ((0 + n) ∷ []) ∙ ap (λ k. strand j n S ++ filter (λ i. i % S == j) (k ∷ [])) (let z : 0 + n ≡ n = omega arith in z)

  last_turn : (n : ℕ) → (n % S == j) ≡ true → n ≡ length (strand j n S) * S + j
  last_turn n e =
      let own : n % S ≡ j = eqb-true (n % S) j e in
      let size : length (strand j n S) ≡ n / S = size_is S j h n ∙ ap (λ b. n / S + cond b 1 0) (le-ltb j (n % S) (omega (arith, own))) ∙ (let z : n / S + 0 ≡ n / S = omega arith in z) in
      sym (div-add-mod' n S) ∙ ap (λ q. q * S + n % S) (sym size) ∙ ap (λ r. length (strand j n S) * S + r) own

  entry_more : (n m : ℕ) (b : Bool) → (n % S == j) ≡ b → ((k : ℕ) → k < length (strand j n S) → get_or (strand j n S) k 0 ≡ k * S + j) → m < length (strand j n S ++ cond b (n ∷ []) []) → get_or (strand j n S ++ cond b (n ∷ []) []) m 0 ≡ m * S + j
  entry_more n m true e before l = ⊎_elim (λ (g : m < length (strand j n S)). get_or_append_left (strand j n S) (n ∷ []) 0 m g ∙ before m g) (λ (g : length (strand j n S) ≤ m).
      let here : m ≡ length (strand j n S) = omega (arith, l, g, length-append (strand j n S) (n ∷ [])) in
      ap (λ k. get_or (strand j n S ++ n ∷ []) k 0) here ∙ get_or-append_seam (strand j n S) n [] 0 ∙ last_turn n e ∙ ap (λ k. k * S + j) (sym here)) (cases_lt m (length (strand j n S)))
  entry_more n m false e before l = ap (λ xs. get_or xs m 0) (append-nil (strand j n S)) ∙ before m (omega (arith, l, ap length (append-nil (strand j n S))))

  entry : (n m : ℕ) → m < length (strand j n S) → get_or (strand j n S) m 0 ≡ m * S + j
  entry zero m l = absurd (let z : m < 0 = l in omega (arith, z))
  entry (suc n) m l = ap (λ xs. get_or xs m 0) (strand_more n) ∙ entry_more n m (n % S == j) refl (entry n) (omega (arith, l, ap length (strand_more n)))

take_range : (a k n : ℕ) → k ≤ n → take k (range_with_len a n) ≡ range_with_len a k
take_range a zero n l = refl
take_range a (suc k) zero l = absurd (omega arith)
take_range a (suc k) (suc n) l = ap (λ xs. a ∷ xs) (take_range (a + 1) k n (omega arith))

module _ (S : ℕ) (h : 0 < S) (pixels : List Pixel) where
  abbrev n : ℕ
  n = length pixels

  abbrev part : ℕ → List Pixel
  part j = map (λ i. get_or pixels i None) (strand j n S)

  part_sizes : (ks : List ℕ) → length (flat_map part ks) ≡ sum_by (λ j. length (strand j n S)) ks
  part_sizes ks = length-flat_map part ks ∙ ap (λ f. sum_by f ks) (fun_ext (λ j. length-map (strand j n S) (λ i. get_or pixels i None)))

  pub interlaced_length : length (interlaced S pixels) ≡ length pixels
  interlaced_length =
      let rest = mod_below n S h in
      let c = mul_comm S (n / S) in
      let d = div-add-mod' n S in
      part_sizes (range_with_len 0 S) ∙ start_is n S S (omega arith) ∙ (let z : S * (n / S) + min S (n % S) ≡ n = omega (arith, rest, c, d) in z)

  -- the pixel's turn is one of its strand's
  in_strand : (i : ℕ) → i < n → i / S < length (strand (i % S) n S)
  in_strand i l =
      let low = mod_below i S h in
      let size = size_is S (i % S) low n in
      ⊎_elim (λ (g : i / S < n / S). omega (arith, g, size)) (λ (g : (i / S ≡ n / S) × (i % S < n % S)).
      let more : length (strand (i % S) n S) ≡ n / S + 1 = size ∙ ap (λ b. n / S + cond b 1 0) (lt-ltb (i % S) (n % S) g.1) in
      omega (arith, g.0, more)) (turn (i % S) (i / S) (n / S) (n % S) S (mod_below n S h) (in_rounds i n S h l))

  pub interlaced_each : (i : ℕ) → i < length pixels → get_or (interlaced S pixels) (place i (length pixels) S) None ≡ get_or pixels i None
  interlaced_each i l =
      let j = i % S in
      let m = i / S in
      let low : i % S < S = mod_below i S h in
      let turns = in_strand i l in
      let before : length (flat_map part (take (i % S) (range_with_len 0 S))) + i / S ≡ place i n S = ap (λ ks. length (flat_map part ks) + i / S) (take_range 0 (i % S) S (omega (arith, low))) ∙ ap (λ s. s + i / S) (part_sizes (range_with_len 0 (i % S))) in
      let own : get_or (range_with_len 0 S) (i % S) 0 ≡ i % S = get_or-range_with_len 0 S (i % S) 0 low ∙ (let z : 0 + i % S ≡ i % S = omega arith in z) in
      let size : length (part (get_or (range_with_len 0 S) (i % S) 0)) ≡ length (strand (i % S) n S) = ap (λ k. length (part k)) own ∙ length-map (strand (i % S) n S) (λ k. get_or pixels k None) in
      ap (λ p. get_or (interlaced S pixels) p None) (sym before)
      ∙ get_or-flat_map part (range_with_len 0 S) (i % S) (i / S) 0 None (omega (arith, low, length-range_with_len 0 S)) (omega (arith, turns, size))
      ∙ ap (λ k. get_or (part k) (i / S) None) own
      ∙ get_or-map (λ k. get_or pixels k None) (strand (i % S) n S) (i / S) 0 None turns
      ∙ ap (λ k. get_or pixels k None) (entry S (i % S) low n (i / S) turns ∙ div-add-mod' i S)

  -- a list with each pixel at its place is the interlaced one
  pub interlaced_is : (positions : List Pixel) → length positions ≡ length pixels → ((i : ℕ) → i < length pixels → get_or positions (place i (length pixels) S) None ≡ get_or pixels i None) → positions ≡ interlaced S pixels
  interlaced_is positions size each = ext_get_or None positions (interlaced S pixels) (size ∙ sym interlaced_length) (λ p l.
      let o = place_onto p n S h (omega (arith, l, size)) in
      ap (λ k. get_or positions k None) (sym o.1.1) ∙ each o.0 o.1.0 ∙ sym (interlaced_each o.0 o.1.0) ∙ ap (λ k. get_or (interlaced S pixels) k None) o.1.1)

  pub restored_interlaced : restored (length pixels) S (interlaced S pixels) ≡ pixels
  restored_interlaced = ext_get_or None (restored n S (interlaced S pixels)) pixels (length-map-range_with_len (λ i. get_or (interlaced S pixels) (place i n S) None) 0 n) (λ i l.
      let small : i < n = omega (arith, l, length-map-range_with_len (λ i. get_or (interlaced S pixels) (place i n S) None) 0 n) in
      get_or-map-range_with_len (λ i. get_or (interlaced S pixels) (place i n S) None) 0 n i i None small (omega arith) ∙ interlaced_each i small)

-- what `interlace` answers
pub piece_is : (S : ℕ) (image z : Piece (List Pixel)) → 0 < S → IsInterlaced S image z → z ≡ interlaced_piece S image
piece_is S image z h is =
    let n : length image.content ≡ image.hi = is.whole.size in
    let content : z.content ≡ interlaced S image.content = interlaced_is S h image.content z.content (is.whole_too.size ∙ is.hi ∙ sym n) (λ i l. ap (λ k. get_or z.content (place i k S) None) n ∙ is.each i (omega (arith, l, n))) in
    let first : z.lo ≡ image.lo = is.whole_too.from_first ∙ sym is.whole.from_first in
    λ i. record { tile = is.tile i; lo = first i; hi = is.hi i; content = content i }

-- one strand has the pixels as they are
pub one_interlaced : (pixels : List Pixel) → interlaced 1 pixels ≡ pixels
one_interlaced pixels = sym (interlaced_is 1 (lit< tt) pixels pixels refl (λ i l. ap (λ k. get_or pixels k None) (place_one i (length pixels))))

pub one_restored : (pixels : List Pixel) → restored (length pixels) 1 pixels ≡ pixels
one_restored pixels = ap (restored (length pixels) 1) (sym (one_interlaced pixels)) ∙ restored_interlaced 1 (lit< tt) pixels

no_pixel : (n i : ℕ) → get_or (replicate {A = Pixel} n None) i None ≡ None
no_pixel zero i = refl
no_pixel (suc n) zero = refl
no_pixel (suc n) (suc i) = no_pixel n i

-- blank pixels are dealt out already
pub blank_interlaced : (S n : ℕ) → 0 < S → interlaced S (replicate n None) ≡ replicate n None
blank_interlaced S n h = sym (interlaced_is S h (replicate n None) (replicate n None) refl (λ i l. no_pixel n (place i (length (replicate {A = Pixel} n None)) S) ∙ sym (no_pixel n i)))

-- positions that have each a value of their own, restored
pub restored_of : (f : ℕ → Pixel) (n S : ℕ) → 0 < S → restored n S (map f (range_with_len 0 n)) ≡ map (λ i. f (place i n S)) (range_with_len 0 n)
restored_of f n S h =
    let taken : ℕ → Pixel = λ i. get_or (map f (range_with_len 0 n)) (place i n S) None in
    let size : length (map taken (range_with_len 0 n)) ≡ n = length-map-range_with_len taken 0 n in
    ext_get_or None (map taken (range_with_len 0 n)) (map (λ i. f (place i n S)) (range_with_len 0 n)) (size ∙ sym (length-map-range_with_len (λ i. f (place i n S)) 0 n)) (λ i l.
    let small : i < n = omega (arith, l, size) in
    get_or-map-range_with_len taken 0 n i i None small (omega arith)
    ∙ get_or-map-range_with_len f 0 n (place i n S) (place i n S) None (place_within i n S h small) (omega arith)
    ∙ sym (get_or-map-range_with_len (λ i. f (place i n S)) 0 n i i None small (omega arith)))
