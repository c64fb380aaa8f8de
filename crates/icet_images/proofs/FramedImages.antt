-- An image is the part of it where its shapes may be seen, with blank pixels around.
use Rattle.std.proofs.Common.{◌≡◌, ℕ, zero, suc, ◌+◌, ◌-◌, ◌*◌, ◌/◌, ◌%◌, ◌<◌, ◌≤◌, List, [], ◌∷◌, ◌++◌, length, map, take, drop, replicate, Some, None, refl, sym, ap, ◌∙◌, arith, append_assoc, length-append, length-drop, zero-add, add-zero, ⊎_elim, ◌⊎◌}
use Rattle.std.specs.List.{flat_map, range_with_len}
use Rattle.std.proofs.lemmas.List.{append-nil, map-append, length-map, length-replicate, length-take-le}
use Rattle.std.proofs.lemmas.List.FromFn.{length-range_with_len}
use Rattle.std.proofs.lemmas.Nat.{div-mul-add, mod-mul-add, div_below, mod_below, div-add-mod'}
use Rattle.std.proofs.Math.Nat.{suc-mul, add-mul, mul_comm}
use Rattle.std.proofs.Math.Seq.{take-append-add, drop-append-add}
use Rattle.icet_model.specs.declared.names.Mode.{Mode}
use Rattle.icet_model.specs.Pixel.{Pixel}
use Rattle.icet_model.specs.Tiles.{Area}
use Rattle.icet_scene_model.specs.Raster.{Drawing, drawn, full_image}
use Rattle.icet_raster.specs.declared.cut.Part.{Part}
use Rattle.icet_raster.specs.Stretches.{AreSeenWithin, IsPartOf}
use Rattle.icet_raster.proofs.FullImages.{map_same, blanks}
use Rattle.icet_images.specs.Images.{IsPartWithin, part_area, framed_row, framed_rows, framed_image, margins_of}
use Rattle.icet_images.specs.declared.framing.Margins.{Margins}

-- ranges and what is made of them
range_split : (a n m : ℕ) → range_with_len a (n + m) ≡ range_with_len a n ++ range_with_len (a + n) m
range_split a zero m = ap (λ k. range_with_len a k) (zero-add m) ∙ ap (λ k. range_with_len k m) (sym (add-zero a))
range_split a (suc n) m = ap (range_with_len a) (let e : suc n + m ≡ suc (n + m) = omega arith in e) ∙ ap (λ l. a ∷ l) (range_split (a + 1) n m ∙ ap (λ k. range_with_len (a + 1) n ++ range_with_len k m) (let e : a + 1 + n ≡ a + suc n = omega arith in e))

pub made_split : {X : Type 0} (f : ℕ → X) (a n m : ℕ) → map f (range_with_len a (n + m)) ≡ map f (range_with_len a n) ++ map f (range_with_len (a + n) m)
made_split f a n m = ap (map f) (range_split a n m) ∙ map-append f (range_with_len a n) (range_with_len (a + n) m)

pub made_length : {X : Type 0} (f : ℕ → X) (a n : ℕ) → length (map f (range_with_len a n)) ≡ n
made_length f a n = length-map (range_with_len a n) f ∙ length-range_with_len a n

-- a row of what is made of a range
made_part : {X : Type 0} (f : ℕ → X) (a skip n rest : ℕ) → take n (drop skip (map f (range_with_len a (skip + (n + rest))))) ≡ map f (range_with_len (a + skip) n)
made_part f a skip n rest =
    let front = map f (range_with_len a skip) in
    let here = map f (range_with_len (a + skip) n) in
    let behind = map f (range_with_len (a + skip + n) rest) in
    let whole : map f (range_with_len a (skip + (n + rest))) ≡ front ++ (here ++ behind) = made_split f a skip (n + rest) ∙ ap (λ l. front ++ l) (made_split f (a + skip) n rest) in
    let skipped : skip ≡ length front + 0 = omega (arith, made_length f a skip) in
    let taken : n ≡ length here + 0 = omega (arith, made_length f (a + skip) n) in
    ap (λ l. take n (drop skip l)) whole ∙ ap (λ k. take n (drop k (front ++ (here ++ behind)))) skipped ∙ ap (take n) (drop-append-add front (here ++ behind) 0) ∙ ap (λ k. take k (here ++ behind)) taken ∙ take-append-add here behind 0 ∙ append-nil here

-- pixels of which each is blank
all_blank : (f : ℕ → Pixel) (a n : ℕ) → ((i : ℕ) → i < n → f (a + i) ≡ None) → map f (range_with_len a n) ≡ replicate n None
all_blank f a n h = map_same f (λ i. None) a n h ∙ sym (blanks None a n)

flat_more : {X Y : Type 0} (f : X → List Y) (xs : List X) (x : X) → flat_map f (xs ++ x ∷ []) ≡ flat_map f xs ++ f x
flat_more f [] x = append-nil (f x)
flat_more f (y ∷ xs) x = ap (λ l. f y ++ l) (flat_more f xs x) ∙ sym (append_assoc (f y) (flat_map f xs) (f x))

-- what is made of two ranges of one length, where it is the same place by place
pub shifted : {X : Type 0} (f g : ℕ → X) (a b n : ℕ) → ((i : ℕ) → i < n → f (a + i) ≡ g (b + i)) → map f (range_with_len a n) ≡ map g (range_with_len b n)
shifted f g a b zero h = refl
shifted f g a b (suc n) h =
    let first : f a ≡ g b = ap f (sym (add-zero a)) ∙ h 0 (omega arith) ∙ ap g (add-zero b) in
    let rest = shifted f g (a + 1) (b + 1) n (λ i l. ap f (let e : a + 1 + i ≡ a + suc i = omega arith in e) ∙ h (suc i) (omega arith) ∙ ap g (let e : b + suc i ≡ b + 1 + i = omega arith in e)) in
    ap (λ x. x ∷ map f (range_with_len (a + 1) n)) first ∙ ap (λ xs. g b ∷ xs) rest

-- one row more
pub rows_more : (m : Margins) (rows : ℕ) (ps : List Pixel) → framed_rows m (rows + 1) ps ≡ framed_rows m rows ps ++ framed_row m (take m.width (drop (rows * m.width) ps))
rows_more m rows ps =
    let row : ℕ → List Pixel = λ j. framed_row m (take m.width (drop (j * m.width) ps)) in
    ap (flat_map row) (range_split 0 rows 1) ∙ flat_more row (range_with_len 0 rows) (0 + rows) ∙ ap (λ k. flat_map row (range_with_len 0 rows) ++ row k) (zero-add rows)

-- how many pixels a row and the rows before it have
slice_length : (width i rows : ℕ) (ps : List Pixel) → length ps ≡ width * rows → i < rows → length (take width (drop (i * width) ps)) ≡ width
slice_length width i rows ps e l =
    let rest = rows - i - 1 in
    let all : width * rows ≡ i * width + (width + rest * width) = mul_comm width rows ∙ ap (λ k. k * width) (let h : rows ≡ i + 1 + rest = omega arith in h) ∙ omega (arith, add-mul (i + 1) rest width, add-mul i 1 width) in
    length-take-le width (drop (i * width) ps) (omega (arith, length-drop (i * width) ps))

pub row_length : (m : Margins) (i rows : ℕ) (ps : List Pixel) → length ps ≡ m.width * rows → i < rows → length (framed_row m (take m.width (drop (i * m.width) ps))) ≡ m.left + m.width + m.right
row_length m i rows ps e l =
    let row = take m.width (drop (i * m.width) ps) in
    omega (arith, slice_length m.width i rows ps e l, length-append (replicate {A = Pixel} m.left None) (row ++ replicate m.right None), length-append row (replicate m.right None), length-replicate {A = Pixel} m.left None, length-replicate {A = Pixel} m.right None)

rows_so_far : (m : Margins) (n rows : ℕ) (ps : List Pixel) → length ps ≡ m.width * rows → n ≤ rows → length (framed_rows m n ps) ≡ n * (m.left + m.width + m.right)
rows_so_far m zero rows ps e l = omega arith
rows_so_far m (suc n) rows ps e l =
    let next : suc n ≡ n + 1 = omega arith in
    let row = framed_row m (take m.width (drop (n * m.width) ps)) in
    ap (λ k. length (framed_rows m k ps)) next ∙ ap length (rows_more m n ps) ∙ omega (arith, length-append (framed_rows m n ps) row, rows_so_far m n rows ps e (omega arith), row_length m n rows ps e (omega arith), suc-mul n (m.left + m.width + m.right))

pub rows_length : (m : Margins) (rows : ℕ) (ps : List Pixel) → length ps ≡ m.width * rows → length (framed_rows m rows ps) ≡ rows * (m.left + m.width + m.right)
rows_length m rows ps e = rows_so_far m rows rows ps e (omega arith)

-- the rows above, in and below a part are those of the image
pub rows_within : (w h : ℕ) (part : Part) → IsPartWithin w h part → part.top * w + (part.bottom - part.top) * (part.from + (part.to - part.from) + (w - part.to)) + (h - part.bottom) * w ≡ w * h
rows_within w h part inside =
    let rows = part.bottom - part.top in
    let below = h - part.bottom in
    let width : part.from + (part.to - part.from) + (w - part.to) ≡ w = omega (arith, inside.columns, inside.width) in
    let all : h ≡ part.top + (rows + below) = omega (arith, inside.rows, inside.height) in
    ap (λ k. part.top * w + rows * k + below * w) width ∙ omega (arith, add-mul part.top (rows + below) w, add-mul rows below w, mul_comm w h, ap (λ k. k * w) all)

module _ (mode : Mode) (shapes : List Drawing) (area : Area) (part : Part) (inside : IsPartOf area part) (seen : AreSeenWithin shapes area part) where
  abbrev pixel : ℕ → Pixel
  pixel i = drawn mode shapes (area.x + i % area.w) (area.y + i / area.w)

  -- the pixel in this column and row
  at_place : (x y : ℕ) → x < area.w → pixel (y * area.w + x) ≡ drawn mode shapes (area.x + x) (area.y + y)
  at_place x y l = ap (λ k. drawn mode shapes (area.x + k) (area.y + (y * area.w + x) / area.w)) (mod-mul-add y area.w x l) ∙ ap (λ k. drawn mode shapes (area.x + x) (area.y + k)) (div-mul-add y area.w x l)

  outside_columns : (x y : ℕ) → x < area.w → ((part.from ≤ x) × (x < part.to) → ⊥) → drawn mode shapes (area.x + x) (area.y + y) ≡ None
  outside_columns x y l out = by (drawn mode shapes (area.x + x) (area.y + y)) refl
    where
      by : (p : Pixel) → drawn mode shapes (area.x + x) (area.y + y) ≡ p → p ≡ None
      by None e = refl
      by (Some f) e = absurd (out (seen.columns mode x y l (λ n. let g = sym e ∙ n in absurd (cc))))

  outside_rows : (x y : ℕ) → y < area.h → ((part.top ≤ y) × (y < part.bottom) → ⊥) → drawn mode shapes (area.x + x) (area.y + y) ≡ None
  outside_rows x y l out = by (drawn mode shapes (area.x + x) (area.y + y)) refl
    where
      by : (p : Pixel) → drawn mode shapes (area.x + x) (area.y + y) ≡ p → p ≡ None
      by None e = refl
      by (Some f) e = absurd (out (seen.rows mode x y l (λ n. let g = sym e ∙ n in absurd (cc))))

  -- some rows of the area in which nothing is seen
  blank_rows : (y n : ℕ) → y + n ≤ area.h → ((j : ℕ) → j < n → (part.top ≤ y + j) × (y + j < part.bottom) → ⊥) → map pixel (range_with_len (y * area.w) (n * area.w)) ≡ replicate (n * area.w) None
  blank_rows y n l out = all_blank pixel (y * area.w) (n * area.w) (λ i h.
      let w : 0 < area.w = wide n area.w i h in
      let row : i / area.w < n = div_below i area.w n w h in
      let column = mod_below i area.w w in
      let whole = div-add-mod' i area.w in
      let same : y * area.w + i ≡ (y + i / area.w) * area.w + i % area.w = omega (arith, add-mul y (i / area.w) area.w) in
      ap pixel same ∙ at_place (i % area.w) (y + i / area.w) (omega arith) ∙ outside_rows (i % area.w) (y + i / area.w) (omega arith) (out (i / area.w) row))
    where
      wide : (n w i : ℕ) → i < n * w → 0 < w
      wide n zero i h = absurd (let e : n * 0 ≡ 0 = omega arith in omega (arith, e))
      wide n (suc w) i h = omega arith

  abbrev sub : Area
  sub = part_area area part

  abbrev sub_pixel : ℕ → Pixel
  sub_pixel i = drawn mode shapes (sub.x + i % sub.w) (sub.y + i / sub.w)

  -- how many rows of a size stand before, in and behind one
  rows_apart : (n rest w : ℕ) → (n + 1 + rest) * w ≡ n * w + (w + rest * w)
  rows_apart n rest w = omega (arith, add-mul (n + 1) rest w, add-mul n 1 w)

  -- a row of the area has the part's row between blank pixels
  row_is : (n : ℕ) → n < part.bottom - part.top → map pixel (range_with_len ((part.top + n) * area.w) area.w) ≡ framed_row (margins_of area.w part) (take sub.w (drop (n * sub.w) (full_image mode shapes sub)))
  row_is n l =
      let y = part.top + n in
      let start = y * area.w in
      let right = area.w - part.to in
      let width : area.w ≡ part.from + (sub.w + right) = omega (arith, inside.columns, inside.width) in
      let left_is : map pixel (range_with_len start part.from) ≡ replicate part.from None = all_blank pixel start part.from (λ i h. at_place i y (omega (arith, inside.columns, inside.width)) ∙ outside_columns i y (omega (arith, inside.columns, inside.width)) (λ p. let low = p.0 in omega arith)) in
      let right_is : map pixel (range_with_len (start + part.from + sub.w) right) ≡ replicate right None = all_blank pixel (start + part.from + sub.w) right (λ i h.
      let at : start + part.from + sub.w + i ≡ start + (part.to + i) = omega (arith, inside.columns) in
      ap pixel at ∙ at_place (part.to + i) y (omega arith) ∙ outside_columns (part.to + i) y (omega arith) (λ p. let high = p.1 in omega arith)) in
      let middle : map pixel (range_with_len (start + part.from) sub.w) ≡ map sub_pixel (range_with_len (0 + n * sub.w) sub.w) = shifted pixel sub_pixel (start + part.from) (0 + n * sub.w) sub.w (λ i h.
      let at : start + part.from + i ≡ start + (part.from + i) = omega arith in
      let there : 0 + n * sub.w + i ≡ n * sub.w + i = omega arith in
      let x : area.x + (part.from + i) ≡ sub.x + i = omega arith in
      let row : area.y + y ≡ sub.y + n = omega arith in
      ap pixel at ∙ at_place (part.from + i) y (omega (arith, inside.columns, inside.width)) ∙ ap (λ k. drawn mode shapes k (area.y + y)) x ∙ ap (λ k. drawn mode shapes (sub.x + i) k) row ∙ sym (ap sub_pixel there ∙ ap (λ k. drawn mode shapes (sub.x + k) (sub.y + (n * sub.w + i) / sub.w)) (mod-mul-add n sub.w i h) ∙ ap (λ k. drawn mode shapes (sub.x + i) (sub.y + k)) (div-mul-add n sub.w i h))) in
      let rest = part.bottom - part.top - n - 1 in
      let rows : sub.h ≡ n + 1 + rest = omega arith in
      let size : sub.w * sub.h ≡ n * sub.w + (sub.w + rest * sub.w) = mul_comm sub.w sub.h ∙ ap (λ k. k * sub.w) rows ∙ rows_apart n rest sub.w in
      let taken : take sub.w (drop (n * sub.w) (full_image mode shapes sub)) ≡ map sub_pixel (range_with_len (0 + n * sub.w) sub.w) = ap (λ k. take sub.w (drop (n * sub.w) (map sub_pixel (range_with_len 0 k)))) size ∙ made_part sub_pixel 0 (n * sub.w) sub.w (rest * sub.w) in
      ap (λ k. map pixel (range_with_len start k)) width ∙ made_split pixel start part.from (sub.w + right) ∙ ap (λ l. map pixel (range_with_len start part.from) ++ l) (made_split pixel (start + part.from) sub.w right) ∙ rw (left_is, right_is, middle, ← taken) refl

  rows_are : (n : ℕ) → n ≤ part.bottom - part.top → map pixel (range_with_len (part.top * area.w) (n * area.w)) ≡ framed_rows (margins_of area.w part) n (full_image mode shapes sub)
  rows_are zero l = ap (λ k. map pixel (range_with_len (part.top * area.w) k)) (let e : 0 * area.w ≡ 0 = omega arith in e)
  rows_are (suc n) l =
      let m = margins_of area.w part in
      let ps = full_image mode shapes sub in
      let size : suc n * area.w ≡ n * area.w + area.w = suc-mul n area.w in
      let start : part.top * area.w + n * area.w ≡ (part.top + n) * area.w = sym (add-mul part.top n area.w) in
      let next : suc n ≡ n + 1 = omega arith in
      ap (λ k. map pixel (range_with_len (part.top * area.w) k)) size ∙ made_split pixel (part.top * area.w) (n * area.w) area.w ∙ ap (λ k. map pixel (range_with_len (part.top * area.w) (n * area.w)) ++ map pixel (range_with_len k area.w)) start ∙ ap (λ l. l ++ map pixel (range_with_len ((part.top + n) * area.w) area.w)) (rows_are n (omega arith)) ∙ ap (λ l. framed_rows m n ps ++ l) (row_is n (omega arith)) ∙ sym (rows_more m n ps) ∙ ap (λ k. framed_rows m k ps) (sym next)

  pub image_is : full_image mode shapes area ≡ framed_image area.w area.h part (full_image mode shapes sub)
  image_is =
      let rows = part.bottom - part.top in
      let below = area.h - part.bottom in
      let above : map pixel (range_with_len 0 (part.top * area.w)) ≡ replicate (part.top * area.w) None = ap (λ k. map pixel (range_with_len k (part.top * area.w))) (let e : 0 ≡ 0 * area.w = omega arith in e) ∙ blank_rows 0 part.top (omega (arith, inside.rows, inside.height)) (λ j l p. let low = p.0 in omega arith) in
      let behind : map pixel (range_with_len (part.bottom * area.w) (below * area.w)) ≡ replicate (below * area.w) None = blank_rows part.bottom below (omega (arith, inside.height)) (λ j l p. let high = p.1 in omega arith) in
      let all : area.h ≡ part.top + (rows + below) = omega (arith, inside.rows, inside.height) in
      let size : area.w * area.h ≡ part.top * area.w + (rows * area.w + below * area.w) = mul_comm area.w area.h ∙ ap (λ k. k * area.w) all ∙ omega (arith, add-mul part.top (rows + below) area.w, add-mul rows below area.w) in
      let from : 0 + part.top * area.w ≡ part.top * area.w = zero-add (part.top * area.w) in
      let to : part.top * area.w + rows * area.w ≡ part.bottom * area.w = sym (add-mul part.top rows area.w) ∙ ap (λ k. k * area.w) (let e : part.top + rows ≡ part.bottom = omega (arith, inside.rows) in e) in
      let parts : full_image mode shapes area ≡ map pixel (range_with_len 0 (part.top * area.w)) ++ (map pixel (range_with_len (part.top * area.w) (rows * area.w)) ++ map pixel (range_with_len (part.bottom * area.w) (below * area.w))) = ap (λ k. map pixel (range_with_len 0 k)) size ∙ made_split pixel 0 (part.top * area.w) (rows * area.w + below * area.w) ∙ ap (λ k. map pixel (range_with_len 0 (part.top * area.w)) ++ map pixel (range_with_len k (rows * area.w + below * area.w))) from ∙ ap (λ l. map pixel (range_with_len 0 (part.top * area.w)) ++ l) (made_split pixel (part.top * area.w) (rows * area.w) (below * area.w) ∙ ap (λ k. map pixel (range_with_len (part.top * area.w) (rows * area.w)) ++ map pixel (range_with_len k (below * area.w))) to) in
      parts ∙ rw (above, behind, rows_are rows (omega arith)) (sym (append_assoc (replicate (part.top * area.w) None) (framed_rows (margins_of area.w part) rows (full_image mode shapes sub)) (replicate (below * area.w) None)))

  -- where the part is empty nothing is seen
  pub none_seen : (part.from ≡ part.to) ⊎ (part.top ≡ part.bottom) → full_image mode shapes area ≡ replicate (area.w * area.h) None
  none_seen empty = all_blank pixel 0 (area.w * area.h) (λ i l.
      let w : 0 < area.w = wide_area area.w area.h i l in
      let column = mod_below i area.w w in
      let row : i / area.w < area.h = div_below i area.w area.h w (let e = mul_comm area.w area.h in omega arith) in
      let whole = div-add-mod' i area.w in
      let same : 0 + i ≡ i / area.w * area.w + i % area.w = omega arith in
      ap pixel same ∙ at_place (i % area.w) (i / area.w) column ∙ ⊎_elim (λ (e : part.from ≡ part.to). outside_columns (i % area.w) (i / area.w) column (λ p. let low = p.0 in let high = p.1 in omega arith)) (λ (e : part.top ≡ part.bottom). outside_rows (i % area.w) (i / area.w) row (λ p. let low = p.0 in let high = p.1 in omega arith)) empty)
    where
      wide_area : (w h i : ℕ) → i < w * h → 0 < w
      wide_area zero h i l = absurd (let e : 0 * h ≡ 0 = omega arith in omega (arith, e))
      wide_area (suc w) h i l = omega arith

pub image_length : (mode : Mode) (shapes : List Drawing) (area : Area) → length (full_image mode shapes area) ≡ area.w * area.h
image_length mode shapes area = made_length (λ i. drawn mode shapes (area.x + i % area.w) (area.y + i / area.w)) 0 (area.w * area.h)
