-- A shape drawn over some pixels and then over the next ones.
use Rattle.std.proofs.Common.{◌≡◌, ◌≢◌, ◌⊎◌, ℕ, zero, suc, ◌+◌, ◌-◌, ◌*◌, ◌/◌, ◌%◌, ◌<◌, ◌≤◌, pos, ◌≤ℤ◌, ◌<ℤ◌, ◌+ℤ◌, Bool, true, false, cond, ◌&&◌, List, [], ◌∷◌, ◌++◌, length, get_or, set, get_or-set_same, get_or-set_other, length-set, ap, sym, refl, ◌∙◌, subst, inl, inr, arith, Some, None}
use Rattle.std.proofs.lemmas.List.FromFn.{fill_by_all, get_or-map-range_with_len, length-map-range_with_len}
use Rattle.std.specs.Prelude.{slice_get, ◌==◌, nat_le}
use Rattle.std.proofs.lemmas.Bool.{cases_lt}
use Rattle.std.proofs.lemmas.Bool.Decides.{nat_tests}
use Rattle.std.proofs.lemmas.Nat.{div-mul-add, div_below, le-div, mod-mul-add, mod_below, mul-add-lt}
use Rattle.icet_raster.specs.Shapes.{IsPixelAt}
use Rattle.icet_model.specs.declared.names.Mode.{Mode}
use Rattle.icet_model.specs.Pixel.{FragmentView, Pixel}
use Rattle.icet_scene_model.specs.Triangles.{Triangle, centre, covers, shaded}
use Rattle.icet_scene_model.specs.Raster.{Drawing, Point, Tri, Span, drawn, drawn_over, full_image, gives}
use Rattle.icet_model.specs.Tiles.{Area}
use Rattle.icet_model.specs.declared.names.Rect.{Rect}
use Rattle.icet_scene_model.specs.Boxes.{HasPixel, bounds}
use Rattle.icet_raster.proofs.CoveredInFrame.{covered_in_box}
use Rattle.icet_raster.specs.declared.cut.Part.{Part}
use Rattle.icet_raster.specs.Stretches.{Draws, IsCovered, IsSeenWithin, given}
use Rattle.icet_raster.proofs.Outside.{span_gives}
use Rattle.icet_raster.proofs.FullImages.{drawn_more, over_none, wide}

-- nothing to draw on these pixels
pub draws-none : (mode : Mode) (shape : Drawing) (area : Area) (lo hi : ℕ) (old : List Pixel) → ((k : ℕ) → lo ≤ k → k < hi → given shape area k ≡ None) → Draws mode shape area lo hi old old
draws-none mode shape area lo hi old h = record {
  count = refl;
  below = λ k l. refl;
  drawn = λ k l m. sym (ap (λ p. drawn_over mode (get_or old k None) p) (h k l m) ∙ over_none mode (get_or old k None));
  above = λ k l. refl;
}

-- what was there stays
pub draws-stays : (mode : Mode) (shape : Drawing) (area : Area) (n : ℕ) (old : List Pixel) → drawn_over mode (get_or old n None) (given shape area n) ≡ get_or old n None → Draws mode shape area n (n + 1) old old
draws-stays mode shape area n old e = record {
  count = refl;
  below = λ k l. refl;
  drawn = λ k l m. (let f : n ≡ k = omega arith in subst (λ i. get_or old i None ≡ drawn_over mode (get_or old i None) (given shape area i)) f (sym e));
  above = λ k l. refl;
}

pub draws-set : (mode : Mode) (shape : Drawing) (area : Area) (n : ℕ) (old : List Pixel) (p : Pixel) → n < length old → p ≡ drawn_over mode (get_or old n None) (given shape area n) → Draws mode shape area n (n + 1) old (set old n p)
draws-set mode shape area n old p l e = record {
  count = length-set old n p;
  below = λ k m. get_or-set_other old n k p None (λ f. absurd (omega arith));
  drawn = λ k m o. (let f : n ≡ k = omega arith in subst (λ i. get_or (set old n p) i None ≡ drawn_over mode (get_or old i None) (given shape area i)) f (get_or-set_same old n p None l ∙ e));
  above = λ k m. get_or-set_other old n k p None (λ f. absurd (omega arith));
}

pub draws-join : (mode : Mode) (shape : Drawing) (area : Area) (lo mid hi : ℕ) (a b c : List Pixel) → lo ≤ mid → mid ≤ hi → Draws mode shape area lo mid a b → Draws mode shape area mid hi b c → Draws mode shape area lo hi a c
draws-join mode shape area lo mid hi a b c l m f g = record {
  count = g.count ∙ f.count;
  below = λ k o. g.below k (omega arith) ∙ f.below k o;
  drawn = λ k o q. by k o q (cases_lt k mid);
  above = λ k o. g.above k o ∙ f.above k (omega arith);
}
  where
    by : (k : ℕ) → lo ≤ k → k < hi → (k < mid) ⊎ (mid ≤ k) → get_or c k None ≡ drawn_over mode (get_or a k None) (given shape area k)
    by k o q (inl s) = g.below k s ∙ f.drawn k o s
    by k o q (inr s) = g.drawn k s q ∙ ap (λ p. drawn_over mode p (given shape area k)) (f.above k s)

-- drawn over the whole area
pub draws-all : (mode : Mode) (shape : Drawing) (before : List Drawing) (area : Area) (old new : List Pixel) → Draws mode shape area 0 (area.w * area.h) old new → old ≡ full_image mode before area → new ≡ full_image mode (before ++ shape ∷ []) area
draws-all mode shape before area old new d e =
    let f : ℕ → Pixel = λ i. drawn mode before (area.x + i % area.w) (area.y + i / area.w) in
    let g : ℕ → Pixel = λ i. drawn mode (before ++ shape ∷ []) (area.x + i % area.w) (area.y + i / area.w) in
    fill_by_all g new (area.w * area.h) None (d.count ∙ ap length e ∙ length-map-range_with_len f 0 (area.w * area.h))
    (λ k l. d.drawn k (omega arith) l
    ∙ ap (λ p. drawn_over mode p (given shape area k)) (ap (λ xs. get_or xs k None) e ∙ get_or-map-range_with_len f 0 (area.w * area.h) k k None l (omega arith))
    ∙ sym (drawn_more mode before shape (area.x + k % area.w) (area.y + k / area.w)))

-- a shape that gives the same
pub draws-like : (mode : Mode) (shape other : Drawing) (area : Area) (lo hi : ℕ) (old new : List Pixel) → ((x y : ℕ) → gives shape x y ≡ gives other x y) → Draws mode other area lo hi old new → Draws mode shape area lo hi old new
draws-like mode shape other area lo hi old new h d = record {
  count = d.count;
  below = d.below;
  drawn = λ k l m. d.drawn k l m ∙ ap (λ p. drawn_over mode (get_or old k None) p) (sym (h _ _));
  above = d.above;
}

-- ---- pixels where nothing is given
-- a shape that doesn't give something gives nothing
pub gives-nothing : (shape : Drawing) (x y : ℕ) → (gives shape x y ≢ None → ⊥) → gives shape x y ≡ None
gives-nothing shape x y h = by (gives shape x y) refl
  where
    by : (p : Pixel) → gives shape x y ≡ p → gives shape x y ≡ None
    by None e = e
    by (Some f) e = absurd (h (λ n. absurd (let c : Some f ≡ None = sym e ∙ n in cc)))

-- the column of a place of row r
column_of : (w r k : ℕ) → r * w ≤ k → k < r * w + w → k % w ≡ k - r * w
column_of w r k m n = let e : k ≡ r * w + (k - r * w) = omega arith in ap (λ i. i % w) e ∙ mod-mul-add r w (k - r * w) (omega arith)

in_front : (w r k f : ℕ) → f ≤ w → r * w ≤ k → k < r * w + f → f ≤ k % w → ⊥
in_front w r k f l m n h = let e = column_of w r k m (omega arith) in omega arith

behind : (w r k t : ℕ) → r * w + t ≤ k → k < (r + 1) * w → k % w < t → ⊥
behind w r k t m n h = let e = column_of w r k (omega arith) (omega arith) in omega arith

module _ (mode : Mode) (shape : Drawing) (area : Area) (part : Part) (old : List Pixel) (is : IsSeenWithin shape area part) where
  -- the rest of a row in front of the part
  pub row-front : (row : ℕ) → part.from ≤ area.w → Draws mode shape area (row * area.w) (row * area.w + part.from) old old
  row-front row l =
      draws-none mode shape area (row * area.w) (row * area.w + part.from) old (λ k m n.
      gives-nothing shape _ _ (λ c.
      let some : 0 < area.w = omega arith in
      in_front area.w row k part.from l m n (is.columns (k % area.w) (k / area.w) (mod_below k area.w some) c).0))

  -- and behind it
  pub row-back : (row : ℕ) → Draws mode shape area (row * area.w + part.to) ((row + 1) * area.w) old old
  row-back row =
      draws-none mode shape area (row * area.w + part.to) ((row + 1) * area.w) old (λ k m n.
      gives-nothing shape _ _ (λ c.
      let some : 0 < area.w = omega arith in
      behind area.w row k part.to m n (is.columns (k % area.w) (k / area.w) (mod_below k area.w some) c).1))

  -- rows above the part
  pub rows-above : part.top ≤ area.h → Draws mode shape area 0 (part.top * area.w) old old
  rows-above l =
      draws-none mode shape area 0 (part.top * area.w) old (λ k m n.
      gives-nothing shape _ _ (λ c.
      let some : 0 < area.w = above_some area.w part.top k n in
      let row : k / area.w < part.top = div_below k area.w part.top some n in
      let h = (is.rows (k % area.w) (k / area.w) (omega arith) c).0 in
      absurd (omega arith)))
    where
      above_some : (w t k : ℕ) → k < t * w → 0 < w
      above_some zero t k n = absurd (let e : t * 0 ≡ 0 = omega arith in omega arith)
      above_some (suc w) t k n = omega arith

  -- rows below it
  pub rows-below : Draws mode shape area (part.bottom * area.w) (area.w * area.h) old old
  rows-below =
      draws-none mode shape area (part.bottom * area.w) (area.w * area.h) old (λ k m n.
      gives-nothing shape _ _ (λ c.
      let some : 0 < area.w = wide k area.w area.h n in
      let row : k / area.w < area.h = div_below k area.w area.h some (omega arith) in
      let after : part.bottom ≤ k / area.w = le-div part.bottom k area.w some m in
      let h = (is.rows (k % area.w) (k / area.w) row c).1 in
      absurd (omega arith)))

-- ---- one pixel
given-covered : (t : Triangle) (area : Area) (k x y : ℕ) → IsPixelAt area k x y → covers t (centre x y) ≡ true → given (Tri t) area k ≡ Some (shaded t (centre x y))
given-covered t area k x y at c =
    ap (λ i. gives (Tri t) i (area.y + k / area.w)) at.column ∙ ap (λ i. gives (Tri t) x i) at.row ∙ ap (λ b. cond b (Some (shaded t (centre x y))) None) c

pub at-hidden : (mode : Mode) (t : Triangle) (area : Area) (k x y : ℕ) (old : List Pixel) (before : Pixel) (f : FragmentView) → IsPixelAt area k x y → covers t (centre x y) ≡ true
    → before ≡ get_or old k None → f ≡ shaded t (centre x y) → drawn_over mode before (Some f) ≡ before → Draws mode (Tri t) area k (k + 1) old old
at-hidden mode t area k x y old before f at c b m h =
    draws-stays mode (Tri t) area k old
    (ap (λ p. drawn_over mode (get_or old k None) p) (given-covered t area k x y at c)
    ∙ subst (λ p. drawn_over mode p (Some (shaded t (centre x y))) ≡ p) b (subst (λ g. drawn_over mode before (Some g) ≡ before) m h))

pub at-shown : (mode : Mode) (t : Triangle) (area : Area) (k x y : ℕ) (old : List Pixel) (before : Pixel) (f : FragmentView) (p : Pixel) → k < length old → IsPixelAt area k x y → covers t (centre x y) ≡ true
    → before ≡ get_or old k None → f ≡ shaded t (centre x y) → p ≡ drawn_over mode before (Some f) → Draws mode (Tri t) area k (k + 1) old (set old k p)
at-shown mode t area k x y old before f p l at c b m h =
    draws-set mode (Tri t) area k old p l
    (h
    ∙ ap (λ g. drawn_over mode before (Some g)) m
    ∙ ap (λ q. drawn_over mode q (Some (shaded t (centre x y)))) b
    ∙ ap (λ q. drawn_over mode (get_or old k None) q) (sym (given-covered t area k x y at c)))

-- columns of a row that aren't covered
pub row-uncovered : (mode : Mode) (t : Triangle) (area : Area) (row from to : ℕ) (old : List Pixel) → to ≤ area.w → ((k : ℕ) → from ≤ k → k < to → covers t (centre (area.x + k) (area.y + row)) ≡ false) → Draws mode (Tri t) area (row * area.w + from) (row * area.w + to) old old
row-uncovered mode t area row from to old l h =
    draws-none mode (Tri t) area (row * area.w + from) (row * area.w + to) old (λ k m n.
    let j = k - row * area.w in
    let e : k ≡ row * area.w + j = omega arith in
    let column = column_of area.w row k (omega arith) (omega arith) in
    let line : k / area.w ≡ row = ap (λ i. i / area.w) e ∙ div-mul-add row area.w j (omega arith) in
    ap (λ i. gives (Tri t) (area.x + i) (area.y + k / area.w)) column
    ∙ ap (λ i. gives (Tri t) (area.x + j) (area.y + i)) line
    ∙ ap (λ b. cond b (Some (shaded t (centre (area.x + j) (area.y + row)))) None) (h j (omega arith) (omega arith)))

-- where one stretch goes over uncovered pixels and the next over covered ones, both together have a pixel
pub stretch-moves : (t : Triangle) (left y r s e to : ℕ) → r < to → r ≤ s → s ≤ e → (s < to → covers t (centre (left + s) y) ≢ false) → (e < to → covers t (centre (left + e) y) ≢ true) → r < e
stretch-moves t left y r s e to l m n f g = by (cases_lt r e)
  where
    neither : (b : Bool) → b ≢ false → b ≢ true → ⊥
    neither true h k = k refl
    neither false h k = h refl

    by : (r < e) ⊎ (e ≤ r) → r < e
    by (inl h) = h
    by (inr h) = absurd (let same : s ≡ e = omega arith in neither (covers t (centre (left + e) y)) (subst (λ i. covers t (centre (left + i) y) ≢ false) same (f (omega arith))) (g (omega arith)))

-- columns of a row that are covered
pub row-covered : (t : Triangle) (area : Area) (row from to left y : ℕ) → left ≡ area.x → y ≡ area.y + row → from ≤ to → to ≤ area.w → ((k : ℕ) → from ≤ k → k < to → covers t (centre (left + k) y) ≡ true) → IsCovered t area row from to
row-covered t area row from to left y e f l m h = record {
  order = l;
  within = m;
  all = subst (λ n. (k : ℕ) → from ≤ k → k < to → covers t (centre (area.x + k) n) ≡ true) f (subst (λ n. (k : ℕ) → from ≤ k → k < to → covers t (centre (n + k) y) ≡ true) e h);
}

-- the place of a column and a row
pub place_of : (area : Area) (row column : ℕ) → row < area.h → column < area.w → IsPixelAt area (row * area.w + column) (area.x + column) (area.y + row)
place_of area row column l m = record {
  within = mul-add-lt row area.w column area.h l m;
  column = ap (λ n. area.x + n) (mod-mul-add row area.w column m);
  row = ap (λ n. area.y + n) (div-mul-add row area.w column m);
}

-- ---- the part that is cut out by the triangle's frame
seen : (b : Bool) (f : FragmentView) → (cond b (Some f) None ≢ None) → b ≡ true
seen true f h = refl
seen false f h = absurd (h refl)

covers-like : (t w : Triangle) (x y : ℕ) → gives (Tri t) x y ≡ gives (Tri w) x y → gives (Tri w) x y ≢ None → covers t (centre x y) ≡ true
covers-like t w x y h c = seen (covers t (centre x y)) (shaded t (centre x y)) (λ n. c (sym h ∙ n))

has_pixel : (t : Triangle) (frame : Rect) (x y : ℕ) → bounds (Tri t) ≡ Some frame → covers t (centre x y) ≡ true → HasPixel frame (pos x) (pos y)
has_pixel t frame x y e c =
    let h = covered_in_box t x y c in
    let same : h.rect ≡ frame = some-same _ _ (sym h.box_is ∙ e) in
    subst (λ r. HasPixel r (pos x) (pos y)) same h.pixel
  where
    some-same : (a b : Rect) → Some a ≡ Some b → a ≡ b
    some-same a b e = cc

pub cut-by : (t w : Triangle) (area : Area) (frame : Rect) (part : Part) → ((x y : ℕ) → gives (Tri t) x y ≡ gives (Tri w) x y) → bounds (Tri t) ≡ Some frame
    → ((p : ℕ) → p < area.w → frame.x ≤ℤ pos (area.x + p) → pos (area.x + p) <ℤ (frame.x +ℤ pos frame.w) → (part.from ≤ p) × (p < part.to))
    → ((p : ℕ) → p < area.h → frame.y ≤ℤ pos (area.y + p) → pos (area.y + p) <ℤ (frame.y +ℤ pos frame.h) → (part.top ≤ p) × (p < part.bottom))
    → IsSeenWithin (Tri w) area part
cut-by t w area frame part same e h k = record {
  columns = λ x y l c. (let p = has_pixel t frame (area.x + x) (area.y + y) e (covers-like t w (area.x + x) (area.y + y) (same _ _) c) in h x l p.left p.right);
  rows = λ x y l c. (let p = has_pixel t frame (area.x + x) (area.y + y) e (covers-like t w (area.x + x) (area.y + y) (same _ _) c) in k y l p.top p.bottom);
}

pub no-frame : (mode : Mode) (t : Triangle) (area : Area) (lo hi : ℕ) (old : List Pixel) → bounds (Tri t) ≡ None → Draws mode (Tri t) area lo hi old old
no-frame mode t area lo hi old e = draws-none mode (Tri t) area lo hi old (λ k l m. gives-nothing (Tri t) _ _ (λ c. no_box _ (sym (covered_in_box t _ _ (seen _ (shaded t _) c)).box_is ∙ e)))
  where
    no_box : (r : Rect) → Some r ≡ None → ⊥
    no_box r e = absurd (cc)

-- ---- paints in a row
-- a point gives what a span of one paint gives
point-like : (px py x y : ℕ) (paint : FragmentView) → gives (Point px py paint) x y ≡ gives (Span px py (paint ∷ [])) x y
point-like px py x y paint = go (px == x) (py == y) (nat_le px x) (x - px) refl refl refl
  where
    go : (a b c : Bool) (k : ℕ) → (px == x) ≡ a → nat_le px x ≡ c → x - px ≡ k → cond (a && b) (Some paint) None ≡ cond (b && c) (slice_get (paint ∷ []) k) None
    go true true true zero e f g = refl
    go true true true (suc k) e f g = absurd (grind (arith, nat_tests, e, g))
    go true true false k e f g = absurd (grind (arith, nat_tests, e, f))
    go true false c k e f g = refl
    go false true true zero e f g = absurd (grind (arith, nat_tests, e, f, g))
    go false true true (suc k) e f g = refl
    go false true false k e f g = refl
    go false false c k e f g = refl

pub point_drawn : (mode : Mode) (px py : ℕ) (paint : FragmentView) (area : Area) (lo hi : ℕ) (old new : List Pixel) → Draws mode (Span px py (paint ∷ [])) area lo hi old new → Draws mode (Point px py paint) area lo hi old new
point_drawn mode px py paint area lo hi old new = draws-like mode (Point px py paint) (Span px py (paint ∷ [])) area lo hi old new (λ x y. point-like px py x y paint)

something : (p : Pixel) → p ≢ None → (f : FragmentView) × (p ≡ Some f)
something None h = absurd (h refl)
something (Some f) h = (f, refl)

-- a row of the area and the columns that a span is cut to
abbrev pub row_part : ℕ → ℕ → ℕ → Part
row_part row from to = record { from = from; to = to; top = row; bottom = row + 1 }

pub span_within : (x row from to : ℕ) (paints : List FragmentView) (area : Area)
    → ((p : ℕ) → p < area.w → x ≤ area.x + p → area.x + p < x + length paints → (from ≤ p) × (p < to))
    → IsSeenWithin (Span x (area.y + row) paints) area (row_part row from to)
span_within x row from to paints area h = record {
  columns = λ p q l c. (let g = here p q c in h p l g.1 g.2);
  rows = λ p q l c. (let g = here p q c in let same = g.0 in (omega (arith, same), omega (arith, same)));
}
  where
    here : (p q : ℕ) → gives (Span x (area.y + row) paints) (area.x + p) (area.y + q) ≢ None → (area.y + row ≡ area.y + q) × (x ≤ area.x + p) × (area.x + p < x + length paints)
    here p q c = let s = something (gives (Span x (area.y + row) paints) (area.x + p) (area.y + q)) c in span_gives x (area.y + row) (area.x + p) (area.y + q) paints s.0 s.1

-- a span in another row
pub span_elsewhere : (mode : Mode) (x y : ℕ) (paints : List FragmentView) (area : Area) (old : List Pixel) → ((row : ℕ) → row < area.h → area.y + row ≡ y → ⊥) → Draws mode (Span x y paints) area 0 (area.w * area.h) old old
span_elsewhere mode x y paints area old h =
    draws-none mode (Span x y paints) area 0 (area.w * area.h) old (λ k m n.
    gives-nothing (Span x y paints) _ _ (λ c.
    let s = something (gives (Span x y paints) (area.x + k % area.w) (area.y + k / area.w)) c in
    let g = span_gives x y (area.x + k % area.w) (area.y + k / area.w) paints s.0 s.1 in
    h (k / area.w) (div_below k area.w area.h (wide k area.w area.h n) (omega arith)) (sym g.0)))

-- the paint of a column
pub span_given : (x row column : ℕ) (paints : List FragmentView) (paint : FragmentView) (area : Area) → row < area.h → column < area.w → x ≤ area.x + column → slice_get paints (area.x + column - x) ≡ Some paint
    → given (Span x (area.y + row) paints) area (row * area.w + column) ≡ Some paint
span_given x row column paints paint area l m h e =
    let at = place_of area row column l m in
    let same : (area.y + row == area.y + row) ≡ true = grind (arith, nat_tests) in
    let first : nat_le x (area.x + column) ≡ true = grind (arith, nat_tests, h) in
    ap (λ i. gives (Span x (area.y + row) paints) i (area.y + (row * area.w + column) / area.w)) at.column
    ∙ ap (λ i. gives (Span x (area.y + row) paints) (area.x + column) i) at.row
    ∙ ap (λ b. cond (b && nat_le x (area.x + column)) (slice_get paints (area.x + column - x)) None) same
    ∙ ap (λ b. cond b (slice_get paints (area.x + column - x)) None) first
    ∙ e
