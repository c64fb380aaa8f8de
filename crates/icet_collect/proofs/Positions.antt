-- How many positions are left, and a piece placed position by position.
use Rattle.std.proofs.Common.{◌≡◌, ◌≢◌, ⊎_elim, ℕ, zero, suc, ◌+◌, ◌-◌, ◌*◌, ◌<◌, ◌≤◌, Bool, true, false, cond, ◌&&◌, ◌||◌, leb, ltb, eqb, List, [], ◌∷◌, length, get_or, set, replicate, map, Some, None, refl, sym, ◌∙◌, ap, subst, arith, get_or-set_same, get_or-set_other}
use Rattle.std.proofs.lemmas.Bool.{true≢false, false≢true, lt-ltb, le-ltb, le-leb, lt-leb, eq-eqb, cases_eq, cases_lt, and_right, and_left, and_from, and_parts, leb-true, ltb-true}
use Rattle.icet_model.specs.Pixel.{Pixel, FragmentView}
use Rattle.icet_model.specs.Run.{Piece}
use Rattle.icet_model.specs.Plan.{has_place}
use Rattle.icet_interlace.specs.Interlace.{place}
use Rattle.icet_interlace.proofs.Places.{place_apart}
use Rattle.icet_collect.specs.Collect.{CanvasView, IsCanvas, IsFree, Places, left_in, position_of, stretch}

pub left_in_blank : (n : ℕ) → left_in (replicate n false) ≡ n
left_in_blank zero = refl
left_in_blank (suc n) = ap suc (left_in_blank n)

pub left_in_set : (xs : List Bool) (i : ℕ) → i < length xs → get_or xs i false ≡ false → left_in xs ≡ left_in (set xs i true) + 1
left_in_set [] i h e = absurd (omega arith)
left_in_set (true ∷ xs) zero h e = absurd (true≢false e)
left_in_set (false ∷ xs) zero h e = omega arith
left_in_set (true ∷ xs) (suc i) h e = left_in_set xs i (omega arith) e
left_in_set (false ∷ xs) (suc i) h e = let k = left_in_set xs i (omega arith) e in omega arith

pub none_left : (xs : List Bool) → left_in xs ≡ 0 → (i : ℕ) → i < length xs → get_or xs i false ≡ true
none_left [] e i h = absurd (omega arith)
none_left (true ∷ xs) e zero h = refl
none_left (true ∷ xs) e (suc i) h = none_left xs e i (omega arith)
none_left (false ∷ xs) e i h = absurd (omega arith)

pub left_none : (xs : List Bool) → ((i : ℕ) → i < length xs → get_or xs i false ≡ true) → left_in xs ≡ 0
left_none [] f = refl
left_none (true ∷ xs) f = left_none xs (λ i h. f (suc i) (omega arith))
left_none (false ∷ xs) f = absurd (false≢true (f 0 (omega arith)))

-- the piece without what is behind a position
abbrev pub below : Piece (List Pixel) → ℕ → Piece (List Pixel)
below p i = record { tile = p.tile; lo = p.lo; hi = i; content = p.content }

module _ (t : ℕ) (p : Piece (List Pixel)) where
  -- a position of the piece
  pub has_inside : (i : ℕ) → p.tile ≡ t → p.lo ≤ i → i < p.hi → has_place t i p ≡ true
  has_inside i e h k = and_from (eqb p.tile t) (leb p.lo i && ltb i p.hi) (eq-eqb p.tile t e) (and_from (leb p.lo i) (ltb i p.hi) (le-leb p.lo i h) (lt-ltb i p.hi k))

  -- a position behind those
  pub has_behind : (i k : ℕ) → i ≤ k → has_place t k (below p i) ≡ false
  has_behind i k h = and_right (eqb p.tile t) (leb p.lo k && ltb k i) (and_right (leb p.lo k) (ltb k i) (le-ltb k i h))

  -- nothing is below the first position
  has_none : (k : ℕ) → has_place t k (below p p.lo) ≡ false
  has_none k = and_right (eqb p.tile t) (leb p.lo k && ltb k p.lo) (⊎_elim (λ (h : k < p.lo). and_left (leb p.lo k) (ltb k p.lo) (lt-leb p.lo k h)) (λ (h : p.lo ≤ k). and_right (leb p.lo k) (ltb k p.lo) (le-ltb k p.lo h)) (cases_lt k p.lo))

-- before the first position
pub places_none : (a : CanvasView) (p : Piece (List Pixel)) → Places a a (below p p.lo)
places_none a p = record {
  tile = refl;
  w = refl;
  h = refl;
  strands = refl;
  placed = λ k. rw (has_none a.tile p k);
  pixels = λ k l. rw (has_none a.tile p (position_of a k));
}

-- the one position of a stretch of one pixel
has_one : (t i : ℕ) (v : Pixel) → has_place t i (stretch t i (v ∷ [])) ≡ true
has_one t i v = has_inside t (stretch t i (v ∷ [])) i refl (omega arith) (omega arith)

has_other : (t i k : ℕ) (v : Pixel) → k ≢ i → has_place t k (stretch t i (v ∷ [])) ≡ false
has_other t i k v ne = ⊎_elim (λ (h : k < i). and_right (eqb t t) (leb i k && ltb k (i + length (v ∷ []))) (and_left (leb i k) (ltb k (i + length (v ∷ []))) (lt-leb i k h))) (λ (h : i ≤ k). has_behind t (stretch t i (v ∷ [])) (i + 1) k (omega arith)) (cases_lt k i)

-- one more position, whose pixel is this one
one_placed : (a : CanvasView) (position : ℕ) (v : Pixel) → position < length a.placed → (k : ℕ) → get_or (set a.placed position true) k false ≡ (has_place a.tile k (stretch a.tile position (v ∷ [])) || get_or a.placed k false)
one_placed a position v l k = ⊎_elim (λ (q : k ≡ position). subst (λ j. get_or (set a.placed position true) j false ≡ (has_place a.tile j (stretch a.tile position (v ∷ [])) || get_or a.placed j false)) (sym q) (get_or-set_same a.placed position true false l ∙ ap (λ t. t || get_or a.placed position false) (sym (has_one a.tile position v)))) (λ (q : k ≢ position). get_or-set_other a.placed position k true false q ∙ ap (λ t. t || get_or a.placed k false) (sym (has_other a.tile position k v q))) (cases_eq k position)

-- the pixel at a position, in a stretch of one
own_pixel : (v : Pixel) (position q : ℕ) → q ≡ position → get_or (v ∷ []) (q - position) None ≡ v
own_pixel v position q e = ap (λ n. get_or (v ∷ []) n None) (let z : q - position ≡ 0 = omega (arith, e) in z)

module _ (a : CanvasView) (position : ℕ) (v : Pixel) (can : IsCanvas a) (inside : position < a.w * a.h) where
  abbrev one : Piece (List Pixel)
  one = stretch a.tile position (v ∷ [])

  at_other : (k : ℕ) → position_of a k ≢ position → get_or a.pixels k None ≡ cond (has_place a.tile (position_of a k) one) (get_or one.content (position_of a k - one.lo) None) (get_or a.pixels k None)
  at_other k ne = sym (ap (λ t. cond t (get_or one.content (position_of a k - one.lo) None) (get_or a.pixels k None)) (has_other a.tile position (position_of a k) v ne))

  at_own : (k : ℕ) → position_of a k ≡ position → v ≡ cond (has_place a.tile (position_of a k) one) (get_or one.content (position_of a k - one.lo) None) (get_or a.pixels k None)
  at_own k e = sym (ap (λ t. cond t (get_or one.content (position_of a k - one.lo) None) (get_or a.pixels k None)) (ap (λ q. has_place a.tile q one) e ∙ has_one a.tile position v) ∙ own_pixel v position (position_of a k) e)

  pub put_places : (i : ℕ) → i < a.w * a.h → position_of a i ≡ position → Places a (record a { placed = set a.placed position true; pixels = set a.pixels i v }) one
  put_places i l own = record {
    tile = refl;
    w = refl;
    h = refl;
    strands = refl;
    placed = one_placed a position v (omega (arith, inside, can.places));
    pixels = λ k h. ⊎_elim
        (λ (q : k ≡ i). ap (λ j. get_or (set a.pixels i v) j None) q ∙ get_or-set_same a.pixels i v None (omega (arith, l, can.size)) ∙ at_own k (ap (position_of a) q ∙ own))
        (λ (q : k ≢ i). get_or-set_other a.pixels i k v None q ∙ at_other k (λ e. q (place_apart k i (a.w * a.h) a.strands h l can.strands (e ∙ sym own))))
        (cases_eq k i);
  }

  pub mark_places : v ≡ None → get_or a.placed position false ≡ false → ((k : ℕ) → k < a.w * a.h → get_or a.placed (position_of a k) false ≡ false → get_or a.pixels k None ≡ None) → Places a (record a { placed = set a.placed position true }) one
  mark_places none free blank = record {
    tile = refl;
    w = refl;
    h = refl;
    strands = refl;
    placed = one_placed a position v (omega (arith, inside, can.places));
    pixels = λ k h. ⊎_elim
        (λ (q : position_of a k ≡ position). blank k h (ap (λ j. get_or a.placed j false) q ∙ free) ∙ sym none ∙ at_own k q)
        (λ (q : position_of a k ≢ position). at_other k q)
        (cases_eq (position_of a k) position);
  }

-- the positions behind are free
pub places_free : (a b : CanvasView) (p : Piece (List Pixel)) (i j : ℕ) → Places a b (below p i) → IsFree a p → p.tile ≡ a.tile → p.lo ≤ i → i ≤ j → j < p.hi → get_or b.placed j false ≡ false
places_free a b p i j at free e h l k = at.placed j ∙ ap (λ t. t || get_or a.placed j false) (has_behind a.tile p i j l) ∙ free j (has_inside a.tile p j e (omega arith) k)

-- a position of the piece lies in its range
pub in_range : (t i : ℕ) (p : Piece (List Pixel)) → has_place t i p ≡ true → (p.lo ≤ i) × (i < p.hi)
in_range t i p e =
    let range = (and_parts (eqb p.tile t) (leb p.lo i && ltb i p.hi) e).1 in
    let ends = and_parts (leb p.lo i) (ltb i p.hi) range in
    (leb-true p.lo i ends.0, ltb-true i p.hi ends.1)

-- the next stretch is free
pub stretch_free : (a b : CanvasView) (p : Piece (List Pixel)) (i : ℕ) (ps : List Pixel) → Places a b (below p i) → IsFree a p → p.tile ≡ a.tile → p.lo ≤ i → i + length ps ≤ p.hi → IsFree b (stretch b.tile i ps)
stretch_free a b p i ps at free e h k j inside = let r = in_range b.tile j (stretch b.tile i ps) inside in places_free a b p i j at free e h r.0 (omega arith)

module _ (a b c : CanvasView) (p : Piece (List Pixel)) (at : ℕ) (ps : List Pixel) (front : Places a b (below p at)) (next : Places b c (stretch b.tile at ps)) (e : p.tile ≡ a.tile) (h : p.lo ≤ at) (same : (k : ℕ) → k < length ps → get_or ps k None ≡ get_or p.content (at - p.lo + k) None) where
  before_it : (k : ℕ) → k < at → (has_place b.tile k (stretch b.tile at ps) ≡ false) × (has_place a.tile k (below p (at + length ps)) ≡ has_place a.tile k (below p at))
  before_it k l = (and_right (eqb b.tile b.tile) (leb at k && ltb k (at + length ps)) (and_left (leb at k) (ltb k (at + length ps)) (lt-leb at k l)), ap (λ t. eqb p.tile a.tile && (leb p.lo k && t)) (lt-ltb k (at + length ps) (omega arith) ∙ sym (lt-ltb k at l)))

  in_it : (k : ℕ) → at ≤ k → k < at + length ps → (has_place b.tile k (stretch b.tile at ps) ≡ true) × (has_place a.tile k (below p (at + length ps)) ≡ true)
  in_it k l m = (has_inside b.tile (stretch b.tile at ps) k refl l m, has_inside a.tile (below p (at + length ps)) k e (omega arith) m)

  behind_it : (k : ℕ) → at + length ps ≤ k → (has_place b.tile k (stretch b.tile at ps) ≡ false) × (has_place a.tile k (below p (at + length ps)) ≡ false) × (has_place a.tile k (below p at) ≡ false)
  behind_it k l = (has_behind b.tile (stretch b.tile at ps) (at + length ps) k l, has_behind a.tile p (at + length ps) k l, has_behind a.tile p at k (omega arith))

  by_place : (k : ℕ) (P : Type 0) → (k < at → P) → (at ≤ k → k < at + length ps → P) → (at + length ps ≤ k → P) → P
  by_place k P x y z = ⊎_elim x (λ (g : at ≤ k). ⊎_elim (y g) z (cases_lt k (at + length ps))) (cases_lt k at)

  placed_is : (k : ℕ) → get_or c.placed k false ≡ (has_place a.tile k (below p (at + length ps)) || get_or a.placed k false)
  placed_is k = next.placed k ∙ by_place k ((has_place b.tile k (stretch b.tile at ps) || get_or b.placed k false) ≡ (has_place a.tile k (below p (at + length ps)) || get_or a.placed k false))
      (λ l. let r = before_it k l in rw (r.0, r.1) (front.placed k))
      (λ l m. let r = in_it k l m in rw (r.0, r.1))
      (λ l. let r = behind_it k l in rw (r.0, r.1) (front.placed k ∙ rw r.2))

  -- a pixel with position k
  pixel_at : (k : ℕ) (new old first : Pixel) → new ≡ cond (has_place b.tile k (stretch b.tile at ps)) (get_or ps (k - at) None) old → old ≡ cond (has_place a.tile k (below p at)) (get_or p.content (k - p.lo) None) first → new ≡ cond (has_place a.tile k (below p (at + length ps))) (get_or p.content (k - p.lo) None) first
  pixel_at k new old first n o = n ∙ by_place k (cond (has_place b.tile k (stretch b.tile at ps)) (get_or ps (k - at) None) old ≡ cond (has_place a.tile k (below p (at + length ps))) (get_or p.content (k - p.lo) None) first)
      (λ l. let r = before_it k l in rw (r.0, r.1) o)
      (λ l m. let r = in_it k l m in let place : at - p.lo + (k - at) ≡ k - p.lo = omega arith in rw (r.0, r.1) (same (k - at) (omega arith) ∙ ap (λ i. get_or p.content i None) place))
      (λ l. let r = behind_it k l in rw (r.0, r.1) (o ∙ rw r.2))

  same_size : b.w * b.h ≡ a.w * a.h
  same_size = λ j. front.w j * front.h j

  same_position : (k : ℕ) → position_of b k ≡ position_of a k
  same_position k = λ j. place k (same_size j) (front.strands j)

  pixel_is : (k : ℕ) → k < a.w * a.h → get_or c.pixels k None ≡ cond (has_place a.tile (position_of a k) (below p (at + length ps))) (get_or p.content (position_of a k - p.lo) None) (get_or a.pixels k None)
  pixel_is k l = pixel_at (position_of a k) (get_or c.pixels k None) (get_or b.pixels k None) (get_or a.pixels k None)
      (next.pixels k (omega (arith, l, same_size)) ∙ ap (λ q. cond (has_place b.tile q (stretch b.tile at ps)) (get_or ps (q - at) None) (get_or b.pixels k None)) (same_position k))
      (front.pixels k l)

  -- the next stretch is placed
  pub places_join : Places a c (below p (at + length ps))
  places_join = record {
    tile = next.tile ∙ front.tile;
    w = next.w ∙ front.w;
    h = next.h ∙ front.h;
    strands = next.strands ∙ front.strands;
    placed = placed_is;
    pixels = pixel_is;
  }

one_same : (v : Pixel) (xs : List Pixel) (m : ℕ) → v ≡ get_or xs m None → (k : ℕ) → k < length (v ∷ []) → get_or (v ∷ []) k None ≡ get_or xs (m + k) None
one_same v xs m e zero l = e ∙ ap (λ j. get_or xs j None) (let z : m ≡ m + 0 = omega arith in z)
one_same v xs m e (suc k) l = absurd (omega arith)

-- one more position
pub places_more : (a b c : CanvasView) (p : Piece (List Pixel)) (i : ℕ) (v : Pixel) → Places a b (below p i) → Places b c (stretch b.tile i (v ∷ [])) → p.tile ≡ a.tile → p.lo ≤ i → v ≡ get_or p.content (i - p.lo) None → Places a c (below p (i + 1))
places_more a b c p i v front next e h value = places_join a b c p i (v ∷ []) front next e h (one_same v p.content (i - p.lo) value)

-- the pixels at which none is placed stay None
pub blank_pixel : (n i : ℕ) → get_or (replicate {A = Pixel} n None) i None ≡ None
blank_pixel zero i = refl
blank_pixel (suc n) zero = refl
blank_pixel (suc n) (suc i) = blank_pixel n i

-- one of several blank pixels
pub blank_of : (n k : ℕ) → None ≡ get_or (replicate {A = Pixel} n None) k None
blank_of n k = sym (blank_pixel n k)

-- what is still left is blank, where one more position was placed with its pixel
pub still_blank : (position_at : ℕ → ℕ) (n : ℕ) (placed : List Bool) (pixels : List Pixel) (position i : ℕ) (v : Pixel) → position < length placed → position_at i ≡ position → ((k : ℕ) → k < n → get_or placed (position_at k) false ≡ false → get_or pixels k None ≡ None) → (k : ℕ) → k < n → get_or (set placed position true) (position_at k) false ≡ false → get_or (set pixels i v) k None ≡ None
still_blank position_at n placed pixels position i v l own blank k h e = ⊎_elim
    (λ (q : position_at k ≡ position). absurd (true≢false (sym (ap (λ j. get_or (set placed position true) j false) q ∙ get_or-set_same placed position true false l) ∙ e)))
    (λ (q : position_at k ≢ position). get_or-set_other pixels i k v None (λ f. q (ap position_at f ∙ own)) ∙ blank k h (sym (get_or-set_other placed position (position_at k) true false q) ∙ e))
    (cases_eq (position_at k) position)

-- where nothing is drawn the pixels stay as they are
pub marked_blank : (position_at : ℕ → ℕ) (n : ℕ) (placed : List Bool) (pixels : List Pixel) (position : ℕ) → position < length placed → ((k : ℕ) → k < n → get_or placed (position_at k) false ≡ false → get_or pixels k None ≡ None) → (k : ℕ) → k < n → get_or (set placed position true) (position_at k) false ≡ false → get_or pixels k None ≡ None
marked_blank position_at n placed pixels position l blank k h e = ⊎_elim
    (λ (q : position_at k ≡ position). absurd (true≢false (sym (ap (λ j. get_or (set placed position true) j false) q ∙ get_or-set_same placed position true false l) ∙ e)))
    (λ (q : position_at k ≢ position). blank k h (sym (get_or-set_other placed position (position_at k) true false q) ∙ e))
    (cases_eq (position_at k) position)

-- a pixel of a stretch that is drawn
pub drawn_pixel : (fs : List FragmentView) (k : ℕ) (f : FragmentView) → k < length fs → f ≡ get_or fs k f → Some f ≡ get_or (map Some fs) k None
drawn_pixel [] k f h e = absurd (omega arith)
drawn_pixel (g ∷ fs) zero f h e = ap (λ x. Some x) e
drawn_pixel (g ∷ fs) (suc k) f h e = drawn_pixel fs k f (omega arith) e
