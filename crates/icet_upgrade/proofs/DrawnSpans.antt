-- What the spans of runs draw: at each pixel what the runs are of.
use Rattle.std.proofs.Common.{◌≡◌, ◌≢◌, ℕ, zero, suc, ◌+◌, ◌-◌, ◌*◌, ◌/◌, ◌%◌, ◌<◌, ◌≤◌, Bool, true, false, cond, List, [], ◌∷◌, ◌++◌, length, map, get_or, Some, None, refl, sym, ap, ◌∙◌, subst, arith, ne_eqb, eq-eqb}
use Rattle.std.specs.Prelude.{◌&&◌, ◌||◌, ◌==◌, nat_le, nat_lt, All, slice_get}
use Rattle.std.specs.List.{fold, flat_map, list_any, range_with_len, Contains}
use Rattle.std.proofs.lemmas.Bool.Decides.{nat_tests}
use Rattle.std.proofs.lemmas.List.Elements.{All-head, All-tail, All-map}
use Rattle.std.proofs.lemmas.List.Folds.{fold-map, list_any_at}
use Rattle.std.proofs.lemmas.List.Sums.{fold-append}
use Rattle.std.proofs.lemmas.List.FromFn.{get_or-map-range_with_len}
use Rattle.icet_model.specs.declared.names.Mode.{Mode}
use Rattle.icet_model.specs.Pixel.{FragmentView, Pixel}
use Rattle.icet_model.specs.Tiles.{Area, IsOnDisplay, TileView}
use Rattle.icet_scene.specs.Scenes.{IsLawfulScene}
use Rattle.icet_scene_model.specs.Jobs.{shapes_of}
use Rattle.icet_scene_model.specs.Raster.{Drawing, Span, drawn, drawn_over, full_image, gives}
use Rattle.icet_scene_model.specs.Ready.{Stretch, areas_of, bottom_end, holds_pixel, put_before, rank_spans, ready_scene, ready_shapes, right_end, row_spans, shown, shown_row, stretch_span, stretches}
use Rattle.icet_scene_model.specs.Scene.{Placed, SceneView}
use Rattle.icet_raster.proofs.FullImages.{map_same, over_none}
use Rattle.icet_upgrade.proofs.DrawnAgain.{again}
use Rattle.icet_upgrade.proofs.RankShapes.{shapes_picked}
use Rattle.icet_upgrade.proofs.Runs.{From, by_test, eq_true, eq_false, from_later, starts}

-- ---- one span at a pixel
beyond : (c y x : ℕ) (paints : List FragmentView) → x < c → gives (Span c y paints) x y ≡ None
beyond c y x paints l = ap (λ b. cond ((y == y) && b) (slice_get paints (x - c)) None) (let e : nat_le c x ≡ false = grind (arith, nat_tests, l) in e) ∙ none (y == y)
  where
    none : (b : Bool) → cond (b && false) (slice_get paints (x - c)) None ≡ None
    none true = refl
    none false = refl

within : (c y i x : ℕ) (paints : List FragmentView) → x ≡ c + i → gives (Span c y paints) x y ≡ slice_get paints i
within c y i x paints e =
    ap (λ b. cond (b && nat_le c x) (slice_get paints (x - c)) None) (eq-eqb y y refl)
    ∙ ap (λ b. cond b (slice_get paints (x - c)) None) (let l : nat_le c x ≡ true = grind (arith, nat_tests, e) in l)
    ∙ ap (slice_get paints) (let d : x - c ≡ i = omega (arith, e) in d)

other_row : (c row y x : ℕ) (paints : List FragmentView) → row ≢ y → gives (Span c row paints) x y ≡ None
other_row c row y x paints h = ap (λ b. cond (b && nat_le c x) (slice_get paints (x - c)) None) (ne_eqb row y h)

-- ---- the spans of a row at a pixel of it
module _ (mode : Mode) (y x : ℕ) where
  abbrev painted : Pixel → List Stretch → Pixel
  painted p ss = fold (λ (before : Pixel) (s : Stretch). drawn_over mode before (gives (Span s.column y s.paints) x y)) p ss

  unpainted : (p : Pixel) (ss : List Stretch) → From (x + 1) ss → painted p ss ≡ p
  unpainted p [] h = refl
  unpainted p (s ∷ ss) h =
      let far = All-head (λ (t : Stretch). x + 1 ≤ t.column) s ss h in
      ap (λ q. painted (drawn_over mode p q) ss) (beyond s.column y x s.paints (omega (arith, far)))
      ∙ ap (λ q. painted q ss) (over_none mode p)
      ∙ unpainted p ss (All-tail (λ (t : Stretch). x + 1 ≤ t.column) s ss h)

  -- the run's first pixel
  put-here : (c : ℕ) (f : FragmentView) (ss : List Stretch) → x ≡ c → From (c + 1) ss → painted None (put_before c f ss) ≡ drawn_over mode None (Some f)
  put-here c f [] e h = ap (drawn_over mode None) (within c y 0 x (f ∷ []) (omega (arith, e)))
  put-here c f (s ∷ ss) e h =
      let rest = All-tail (λ (t : Stretch). c + 1 ≤ t.column) s ss h in
      by_test (s.column == c + 1) (λ ts. painted None ts ≡ drawn_over mode None (Some f)) (record { column = c; paints = f ∷ s.paints } ∷ ss) (record { column = c; paints = f ∷ [] } ∷ s ∷ ss)
      (λ t. ap (λ q. painted (drawn_over mode None q) ss) (within c y 0 x (f ∷ s.paints) (omega (arith, e))) ∙ unpainted (drawn_over mode None (Some f)) ss (from_later (c + 1) (x + 1) ss (omega (arith, e)) rest))
      (λ t. ap (λ q. painted (drawn_over mode None q) (s ∷ ss)) (within c y 0 x (f ∷ []) (omega (arith, e))) ∙ unpainted (drawn_over mode None (Some f)) (s ∷ ss) (from_later (c + 1) (x + 1) (s ∷ ss) (omega (arith, e)) h))

  -- a pixel behind the first
  put-behind : (c i : ℕ) (f : FragmentView) (ss : List Stretch) → x ≡ c + 1 + i → painted None (put_before c f ss) ≡ painted None ss
  put-behind c i f [] e = ap (drawn_over mode None) (within c y (suc i) x (f ∷ []) (omega (arith, e))) ∙ over_none mode None
  put-behind c i f (s ∷ ss) e =
      by_test (s.column == c + 1) (λ ts. painted None ts ≡ painted None (s ∷ ss)) (record { column = c; paints = f ∷ s.paints } ∷ ss) (record { column = c; paints = f ∷ [] } ∷ s ∷ ss)
      (λ t. ap (λ q. painted (drawn_over mode None q) ss) (within c y (suc i) x (f ∷ s.paints) (omega (arith, e)) ∙ sym (within s.column y i x s.paints (let q = eq_true s.column (c + 1) t in omega (arith, e, q)))))
      (λ t. ap (λ q. painted (drawn_over mode None q) (s ∷ ss)) (within c y (suc i) x (f ∷ []) (omega (arith, e))) ∙ ap (λ q. painted q (s ∷ ss)) (over_none mode None))

  row-painted : (c i : ℕ) (ps : List Pixel) → x ≡ c + i → painted None (stretches c ps) ≡ drawn_over mode None (get_or ps i None)
  row-painted c i [] e = sym (over_none mode None)
  row-painted c zero (None ∷ ps) e = unpainted None (stretches (c + 1) ps) (from_later (c + 1) (x + 1) (stretches (c + 1) ps) (omega (arith, e)) (starts (c + 1) ps)) ∙ sym (over_none mode None)
  row-painted c (suc i) (None ∷ ps) e = row-painted (c + 1) i ps (omega (arith, e))
  row-painted c zero (Some f ∷ ps) e = put-here c f (stretches (c + 1) ps) (omega (arith, e)) (starts (c + 1) ps)
  row-painted c (suc i) (Some f ∷ ps) e = put-behind c i f (stretches (c + 1) ps) (omega (arith, e)) ∙ row-painted (c + 1) i ps (omega (arith, e))

-- ---- all rows of a rank at a pixel
module _ (mode : Mode) (areas : List Area) (shapes : List Drawing) (rank y x : ℕ) where
  abbrev over : Pixel → Placed → Pixel
  over before placed = drawn_over mode before (gives placed.shape x y)

  row-over : (p : Pixel) (row : ℕ) → row ≢ y → (ss : List Stretch) → fold over p (map (stretch_span rank row) ss) ≡ p
  row-over p row h [] = refl
  row-over p row h (s ∷ ss) =
      ap (λ q. fold over (drawn_over mode p q) (map (stretch_span rank row) ss)) (other_row s.column row y x s.paints h)
      ∙ ap (λ q. fold over q (map (stretch_span rank row) ss)) (over_none mode p)
      ∙ row-over p row h ss

  below-over : (p : Pixel) (a n : ℕ) → y < a → fold over p (flat_map (row_spans mode areas shapes rank) (range_with_len a n)) ≡ p
  below-over p a zero l = refl
  below-over p a (suc n) l =
      let ne : a ≢ y = omega (arith, l) in
      fold-append over p (row_spans mode areas shapes rank a) (flat_map (row_spans mode areas shapes rank) (range_with_len (a + 1) n))
      ∙ ap (λ q. fold over q (flat_map (row_spans mode areas shapes rank) (range_with_len (a + 1) n))) (row-over p a ne (stretches 0 (shown_row mode areas shapes a)))
      ∙ below-over p (a + 1) n (omega (arith, l))

  rows-over : (p : Pixel) (a n : ℕ) → a ≤ y → y < a + n → fold over p (flat_map (row_spans mode areas shapes rank) (range_with_len a n)) ≡ fold over p (row_spans mode areas shapes rank y)
  rows-over p a zero l m = absurd (omega (arith, l, m))
  rows-over p a (suc n) l m =
      fold-append over p (row_spans mode areas shapes rank a) (flat_map (row_spans mode areas shapes rank) (range_with_len (a + 1) n))
      ∙ go (λ ne. rows-over p (a + 1) n (omega (arith, l, ne)) (omega (arith, m))) (a == y) refl
    where
      go : (a ≢ y → fold over p (flat_map (row_spans mode areas shapes rank) (range_with_len (a + 1) n)) ≡ fold over p (row_spans mode areas shapes rank y)) → (b : Bool) → (a == y) ≡ b
          → fold over (fold over p (row_spans mode areas shapes rank a)) (flat_map (row_spans mode areas shapes rank) (range_with_len (a + 1) n)) ≡ fold over p (row_spans mode areas shapes rank y)
      go later true e =
          let same = eq_true a y e in
          below-over (fold over p (row_spans mode areas shapes rank a)) (a + 1) n (omega (arith, same))
          ∙ ap (λ r. fold over p (row_spans mode areas shapes rank r)) same
      go later false e =
          let ne = eq_false a y e in
          ap (λ q. fold over q (flat_map (row_spans mode areas shapes rank) (range_with_len (a + 1) n))) (row-over p a ne (stretches 0 (shown_row mode areas shapes a)))
          ∙ later ne

  -- a pixel that is shown is drawn as before
  pub spans-drawn : x < right_end areas → y < bottom_end areas → list_any (holds_pixel x y) areas ≡ true
      → drawn mode (map (λ (placed : Placed). placed.shape) (rank_spans mode areas shapes rank)) x y ≡ drawn mode shapes x y
  spans-drawn r b h =
      fold-map (λ (before : Pixel) (shape : Drawing). drawn_over mode before (gives shape x y)) (λ (placed : Placed). placed.shape) None (rank_spans mode areas shapes rank)
      ∙ rows-over None 0 (bottom_end areas) (omega arith) (omega (arith, b))
      ∙ fold-map over (stretch_span rank y) None (stretches 0 (shown_row mode areas shapes y))
      ∙ row-painted mode y x 0 x (shown_row mode areas shapes y) (omega arith)
      ∙ ap (drawn_over mode None) (get_or-map-range_with_len (shown mode areas shapes y) 0 (right_end areas) x x None r (omega arith) ∙ ap (λ t. cond t (drawn mode shapes x y) None) h)
      ∙ again mode shapes x y
