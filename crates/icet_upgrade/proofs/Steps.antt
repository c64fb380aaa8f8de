-- Steps of a scan.
use Rattle.std.proofs.Common.{◌≡◌, ℕ, zero, suc, ◌+◌, ◌-◌, ◌<◌, ◌≤◌, cond, List, [], ◌∷◌, ◌++◌, length, map, replicate, Some, None, refl, sym, ap, ◌∙◌, subst, arith, append-nil, append_assoc, length-append, eq-eqb}
use Rattle.std.specs.Prelude.{All}
use Rattle.std.specs.List.{flat_map, range_with_len}
use Rattle.std.proofs.lemmas.List.{length-map, length-replicate, map-append}
use Rattle.std.proofs.lemmas.List.Concat.{flat_map-append}
use Rattle.std.proofs.lemmas.List.Elements.{All-push}
use Rattle.icet_model.specs.Pixel.{FragmentView, Pixel}
use Rattle.icet_raster.specs.declared.shape.Shape.{Shape}
use Rattle.icet_raster.specs.Shapes.{IsInRange, drawing_of}
use Rattle.icet_scene.specs.Lines.{placed_of}
use Rattle.icet_scene.proofs.Ranges.{range_more}
use Rattle.icet_scene_model.specs.Raster.{Span}
use Rattle.icet_scene_model.specs.Ready.{Stretch, put_before, stretch_span, stretches}
use Rattle.icet_scene_model.specs.Scene.{Placed}
use Rattle.icet_upgrade.specs.declared.scan.Scan.{Scan}
use Rattle.icet_upgrade.specs.Scans.{Adds, EndsRun, IsScan, Passes, in_the_end}
use Rattle.icet_upgrade.proofs.Runs.{apart, blank_first}

-- the spans that a row has in the end, by what of it is known
abbrev pub spans_from : ℕ → ℕ → List Placed → ℕ → List FragmentView → List Pixel → List Placed
spans_from rank y found next run coming = found ++ map (stretch_span rank y) (stretches (next - length run) (map Some run ++ coming))

-- a run that ends before blank pixels
run_ends : (rank y : ℕ) (found : List Placed) (next n : ℕ) (run : List FragmentView) (coming : List Pixel) → length run ≤ next
    → spans_from rank y (found ++ map (stretch_span rank y) (stretches (next - length run) (map Some run))) (next + suc n) [] coming ≡ spans_from rank y found next run (replicate (suc n) None ++ coming)
run_ends rank y found next n run coming l =
    let first = next - length run in
    let behind = replicate n None ++ coming in
    let place : first + length (map Some run) + 1 + n ≡ next + suc n - 0 = omega (arith, length-map run Some) in
    append_assoc found (map (stretch_span rank y) (stretches first (map Some run))) (map (stretch_span rank y) (stretches (next + suc n - 0) coming))
    ∙ ap (λ ps. found ++ ps) (sym (map-append (stretch_span rank y) (stretches first (map Some run)) (stretches (next + suc n - 0) coming)))
    ∙ ap (λ ss. found ++ map (stretch_span rank y) (stretches first (map Some run) ++ ss)) (ap (λ m. stretches m coming) (sym place) ∙ sym (blank_first n (first + length (map Some run) + 1) coming))
    ∙ ap (λ ss. found ++ map (stretch_span rank y) ss) (sym (apart first (map Some run) behind))

-- a run that goes on
run_grows : (rank y : ℕ) (found : List Placed) (next : ℕ) (run : List FragmentView) (f : FragmentView) (coming : List Pixel)
    → spans_from rank y found (next + 1) (run ++ f ∷ []) coming ≡ spans_from rank y found next run (Some f ∷ coming)
run_grows rank y found next run f coming =
    let count : next + 1 - length (run ++ f ∷ []) ≡ next - length run = omega (arith, length-append run (f ∷ [])) in
    let pixels : map Some (run ++ f ∷ []) ++ coming ≡ map Some run ++ (Some f ∷ coming) = ap (λ ps. ps ++ coming) (map-append Some run (f ∷ [])) ∙ append_assoc (map Some run) (Some f ∷ []) coming in
    ap (λ n. found ++ map (stretch_span rank y) (stretches n (map Some (run ++ f ∷ []) ++ coming))) count
    ∙ ap (λ ps. found ++ map (stretch_span rank y) (stretches (next - length run) ps)) pixels

-- the spans in the end, by parts that are the same
same_spans : (rank rank' y y' next next' : ℕ) (found found' : List Placed) (run run' : List FragmentView) (coming : List Pixel) → rank ≡ rank' → y ≡ y' → found ≡ found' → next ≡ next' → run ≡ run'
    → spans_from rank y found next run coming ≡ spans_from rank' y' found' next' run' coming
same_spans rank rank' y y' next next' found found' run run' coming r l f n u = λ i. spans_from (r i) (l i) (f i) (n i) (u i) coming

pub passes_none : (scan : Scan) (spans : List (ℕ × Shape)) → IsScan scan → Passes scan spans scan spans []
passes_none scan spans h = record { scan = h; row = refl; next = omega arith; spans = λ coming. refl; in_range = λ a. a }

pub passes_then : (a b c : Scan) (before bs cs : List (ℕ × Shape)) (ps qs : List Pixel) → Passes a before b bs ps → Passes b bs c cs qs → Passes a before c cs (ps ++ qs)
passes_then a b c before bs cs ps qs h k = record {
  scan = k.scan;
  row = k.row ∙ h.row;
  next = omega (arith, h.next, k.next, length-append ps qs);
  spans = λ coming. k.spans coming ∙ h.spans (qs ++ coming) ∙ ap (in_the_end a before) (sym (append_assoc ps qs coming));
  in_range = λ all. k.in_range (h.in_range all);
}

pub drawn_passes : (old new : Scan) (spans : List (ℕ × Shape)) (f : FragmentView) → IsScan old → old.next + 1 ≤ 16384 → new.rank ≡ old.rank → new.y ≡ old.y → new.next ≡ old.next + 1 → new.run.items ≡ old.run.items ++ f ∷ []
    → Passes old spans new spans (Some f ∷ [])
drawn_passes old new spans f h l r y n u =
    let longer = ap length u ∙ length-append old.run.items (f ∷ []) in
    record {
      scan = record { row = omega (arith, h.row, y); column = omega (arith, n, l); run = omega (arith, n, h.run, longer) };
      row = y;
      next = n;
      spans = λ coming. same_spans new.rank old.rank new.y old.y new.next (old.next + 1) (map placed_of spans) (map placed_of spans) new.run.items (old.run.items ++ f ∷ []) coming r y refl n u
          ∙ run_grows old.rank old.y (map placed_of spans) old.next old.run.items f coming;
      in_range = λ all. all;
    }

pub skip_passes : (old mid new : Scan) (before after : List (ℕ × Shape)) (column : ℕ) → IsScan old → EndsRun old before mid after → old.next < column → column ≤ 16384
    → new.rank ≡ mid.rank → new.y ≡ mid.y → new.run.items ≡ mid.run.items → new.next ≡ column → Passes old before new after (replicate (column - old.next) None)
skip_passes old mid new before after column h e l m r y u n =
    let more = column - old.next - 1 in
    let count : column - old.next ≡ suc more = omega (arith, l) in
    let place : column ≡ old.next + suc more = omega (arith, l) in
    let empty : new.run.items ≡ [] = u ∙ e.run in
    record {
      scan = record { row = omega (arith, h.row, y, e.row); column = omega (arith, n, m); run = omega (arith, ap length empty) };
      row = y ∙ e.row;
      next = omega (arith, n, l, length-replicate {A = Pixel} (column - old.next) None);
      spans = λ coming.
          same_spans new.rank old.rank new.y old.y new.next (old.next + suc more) (map placed_of after) (map placed_of before ++ map (stretch_span old.rank old.y) (stretches (old.next - length old.run.items) (map Some old.run.items))) new.run.items [] coming
          (r ∙ e.rank) (y ∙ e.row) e.spans.grown (n ∙ place) empty
          ∙ run_ends old.rank old.y (map placed_of before) old.next more old.run.items coming h.run
          ∙ ap (λ k. in_the_end old before (replicate k None ++ coming)) (sym count);
      in_range = e.spans.in_range;
    }

-- a run by itself is one stretch
one_run : (c : ℕ) (f : FragmentView) (fs : List FragmentView) → stretches c (map Some (f ∷ fs)) ≡ record { column = c; paints = f ∷ fs } ∷ []
one_run c f [] = refl
one_run c f (g ∷ fs) =
    ap (put_before c f) (one_run (c + 1) g fs)
    ∙ ap (λ b. cond b (record { column = c; paints = f ∷ g ∷ fs } ∷ []) (record { column = c; paints = f ∷ [] } ∷ record { column = c + 1; paints = g ∷ fs } ∷ [])) (eq-eqb (c + 1) (c + 1) refl)

pub run_is : (c : ℕ) (fs : List FragmentView) → 0 < length fs → stretches c (map Some fs) ≡ record { column = c; paints = fs } ∷ []
run_is c [] l = absurd (omega (arith, l))
run_is c (f ∷ fs) l = one_run c f fs

-- a run that is put behind the spans
pub run_added : (rank y next : ℕ) (run : List FragmentView) (before after : List (ℕ × Shape)) (shape : Shape) → after ≡ before ++ (rank, shape) ∷ [] → drawing_of shape ≡ Span (next - length run) y run → IsInRange shape → 0 < length run
    → Adds before after (map (stretch_span rank y) (stretches (next - length run) (map Some run)))
run_added rank y next run before after shape e drawing fits some = record {
  grown = ap (map placed_of) e
      ∙ map-append placed_of before ((rank, shape) ∷ [])
      ∙ ap (λ d. map placed_of before ++ record { rank = rank; shape = d } ∷ []) drawing
      ∙ ap (λ ss. map placed_of before ++ map (stretch_span rank y) ss) (sym (run_is (next - length run) run some));
  in_range = λ all. subst (All (λ (s : ℕ × Shape). IsInRange s.1)) (sym e) (All-push (λ (s : ℕ × Shape). IsInRange s.1) before (rank, shape) all fits);
}

pub run_empty : (rank y next : ℕ) (run : List FragmentView) (before : List (ℕ × Shape)) → run ≡ [] → Adds before before (map (stretch_span rank y) (stretches (next - length run) (map Some run)))
run_empty rank y next run before e = record {
  grown = sym (append-nil (map placed_of before)) ∙ ap (λ (fs : List FragmentView). map placed_of before ++ map (stretch_span rank y) (stretches (next - length fs) (map Some fs))) (sym e);
  in_range = λ all. all;
}

-- what adds nothing, and what adds more behind
pub adds_none : (before : List (ℕ × Shape)) → Adds before before []
adds_none before = record { grown = sym (append-nil (map placed_of before)); in_range = λ all. all }

pub adds_then : (a b c : List (ℕ × Shape)) (ps qs : List Placed) → Adds a b ps → Adds b c qs → Adds a c (ps ++ qs)
adds_then a b c ps qs h k = record {
  grown = k.grown ∙ ap (λ rs. rs ++ qs) h.grown ∙ append_assoc (map placed_of a) ps qs;
  in_range = λ all. k.in_range (h.in_range all);
}

-- one number more of what numbers add
pub adds_more : (f : ℕ → List Placed) (n : ℕ) (a b c : List (ℕ × Shape)) → Adds a b (flat_map f (range_with_len 0 n)) → Adds b c (f n) → Adds a c (flat_map f (range_with_len 0 (n + 1)))
adds_more f n a b c h k =
    let all : flat_map f (range_with_len 0 (n + 1)) ≡ flat_map f (range_with_len 0 n) ++ f n =
    ap (flat_map f) (range_more n)
    ∙ flat_map-append f (range_with_len 0 n) (n ∷ [])
    ∙ ap (λ ps. flat_map f (range_with_len 0 n) ++ ps) (append-nil (f n)) in
    subst (Adds a c) (sym all) (adds_then a b c (flat_map f (range_with_len 0 n)) (f n) h k)
