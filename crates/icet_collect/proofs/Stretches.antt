-- The pixels of a piece, stretch by stretch.
use Rattle.std.proofs.Common.{◌≡◌, ℕ, ◌+◌, ◌-◌, ◌<◌, ◌≤◌, List, [], ◌++◌, length, drop, get_or, map, replicate, Some, None, sym, ◌∙◌, ap, subst, arith, append_assoc, length-append}
use Rattle.std.proofs.lemmas.List.{length-map, length-replicate, drop-drop, get_or-drop, get_or_append_left, get_or-append-add}
use Rattle.std.proofs.Math.Seq.{drop-append_seam}
use Rattle.icet_model.specs.Pixel.{Pixel, FragmentView}
use Rattle.icet_model.specs.Run.{Piece}
use Rattle.icet_collect.specs.Collect.{CanvasView, Places, IsFree, stretch}
use Rattle.icet_collect.proofs.Positions.{below, stretch_free, places_join}

abbrev drawn : List FragmentView → List Pixel
drawn fs = map Some fs

abbrev blank : ℕ → List Pixel
blank n = replicate n None

-- a part of what is behind a position
same_pixels : (all front part rest : List Pixel) (m n : ℕ) → drop m all ≡ front ++ (part ++ rest) → n ≡ m + length front → (k : ℕ) → k < length part → get_or part k None ≡ get_or all (n + k) None
same_pixels all front part rest m n e size k h =
    let place : n + k ≡ m + (length front + k) = omega arith in
    sym (ap (λ i. get_or all i None) place ∙ sym (get_or-drop m all (length front + k) None) ∙ ap (λ l. get_or l (length front + k) None) e ∙ get_or-append-add front (part ++ rest) k None ∙ get_or_append_left part rest None k h)

module _ (a b c : CanvasView) (p : Piece (List Pixel)) (w0 w1 : List Pixel) (at blanks : ℕ) (ds : List FragmentView) (before : Places a b (below p at)) (walk : w0 ≡ drop (at - p.lo) p.content) (e : w0 ≡ blank blanks ++ drawn ds ++ w1) (tile : p.tile ≡ a.tile) (from : p.lo ≤ at) where
  parts : drop (at - p.lo) p.content ≡ blank blanks ++ (drawn ds ++ w1)
  parts = sym walk ∙ e ∙ append_assoc (blank blanks) (drawn ds) w1

  pub blank_placed : Places b c (stretch b.tile at (blank blanks)) → Places a c (below p (at + blanks))
  blank_placed next = subst (λ n. Places a c (below p (at + n))) (length-replicate {A = Pixel} blanks None) (places_join a b c p at (blank blanks) before next tile from (same_pixels p.content [] (blank blanks) (drawn ds ++ w1) (at - p.lo) (at - p.lo) parts (omega arith)))

  pub stretch_placed : (d : CanvasView) → Places b c (stretch b.tile at (blank blanks)) → Places c d (stretch c.tile (at + blanks) (drawn ds)) → Places a d (below p (at + (blanks + length ds)))
  stretch_placed d next last =
      let end : at + blanks + length (drawn ds) ≡ at + (blanks + length ds) = omega (arith, length-map ds (λ (f : FragmentView). Some f)) in
      let place : at + blanks - p.lo ≡ at - p.lo + length (blank blanks) = omega (arith, length-replicate {A = Pixel} blanks None) in
      subst (λ n. Places a d (below p n)) end (places_join a c d p (at + blanks) (drawn ds) (blank_placed next) last tile (omega arith) (same_pixels p.content (blank blanks) (drawn ds) w1 (at - p.lo) (at + blanks - p.lo) parts place))

  pub drawn_free : IsFree a p → Places b c (stretch b.tile at (blank blanks)) → at + (blanks + length ds) ≤ p.hi → IsFree c (stretch c.tile (at + blanks) (drawn ds))
  drawn_free free next h = stretch_free a c p (at + blanks) (drawn ds) (blank_placed next) free tile (omega arith) (omega (arith, length-map ds (λ (f : FragmentView). Some f)))

  -- what is still to come
  pub walk_on : w1 ≡ drop (at + (blanks + length ds) - p.lo) p.content
  walk_on =
      let size : at + (blanks + length ds) - p.lo ≡ at - p.lo + length (blank blanks ++ drawn ds) = omega (arith, length-append (blank blanks) (drawn ds), length-replicate {A = Pixel} blanks None, length-map ds (λ (f : FragmentView). Some f)) in
      sym (ap (λ n. drop n p.content) size ∙ sym (drop-drop (length (blank blanks ++ drawn ds)) (at - p.lo) p.content) ∙ ap (drop (length (blank blanks ++ drawn ds))) (sym walk ∙ e) ∙ drop-append_seam (blank blanks ++ drawn ds) w1)
