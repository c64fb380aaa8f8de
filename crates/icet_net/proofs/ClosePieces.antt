-- Pieces that are placed on a canvas one after the other, those of one tile.
use Rattle.std.proofs.Common.{◌≡◌, ◌≢◌, ℕ, zero, suc, ◌+◌, ◌*◌, ◌<◌, ◌≤◌, Bool, true, false, cond, ◌&&◌, ◌||◌, leb, ltb, eqb, List, [], ◌∷◌, ◌++◌, map, filter, length, get_or, take, drop, refl, sym, ap, ◌∙◌, subst, arith, Some, None, eqb-true, ne_eqb, ⊎_elim}
use Rattle.std.specs.List.{AllByRecursion, list_any, range_with_len, slice_get}
use Rattle.std.proofs.lemmas.List.{take_more, append_assoc}
use Rattle.std.proofs.lemmas.Bool.{and_parts, ltb-true, cases_lt}
use Rattle.icet_model.specs.Pixel.{Pixel, DenseView}
use Rattle.icet_model.specs.Run.{Piece}
use Rattle.icet_model.specs.Plan.{has_place}
use Rattle.icet_collect.specs.Collect.{CanvasView, IsCanvas, IsFree, IsFull, Places, Shows, HasWanted, blank_canvas}
use Rattle.icet_collect.proofs.Filling.{ArePlaced, shows_blank, shows_more, is_free, is_full, shown}
use Rattle.icet_interlace.specs.Interlace.{restored}
use Rattle.icet_net.specs.CloseSteps.{AreOnce, AreWanted, ShowsFirst, kept_for, picture_on}
use Rattle.icet_model.proofs.Lists.{all_at, any_last}

abbrev Pieces : Type 0
Pieces = List (Piece (List Pixel))

whole_list : {X : Type 0} (xs : List X) (k : ℕ) → length xs ≤ k → take k xs ≡ xs
whole_list [] zero l = refl
whole_list [] (suc k) l = refl
whole_list (x ∷ xs) zero l = absurd (omega (arith, l))
whole_list (x ∷ xs) (suc k) l = ap (λ ys. x ∷ ys) (whole_list xs k (omega (arith, l)))

parted : {X : Type 0} (xs : List X) (k : ℕ) (d : X) → k < length xs → take k xs ++ get_or xs k d ∷ drop (suc k) xs ≡ xs
parted [] k d l = absurd (omega (arith, l))
parted (x ∷ xs) zero d l = refl
parted (x ∷ xs) (suc k) d l = ap (λ ys. x ∷ ys) (parted xs k d (omega (arith, l)))

-- no piece of the tile holds a position beyond it
none_past : (t n i : ℕ) (ps : Pieces) → AllByRecursion (λ (p : Piece (List Pixel)). p.tile ≡ t → p.hi ≤ n) ps → n ≤ i → length (filter (has_place t i) ps) ≡ 0
none_past t n i [] a l = refl
none_past t n i (p ∷ ps) a l = go (has_place t i p) refl (none_past t n i ps a.1 l)
  where
    go : (b : Bool) → has_place t i p ≡ b → length (filter (has_place t i) ps) ≡ 0 → length (cond b (p ∷ filter (has_place t i) ps) (filter (has_place t i) ps)) ≡ 0
    go true h r =
        let parts = and_parts (eqb p.tile t) (leb p.lo i && ltb i p.hi) h in
        let within = ltb-true i p.hi (and_parts (leb p.lo i) (ltb i p.hi) parts.1).1 in
        let most = a.0 (eqb-true p.tile t parts.0) in
        absurd (omega (arith, within, most, l))
    go false h r = r

most_once : (t n : ℕ) (ps : Pieces) → AreOnce t n ps → (i : ℕ) → length (filter (has_place t i) ps) ≤ 1
most_once t n ps o i = ⊎_elim (λ (h : i < n). let e = o.once i h in omega (arith, e)) (λ (h : n ≤ i). let e = none_past t n i ps o.inside h in omega (arith, e)) (cases_lt i n)

module _ (t n k : ℕ) (kept : Pieces) (old c : CanvasView) (first : ShowsFirst t k kept old c) where
  -- the first pieces are placed
  placed_first : ArePlaced c (take k kept)
  placed_first i = first.placed i ∙ ap (λ x. list_any (has_place x i) (take k kept)) (sym first.tile)

  pub free_at : (d : Piece (List Pixel)) → AreOnce t n kept → k < length kept → IsFree c (get_or kept k d)
  free_at d o l = is_free c (take k kept) (drop (suc k) kept) (get_or kept k d) placed_first (λ i. let m = most_once t n kept o i in let e = ap (λ x. length (filter (has_place x i) (take k kept ++ get_or kept k d ∷ drop (suc k) kept))) first.tile in let f = ap (λ ps. length (filter (has_place t i) ps)) (parted kept k d l) in omega (arith, m, e, f))

  pub placed_more : (new : CanvasView) (d : Piece (List Pixel)) → k < length kept → (get_or kept k d).tile ≡ t → Places c new (get_or kept k d) → ShowsFirst t (k + 1) kept old new
  placed_more new d l is places = record {
    tile = places.tile ∙ first.tile;
    w = places.w ∙ first.w;
    h = places.h ∙ first.h;
    strands = places.strands ∙ first.strands;
    placed = λ i.
        places.placed i
        ∙ (ap (λ x. has_place x i (get_or kept k d) || get_or c.placed i false) first.tile
        ∙ (ap (λ b. has_place t i (get_or kept k d) || b) (first.placed i)
        ∙ (sym (any_last (has_place t i) (take k kept) (get_or kept k d))
        ∙ ap (list_any (has_place t i)) (sym (take_more kept k d l)))));
    shows = λ wanted a. subst (Shows wanted new) (sym (take_more kept k d l)) (shows_more wanted c new (take k kept) (get_or kept k d) (first.shows wanted a) places (all_at (λ (p : Piece (List Pixel)). p.tile ≡ t → HasWanted wanted p) kept k d a l is));
  }

  no_place : (x i : ℕ) (p : Piece (List Pixel)) → p.tile ≢ x → has_place x i p ≡ false
  no_place x i p n = ap (λ b. b && (leb p.lo i && ltb i p.hi)) (ne_eqb p.tile x n)

  skip_any : (x i : ℕ) (d : Piece (List Pixel)) → k < length kept → (get_or kept k d).tile ≢ x → list_any (has_place x i) (take k kept) ≡ list_any (has_place x i) (take (k + 1) kept)
  skip_any x i d l n = ap (λ b. b || list_any (has_place x i) (take k kept)) (sym (no_place x i (get_or kept k d) n)) ∙ (sym (any_last (has_place x i) (take k kept) (get_or kept k d)) ∙ ap (list_any (has_place x i)) (sym (take_more kept k d l)))

  pub skipped_more : (d : Piece (List Pixel)) → k < length kept → (get_or kept k d).tile ≢ t → ShowsFirst t (k + 1) kept old c
  skipped_more d l n = record {
    tile = first.tile;
    w = first.w;
    h = first.h;
    strands = first.strands;
    placed = λ i. first.placed i ∙ skip_any t i d l n;
    shows = λ wanted a. let s = first.shows wanted a in record { placed = λ i. s.placed i ∙ skip_any c.tile i d l (λ e. n (e ∙ first.tile)); pixels = s.pixels };
  }

  pub full_at : AreOnce t (old.w * old.h) kept → length kept ≤ k → IsFull c
  full_at o l =
      is_full c (take k kept) placed_first (λ i h.
      ap (λ x. length (filter (has_place x i) (take k kept))) first.tile
      ∙ (ap (λ ps. length (filter (has_place t i) ps)) (whole_list kept k l)
      ∙ o.once i (subst (λ x. i < x) (let e : c.w * c.h ≡ old.w * old.h = ap (λ x. x * c.h) first.w ∙ ap (λ x. old.w * x) first.h in e) h)))

  pub picture_is : AreOnce t (old.w * old.h) kept → length kept ≤ k → IsCanvas c → (result : DenseView) → result ≡ record { w = c.w; h = c.h; pixels = c.pixels } → (wanted : ℕ → Pixel) → AreWanted t wanted kept → result ≡ picture_on old wanted
  picture_is o l can result is wanted a =
      let e : c.w * c.h ≡ old.w * old.h = ap (λ x. x * c.h) first.w ∙ ap (λ x. old.w * x) first.h in
      let p : c.pixels ≡ restored (old.w * old.h) old.strands (map wanted (range_with_len 0 (old.w * old.h))) =
      shown wanted c (take k kept) (old.w * old.h) can.strands (first.shows wanted a) (full_at o l) (sym e) (can.size ∙ e)
      ∙ ap (λ s. restored (old.w * old.h) s (map wanted (range_with_len 0 (old.w * old.h)))) first.strands in
      is ∙ (λ i. record { w = first.w i; h = first.h i; pixels = p i })

blank_first : (t : ℕ) (kept : Pieces) (w h strands : ℕ) → ShowsFirst t 0 kept (blank_canvas t w h strands) (blank_canvas t w h strands)
blank_first t kept w h strands = record {
  tile = refl;
  w = refl;
  h = refl;
  strands = refl;
  placed = (shows_blank (λ i. None) t w h strands).placed;
  shows = λ wanted a. shows_blank wanted t w h strands;
}

pub starts_blank : (t : ℕ) (kept : Pieces) (c : CanvasView) → c ≡ blank_canvas t c.w c.h c.strands → ShowsFirst t 0 kept c c
starts_blank t kept c e = subst (λ (x : CanvasView). ShowsFirst t 0 kept x x) (sym e) (blank_first t kept c.w c.h c.strands)

-- the tiles' pictures one after the other
display_at : (displays : List ℕ) (t d : ℕ) → slice_get displays t ≡ Some d → get_or displays t 0 ≡ d
display_at [] t d h = absurd (cc)
display_at (x ∷ xs) zero d h = cc
display_at (x ∷ xs) (suc t) d h = display_at xs t d h

pub kept_is : {X : Type 0} (f : X → Pieces) (xs : List X) (displays : List ℕ) (t i d : ℕ) (e : X) (now : Pieces) → slice_get displays t ≡ Some d → i ≡ d → d < length xs → now ≡ f (get_or xs i e) → kept_for (map f xs) displays t ≡ now
kept_is {X} f xs displays t i d e now at is l same =
    ap (λ k. get_or (map f xs) k []) (display_at displays t d at)
    ∙ (ap (λ k. get_or (map f xs) k []) (sym is)
    ∙ (here xs i (omega (arith, is, l)) ∙ sym same))
  where
    here : (ys : List X) (k : ℕ) → k < length ys → get_or (map f ys) k [] ≡ f (get_or ys k e)
    here [] k m = absurd (omega (arith, m))
    here (y ∷ ys) zero m = refl
    here (y ∷ ys) (suc k) m = here ys k (omega (arith, m))

module _ (xs cs : List CanvasView) (c : CanvasView) (steps : xs ≡ c ∷ cs) where
  pub tile_is : (n : ℕ) → map (λ (x : CanvasView). x.tile) xs ≡ range_with_len n (length xs) → c.tile ≡ n
  tile_is n h = let e : c.tile ∷ map (λ (x : CanvasView). x.tile) cs ≡ n ∷ range_with_len (n + 1) (length cs) = subst (λ (ys : List CanvasView). map (λ (x : CanvasView). x.tile) ys ≡ range_with_len n (length ys)) steps h in cc

  pub tiles_next : (n m : ℕ) → m ≡ n + 1 → map (λ (x : CanvasView). x.tile) xs ≡ range_with_len n (length xs) → map (λ (x : CanvasView). x.tile) cs ≡ range_with_len m (length cs)
  tiles_next n m f h = let e : c.tile ∷ map (λ (x : CanvasView). x.tile) cs ≡ n ∷ range_with_len (n + 1) (length cs) = subst (λ (ys : List CanvasView). map (λ (x : CanvasView). x.tile) ys ≡ range_with_len n (length ys)) steps h in let g : map (λ (x : CanvasView). x.tile) cs ≡ range_with_len (n + 1) (length cs) = cc in g ∙ ap (λ k. range_with_len k (length cs)) (sym f)

  pub all_next : (Q : CanvasView → Type 0) → AllByRecursion Q xs → Q c × AllByRecursion Q cs
  all_next Q a = subst (AllByRecursion Q) steps a

  pub shown_next : (f : CanvasView → DenseView) (ps ps' ys : List DenseView) (p : DenseView) → ps' ≡ ps ++ p ∷ [] → p ≡ f c → ps ++ map f xs ≡ ys → ps' ++ map f cs ≡ ys
  shown_next f ps ps' ys p push is h =
      ap (λ zs. zs ++ map f cs) push
      ∙ (append_assoc ps (p ∷ []) (map f cs)
      ∙ (ap (λ z. ps ++ z ∷ map f cs) is
      ∙ (ap (λ zs. ps ++ map f zs) (sym steps) ∙ h)))

pub once_moved : (kepts : List Pieces) (displays : List ℕ) (s t n : ℕ) (now : Pieces) → s ≡ t → kept_for kepts displays t ≡ now → AreOnce s n (kept_for kepts displays s) → AreOnce t n now
once_moved kepts displays s t n now e k o = subst (AreOnce t n) k (subst (λ x. AreOnce x n (kept_for kepts displays x)) e o)

pub wanted_moved : (kepts : List Pieces) (displays : List ℕ) (s t : ℕ) (wanted : ℕ → Pixel) (now : Pieces) → s ≡ t → kept_for kepts displays t ≡ now → AreWanted s wanted (kept_for kepts displays s) → AreWanted t wanted now
wanted_moved kepts displays s t wanted now e k o = subst (AreWanted t wanted) k (subst (λ x. AreWanted x wanted (kept_for kepts displays x)) e o)
