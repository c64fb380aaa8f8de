-- Joining lists of pixels stretch by stretch.
use Rattle.std.proofs.Common.{◌≡◌, ℕ, zero, suc, ◌+◌, ◌<◌, ◌≤◌, List, [], ◌∷◌, ◌++◌, length, take, drop, map, replicate, Some, None, refl, sym, ◌∙◌, ap, arith, append_assoc, length-append}
use Rattle.std.proofs.lemmas.List.{map-append, length-map, length-replicate, length-take-le, take-append-drop}
use Rattle.std.proofs.Math.Seq.{take-append-add, drop-append-add}
use Rattle.icet_model.specs.declared.names.Mode.{Mode}
use Rattle.icet_model.specs.Pixel.{Pixel, FragmentView, joined, joined_fragments}
use Rattle.icet_sparse.specs.Joined.{joined_places}
use Rattle.icet_merge.specs.Merge.{zip_joined}

-- the pixels of fragments
abbrev pub drawn : List FragmentView → List Pixel
drawn fs = map Some fs

abbrev pub blank : ℕ → List Pixel
blank n = replicate n None

module _ (mode : Mode) where
  pub zip_append : (xs bs ys ds : List Pixel) → length xs ≡ length ys → zip_joined mode (xs ++ bs) (ys ++ ds) ≡ zip_joined mode xs ys ++ zip_joined mode bs ds
  zip_append [] bs [] ds e = refl
  zip_append [] bs (y ∷ ys) ds e = absurd (omega arith)
  zip_append (x ∷ xs) bs [] ds e = absurd (omega arith)
  zip_append (x ∷ xs) bs (y ∷ ys) ds e = ap (λ l. joined mode x y ∷ l) (zip_append xs bs ys ds (omega arith))

  pub zip_length : (xs ys : List Pixel) → length xs ≡ length ys → length (zip_joined mode xs ys) ≡ length xs
  zip_length [] ys e = refl
  zip_length (x ∷ xs) [] e = absurd (omega arith)
  zip_length (x ∷ xs) (y ∷ ys) e = ap suc (zip_length xs ys (omega arith))

  -- behind blank pixels the others show
  front_blank : (n : ℕ) (ps : List Pixel) → n ≡ length ps → zip_joined mode (blank n) ps ≡ ps
  front_blank zero [] e = refl
  front_blank zero (p ∷ ps) e = absurd (omega arith)
  front_blank (suc n) [] e = absurd (omega arith)
  front_blank (suc n) (p ∷ ps) e = ap (λ l. p ∷ l) (front_blank n ps (omega arith))

  -- before blank pixels the drawn ones show
  back_blank : (n : ℕ) (fs : List FragmentView) → n ≡ length fs → zip_joined mode (drawn fs) (blank n) ≡ drawn fs
  back_blank zero [] e = refl
  back_blank zero (f ∷ fs) e = absurd (omega arith)
  back_blank (suc n) [] e = absurd (omega arith)
  back_blank (suc n) (f ∷ fs) e = ap (λ l. Some f ∷ l) (back_blank n fs (omega arith))

  -- one stretch of the back is joined
  pub onto_more : (p0 p2 w0 w1 : List Pixel) (rest later alone both ds : List FragmentView) (b : ℕ) → rest ≡ alone ++ (both ++ later) → length alone ≡ b → length both ≡ length ds → w0 ≡ blank b ++ drawn ds ++ w1 → p2 ≡ p0 ++ drawn alone ++ zip_joined mode (drawn both) (drawn ds) → p2 ++ zip_joined mode (drawn later) (take (length later) w1) ≡ p0 ++ zip_joined mode (drawn rest) (take (length rest) w0)
  onto_more p0 p2 w0 w1 rest later alone both ds b r a s w p =
      let next = take (length later) w1 in
      let size : length rest ≡ length (blank b ++ drawn ds) + length later = omega (arith, ap length r, length-append alone (both ++ later), length-append both later, length-append (blank b) (drawn ds), length-replicate {A = Pixel} b None, length-map ds (λ (f : FragmentView). Some f)) in
      let taken : take (length rest) w0 ≡ blank b ++ (drawn ds ++ next) = ap (λ n. take n w0) size ∙ ap (take (length (blank b ++ drawn ds) + length later)) w ∙ take-append-add (blank b ++ drawn ds) w1 (length later) ∙ append_assoc (blank b) (drawn ds) next in
      let front : drawn rest ≡ drawn alone ++ (drawn both ++ drawn later) = ap drawn r ∙ map-append (λ f. Some f) alone (both ++ later) ∙ ap (λ l. drawn alone ++ l) (map-append (λ f. Some f) both later) in
      let ends : length (drawn alone) ≡ length (blank b) = omega (arith, length-map alone (λ (f : FragmentView). Some f), length-replicate {A = Pixel} b None) in
      let pairs : length (drawn both) ≡ length (drawn ds) = omega (arith, length-map both (λ (f : FragmentView). Some f), length-map ds (λ (f : FragmentView). Some f)) in
      let joined_all : zip_joined mode (drawn rest) (take (length rest) w0) ≡ drawn alone ++ (zip_joined mode (drawn both) (drawn ds) ++ zip_joined mode (drawn later) next) = ap (λ l. zip_joined mode l (take (length rest) w0)) front ∙ ap (zip_joined mode (drawn alone ++ (drawn both ++ drawn later))) taken ∙ zip_append (drawn alone) (drawn both ++ drawn later) (blank b) (drawn ds ++ next) ends ∙ rw (back_blank b alone (sym a), zip_append (drawn both) (drawn later) (drawn ds) next pairs) in
      rw (p, joined_all) (simp append_assoc)

  -- one stretch of the front is joined
  pub merge_more : (p0 p2 a0 a1 w0 : List Pixel) (ds : List FragmentView) (b : ℕ) → a0 ≡ blank b ++ drawn ds ++ a1 → b + length ds ≤ length w0 → p2 ≡ p0 ++ take b w0 ++ zip_joined mode (drawn ds) (take (length ds) (drop b w0)) → p2 ++ zip_joined mode a1 (drop (length ds) (drop b w0)) ≡ p0 ++ zip_joined mode a0 w0
  merge_more p0 p2 a0 a1 w0 ds b a h p =
      let w1 = drop b w0 in
      let now = take (length ds) w1 in
      let later = drop (length ds) w1 in
      let parts : take b w0 ++ (now ++ later) ≡ w0 = ap (λ l. take b w0 ++ l) (take-append-drop (length ds) w1) ∙ take-append-drop b w0 in
      let ends : length (blank b) ≡ length (take b w0) = omega (arith, length-replicate {A = Pixel} b None, length-take-le b w0 (omega arith)) in
      let enough : length ds ≤ length w1 = omega (arith, ap length (take-append-drop b w0), length-append (take b w0) w1, length-take-le b w0 (omega arith)) in
      let pairs : length (drawn ds) ≡ length now = omega (arith, length-map ds (λ (f : FragmentView). Some f), length-take-le (length ds) w1 enough) in
      let joined_all : zip_joined mode a0 w0 ≡ take b w0 ++ (zip_joined mode (drawn ds) now ++ zip_joined mode a1 later) = ap (λ l. zip_joined mode l w0) (a ∙ append_assoc (blank b) (drawn ds) a1) ∙ ap (zip_joined mode (blank b ++ (drawn ds ++ a1))) (sym parts) ∙ zip_append (blank b) (drawn ds ++ a1) (take b w0) (now ++ later) ends ∙ rw (front_blank b (take b w0) (sym (length-take-le b w0 (omega arith))), zip_append (drawn ds) a1 now later pairs) in
      rw (p, joined_all) (simp append_assoc)

  -- drawn pixels joined place by place are drawn
  pub joined_drawn : (fs gs : List FragmentView) → zip_joined mode (drawn fs) (drawn gs) ≡ drawn (joined_places mode fs gs)
  joined_drawn [] gs = refl
  joined_drawn (f ∷ fs) [] = refl
  joined_drawn (f ∷ fs) (g ∷ gs) = ap (λ l. Some (joined_fragments mode f g) ∷ l) (joined_drawn fs gs)

-- how many pixels a stretch and what is behind it have
pub passed_length : (b : ℕ) (ds : List FragmentView) (later : List Pixel) → length (blank b ++ drawn ds ++ later) ≡ b + length ds + length later
passed_length b ds later = omega (arith, length-append (blank b ++ drawn ds) later, length-append (blank b) (drawn ds), length-replicate {A = Pixel} b None, length-map ds (λ (f : FragmentView). Some f))

-- what is still to come behind a stretch
pub passed_rest : (w0 w1 : List Pixel) (ds : List FragmentView) (b left more : ℕ) → w0 ≡ blank b ++ drawn ds ++ w1 → left ≡ b + length ds + more → drop more w1 ≡ drop left w0
passed_rest w0 w1 ds b left more w e =
    let size : left ≡ length (blank b ++ drawn ds) + more = omega (arith, length-append (blank b) (drawn ds), length-replicate {A = Pixel} b None, length-map ds (λ (f : FragmentView). Some f)) in
    sym (ap (λ n. drop n w0) size ∙ ap (drop (length (blank b ++ drawn ds) + more)) w ∙ drop-append-add (blank b ++ drawn ds) w1 more)
