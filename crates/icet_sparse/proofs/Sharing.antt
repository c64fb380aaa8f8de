-- The runs and the fragments of a part of a list of pixels.
use Rattle.std.proofs.Common.{◌≡◌, ℕ, zero, suc, ◌+◌, ◌-◌, ◌<◌, ◌≤◌, List, [], ◌∷◌, ◌++◌, length, take, drop, map, replicate, Some, None, refl, sym, ◌∙◌, ap, subst, arith, append_assoc, length-append, lit<}
use Rattle.std.proofs.lemmas.List.{append-nil, replicate-append-replicate, drop-drop, drop-take, take-append-drop, take-take, length-replicate}
use Rattle.std.proofs.Math.Seq.{take-add, take-append-add, drop-append-add}
use Rattle.icet_model.specs.Pixel.{Pixel, FragmentView}
use Rattle.icet_sparse.specs.declared.run.Run.{Run}
use Rattle.icet_sparse.specs.Runs.{drawn_in, run_pixels, strip_pixels, lengthened, fragments_of, IsCanonical}
use Rattle.icet_sparse.specs.Shared.{runs_with, behind_with, AreRunsOf}
use Rattle.icet_sparse.proofs.Form.{fragments_append, fragments_blank, fragments_drawn}
use Rattle.icet_sparse.proofs.Growing.{canonical_lengthened, drawn_within, pixels_lengthened}

more_fragments : (ps : List Pixel) (blank : ℕ) (gs : List FragmentView) → fragments_of (ps ++ (replicate blank None ++ map Some gs)) ≡ fragments_of ps ++ gs
more_fragments ps blank gs = fragments_append ps (replicate blank None ++ map Some gs) ∙ ap (λ l. fragments_of ps ++ l) (fragments_append (replicate blank None) (map Some gs) ∙ rw (fragments_blank blank) (fragments_drawn gs))

more_blank : (rs : List Run) (fs : List FragmentView) (b blank : ℕ) → strip_pixels rs fs (b + blank) ≡ strip_pixels rs fs b ++ replicate blank None
more_blank rs fs b blank = ap (λ l. run_pixels rs fs ++ l) (sym (replicate-append-replicate {A = Pixel} b blank None)) ∙ sym (append_assoc (run_pixels rs fs) (replicate b None) (replicate blank None))

-- the runs of a list that got longer
pub runs_grow : (rs : List Run) (b blank n : ℕ) (ps : List Pixel) (gs : List FragmentView) → n ≡ length gs → AreRunsOf rs b ps → AreRunsOf (runs_with rs (b + blank) n) (behind_with (b + blank) n) (ps ++ (replicate blank None ++ map Some gs))
runs_grow rs b blank zero ps [] e h =
    let same : fragments_of (ps ++ (replicate blank None ++ [])) ≡ fragments_of ps = more_fragments ps blank [] ∙ append-nil (fragments_of ps) in
    record {
      pixels = ap (λ fs. strip_pixels rs fs (b + blank)) same ∙ more_blank rs (fragments_of ps) b blank ∙ ap (λ l. l ++ replicate blank None) h.pixels ∙ ap (λ l. ps ++ l) (sym (append-nil (replicate {A = Pixel} blank None)));
      canonical = subst (IsCanonical rs) (sym same) h.canonical;
    }
runs_grow rs b blank zero ps (g ∷ gs) e h = absurd (omega arith)
runs_grow rs b blank (suc n) ps gs e h = record {
  pixels = ap (λ fs. strip_pixels (lengthened rs (b + blank) (suc n)) fs 0) (more_fragments ps blank gs) ∙ append-nil (run_pixels (lengthened rs (b + blank) (suc n)) (fragments_of ps ++ gs)) ∙ pixels_lengthened rs (fragments_of ps) gs (b + blank) (suc n) h.canonical.counted e ∙ ap (λ l. l ++ map Some gs) (more_blank rs (fragments_of ps) b blank ∙ ap (λ l. l ++ replicate blank None) h.pixels) ∙ append_assoc ps (replicate blank None) (map Some gs);
  canonical = subst (IsCanonical (lengthened rs (b + blank) (suc n))) (sym (more_fragments ps blank gs)) (canonical_lengthened rs (fragments_of ps) gs (b + blank) (suc n) h.canonical (omega arith) e);
}

-- no list has more drawn pixels, or more blank ones at its end, than pixels
module _ (rs : List Run) (b : ℕ) (ps : List Pixel) (h : AreRunsOf rs b ps) where
  sum : length (run_pixels rs (fragments_of ps)) + b ≡ length ps
  sum = omega (arith, length-append (run_pixels rs (fragments_of ps)) (replicate {A = Pixel} b None), length-replicate {A = Pixel} b None, ap length h.pixels)

  pub blank_behind : b ≤ length ps
  blank_behind = omega (arith, sum)

  pub drawn_of : drawn_in rs ≤ length ps
  drawn_of = omega (arith, sum, drawn_within rs (fragments_of ps) h.canonical.counted)

-- what was walked over so far, and what is still to come
module _ (whole old new passed : List Pixel) (k m : ℕ) (at : old ≡ drop k whole) (e : old ≡ passed ++ new) (count : m ≡ length passed) where
  exactly : m ≡ length passed + 0
  exactly = omega (arith, count)

  pub more_walked : take (k + m) whole ≡ take k whole ++ passed
  more_walked = take-add k m whole ∙ ap (λ l. take k whole ++ l) (ap (take m) (sym at ∙ e) ∙ ap (λ n. take n (passed ++ new)) exactly ∙ take-append-add passed new 0 ∙ append-nil passed)

  pub less_to_come : new ≡ drop (k + m) whole
  less_to_come = sym (sym (drop-drop m k whole) ∙ ap (drop m) (sym at ∙ e) ∙ ap (λ n. drop n (passed ++ new)) exactly ∙ drop-append-add passed new 0)

-- the fragments of a part stand in a row among those of the whole
module _ {A : Type 0} (xs ys zs : List A) (e : xs ≡ ys ++ zs) where
  size : length xs - length zs ≡ length ys
  size = omega (arith, ap length e, length-append ys zs)

  exactly_these : length ys ≡ length ys + 0
  exactly_these = omega arith

  last_of : drop (length xs - length zs) xs ≡ zs
  last_of = ap (λ n. drop n xs) (size ∙ exactly_these) ∙ ap (drop (length ys + 0)) e ∙ drop-append-add ys zs 0

  first_of : take (length xs - length zs) xs ≡ ys
  first_of = ap (λ n. take n xs) (size ∙ exactly_these) ∙ ap (take (length ys + 0)) e ∙ take-append-add ys zs 0 ∙ append-nil ys

fragments_cut : (n : ℕ) (ps : List Pixel) → fragments_of ps ≡ fragments_of (take n ps) ++ fragments_of (drop n ps)
fragments_cut n ps = ap fragments_of (sym (take-append-drop n ps)) ∙ fragments_append (take n ps) (drop n ps)

pub fewer_behind : (n : ℕ) (ps : List Pixel) → length (fragments_of (drop n ps)) ≤ length (fragments_of ps)
fewer_behind n ps = omega (arith, ap length (fragments_cut n ps), length-append (fragments_of (take n ps)) (fragments_of (drop n ps)))

part_fragments : (skip count : ℕ) (ps : List Pixel) → take (length (fragments_of (drop skip ps)) - length (fragments_of (drop count (drop skip ps)))) (drop (length (fragments_of ps) - length (fragments_of (drop skip ps))) (fragments_of ps)) ≡ fragments_of (take count (drop skip ps))
part_fragments skip count ps =
    let rest = drop skip ps in
    ap (take (length (fragments_of rest) - length (fragments_of (drop count rest)))) (last_of (fragments_of ps) (fragments_of (take skip ps)) (fragments_of rest) (fragments_cut skip ps)) ∙ first_of (fragments_of rest) (fragments_of (take count rest)) (fragments_of (drop count rest)) (fragments_cut count rest)

-- the fragments of a part, by how many drawn pixels are to come before it, from it on and behind it
pub shared_part : (fs : List FragmentView) (ps : List Pixel) (skip count all here left : ℕ) → fragments_of ps ≡ fs → all ≡ length (fragments_of ps) → here ≡ length (fragments_of (drop skip ps)) → left ≡ length (fragments_of (drop count (drop skip ps))) → take (here - left) (drop (all - here) fs) ≡ fragments_of (take count (drop skip ps))
shared_part fs ps skip count all here left same a h l = rw (← same, a, h, l) (part_fragments skip count ps)

-- a part of a part
pub take_of_part : {A : Type 0} (xs : List A) (from size skip count : ℕ) → skip + count ≤ size → take count (drop (from + skip) xs) ≡ take count (drop skip (take size (drop from xs)))
take_of_part xs from size skip count h =
    let rest = drop from xs in
    let whole : size ≡ skip + (size - skip) = omega arith in
    let part : drop skip (take size rest) ≡ take (size - skip) (drop skip rest) = ap (λ n. drop skip (take n rest)) whole ∙ drop-take skip (size - skip) rest in
    ap (take count) (sym (drop-drop skip from xs)) ∙ sym (ap (take count) part ∙ take-take count (size - skip) (drop skip rest) (omega arith))
