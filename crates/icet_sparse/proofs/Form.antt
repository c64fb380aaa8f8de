-- The one form of a list of pixels: its runs and its fragments can be read off the list.
use Rattle.std.proofs.Common.{◌≡◌, ℕ, zero, suc, ◌+◌, ◌*◌, ◌<◌, ◌≤◌, ◌^◌, true, false, List, [], ◌∷◌, ◌++◌, length, take, drop, map, replicate, Some, None, refl, sym, ◌∙◌, ap, arith, append_assoc, length-append, length-drop, zero-add, add-zero}
use Rattle.std.specs.List.{All}
use Rattle.std.proofs.lemmas.List.{append-nil, length-replicate, length-take-le, take-append-drop}
use Rattle.std.proofs.lemmas.List.Elements.{All-head, All-tail}
use Rattle.icet_model.specs.Pixel.{Pixel, FragmentView}
use Rattle.icet_sparse.specs.declared.run.Run.{Run}
use Rattle.icet_sparse.specs.Runs.{drawn_in, run_pixels, strip_pixels, run_count, fragments_of, weight_of, IsCanonical, IsStrip}
use Rattle.icet_sparse.proofs.Walking.{run}
use Rattle.icet_sparse.proofs.Growing.{drawn_within}

pub fragments_append : (ps qs : List Pixel) → fragments_of (ps ++ qs) ≡ fragments_of ps ++ fragments_of qs
fragments_append [] qs = refl
fragments_append (None ∷ ps) qs = fragments_append ps qs
fragments_append (Some f ∷ ps) qs = ap (λ l. f ∷ l) (fragments_append ps qs)

pub fragments_blank : (n : ℕ) → fragments_of (replicate n None) ≡ []
fragments_blank zero = refl
fragments_blank (suc n) = fragments_blank n

pub fragments_drawn : (fs : List FragmentView) → fragments_of (map Some fs) ≡ fs
fragments_drawn [] = refl
fragments_drawn (f ∷ fs) = ap (λ l. f ∷ l) (fragments_drawn fs)

no_more : (fs : List FragmentView) → 0 ≡ length fs → [] ≡ fs
no_more [] e = refl
no_more (f ∷ fs) e = absurd (omega arith)

fragments_runs : (rs : List Run) (fs : List FragmentView) → drawn_in rs ≡ length fs → fragments_of (run_pixels rs fs) ≡ fs
fragments_runs [] fs e = no_more fs e
fragments_runs (r ∷ rs) fs e =
    let rest = fragments_runs rs (drop r.drawn fs) (omega (arith, length-drop r.drawn fs)) in
    fragments_append (replicate r.blank None) (map Some (take r.drawn fs) ++ run_pixels rs (drop r.drawn fs)) ∙ rw (fragments_blank r.blank, fragments_append (map Some (take r.drawn fs)) (run_pixels rs (drop r.drawn fs)), fragments_drawn (take r.drawn fs), rest) (take-append-drop r.drawn fs)

-- the fragments are those of the drawn pixels
pub fragments_are : (rs : List Run) (fs : List FragmentView) (behind : ℕ) → drawn_in rs ≡ length fs → fragments_of (strip_pixels rs fs behind) ≡ fs
fragments_are rs fs behind e = fragments_append (run_pixels rs fs) (replicate behind None) ∙ rw (fragments_blank behind, append-nil (fragments_of (run_pixels rs fs))) (fragments_runs rs fs e)

-- the runs of a list behind so many blank pixels and so many drawn ones
abbrev runs_from : ℕ → ℕ → List Pixel → List Run
runs_from b zero [] = []
runs_from b (suc n) [] = run b (suc n) ∷ []
runs_from b zero (None ∷ ps) = runs_from (suc b) zero ps
runs_from b (suc n) (None ∷ ps) = run b (suc n) ∷ runs_from 1 zero ps
runs_from b n (Some f ∷ ps) = runs_from b (suc n) ps

from_blank : (b k : ℕ) (ps : List Pixel) → runs_from b 0 (replicate k None ++ ps) ≡ runs_from (b + k) 0 ps
from_blank b zero ps = ap (λ x. runs_from x 0 ps) (sym (add-zero b))
from_blank b (suc k) ps = let e : suc b + k ≡ b + suc k = omega arith in from_blank (suc b) k ps ∙ ap (λ x. runs_from x 0 ps) e

from_drawn : (b n : ℕ) (fs : List FragmentView) (ps : List Pixel) → runs_from b n (map Some fs ++ ps) ≡ runs_from b (n + length fs) ps
from_drawn b zero [] ps = refl
from_drawn b (suc n) [] ps = let e : suc n ≡ suc n + 0 = omega arith in ap (λ x. runs_from b x ps) e
from_drawn b zero (f ∷ fs) ps = let e : 1 + length fs ≡ 0 + suc (length fs) = omega arith in from_drawn b 1 fs ps ∙ ap (λ x. runs_from b x ps) e
from_drawn b (suc n) (f ∷ fs) ps = let e : suc (suc n) + length fs ≡ suc n + suc (length fs) = omega arith in from_drawn b (suc (suc n)) fs ps ∙ ap (λ x. runs_from b x ps) e

from_none : (b k : ℕ) → runs_from b 0 (replicate k None) ≡ []
from_none b zero = refl
from_none b (suc k) = from_none (suc b) k

-- a drawn pixel ends, and blank ones begin
from_seam : (b n k : ℕ) (ps : List Pixel) → 0 < n → 0 < k → runs_from b n (replicate k None ++ ps) ≡ run b n ∷ runs_from k 0 ps
from_seam b zero k ps h g = absurd (omega arith)
from_seam b (suc n) zero ps h g = absurd (omega arith)
from_seam b (suc n) (suc k) ps h g = let e : 1 + k ≡ suc k = omega arith in ap (λ l. run b (suc n) ∷ l) (from_blank 1 k ps ∙ ap (λ x. runs_from x 0 ps) e)

from_end : (b n k : ℕ) → 0 < n → runs_from b n (replicate k None) ≡ run b n ∷ []
from_end b zero k h = absurd (omega arith)
from_end b (suc n) zero h = refl
from_end b (suc n) (suc k) h = ap (λ l. run b (suc n) ∷ l) (from_none 1 k)

-- one more run
from_run : (r : Run) (rs : List Run) (fs : List FragmentView) (b behind : ℕ) → r.drawn ≤ length fs → runs_from b 0 (map Some (take r.drawn fs) ++ strip_pixels rs (drop r.drawn fs) behind) ≡ runs_from b r.drawn (strip_pixels rs (drop r.drawn fs) behind)
from_run r rs fs b behind h = from_drawn b 0 (take r.drawn fs) (strip_pixels rs (drop r.drawn fs) behind) ∙ ap (λ x. runs_from b x (strip_pixels rs (drop r.drawn fs) behind)) (zero-add (length (take r.drawn fs)) ∙ length-take-le r.drawn fs h)

apart : (r : Run) (rs : List Run) (fs : List FragmentView) (behind : ℕ) → strip_pixels (r ∷ rs) fs behind ≡ replicate r.blank None ++ (map Some (take r.drawn fs) ++ strip_pixels rs (drop r.drawn fs) behind)
apart r rs fs behind = simp append_assoc

-- the runs behind one that is under way
from_runs : (b n : ℕ) (rs : List Run) (fs : List FragmentView) (behind : ℕ) → 0 < n → drawn_in rs ≡ length fs → All (λ r. 0 < r.drawn) rs → All (λ r. 0 < r.blank) rs → runs_from b n (strip_pixels rs fs behind) ≡ run b n ∷ rs
from_runs b n [] fs behind h e d a = from_end b n behind h
from_runs b n (r ∷ rs) fs behind h e d a =
    let later = from_runs r.blank r.drawn rs (drop r.drawn fs) behind (All-head (λ r. 0 < r.drawn) r rs d) (omega (arith, length-drop r.drawn fs)) (All-tail (λ r. 0 < r.drawn) r rs d) (All-tail (λ r. 0 < r.blank) r rs a) in
    ap (runs_from b n) (apart r rs fs behind) ∙ from_seam b n r.blank (map Some (take r.drawn fs) ++ strip_pixels rs (drop r.drawn fs) behind) h (All-head (λ r. 0 < r.blank) r rs a) ∙ ap (λ l. run b n ∷ l) (from_run r rs fs r.blank behind (omega arith) ∙ later)

-- the runs are those that the list has
pub runs_are : (rs : List Run) (fs : List FragmentView) (behind : ℕ) → IsCanonical rs fs → runs_from 0 0 (strip_pixels rs fs behind) ≡ rs
runs_are [] fs behind c = from_none 0 behind
runs_are (r ∷ rs) fs behind c =
    let e : drawn_in (r ∷ rs) ≡ length fs = c.counted in
    let later = from_runs r.blank r.drawn rs (drop r.drawn fs) behind (All-head (λ r. 0 < r.drawn) r rs c.drawn) (omega (arith, length-drop r.drawn fs)) (All-tail (λ r. 0 < r.drawn) r rs c.drawn) c.apart in
    ap (runs_from 0 0) (apart r rs fs behind) ∙ from_blank 0 r.blank (map Some (take r.drawn fs) ++ strip_pixels rs (drop r.drawn fs) behind) ∙ ap (λ x. runs_from x 0 (map Some (take r.drawn fs) ++ strip_pixels rs (drop r.drawn fs) behind)) (zero-add r.blank) ∙ from_run r rs fs r.blank behind (omega arith) ∙ later

counts : (ps : List Pixel) (b n : ℕ) → (length (runs_from b zero ps) ≡ run_count false ps) × (length (runs_from b (suc n) ps) ≡ suc (run_count true ps))
counts [] b n = (refl, refl)
counts (None ∷ ps) b n = ((counts ps (suc b) n).0, ap suc (counts ps 1 n).0)
counts (Some f ∷ ps) b n = ((counts ps b 0).1, (counts ps b (suc n)).1)

module _ (rs : List Run) (fs : List FragmentView) (behind : ℕ) where
  pub weight_is : IsCanonical rs fs → 8 * length rs + 8 * length fs ≡ weight_of (strip_pixels rs fs behind)
  weight_is c =
      let runs : length rs ≡ run_count false (strip_pixels rs fs behind) = ap length (sym (runs_are rs fs behind c)) ∙ (counts (strip_pixels rs fs behind) 0 0).0 in
      let drawn : length fs ≡ length (fragments_of (strip_pixels rs fs behind)) = ap length (sym (fragments_are rs fs behind c.counted)) in
      omega arith

  pub fragments_within : IsStrip rs fs behind → length fs < 2 ^ 32
  fragments_within s = omega (arith, s.canonical.counted, drawn_within rs fs s.canonical.counted, length-append (run_pixels rs fs) (replicate {A = Pixel} behind None), s.short)

runs_within : (rs : List Run) → All (λ r. 0 < r.drawn) rs → length rs ≤ drawn_in rs
runs_within [] d = omega arith
runs_within (r ∷ rs) d =
    let h = All-head (λ r. 0 < r.drawn) r rs d in
    let t = runs_within rs (All-tail (λ r. 0 < r.drawn) r rs d) in
    omega arith

pub few_runs : (rs : List Run) (fs : List FragmentView) (behind : ℕ) → IsStrip rs fs behind → length rs < 2 ^ 32
few_runs rs fs behind s = omega (arith, runs_within rs s.canonical.drawn, s.canonical.counted, fragments_within rs fs behind s)

-- two strips with the same pixels are kept alike
module _ (rs ss : List Run) (fs gs : List FragmentView) (b d : ℕ) (s : IsStrip rs fs b) (t : IsStrip ss gs d) (e : strip_pixels rs fs b ≡ strip_pixels ss gs d) where
  pub same_runs : rs ≡ ss
  same_runs = sym (runs_are rs fs b s.canonical) ∙ ap (runs_from 0 0) e ∙ runs_are ss gs d t.canonical

  pub same_fragments : fs ≡ gs
  same_fragments = sym (fragments_are rs fs b s.canonical.counted) ∙ ap fragments_of e ∙ fragments_are ss gs d t.canonical.counted

  pub same_behind : b ≡ d
  same_behind =
      let front : length (run_pixels rs fs) ≡ length (run_pixels ss gs) = rw (same_runs, same_fragments) in
      omega (arith, ap length e, length-append (run_pixels rs fs) (replicate {A = Pixel} b None), length-append (run_pixels ss gs) (replicate {A = Pixel} d None), length-replicate {A = Pixel} b None, length-replicate {A = Pixel} d None)
