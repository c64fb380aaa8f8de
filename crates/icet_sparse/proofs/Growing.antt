-- Runs that grow at their end.
use Rattle.std.proofs.Common.{◌≡◌, ℕ, zero, suc, ◌+◌, ◌<◌, ◌≤◌, ◌^◌, List, [], ◌∷◌, ◌++◌, length, take, drop, set, get_or, map, replicate, Some, None, refl, ◌∙◌, ap, arith, append_assoc, length-append, length-drop}
use Rattle.std.specs.List.{All}
use Rattle.std.proofs.lemmas.List.{append-nil, map-append, take-append-le, drop-append-le, length-map, length-take-le}
use Rattle.std.proofs.lemmas.List.Elements.{All-nil, All-cons, All-head, All-tail}
use Rattle.std.proofs.Math.Seq.{take-length, drop-length}
use Rattle.icet_model.specs.Pixel.{Pixel, FragmentView}
use Rattle.icet_sparse.specs.declared.run.Run.{Run}
use Rattle.icet_sparse.specs.Runs.{drawn_in, run_pixels, strip_pixels, lengthened, IsCanonical, IsStrip}

abbrev run : ℕ → ℕ → Run
run b n = record { blank = b; drawn = n }

pub drawn_le : (rs : List Run) (i : ℕ) (d : Run) → i < length rs → (get_or rs i d).drawn ≤ drawn_in rs
drawn_le [] i d h = absurd (omega arith)
drawn_le (r ∷ rs) zero d h = omega arith
drawn_le (r ∷ rs) (suc i) d h = let k = drawn_le rs i d (omega arith) in omega arith

-- the last run gets longer
pub last_longer : (rs : List Run) (x : Run) (n last : ℕ) → suc last ≡ length rs → x ≡ get_or rs last x → set rs last (run x.blank (x.drawn + n)) ≡ lengthened rs 0 n
last_longer [] x n last h e = absurd (omega arith)
last_longer (r ∷ []) x n zero h e = ap (λ (y : Run). run y.blank (y.drawn + n) ∷ []) e
last_longer (r ∷ []) x n (suc k) h e = absurd (omega arith)
last_longer (r ∷ s ∷ rs) x n zero h e = absurd (omega arith)
last_longer (r ∷ s ∷ rs) x n (suc k) h e = ap (λ l. r ∷ l) (last_longer (s ∷ rs) x n k (omega arith) e)

-- there is a first run
pub first_run : (rs : List Run) (b n : ℕ) → length rs ≡ 0 → rs ++ run b n ∷ [] ≡ lengthened rs b n
first_run [] b n h = refl
first_run (r ∷ rs) b n h = absurd (omega arith)

-- one more run, behind blank pixels
pub next_run : (rs : List Run) (b n : ℕ) → 0 < b → rs ++ run b n ∷ [] ≡ lengthened rs b n
next_run [] b n h = refl
next_run (r ∷ []) zero n h = absurd (omega arith)
next_run (r ∷ []) (suc b) n h = refl
next_run (r ∷ s ∷ rs) b n h = ap (λ l. r ∷ l) (next_run (s ∷ rs) b n h)

pub drawn_lengthened : (rs : List Run) (b n : ℕ) → drawn_in (lengthened rs b n) ≡ drawn_in rs + n
drawn_lengthened [] b n = omega arith
drawn_lengthened (r ∷ []) zero n = omega arith
drawn_lengthened (r ∷ []) (suc b) n = omega arith
drawn_lengthened (r ∷ s ∷ rs) b n = let k = drawn_lengthened (s ∷ rs) b n in omega arith

each_drawn : (rs : List Run) (b n : ℕ) → 0 < n → All (λ r. 0 < r.drawn) rs → All (λ r. 0 < r.drawn) (lengthened rs b n)
each_drawn [] b n h a = All-cons (λ r. 0 < r.drawn) (run b n) [] h a
each_drawn (r ∷ []) zero n h a = All-cons (λ r. 0 < r.drawn) (run r.blank (r.drawn + n)) [] (omega arith) (All-nil (λ r. 0 < r.drawn))
each_drawn (r ∷ []) (suc b) n h a = All-cons (λ r. 0 < r.drawn) r (run (suc b) n ∷ []) (All-head (λ r. 0 < r.drawn) r [] a) (All-cons (λ r. 0 < r.drawn) (run (suc b) n) [] h (All-nil (λ r. 0 < r.drawn)))
each_drawn (r ∷ s ∷ rs) b n h a = All-cons (λ r. 0 < r.drawn) r (lengthened (s ∷ rs) b n) (All-head (λ r. 0 < r.drawn) r (s ∷ rs) a) (each_drawn (s ∷ rs) b n h (All-tail (λ r. 0 < r.drawn) r (s ∷ rs) a))

all_apart : (r : Run) (rs : List Run) (b n : ℕ) → All (λ x. 0 < x.blank) (r ∷ rs) → All (λ x. 0 < x.blank) (lengthened (r ∷ rs) b n)
all_apart r [] zero n a = All-cons (λ x. 0 < x.blank) (run r.blank (r.drawn + n)) [] (All-head (λ x. 0 < x.blank) r [] a) (All-nil (λ x. 0 < x.blank))
all_apart r [] (suc b) n a = All-cons (λ x. 0 < x.blank) r (run (suc b) n ∷ []) (All-head (λ x. 0 < x.blank) r [] a) (All-cons (λ x. 0 < x.blank) (run (suc b) n) [] (omega arith) (All-nil (λ x. 0 < x.blank)))
all_apart r (s ∷ rs) b n a = All-cons (λ x. 0 < x.blank) r (lengthened (s ∷ rs) b n) (All-head (λ x. 0 < x.blank) r (s ∷ rs) a) (all_apart s rs b n (All-tail (λ x. 0 < x.blank) r (s ∷ rs) a))

apart_lengthened : (rs : List Run) (b n : ℕ) → All (λ r. 0 < r.blank) (drop 1 rs) → All (λ r. 0 < r.blank) (drop 1 (lengthened rs b n))
apart_lengthened [] b n a = All-nil (λ x. 0 < x.blank)
apart_lengthened (r ∷ []) zero n a = All-nil (λ x. 0 < x.blank)
apart_lengthened (r ∷ []) (suc b) n a = All-cons (λ x. 0 < x.blank) (run (suc b) n) [] (omega arith) (All-nil (λ x. 0 < x.blank))
apart_lengthened (r ∷ s ∷ rs) b n a = all_apart s rs b n a

pub canonical_lengthened : (rs : List Run) (fs gs : List FragmentView) (b n : ℕ) → IsCanonical rs fs → 0 < n → n ≡ length gs → IsCanonical (lengthened rs b n) (fs ++ gs)
canonical_lengthened rs fs gs b n c h e = record {
  counted = omega (arith, drawn_lengthened rs b n, length-append fs gs, c.counted);
  drawn = each_drawn rs b n h c.drawn;
  apart = apart_lengthened rs b n c.apart;
}

no_more : (fs : List FragmentView) → 0 ≡ length fs → fs ≡ []
no_more [] e = refl
no_more (f ∷ fs) e = absurd (omega arith)

take_all : (n : ℕ) (fs : List FragmentView) → n ≡ length fs → take n fs ≡ fs
take_all n fs e = ap (λ k. take k fs) e ∙ take-length fs

drop_none : (n : ℕ) (fs gs : List FragmentView) → n ≡ length fs → drop n (fs ++ gs) ≡ gs
drop_none n fs gs e = drop-append-le n fs gs (omega arith) ∙ ap (λ l. l ++ gs) (ap (λ k. drop k fs) e ∙ drop-length fs)

pub pixels_lengthened : (rs : List Run) (fs gs : List FragmentView) (b n : ℕ) → drawn_in rs ≡ length fs → n ≡ length gs → run_pixels (lengthened rs b n) (fs ++ gs) ≡ strip_pixels rs fs b ++ map Some gs
pixels_lengthened [] fs gs b n c e =
    let none : fs ≡ [] = no_more fs c in
    rw (none, take_all n gs e) (ap (λ l. replicate b None ++ l) (append-nil (map Some gs)))
pixels_lengthened (r ∷ []) fs gs zero n c e =
    let all : take r.drawn fs ≡ fs = take_all r.drawn fs (omega arith) in
    let both : take (r.drawn + n) (fs ++ gs) ≡ fs ++ gs = take_all (r.drawn + n) (fs ++ gs) (omega (arith, length-append fs gs)) in
    rw (all, both, map-append) (simp (append-nil, append_assoc))
pixels_lengthened (r ∷ []) fs gs (suc b) n c e =
    let all : take r.drawn fs ≡ fs = take_all r.drawn fs (omega arith) in
    let front : take r.drawn (fs ++ gs) ≡ fs = take-append-le r.drawn fs gs (omega arith) ∙ all in
    let rest : drop r.drawn (fs ++ gs) ≡ gs = drop_none r.drawn fs gs (omega arith) in
    rw (all, front, rest, take_all n gs e) (simp (append-nil, append_assoc))
pixels_lengthened (r ∷ s ∷ rs) fs gs b n c e =
    let front : take r.drawn (fs ++ gs) ≡ take r.drawn fs = take-append-le r.drawn fs gs (omega arith) in
    let rest : drop r.drawn (fs ++ gs) ≡ drop r.drawn fs ++ gs = drop-append-le r.drawn fs gs (omega arith) in
    rw (front, rest, pixels_lengthened (s ∷ rs) (drop r.drawn fs) gs b n (omega (arith, length-drop r.drawn fs)) e) (simp append_assoc)

-- no more pixels are drawn than there are
pub drawn_within : (rs : List Run) (fs : List FragmentView) → drawn_in rs ≡ length fs → drawn_in rs ≤ length (run_pixels rs fs)
drawn_within [] fs e = omega arith
drawn_within (r ∷ rs) fs e =
    let rest = drawn_within rs (drop r.drawn fs) (omega (arith, length-drop r.drawn fs)) in
    let front = length-append (map Some (take r.drawn fs)) (run_pixels rs (drop r.drawn fs)) in
    let these = length-map (take r.drawn fs) (λ f. Some f) ∙ length-take-le r.drawn fs (omega arith) in
    omega (arith, length-append (replicate {A = Pixel} r.blank None) (map Some (take r.drawn fs) ++ run_pixels rs (drop r.drawn fs)))

module _ (rs rs0 rs1 : List Run) (fs fs1 gs : List FragmentView) (b n : ℕ) where
  -- the pixels of a strip that grew by drawn ones
  pub grown_pixels : IsStrip rs fs b → rs0 ≡ rs → rs1 ≡ lengthened rs0 b n → fs1 ≡ fs ++ gs → n ≡ length gs → strip_pixels rs1 fs1 0 ≡ strip_pixels rs fs b ++ map Some gs
  grown_pixels s e f g k = rw (f, e, g) (append-nil (run_pixels (lengthened rs b n) (fs ++ gs)) ∙ pixels_lengthened rs fs gs b n s.canonical.counted k)

  -- it is a strip again
  pub grown_strip : IsStrip rs fs b → rs0 ≡ rs → rs1 ≡ lengthened rs0 b n → fs1 ≡ fs ++ gs → n ≡ length gs → 0 < n → length (strip_pixels rs fs b) + n < 2 ^ 32 → IsStrip rs1 fs1 0
  grown_strip s e f g k h short = record {
    canonical = rw (f, e, g) (canonical_lengthened rs fs gs b n s.canonical h k);
    short = omega (arith, ap length (grown_pixels s e f g k), length-append (strip_pixels rs fs b) (map Some gs), length-map gs (λ f. Some f));
  }

-- so many drawn pixels have room
pub drawn_room : (rs rs0 : List Run) (fs : List FragmentView) (b n : ℕ) → IsStrip rs fs b → rs0 ≡ rs → length (strip_pixels rs fs b) + n < 2 ^ 32 → drawn_in rs0 + n < 2 ^ 32
drawn_room rs rs0 fs b n s e h = omega (arith, drawn_within rs fs s.canonical.counted, length-append (run_pixels rs fs) (replicate {A = Pixel} b None), ap drawn_in e)
