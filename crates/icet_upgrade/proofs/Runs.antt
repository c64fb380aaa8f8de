-- Maximal runs of fragments: where they begin, and that a blank pixel keeps those before it and those behind it apart.
use Rattle.std.proofs.Common.{◌≡◌, ◌≢◌, ℕ, zero, suc, ◌+◌, ◌<◌, ◌≤◌, Bool, true, false, cond, List, [], ◌∷◌, ◌++◌, length, map, replicate, Some, None, refl, sym, ap, ◌∙◌, subst, arith, append-nil, ne_eqb}
use Rattle.std.specs.Prelude.{◌==◌, All, AllPairs}
use Rattle.std.proofs.lemmas.Bool.Decides.{nat_tests}
use Rattle.std.proofs.lemmas.List.Elements.{All-nil, All-cons, All-head, All-tail}
use Rattle.std.proofs.lemmas.List.Kept.{AllPairs-cons}
use Rattle.icet_model.specs.Pixel.{FragmentView, Pixel}
use Rattle.icet_scene_model.specs.Ready.{Stretch, put_before, stretches}

pub by_test : (b : Bool) (P : List Stretch → Type 0) (xs ys : List Stretch) → (b ≡ true → P xs) → (b ≡ false → P ys) → P (cond b xs ys)
by_test true P xs ys p q = p refl
by_test false P xs ys p q = q refl

pub eq_true : (m n : ℕ) → (m == n) ≡ true → m ≡ n
eq_true m n e = grind (arith, nat_tests, e)

pub eq_false : (m n : ℕ) → (m == n) ≡ false → m ≢ n
eq_false m n e = λ q. absurd (grind (arith, nat_tests, e, q))

-- the stretches begin in this column or behind it
abbrev pub From : ℕ → List Stretch → Type 0
From c ss = All (λ s. c ≤ s.column) ss

pub from_later : (c d : ℕ) (ss : List Stretch) → d ≤ c → From c ss → From d ss
from_later c d ss l h = λ k x m. let e = h k x m in omega (arith, l, e)

put-from : (c : ℕ) (f : FragmentView) (ss : List Stretch) → From (c + 1) ss → From c (put_before c f ss)
put-from c f [] h = All-cons (λ (s : Stretch). c ≤ s.column) (record { column = c; paints = f ∷ [] }) [] (omega arith) (All-nil (λ (s : Stretch). c ≤ s.column))
put-from c f (s ∷ ss) h =
    by_test (s.column == c + 1) (From c) (record { column = c; paints = f ∷ s.paints } ∷ ss) (record { column = c; paints = f ∷ [] } ∷ s ∷ ss)
    (λ e. All-cons (λ (t : Stretch). c ≤ t.column) (record { column = c; paints = f ∷ s.paints }) ss (omega arith) (from_later (c + 1) c ss (omega arith) (All-tail (λ (t : Stretch). c + 1 ≤ t.column) s ss h)))
    (λ e. All-cons (λ (t : Stretch). c ≤ t.column) (record { column = c; paints = f ∷ [] }) (s ∷ ss) (omega arith) (from_later (c + 1) c (s ∷ ss) (omega arith) h))

pub starts : (c : ℕ) (ps : List Pixel) → From c (stretches c ps)
starts c [] = All-nil (λ (s : Stretch). c ≤ s.column)
starts c (None ∷ ps) = from_later (c + 1) c (stretches (c + 1) ps) (omega arith) (starts (c + 1) ps)
starts c (Some f ∷ ps) = put-from c f (stretches (c + 1) ps) (starts (c + 1) ps)

-- ---- a blank pixel keeps runs apart
cond-append : (b : Bool) (s t : Stretch) (xs ys later : List Stretch) → cond b (s ∷ (xs ++ later)) (t ∷ (ys ++ later)) ≡ cond b (s ∷ xs) (t ∷ ys) ++ later
cond-append true s t xs ys later = refl
cond-append false s t xs ys later = refl

put-alone : (c : ℕ) (f : FragmentView) (later : List Stretch) → From (c + 1 + 1) later → put_before c f later ≡ record { column = c; paints = f ∷ [] } ∷ later
put-alone c f [] h = refl
put-alone c f (s ∷ ss) h =
    let far = All-head (λ (t : Stretch). c + 1 + 1 ≤ t.column) s ss h in
    let ne : s.column ≢ c + 1 = (λ e. absurd (omega (arith, far, e))) in
    ap (λ b. cond b (record { column = c; paints = f ∷ s.paints } ∷ ss) (record { column = c; paints = f ∷ [] } ∷ s ∷ ss)) (ne_eqb s.column (c + 1) ne)

put-append : (c : ℕ) (f : FragmentView) (ss later : List Stretch) → From (c + 1 + 1) later → put_before c f (ss ++ later) ≡ put_before c f ss ++ later
put-append c f [] later h = put-alone c f later h
put-append c f (s ∷ ss) later h = cond-append (s.column == c + 1) (record { column = c; paints = f ∷ s.paints }) (record { column = c; paints = f ∷ [] }) ss (s ∷ ss) later

pub apart : (c : ℕ) (ps qs : List Pixel) → stretches c (ps ++ None ∷ qs) ≡ stretches c ps ++ stretches (c + length ps + 1) qs
apart c [] qs = ap (λ n. stretches n qs) (let e : c + 1 ≡ c + 0 + 1 = omega arith in e)
apart c (None ∷ ps) qs = apart (c + 1) ps qs ∙ ap (λ n. stretches (c + 1) ps ++ stretches n qs) (let e : c + 1 + length ps + 1 ≡ c + suc (length ps) + 1 = omega arith in e)
apart c (Some f ∷ ps) qs =
    let n = c + 1 + length ps + 1 in
    let far : From (c + 1 + 1) (stretches n qs) = from_later n (c + 1 + 1) (stretches n qs) (omega arith) (starts n qs) in
    ap (put_before c f) (apart (c + 1) ps qs)
    ∙ put-append c f (stretches (c + 1) ps) (stretches n qs) far
    ∙ ap (λ m. put_before c f (stretches (c + 1) ps) ++ stretches m qs) (let e : c + 1 + length ps + 1 ≡ c + suc (length ps) + 1 = omega arith in e)

pub blank_first : (n c : ℕ) (ps : List Pixel) → stretches c (replicate n None ++ ps) ≡ stretches (c + n) ps
blank_first zero c ps = ap (λ m. stretches m ps) (let e : c ≡ c + 0 = omega arith in e)
blank_first (suc n) c ps = blank_first n (c + 1) ps ∙ ap (λ m. stretches m ps) (let e : c + 1 + n ≡ c + suc n = omega arith in e)

pub blank_only : (n c : ℕ) → stretches c (replicate n None) ≡ []
blank_only zero c = refl
blank_only (suc n) c = blank_only n (c + 1)

pub blank_last : (n c : ℕ) (ps : List Pixel) → stretches c (ps ++ replicate n None) ≡ stretches c ps
blank_last zero c ps = ap (stretches c) (append-nil ps)
blank_last (suc n) c ps =
    apart c ps (replicate n None)
    ∙ ap (λ ss. stretches c ps ++ ss) (blank_only n (c + length ps + 1))
    ∙ append-nil (stretches c ps)

-- ---- runs are maximal
abbrev pub IsBefore : Stretch → Stretch → Type 0
IsBefore one later = one.column + length one.paints < later.column

later_pairs : (s : Stretch) (ss : List Stretch) → AllPairs IsBefore (s ∷ ss) → AllPairs IsBefore ss
later_pairs s ss h = λ i j d l m. h (suc i) (suc j) d (omega (arith, l)) (omega (arith, m))

first_pairs : (s : Stretch) (ss : List Stretch) → AllPairs IsBefore (s ∷ ss) → All (IsBefore s) ss
first_pairs s ss h = λ k d l. h 0 (suc k) d (omega arith) (omega (arith, l))

put-before : (c : ℕ) (f : FragmentView) (ss : List Stretch) → From (c + 1) ss → AllPairs IsBefore ss → AllPairs IsBefore (put_before c f ss)
put-before c f [] h p = AllPairs-cons IsBefore (record { column = c; paints = f ∷ [] }) [] (All-nil (IsBefore (record { column = c; paints = f ∷ [] }))) p
put-before c f (s ∷ ss) h p =
    let near = All-head (λ (t : Stretch). c + 1 ≤ t.column) s ss h in
    let first = first_pairs s ss p in
    by_test (s.column == c + 1) (AllPairs IsBefore) (record { column = c; paints = f ∷ s.paints } ∷ ss) (record { column = c; paints = f ∷ [] } ∷ s ∷ ss)
    (λ e. AllPairs-cons IsBefore (record { column = c; paints = f ∷ s.paints }) ss
    (λ k d l. let b = first k d l in let q = eq_true s.column (c + 1) e in omega (arith, b, q)) (later_pairs s ss p))
    (λ e. AllPairs-cons IsBefore (record { column = c; paints = f ∷ [] }) (s ∷ ss)
    (All-cons (IsBefore (record { column = c; paints = f ∷ [] })) s ss (let q = eq_false s.column (c + 1) e in omega (arith, q, near))
    (λ k d l. let b = first k d l in omega (arith, b, near))) p)

pub maximal : (c : ℕ) (ps : List Pixel) → AllPairs IsBefore (stretches c ps)
maximal c [] = λ i j d l m. absurd (omega (arith, m))
maximal c (None ∷ ps) = maximal (c + 1) ps
maximal c (Some f ∷ ps) = put-before c f (stretches (c + 1) ps) (starts (c + 1) ps) (maximal (c + 1) ps)
