-- Pieces put one behind the other.
use Rattle.std.proofs.Common.{◌≡◌, ℕ, ◌+◌, ◌<◌, List, [], ◌∷◌, ◌++◌, length, take, drop, get_or, Result, Ok, Err, sym, ap, ◌∙◌, subst, append_assoc, take-append-drop, drop-cons, add-one, arith}
use Rattle.std.specs.List.{flat_map, range_with_len}
use Rattle.std.proofs.lemmas.List.{take_more, flat_map_more}
use Rattle.std.proofs.lemmas.List.Concat.{flat_map-append}
use Rattle.std.proofs.lemmas.List.FromFn.{get_or-range_with_len, length-range_with_len}
use Rattle.icet_model.specs.Streams.{SinkView}
use Rattle.icet_base.specs.PenText.{Puts}
use Rattle.icet_base.specs.declared.faults.WriteFault.{WriteFault}
use Rattle.icet_base.specs.declared.pen.Pen.{Pen}
use Rattle.icet_base.proofs.GrowingBytes.{puts_then, puts_failed}

module _ {K : Type 0} (told : K → SinkView) where
  -- one piece more, of those that a list makes
  pub pieces_more : {X : Type 0} (a b c : Pen K) (f : X → List ℕ) (xs : List X) (i : ℕ) (x : X) → i < length xs → get_or xs i x ≡ x → Puts told a b (Ok tt) (flat_map f (take i xs)) → Puts told b c (Ok tt) (f x) → Puts told a c (Ok tt) (flat_map f (take (i + 1) xs))
  pieces_more a b c f xs i x l at before more =
      let grown : take i xs ++ x ∷ [] ≡ take (i + 1) xs = ap (λ y. take i xs ++ y ∷ []) (sym at) ∙ sym (take_more xs i x l) in
      subst (Puts told a c (Ok tt)) (flat_map_more f [] (take i xs) x ∙ ap (flat_map f) grown)
      (puts_then told a b c (Ok tt) (flat_map f (take i xs)) (f x) before more)

  -- all pieces up to one that fails, of those that a list makes
  pub pieces_failed : {X : Type 0} (a b c : Pen K) (e : WriteFault) (f : X → List ℕ) (xs : List X) (i : ℕ) (x : X) → i < length xs → get_or xs i x ≡ x → Puts told a b (Ok tt) (flat_map f (take i xs)) → Puts told b c (Err e) (f x) → Puts told a c (Err e) (flat_map f xs)
  pieces_failed a b c e f xs i x l at before failed =
      let cut : take i xs ++ x ∷ drop (i + 1) xs ≡ xs =
      ap (λ y. take i xs ++ y ∷ drop (i + 1) xs) (sym at)
      ∙ ap (λ ys. take i xs ++ ys) (sym (drop-cons xs i x l ∙ ap (λ n. get_or xs i x ∷ drop n xs) (sym (add-one i))))
      ∙ take-append-drop i xs in
      let whole : (flat_map f (take i xs) ++ f x) ++ flat_map f (drop (i + 1) xs) ≡ flat_map f xs =
      append_assoc (flat_map f (take i xs)) (f x) (flat_map f (drop (i + 1) xs)) ∙ sym (flat_map-append f (take i xs) (x ∷ drop (i + 1) xs)) ∙ ap (flat_map f) cut in
      subst (Puts told a c (Err e)) whole
      (puts_failed told a c e (flat_map f (take i xs) ++ f x) (flat_map f (drop (i + 1) xs))
      (puts_then told a b c (Err e) (flat_map f (take i xs)) (f x) before failed))

  -- the same of what each number below n makes
  pub numbers_more : (a b c : Pen K) (f : ℕ → List ℕ) (n i : ℕ) → i < n → Puts told a b (Ok tt) (flat_map f (take i (range_with_len 0 n))) → Puts told b c (Ok tt) (f i) → Puts told a c (Ok tt) (flat_map f (take (i + 1) (range_with_len 0 n)))
  numbers_more a b c f n i l = pieces_more a b c f (range_with_len 0 n) i i (let e = length-range_with_len 0 n in omega (arith, l, e)) (get_or-range_with_len 0 n i i l ∙ (let z : 0 + i ≡ i = omega arith in z))

  pub numbers_failed : (a b c : Pen K) (e : WriteFault) (f : ℕ → List ℕ) (n i : ℕ) → i < n → Puts told a b (Ok tt) (flat_map f (take i (range_with_len 0 n))) → Puts told b c (Err e) (f i) → Puts told a c (Err e) (flat_map f (range_with_len 0 n))
  numbers_failed a b c e f n i l = pieces_failed a b c e f (range_with_len 0 n) i i (let m = length-range_with_len 0 n in omega (arith, l, m)) (get_or-range_with_len 0 n i i l ∙ (let z : 0 + i ≡ i = omega arith in z))
