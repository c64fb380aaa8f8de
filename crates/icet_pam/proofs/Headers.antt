-- What a header begins with is read from it, and what is read is a header.
use Rattle.std.proofs.Common.{◌≡◌, ℕ, ◌<◌, ◌≤◌, ◌^◌, Bool, true, false, cond, List, [], ◌∷◌, ◌++◌, length, take, drop, Some, None, refl, sym, ap, ◌∙◌, subst, arith, append_assoc, take-append-drop, length-append}
use Rattle.std.specs.Prelude.{◌&&◌, ◌==◌, nat_eq, nat_le, nat_lt, Option, option_map, codes, decimal}
use Rattle.std.specs.Cmp.Lexicographic.{pointwise, bytes_decides}
use Rattle.std.specs.List.{list_all, position, position_or_len}
use Rattle.std.specs.Option.{option_and_then}
use Rattle.std.proofs.Math.Seq.{take-append_seam, drop-append_seam}
use Rattle.std.proofs.lemmas.Bool.{ne_eqb}
use Rattle.std.proofs.lemmas.Bool.Decides.{nat_tests}
use Rattle.icet_model.specs.declared.limits.TheConstants.{MAX_SIDE}
use Rattle.icet_text.specs.Numerals.{is_digit, is_natural, natural_in, natural_of, starts_well, value_from, within}
use Rattle.icet_text.proofs.Decimals.{natural_of_decimal, decimal_of_number}
use Rattle.icet_scene_model.specs.Picture.{header, header_end}
use Rattle.icet_scene_model.specs.ReadPicture.{IsPictureSide}
use Rattle.icet_pam.specs.declared.heading.Shape.{Shape}
use Rattle.icet_pam.specs.Headings.{behind, side_at, side_in, named_side, end_of, end_in, ending, height_in, heading_in, HasHeader}

-- what a step gave before the next one
record Before {A B : Type 0} (f : A → Option B) (o : Option A) (y : B) : Type 0 where
  found : A
  is : o ≡ Some found
  then : f found ≡ Some y

and_then : {A B : Type 0} (f : A → Option B) (o : Option A) (y : B) → option_and_then f o ≡ Some y → Before f o y
and_then f None y e = absurd cc
and_then f (Some x) y e = record { found = x; is = refl; then = e }

record Mapped {A B : Type 0} (f : A → B) (o : Option A) (y : B) : Type 0 where
  found : A
  is : o ≡ Some found
  then : f found ≡ y

mapped : {A B : Type 0} (f : A → B) (o : Option A) (y : B) → option_map f o ≡ Some y → Mapped f o y
mapped f None y e = absurd cc
mapped f (Some x) y e = record { found = x; is = refl; then = cc }

both : (a b : Bool) → (a && b) ≡ true → (a ≡ true) × (b ≡ true)
both true b e = (refl, e)
both false b e = absurd cc

behind_again : (front rest : List ℕ) → behind front (front ++ rest) ≡ Some rest
behind_again front rest =
    let same = (bytes_decides (take (length front) (front ++ rest)) front).1 (take-append_seam front rest) in
    ap (λ b. cond b (Some (drop (length front) (front ++ rest))) None) same ∙ ap Some (drop-append_seam front rest)

behind_sound : (front bytes rest : List ℕ) → behind front bytes ≡ Some rest → bytes ≡ front ++ rest
behind_sound front bytes rest e = go (pointwise nat_eq (take (length front) bytes) front) refl e
  where
    go : (b : Bool) → pointwise nat_eq (take (length front) bytes) front ≡ b → cond b (Some (drop (length front) bytes)) None ≡ Some rest → bytes ≡ front ++ rest
    go true same found =
        let begin : take (length front) bytes ≡ front = (bytes_decides (take (length front) bytes) front).0 same in
        let end : drop (length front) bytes ≡ rest = cc in
        sym (take-append-drop (length front) bytes) ∙ ap (λ xs. xs ++ drop (length front) bytes) begin ∙ ap (λ xs. front ++ xs) end
    go false same found = absurd cc

together : (a b : Bool) → a ≡ true → b ≡ true → (a && b) ≡ true
together true b e f = f
together false b e f = absurd cc

is_below : (m n : ℕ) → m < n → nat_lt m n ≡ true
is_below m n l = grind (arith, nat_tests)

is_most : (m n : ℕ) → m ≤ n → nat_le m n ≡ true
is_most m n l = grind (arith, nat_tests)

at_most : (m n : ℕ) → nat_le m n ≡ true → m ≤ n
at_most m n e = grind (arith, nat_tests)

-- the parts of a pair that is there
pub some_pair : {A B : Type 0} (x y : A × B) → Some x ≡ Some y → (x.0 ≡ y.0) × (x.1 ≡ y.1)
some_pair {A} {B} x y e = let s : x ≡ y = cc in (ap (λ (p : A × B). p.0) s, ap (λ (p : A × B). p.1) s)

-- a decimal text has digits alone, and is read as its number
record IsDecimal (word : List ℕ) (n : ℕ) : Type 0 where
  digits : list_all is_digit word ≡ true
  number : natural_of word ≡ Some n

decimal_parts : (word : List ℕ) (n : ℕ) → natural_of word ≡ Some n → IsDecimal word n
decimal_parts word n e = go (is_natural word) refl e
  where
    go : (b : Bool) → is_natural word ≡ b → cond b (Some (value_from 0 word)) None ≡ Some n → IsDecimal word n
    go true is found = record { digits = (both (starts_well word) (list_all is_digit word) is).1; number = e }
    go false is found = absurd cc

a_decimal : (n : ℕ) → n < 2 ^ 64 → IsDecimal (decimal n) n
a_decimal n l = decimal_parts (decimal n) n (natural_of_decimal n l)

-- the first newline stands behind the digits
digits_end : (word rest : List ℕ) → list_all is_digit word ≡ true → position_or_len (λ byte. byte == 10) (word ++ 10 ∷ rest) ≡ length word
digits_end [] rest e = refl
digits_end (byte ∷ word) rest e =
    let h = both (is_digit byte) (list_all is_digit word) e in
    let least : 48 ≤ byte = grind (arith, nat_tests, h.0) in
    let other : (byte == 10) ≡ false = ne_eqb byte 10 (λ same. absurd (omega (arith, same, least))) in
    let later = digits_end word rest h.1 in
    rw other (omega (arith, later))

newline_at : (word rest : List ℕ) → list_all is_digit word ≡ true → position (λ byte. byte == 10) (word ++ 10 ∷ rest) ≡ Some (length word)
newline_at word rest e =
    let at = digits_end word rest e in
    let long = length-append word (10 ∷ rest) in
    let within : nat_lt (position_or_len (λ byte. byte == 10) (word ++ 10 ∷ rest)) (length (word ++ 10 ∷ rest)) ≡ true = is_below _ _ (omega (arith, at, long)) in
    ap (λ b. cond b (Some (position_or_len (λ byte. byte == 10) (word ++ 10 ∷ rest))) None) within ∙ ap Some at

in_range : (n : ℕ) → IsPictureSide n → within 1 MAX_SIDE n ≡ Some n
in_range n side = ap (λ b. cond b (Some n) None) (together _ _ (is_most 1 n side.least) (is_most n MAX_SIDE side.greatest))

side_again : (n : ℕ) (rest : List ℕ) → IsPictureSide n → side_in (decimal n ++ 10 ∷ rest) ≡ Some (n, 10 ∷ rest)
side_again n rest side =
    let d = a_decimal n (let l = side.greatest in omega (arith, l)) in
    let bytes : List ℕ = decimal n ++ 10 ∷ rest in
    ap (option_and_then (side_at bytes)) (newline_at (decimal n) rest d.digits)
    ∙ ap (λ word. option_map (λ side. (side, drop (length (decimal n)) bytes)) (natural_in (1, MAX_SIDE) word)) (take-append_seam (decimal n) (10 ∷ rest))
    ∙ ap (λ o. option_map (λ side. (side, drop (length (decimal n)) bytes)) (option_and_then (within 1 MAX_SIDE) o)) d.number
    ∙ ap (option_map (λ side. (side, drop (length (decimal n)) bytes))) (in_range n side)
    ∙ ap (λ r. Some (n, r)) (drop-append_seam (decimal n) (10 ∷ rest))

record IsWithin (least greatest m n : ℕ) : Type 0 where
  same : m ≡ n
  from : least ≤ n
  to : n ≤ greatest

within_sound : (least greatest m n : ℕ) → within least greatest m ≡ Some n → IsWithin least greatest m n
within_sound least greatest m n e = go (nat_le least m) (nat_le m greatest) refl refl e
  where
    go : (a b : Bool) → nat_le least m ≡ a → nat_le m greatest ≡ b → cond (a && b) (Some m) None ≡ Some n → IsWithin least greatest m n
    go true true p q found =
        let same : m ≡ n = cc in
        let low : least ≤ m = at_most least m p in
        let high : m ≤ greatest = at_most m greatest q in
        record { same = same; from = omega (arith, low, same); to = omega (arith, high, same) }
    go true false p q found = absurd cc
    go false b p q found = absurd cc

record IsSideOf (n : ℕ) (bytes rest : List ℕ) : Type 0 where
  side : IsPictureSide n
  text : bytes ≡ decimal n ++ rest

side_sound : (n : ℕ) (bytes rest : List ℕ) → side_in bytes ≡ Some (n, rest) → IsSideOf n bytes rest
side_sound n bytes rest e =
    let a = and_then (side_at bytes) (position (λ byte. byte == 10) bytes) (n, rest) e in
    let m = mapped (λ side. (side, drop a.found bytes)) (natural_in (1, MAX_SIDE) (take a.found bytes)) (n, rest) a.then in
    let number = and_then (within 1 MAX_SIDE) (natural_of (take a.found bytes)) m.found m.is in
    let w = within_sound 1 MAX_SIDE number.found m.found number.then in
    let same : m.found ≡ n = ap (λ (p : ℕ × List ℕ). p.0) m.then in
    let end : drop a.found bytes ≡ rest = ap (λ (p : ℕ × List ℕ). p.1) m.then in
    let low : 1 ≤ n = omega (arith, w.from, same) in
    let high : n ≤ MAX_SIDE = omega (arith, w.to, same) in
    let word : take a.found bytes ≡ decimal n = decimal_of_number (take a.found bytes) n (omega (arith, high)) (number.is ∙ ap Some (w.same ∙ same)) in
    record {
      side = record { least = low; greatest = high };
      text = sym (take-append-drop a.found bytes) ∙ ap (λ xs. xs ++ drop a.found bytes) word ∙ ap (λ xs. decimal n ++ xs) end;
    }

named_again : (name : List ℕ) (n : ℕ) (rest : List ℕ) → IsPictureSide n → named_side name (name ++ (decimal n ++ 10 ∷ rest)) ≡ Some (n, 10 ∷ rest)
named_again name n rest side = ap (option_and_then side_in) (behind_again name (decimal n ++ 10 ∷ rest)) ∙ side_again n rest side

record IsNamedSide (name : List ℕ) (n : ℕ) (bytes rest : List ℕ) : Type 0 where
  side : IsPictureSide n
  text : bytes ≡ name ++ (decimal n ++ rest)

named_sound : (name : List ℕ) (n : ℕ) (bytes rest : List ℕ) → named_side name bytes ≡ Some (n, rest) → IsNamedSide name n bytes rest
named_sound name n bytes rest e =
    let b = and_then side_in (behind name bytes) (n, rest) e in
    let s = side_sound n b.found rest b.then in
    record { side = s.side; text = behind_sound name bytes b.found b.is ∙ ap (λ xs. name ++ xs) s.text }

end_again : (wide : Bool) (rest : List ℕ) → end_in (header_end wide ++ rest) ≡ Some (wide, rest)
end_again false rest = ap (λ o. end_of o (behind (header_end true) (header_end false ++ rest))) (behind_again (header_end false) rest)
end_again true rest =
    let other : behind (header_end false) (header_end true ++ rest) ≡ None = refl in
    ap (λ o. end_of o (behind (header_end true) (header_end true ++ rest))) other
    ∙ ap (option_map (λ r. (true, r))) (behind_again (header_end true) rest)

end_sound : (wide : Bool) (bytes rest : List ℕ) → end_in bytes ≡ Some (wide, rest) → bytes ≡ header_end wide ++ rest
end_sound wide bytes rest e = go (behind (header_end false) bytes) (behind (header_end true) bytes) refl refl e
  where
    go : (n w : Option (List ℕ)) → behind (header_end false) bytes ≡ n → behind (header_end true) bytes ≡ w → end_of n w ≡ Some (wide, rest) → bytes ≡ header_end wide ++ rest
    go (Some r) w is_narrow is_wide found =
        let same = some_pair {A = Bool} {B = List ℕ} (false, r) (wide, rest) found in
        behind_sound (header_end false) bytes r is_narrow ∙ ap (λ b. header_end b ++ r) same.0 ∙ ap (λ xs. header_end wide ++ xs) same.1
    go None (Some r) is_narrow is_wide found =
        let same = some_pair {A = Bool} {B = List ℕ} (true, r) (wide, rest) found in
        behind_sound (header_end true) bytes r is_wide ∙ ap (λ b. header_end b ++ r) same.0 ∙ ap (λ xs. header_end wide ++ xs) same.1
    go None None is_narrow is_wide found = absurd cc

newline : (wide : Bool) (rest : List ℕ) → header_end wide ++ rest ≡ 10 ∷ drop 1 (header_end wide ++ rest)
newline false rest = refl
newline true rest = refl

-- the side before what begins with a newline
named_before : (name : List ℕ) (n : ℕ) (rest tail : List ℕ) → rest ≡ 10 ∷ tail → IsPictureSide n → named_side name (name ++ (decimal n ++ rest)) ≡ Some (n, rest)
named_before name n rest tail e side = subst (λ r. named_side name (name ++ (decimal n ++ r)) ≡ Some (n, r)) (sym e) (named_again name n tail side)

parts : (a b c d e f : List ℕ) → ((a ++ b) ++ ((c ++ d) ++ e)) ++ f ≡ a ++ (b ++ (c ++ (d ++ (e ++ f))))
parts a b c d e f = simp append_assoc

abbrev shaped : ℕ → ℕ → Bool × List ℕ → Shape × List ℕ
shaped w h found = (record { w = w; h = h; wide = found.0 }, found.1)

again : (w h : ℕ) (wide : Bool) (rest : List ℕ) → IsPictureSide w → IsPictureSide h
    → heading_in (codes "P7\nWIDTH " ++ (decimal w ++ (codes "\nHEIGHT " ++ (decimal h ++ (header_end wide ++ rest))))) ≡ Some (shaped w h (wide, rest))
again w h wide rest across down =
    let last : List ℕ = header_end wide ++ rest in
    let lower : List ℕ = codes "\nHEIGHT " ++ (decimal h ++ last) in
    ap (option_and_then (λ (found : ℕ × List ℕ). height_in found.0 found.1)) (named_before (codes "P7\nWIDTH ") w lower (drop 1 lower) refl across)
    ∙ ap (option_and_then (λ (found : ℕ × List ℕ). ending w found.0 found.1)) (named_before (codes "\nHEIGHT ") h last (drop 1 last) (newline wide rest) down)
    ∙ ap (option_map (shaped w h)) (end_again wide rest)

pub heading_again : (shape : Shape) (bytes rest : List ℕ) → HasHeader bytes shape rest → heading_in bytes ≡ Some (shape, rest)
heading_again shape bytes rest h =
    ap heading_in (h.text ∙ parts (codes "P7\nWIDTH ") (decimal shape.w) (codes "\nHEIGHT ") (decimal shape.h) (header_end shape.wide) rest)
    ∙ again shape.w shape.h shape.wide rest h.width h.height

pub heading_sound : (shape : Shape) (bytes rest : List ℕ) → heading_in bytes ≡ Some (shape, rest) → HasHeader bytes shape rest
heading_sound shape bytes rest e =
    let a = and_then (λ (found : ℕ × List ℕ). height_in found.0 found.1) (named_side (codes "P7\nWIDTH ") bytes) (shape, rest) e in
    let b = and_then (λ (found : ℕ × List ℕ). ending a.found.0 found.0 found.1) (named_side (codes "\nHEIGHT ") a.found.1) (shape, rest) a.then in
    let c = mapped (shaped a.found.0 b.found.0) (end_in b.found.1) (shape, rest) b.then in
    let across = named_sound (codes "P7\nWIDTH ") a.found.0 bytes a.found.1 a.is in
    let down = named_sound (codes "\nHEIGHT ") b.found.0 a.found.1 b.found.1 b.is in
    let last = end_sound c.found.0 b.found.1 c.found.1 c.is in
    let made : Shape = record { w = a.found.0; h = b.found.0; wide = c.found.0 } in
    let whole : bytes ≡ header c.found.0 a.found.0 b.found.0 ++ c.found.1 =
    across.text
    ∙ ap (λ xs. codes "P7\nWIDTH " ++ (decimal a.found.0 ++ xs)) (down.text ∙ ap (λ xs. codes "\nHEIGHT " ++ (decimal b.found.0 ++ xs)) last)
    ∙ sym (parts (codes "P7\nWIDTH ") (decimal a.found.0) (codes "\nHEIGHT ") (decimal b.found.0) (header_end c.found.0) c.found.1) in
    let read : HasHeader bytes made c.found.1 = record { width = across.side; height = down.side; text = whole } in
    subst (λ (s : Shape). HasHeader bytes s rest) (ap (λ (p : Shape × List ℕ). p.0) c.then)
    (subst (λ (r : List ℕ). HasHeader bytes made r) (ap (λ (p : Shape × List ℕ). p.1) c.then) read)
