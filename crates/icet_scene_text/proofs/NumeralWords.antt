-- Numerals are read as their numbers.
use Rattle.std.proofs.Common.{◌≡◌, ◌≢◌, ℕ, ◌+◌, ◌-◌, ◌*◌, ◌<◌, ◌≤◌, ◌^◌, Bool, true, false, cond, List, [], ◌∷◌, ◌++◌, map, length, drop, Option, Some, None, refl, sym, ap, ◌∙◌, subst, arith, ne_eqb, append-nil}
use Rattle.std.specs.Prelude.{◌&&◌, ◌==◌, not, decimal, nat_le, All, option_map}
use Rattle.std.specs.List.{list_all, flat_map}
use Rattle.std.proofs.lemmas.Bool.Decides.{nat_tests}
use Rattle.std.proofs.lemmas.List.Elements.{All-nil, All-cons, All-head, All-tail}
use Rattle.std.proofs.lemmas.List.Folds.{list_all-append}
use Rattle.std.proofs.lemmas.List.Splits.{slice_split_none, slice_split_at}
use Rattle.std.proofs.lemmas.List.{length-map}
use Rattle.icet_text.proofs.Decimals.{natural_of_decimal}
use Rattle.icet_text.specs.declared.field.Field.{Field}
use Rattle.icet_text.specs.declared.field.Number.{Number}
use Rattle.icet_text.specs.Lines.{words_of}
use Rattle.icet_text.specs.Words.{counted}
use Rattle.icet_text.specs.Numbers.{numbers_in, sizes_in, with_number}
use Rattle.icet_text.specs.Numerals.{begins_with, digits_of, is_digit, is_natural, is_negative, is_numeral, natural_of, number_in, starts_well, takes, value_from, value_of}
use Rattle.icet_scene_model.specs.Fields.{from_to}
use Rattle.icet_scene_model.specs.Printed.{natural, numeral, numbers_line, spaced}
use Rattle.icet_scene_model.specs.SceneLines.{is_allowed}

-- a number whose numeral can be read: not too large, and never 0 behind a minus sign
pub record IsWritable (n : Number) : Type 0 where
  pub small : n.size < 2 ^ 64
  pub some : n.is_negative ≡ true → 0 < n.size

both : (a b : Bool) → (a && b) ≡ true → (a ≡ true) × (b ≡ true)
both true b e = (refl, e)
both false b e = absurd cc

together : (a b : Bool) → a ≡ true → b ≡ true → (a && b) ≡ true
together true b e f = f
together false b e f = absurd cc

record IsDecimal (word : List ℕ) (n : ℕ) : Type 0 where
  shape : is_natural word ≡ true
  value : value_from 0 word ≡ n

decimal_parts : (word : List ℕ) (n : ℕ) → natural_of word ≡ Some n → IsDecimal word n
decimal_parts word n e = go (is_natural word) refl e
  where
    go : (b : Bool) → is_natural word ≡ b → cond b (Some (value_from 0 word)) None ≡ Some n → IsDecimal word n
    go true is e = record { shape = is; value = cc }
    go false is e = absurd cc

a_decimal : (n : ℕ) → n < 2 ^ 64 → IsDecimal (decimal n) n
a_decimal n l = decimal_parts (decimal n) n (natural_of_decimal n l)

not_minus : (word : List ℕ) → is_natural word ≡ true → is_negative word ≡ false
not_minus [] e = refl
not_minus (byte ∷ word) e =
    let digits = (both (starts_well (byte ∷ word)) (list_all is_digit (byte ∷ word)) e).1 in
    let first : is_digit byte ≡ true = (both (is_digit byte) (list_all is_digit word) digits).0 in
    let least : 48 ≤ byte = grind (arith, nat_tests, first) in
    ne_eqb byte 45 (λ same. absurd (omega (arith, same, least)))

not_zero : (word : List ℕ) (n : ℕ) → 0 < n → is_natural word ≡ true → value_from 0 word ≡ n → begins_with 48 word ≡ false
not_zero [] n l w v = refl
not_zero (byte ∷ []) n l w v = ne_eqb byte 48 (λ same. absurd (let z : 10 * 0 + (byte - 48) ≡ n = v in omega (arith, z, same, l)))
not_zero (byte ∷ second ∷ word) n l w v = go (byte == 48) (both (not (byte == 48)) (list_all is_digit (byte ∷ second ∷ word)) w).0
  where
    go : (b : Bool) → not b ≡ true → b ≡ false
    go true e = sym e
    go false e = refl

signed_number : Bool → ℕ → Number
signed_number b s = record { is_negative = b; size = s }

in_field : (field : Field) (word : List ℕ) (n : Number) → is_numeral word ≡ true → value_of word ≡ n → takes field n ≡ true → number_in field word ≡ Some n
in_field field word n w v t =
    ap (λ b. cond b (cond (takes field (value_of word)) (Some (value_of word)) None) None) w
    ∙ ap (λ m. cond (takes field m) (Some m) None) v
    ∙ ap (λ b. cond b (Some n) None) t

-- a numeral, and its number
pub record IsRead (n : Number) : Type 0 where
  pub well : is_numeral (numeral n) ≡ true
  pub value : value_of (numeral n) ≡ n

natural_read : (s : ℕ) → s < 2 ^ 64 → IsRead (signed_number false s)
unfolding signed_number
natural_read s l =
    let d = a_decimal s l in
    let neg = not_minus (decimal s) d.shape in
    record {
      well = ap (λ b. is_natural (cond b (drop 1 (decimal s)) (decimal s)) && not (b && begins_with 48 (cond b (drop 1 (decimal s)) (decimal s)))) neg ∙ ap (λ b. b && true) d.shape;
      value = ap (λ b. signed_number b (value_from 0 (cond b (drop 1 (decimal s)) (decimal s)))) neg ∙ ap (signed_number false) d.value;
    }

negative_read : (s : ℕ) → s < 2 ^ 64 → 0 < s → IsRead (signed_number true s)
unfolding signed_number
negative_read s l some =
    let d = a_decimal s l in
    record {
      well = ap (λ b. b && not (begins_with 48 (decimal s))) d.shape ∙ ap not (not_zero (decimal s) s some d.shape d.value);
      value = ap (signed_number true) d.value;
    }

pub numeral_read : (n : Number) → IsWritable n → IsRead n
unfolding signed_number
numeral_read n h = go n.is_negative n.size h.small h.some
  where
    go : (b : Bool) (s : ℕ) → s < 2 ^ 64 → (b ≡ true → 0 < s) → IsRead (signed_number b s)
    go false s l some = natural_read s l
    go true s l some = negative_read s l (some refl)

pub number_read : (field : Field) (n : Number) → IsWritable n → takes field n ≡ true → number_in field (numeral n) ≡ Some n
number_read field n h t = let r = numeral_read n h in in_field field (numeral n) n r.well r.value t

-- a number that a field takes, and whose numeral can be read
pub record IsFit (field : Field) (n : Number) : Type 0 where
  pub writable : IsWritable n
  pub taken : takes field n ≡ true

pub record Both (A B : Type 0) : Type 0 where
  pub first : A
  pub rest : B

abbrev pub AllFit : List Field → List Number → Type 0
AllFit [] [] = Unit {0}
AllFit (field ∷ fields) (n ∷ ns) = Both (IsFit field n) (AllFit fields ns)
AllFit _ _ = ⊥

pub numbers_read : (fields : List Field) (ns : List Number) → AllFit fields ns → numbers_in fields (map numeral ns) ≡ Some ns
numbers_read [] [] h = refl
numbers_read [] (n ∷ ns) h = absurd h
numbers_read (field ∷ fields) [] h = absurd h
numbers_read (field ∷ fields) (n ∷ ns) h = ap (λ m. with_number m (numbers_in fields (map numeral ns))) (number_read field n h.first.writable h.first.taken) ∙ ap (with_number (Some n)) (numbers_read fields ns h.rest)

pub fit_writable : (fields : List Field) (ns : List Number) → AllFit fields ns → All IsWritable ns
fit_writable [] [] h = All-nil IsWritable
fit_writable [] (n ∷ ns) h = absurd h
fit_writable (field ∷ fields) [] h = absurd h
fit_writable (field ∷ fields) (n ∷ ns) h = All-cons IsWritable n ns h.first.writable (fit_writable fields ns h.rest)

pub fit_natural : (least greatest n : ℕ) → least ≤ n → n ≤ greatest → greatest < 2 ^ 64 → IsFit (from_to least greatest) (natural n)
fit_natural least greatest n l m g = record {
  writable = record { small = omega (arith, m, g); some = λ e. absurd cc };
  taken = grind (arith, nat_tests, l, m);
}

-- the numerals are counted
all_numerals : (ns : List Number) → All IsWritable ns → list_all is_numeral (map numeral ns) ≡ true
all_numerals [] h = refl
all_numerals (n ∷ ns) h = together (is_numeral (numeral n)) (list_all is_numeral (map numeral ns)) (numeral_read n (All-head IsWritable n ns h)).well (all_numerals ns (All-tail IsWritable n ns h))

pub numerals_counted : (ns : List Number) → All IsWritable ns → counted (map numeral ns) ≡ Some (length ns)
numerals_counted ns h = ap (λ b. cond b (Some (length (map numeral ns))) None) (all_numerals ns h) ∙ ap Some (length-map ns numeral)

-- a byte that may stand in a word
abbrev pub is_seen : ℕ → Bool
is_seen byte = is_allowed byte && not (byte == 32)

digit_seen : (byte : ℕ) → is_digit byte ≡ true → is_seen byte ≡ true
digit_seen byte e =
    let least : 48 ≤ byte = grind (arith, nat_tests, e) in
    let most : byte ≤ 57 = grind (arith, nat_tests, e) in
    together (is_allowed byte) (not (byte == 32)) (grind (arith, nat_tests, least, most)) (ap not (ne_eqb byte 32 (λ same. absurd (omega (arith, same, least)))))

digits_seen : (word : List ℕ) → list_all is_digit word ≡ true → list_all is_seen word ≡ true
digits_seen [] e = refl
digits_seen (byte ∷ word) e = let h = both (is_digit byte) (list_all is_digit word) e in together (is_seen byte) (list_all is_seen word) (digit_seen byte h.0) (digits_seen word h.1)

numeral_seen : (n : Number) → IsWritable n → list_all is_seen (numeral n) ≡ true
unfolding signed_number
numeral_seen n h = go n.is_negative n.size h.small
  where
    go : (b : Bool) (s : ℕ) → s < 2 ^ 64 → list_all is_seen (numeral (signed_number b s)) ≡ true
    go false s l = digits_seen (decimal s) (both (starts_well (decimal s)) (list_all is_digit (decimal s)) (a_decimal s l).shape).1
    go true s l = digits_seen (decimal s) (both (starts_well (decimal s)) (list_all is_digit (decimal s)) (a_decimal s l).shape).1

seen_allowed : (word : List ℕ) → list_all is_seen word ≡ true → list_all is_allowed word ≡ true
seen_allowed [] e = refl
seen_allowed (byte ∷ word) e =
    let h = both (is_seen byte) (list_all is_seen word) e in
    together (is_allowed byte) (list_all is_allowed word) (both (is_allowed byte) (not (byte == 32)) h.0).0 (seen_allowed word h.1)

not_so : (b : Bool) → not b ≡ true → b ≡ false
not_so true e = sym e
not_so false e = refl

seen_words : (word : List ℕ) → list_all is_seen word ≡ true → All (λ byte. (byte == 32) ≡ false) word
seen_words [] e = All-nil (λ byte. (byte == 32) ≡ false)
seen_words (byte ∷ word) e =
    let h = both (is_seen byte) (list_all is_seen word) e in
    All-cons (λ b. (b == 32) ≡ false) byte word (not_so (byte == 32) (both (is_allowed byte) (not (byte == 32)) h.0).1) (seen_words word h.1)

-- the words of a line are its keyword and its numerals
pub words_read : (word : List ℕ) (ns : List Number) → list_all is_seen word ≡ true → All IsWritable ns → words_of (numbers_line word ns) ≡ word ∷ map numeral ns
words_read word [] w h = ap words_of (append-nil word) ∙ slice_split_none (λ byte. byte == 32) word (seen_words word w)
words_read word (n ∷ ns) w h =
    slice_split_at (λ byte. byte == 32) word 32 (numeral n ++ flat_map spaced ns) (seen_words word w) refl
    ∙ ap (λ ws. word ∷ ws) (words_read (numeral n) ns (numeral_seen n (All-head IsWritable n ns h)) (All-tail IsWritable n ns h))

pub line_allowed : (word : List ℕ) (ns : List Number) → list_all is_seen word ≡ true → All IsWritable ns → list_all is_allowed (numbers_line word ns) ≡ true
line_allowed word [] w h = ap (list_all is_allowed) (append-nil word) ∙ seen_allowed word w
line_allowed word (n ∷ ns) w h =
    list_all-append is_allowed word (32 ∷ (numeral n ++ flat_map spaced ns))
    ∙ ap (λ b. b && list_all is_allowed (numeral n ++ flat_map spaced ns)) (seen_allowed word w)
    ∙ line_allowed (numeral n) ns (numeral_seen n (All-head IsWritable n ns h)) (All-tail IsWritable n ns h)

pub fit_append : (fs gs : List Field) (ms ns : List Number) → AllFit fs ms → AllFit gs ns → AllFit (fs ++ gs) (ms ++ ns)
fit_append [] gs [] ns h k = k
fit_append [] gs (m ∷ ms) ns h k = absurd h
fit_append (f ∷ fs) gs [] ns h k = absurd h
fit_append (f ∷ fs) gs (m ∷ ms) ns h k = record { first = h.first; rest = fit_append fs gs ms ns h.rest k }

-- the sizes of numbers without a sign that one field takes
pub sizes_read : (field : Field) (ns : List ℕ) → All (λ n. IsFit field (natural n)) ns → sizes_in field (map numeral (map natural ns)) ≡ Some ns
sizes_read field [] h = refl
sizes_read field (n ∷ ns) h =
    let first = All-head (λ m. IsFit field (natural m)) n ns h in
    ap (λ m. with_number (option_map (λ x. x.size) m) (sizes_in field (map numeral (map natural ns)))) (number_read field (natural n) first.writable first.taken)
    ∙ ap (with_number (Some n)) (sizes_read field ns (All-tail (λ m. IsFit field (natural m)) n ns h))
