-- The words of a triangle's numbers have its form: as many as its fields, and each a numeral.
use Rattle.std.proofs.Common.{◌≡◌, ℕ, Bool, true, false, cond, List, [], ◌∷◌, length, refl, sym, ap, ◌∙◌, arith, Option, Some, None}
use Rattle.std.specs.Prelude.{◌==◌, ◌&&◌}
use Rattle.std.specs.List.{list_all}
use Rattle.icet_text.specs.declared.field.Field.{Field}
use Rattle.icet_text.specs.declared.field.Number.{Number}
use Rattle.icet_text.specs.Numerals.{is_numeral, number_in, takes, value_of}
use Rattle.icet_text.specs.Numbers.{numbers_in, with_number}
use Rattle.icet_scene_model.specs.Fields.{tri_fields}
use Rattle.icet_scene_model.specs.SceneLines.{has_form, counts}
use Rattle.icet_scene_model.specs.declared.keyword.Keyword.TheVariants.{Tri as TriWord}

together : (a b : Bool) → a ≡ true → b ≡ true → (a && b) ≡ true
together true b e f = f
together false b e f = absurd cc

numeral_if : (b : Bool) (o : Option Number) (n : Number) → cond b o None ≡ Some n → b ≡ true
numeral_if true o n e = refl
numeral_if false o n e = absurd cc

-- as many numerals as there are fields
all_numerals : (fields : List Field) (words : List (List ℕ)) (ns : List Number) → numbers_in fields words ≡ Some ns → (list_all is_numeral words ≡ true) × (length words ≡ length fields)
all_numerals [] [] ns e = (refl, refl)
all_numerals [] (word ∷ words) ns e = absurd cc
all_numerals (field ∷ fields) [] ns e = absurd cc
all_numerals (field ∷ fields) (word ∷ words) ns e = go (number_in field word) (numbers_in fields words) refl refl (λ rest. all_numerals fields words rest) e
  where
    go : (m : Option Number) (o : Option (List Number)) → number_in field word ≡ m → numbers_in fields words ≡ o → ((rest : List Number) → numbers_in fields words ≡ Some rest → (list_all is_numeral words ≡ true) × (length words ≡ length fields)) → with_number m o ≡ Some ns → (list_all is_numeral (word ∷ words) ≡ true) × (length (word ∷ words) ≡ length (field ∷ fields))
    go None o a b h e = absurd cc
    go (Some n) None a b h e = absurd cc
    go (Some n) (Some rest) a b h e =
        let r = h rest b in
        (together (is_numeral word) (list_all is_numeral words) (numeral_if (is_numeral word) (cond (takes field (value_of word)) (Some (value_of word)) None) n a) r.0, omega (arith, r.1))

pub tri_form : (ranks most : ℕ) (words : List (List ℕ)) (ns : List Number) → Some ns ≡ numbers_in (tri_fields ranks most) words → has_form TriWord words ≡ true
tri_form ranks most words ns e =
    let h = all_numerals (tri_fields ranks most) words ns (sym e) in
    let count : length words ≡ 22 = h.1 in
    ap (λ b. counts TriWord (cond b (Some (length words)) None)) h.0 ∙ ap (λ n. n == 22) count
