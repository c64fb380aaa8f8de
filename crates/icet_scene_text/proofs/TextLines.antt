-- Lines that are read one behind the other, each as what it was made from.
use Rattle.std.proofs.Common.{◌≡◌, ℕ, ◌+◌, ◌≤◌, Bool, true, false, cond, List, [], ◌∷◌, ◌++◌, map, codes, refl, sym, ap, ◌∙◌, arith, ne_eqb}
use Rattle.std.specs.Prelude.{◌&&◌, ◌==◌, nat_le}
use Rattle.std.specs.List.{list_all, onto_first}
use Rattle.std.proofs.lemmas.Bool.Decides.{nat_tests}
use Rattle.icet_text.specs.Lines.{lines_of, words_of}
use Rattle.icet_scene_model.specs.Printed.{line_of, lines_text}
use Rattle.icet_scene_model.specs.Scene.{Said}
use Rattle.icet_scene_model.specs.SceneLines.{Skipped, Says, Faulty, is_allowed, is_skipped, line_behind, words_reading}
use Rattle.icet_scene_model.specs.Texts.{text_behind, ended, go_on}
use Rattle.icet_scene_model.specs.declared.fault.LineFault.TheVariants.{BadByte}
use Rattle.icet_scene_text.proofs.NumeralWords.{Both}

-- each line says what it was made from, behind those before it
abbrev pub AllSaid : List Said → List Said → Type 0
AllSaid before [] = Unit {0}
AllSaid before (said ∷ says) = Both (line_behind before (line_of said) ≡ Says said) (AllSaid (said ∷ before) says)

-- the lines before the next one, the newest first
abbrev pub behind : List Said → List Said → List Said
behind before [] = before
behind before (said ∷ says) = behind (said ∷ before) says

pub said_append : (before xs ys : List Said) → AllSaid before xs → AllSaid (behind before xs) ys → AllSaid before (xs ++ ys)
said_append before [] ys h k = k
said_append before (x ∷ xs) ys h k = record { first = h.first; rest = said_append (x ∷ before) xs ys h.rest k }

pub behind_append : (before xs ys : List Said) → behind before (xs ++ ys) ≡ behind (behind before xs) ys
behind_append before [] ys = refl
behind_append before (x ∷ xs) ys = behind_append (x ∷ before) xs ys

both : (a b : Bool) → (a && b) ≡ true → (a ≡ true) × (b ≡ true)
both true b e = (refl, e)
both false b e = absurd cc

line_then : (line rest : List ℕ) → list_all is_allowed line ≡ true → lines_of ((line ++ codes "\n") ++ rest) ≡ line ∷ lines_of rest
line_then [] rest e = refl
line_then (byte ∷ line) rest e =
    let h = both (is_allowed byte) (list_all is_allowed line) e in
    let first = h.0 in
    let least : 32 ≤ byte = grind (arith, nat_tests, first) in
    let later = (line ++ codes "\n") ++ rest in
    ap (λ b. cond b ([] ∷ lines_of later) (onto_first byte (lines_of later))) (ne_eqb byte 10 (λ same. absurd (omega (arith, same, least))))
    ∙ ap (onto_first byte) (line_then line rest h.1)

allowed_of : (before : List Said) (line : List ℕ) (said : Said) → line_behind before line ≡ Says said → list_all is_allowed line ≡ true
allowed_of before line said e = go (list_all is_allowed line) refl e
  where
    go : (b : Bool) → list_all is_allowed line ≡ b → cond b (cond (is_skipped line) Skipped (words_reading before (words_of line))) (Faulty BadByte) ≡ Says said → list_all is_allowed line ≡ true
    go true is e = is
    go false is e = absurd cc

-- the lines of their text are these lines
pub lines_back : (before says : List Said) → AllSaid before says → lines_of (lines_text says) ≡ map line_of says
lines_back before [] h = refl
lines_back before (said ∷ says) h = line_then (line_of said) (lines_text says) (allowed_of before (line_of said) said h.first) ∙ ap (λ ls. line_of said ∷ ls) (lines_back (said ∷ before) says h.rest)

pub texts_read : (before : List Said) (number : ℕ) (says : List Said) → AllSaid before says → text_behind before number (map line_of says) ≡ ended (behind before says)
texts_read before number [] h = refl
texts_read before number (said ∷ says) h = ap (λ r. go_on r number before (λ s. text_behind s (number + 1) (map line_of says))) h.first ∙ texts_read (said ∷ before) (number + 1) says h.rest
