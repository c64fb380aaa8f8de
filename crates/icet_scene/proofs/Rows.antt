-- The paints of a row, five words each.
use Rattle.std.proofs.Common.{◌≡◌, ℕ, ◌+◌, ◌<◌, Bool, true, false, cond, List, [], ◌∷◌, ◌++◌, length, take, drop, refl, sym, ap, ◌∙◌, Option, Some, None, arith, append_assoc, length-append}
use Rattle.std.specs.Prelude.{option_map, ◌&&◌, nat_le, ◌-◌}
use Rattle.std.proofs.lemmas.List.Folds.{list_all-append}
use Rattle.std.proofs.lemmas.Bool.Decides.{nat_tests}
use Rattle.icet_text.specs.declared.field.Field.{Field}
use Rattle.icet_text.specs.Numerals.{number_in}
use Rattle.icet_scene_model.specs.declared.fault.LineFault.TheVariants.{OutOfRange, NotPremultiplied}
use Rattle.icet_scene.specs.Lines.{row_fault}
use Rattle.icet_scene.proofs.Paints.{not_true}
use Rattle.std.specs.List.{list_all}
use Rattle.icet_text.specs.declared.field.Number.{Number}
use Rattle.icet_text.specs.Numbers.{numbers_in, with_number}
use Rattle.icet_model.specs.Pixel.{FragmentView}
use Rattle.icet_scene_model.specs.Fields.{paint_fields}
use Rattle.icet_scene_model.specs.SceneLines.{paints_in, paint_at, is_premultiplied}

-- the first paints are read, `left` more have room, and the others are those of the words that are left
pub record HasPaints (most room : ℕ) (all : List (List ℕ)) (left : ℕ) (good : Bool) (items : List FragmentView) (rest : List (List ℕ)) : Type 0 where
  pub read : List FragmentView
  pub same : paints_in most all ≡ option_map (λ ps. read ++ ps) (paints_in most rest)
  pub count : length read + left ≡ room
  pub good_is : good ≡ list_all is_premultiplied read
  pub kept : good ≡ true → items ≡ read

with_none : {A : Type 0} (m : Option A) → with_number m None ≡ None
with_none None = refl
with_none (Some n) = refl

short : (fields : List Field) (words : List (List ℕ)) → length words < length fields → numbers_in fields words ≡ None
short [] words l = absurd (omega arith)
short (field ∷ fields) [] l = refl
short (field ∷ fields) (word ∷ words) l = ap (with_number (number_in field word)) (short fields words (omega arith)) ∙ with_none (number_in field word)

-- no paint where words are missing
missing : (most : ℕ) (words : List (List ℕ)) (o : Option (List Number)) (rest : Option (List FragmentView)) → length words < 5 → numbers_in (paint_fields most) words ≡ o → None ≡ with_number (option_map (λ ns. paint_at ns 0) o) rest
missing most words o rest l e = ap (λ m. with_number (option_map (λ ns. paint_at ns 0) m) rest) (sym (short (paint_fields most) words l) ∙ e)

-- the first five words are a paint, and the others are those behind them
pub paints_step : (most : ℕ) (words : List (List ℕ)) (o : Option (List Number)) → 0 < length words → numbers_in (paint_fields most) (take 5 words) ≡ o → paints_in most words ≡ with_number (option_map (λ ns. paint_at ns 0) o) (paints_in most (drop 5 words))
paints_step most [] o l e = absurd (omega arith)
paints_step most (z ∷ []) o l e = missing most (z ∷ []) o (Some []) (omega arith) e
paints_step most (z ∷ r ∷ []) o l e = missing most (z ∷ r ∷ []) o (Some []) (omega arith) e
paints_step most (z ∷ r ∷ g ∷ []) o l e = missing most (z ∷ r ∷ g ∷ []) o (Some []) (omega arith) e
paints_step most (z ∷ r ∷ g ∷ b ∷ []) o l e = missing most (z ∷ r ∷ g ∷ b ∷ []) o (Some []) (omega arith) e
paints_step most (z ∷ r ∷ g ∷ b ∷ a ∷ words) o l e = ap (λ m. with_number (option_map (λ ns. paint_at ns 0) m) (paints_in most words)) e

-- words that are no paint
pub row_misfit : (most room : ℕ) (all : List (List ℕ)) (left : ℕ) (good : Bool) (items : List FragmentView) (rest : List (List ℕ)) → HasPaints most room all left good items rest → 0 < length rest → numbers_in (paint_fields most) (take 5 rest) ≡ None → row_fault room (paints_in most all) ≡ Some OutOfRange
row_misfit most room all left good items rest h l e = ap (row_fault room) (h.same ∙ ap (option_map (λ ps. h.read ++ ps)) (paints_step most rest None l e))

-- a paint for which there is no room
pub row_full : (most room : ℕ) (all : List (List ℕ)) (good : Bool) (items : List FragmentView) (rest : List (List ℕ)) (ns : List Number) → HasPaints most room all 0 good items rest → 0 < length rest → numbers_in (paint_fields most) (take 5 rest) ≡ Some ns → row_fault room (paints_in most all) ≡ Some OutOfRange
row_full most room all good items rest ns h l e = ap (row_fault room) (h.same ∙ ap (option_map (λ ps. h.read ++ ps)) (paints_step most rest (Some ns) l e)) ∙ go (paints_in most (drop 5 rest))
  where
    long : (ps : List FragmentView) → nat_le (length (h.read ++ paint_at ns 0 ∷ ps)) room ≡ false
    long ps = let k : room < length (h.read ++ paint_at ns 0 ∷ ps) = omega (arith, h.count, length-append h.read (paint_at ns 0 ∷ ps)) in grind (arith, nat_tests, k)

    go : (o : Option (List FragmentView)) → row_fault room (option_map (λ ps. h.read ++ ps) (with_number (Some (paint_at ns 0)) o)) ≡ Some OutOfRange
    go None = refl
    go (Some ps) = ap (λ b. cond b (cond (list_all is_premultiplied (h.read ++ paint_at ns 0 ∷ ps)) None (Some NotPremultiplied)) (Some OutOfRange)) (long ps)

one_more : (read : List FragmentView) (p : FragmentView) (o : Option (List FragmentView)) → option_map (λ ps. read ++ ps) (with_number (Some p) o) ≡ option_map (λ ps. (read ++ p ∷ []) ++ ps) o
one_more read p None = refl
one_more read p (Some ps) = ap Some (sym (append_assoc read (p ∷ []) ps))

passes : (read : List FragmentView) (p : FragmentView) (a b : Bool) → list_all is_premultiplied read ≡ a → is_premultiplied p ≡ b → list_all is_premultiplied (read ++ p ∷ []) ≡ (a && (b && true))
passes read p a b e f = list_all-append is_premultiplied read (p ∷ []) ∙ ap (λ x. x && (is_premultiplied p && true)) e ∙ ap (λ x. a && (x && true)) f

never : (a : Bool) → (a && false) ≡ false
never true = refl
never false = refl

always : (a : Bool) → (a && true) ≡ a
always true = refl
always false = refl

-- a further paint that isn't premultiplied
pub row_bad : (most room : ℕ) (all : List (List ℕ)) (left : ℕ) (good : Bool) (items : List FragmentView) (rest behind : List (List ℕ)) (ns : List Number) → HasPaints most room all left good items rest → 0 < length rest → 0 < left → numbers_in (paint_fields most) (take 5 rest) ≡ Some ns → behind ≡ drop 5 rest → (is_premultiplied (paint_at ns 0) ≡ true → ⊥)
    → HasPaints most room all (left - 1) false items behind
row_bad most room all left good items rest behind ns h l some e b not_so = record {
  read = h.read ++ paint_at ns 0 ∷ [];
  same = h.same ∙ ap (option_map (λ ps. h.read ++ ps)) (paints_step most rest (Some ns) l e) ∙ one_more h.read (paint_at ns 0) (paints_in most (drop 5 rest)) ∙ ap (λ ws. option_map (λ ps. (h.read ++ paint_at ns 0 ∷ []) ++ ps) (paints_in most ws)) (sym b);
  count = omega (arith, h.count, length-append h.read (paint_at ns 0 ∷ []));
  good_is = sym (passes h.read (paint_at ns 0) good false (sym h.good_is) (not_true (is_premultiplied (paint_at ns 0)) not_so) ∙ never good);
  kept = λ f. absurd cc;
}

-- a further paint
pub row_more : (most room : ℕ) (all : List (List ℕ)) (left : ℕ) (good : Bool) (items : List FragmentView) (rest behind : List (List ℕ)) (ns : List Number) (paint : FragmentView) → HasPaints most room all left good items rest → 0 < length rest → 0 < left → numbers_in (paint_fields most) (take 5 rest) ≡ Some ns → behind ≡ drop 5 rest → is_premultiplied (paint_at ns 0) ≡ true → paint ≡ paint_at ns 0
    → HasPaints most room all (left - 1) good (items ++ paint ∷ []) behind
row_more most room all left good items rest behind ns paint h l some e b so p = record {
  read = h.read ++ paint_at ns 0 ∷ [];
  same = h.same ∙ ap (option_map (λ ps. h.read ++ ps)) (paints_step most rest (Some ns) l e) ∙ one_more h.read (paint_at ns 0) (paints_in most (drop 5 rest)) ∙ ap (λ ws. option_map (λ ps. (h.read ++ paint_at ns 0 ∷ []) ++ ps) (paints_in most ws)) (sym b);
  count = omega (arith, h.count, length-append h.read (paint_at ns 0 ∷ []));
  good_is = sym (passes h.read (paint_at ns 0) good true (sym h.good_is) so ∙ always good);
  kept = λ f. ap (λ xs. xs ++ paint ∷ []) (h.kept f) ∙ ap (λ q. h.read ++ q ∷ []) p;
}
