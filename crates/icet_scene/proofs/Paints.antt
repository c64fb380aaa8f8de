-- Lines with a paint whose colour isn't premultiplied, and modes of more than a word.
use Rattle.std.proofs.Common.{◌≡◌, ℕ, ◌+◌, ◌<◌, Bool, true, false, cond, List, [], ◌∷◌, length, drop, get_or, refl, sym, ap, ◌∙◌, Some, None, arith, add-one}
use Rattle.std.specs.Prelude.{option_map, ◌&&◌, not, ◌==◌}
use Rattle.std.specs.List.{list_any}
use Rattle.std.proofs.Math.Seq.{drop-cons}
use Rattle.icet_text.proofs.Fields.{some_words}
use Rattle.icet_text.specs.Lines.{words_of}
use Rattle.icet_text.specs.Numbers.{numbers_in}
use Rattle.icet_text.specs.declared.field.Number.{Number}
use Rattle.icet_model.specs.Pixel.{FragmentView}
use Rattle.icet_scene_model.specs.Scene.{Said, BackgroundIs, maxval_in}
use Rattle.icet_scene_model.specs.Fields.{colour_fields}
use Rattle.icet_scene_model.specs.SceneLines.{Faulty, Says, ranged, said_in, is_premultiplied, background_of, mode_in, all_differ, unless_broken}
use Rattle.icet_scene_model.specs.declared.keyword.Keyword.TheVariants.{Background}
use Rattle.icet_scene_model.specs.declared.fault.LineFault.TheVariants.{NotPremultiplied}
use Rattle.icet_scene.specs.Lines.{colour_of}

pub not_true : (b : Bool) → (b ≡ true → ⊥) → b ≡ false
not_true true not_so = absurd (not_so refl)
not_true false _ = refl

pub background_refused : (before : List Said) (most : ℕ) (words : List (List ℕ)) (ns : List Number) → Some ns ≡ numbers_in (colour_fields most) words → (is_premultiplied (colour_of ns) ≡ true → ⊥) → maxval_in before ≡ most → ranged before (said_in before Background words) ≡ Faulty NotPremultiplied
background_refused before most words ns e not_so m =
    ap (λ k. ranged before (option_map background_of (numbers_in (colour_fields k) words))) m
    ∙ ap (λ o. ranged before (option_map background_of o)) (sym e)
    ∙ ap (λ b. unless_broken (background_of ns) (cond b None (Some NotPremultiplied))) (not_true (is_premultiplied (colour_of ns)) not_so)

pub background_says : (before : List Said) (most : ℕ) (words : List (List ℕ)) (ns : List Number) (paint : FragmentView) → Some ns ≡ numbers_in (colour_fields most) words → is_premultiplied (colour_of ns) ≡ true → BackgroundIs paint ≡ background_of ns → maxval_in before ≡ most → ranged before (said_in before Background words) ≡ Says (BackgroundIs paint)
background_says before most words ns paint e so p m =
    ap (λ k. ranged before (option_map background_of (numbers_in (colour_fields k) words))) m
    ∙ ap (λ o. ranged before (option_map background_of o)) (sym e)
    ∙ ap (λ b. unless_broken (background_of ns) (cond b None (Some NotPremultiplied))) so
    ∙ ap Says (sym p)

more_words : (word : List ℕ) (words : List (List ℕ)) → 0 < length words → mode_in (word ∷ words) ≡ None
more_words word [] l = absurd (omega arith)
more_words word (other ∷ words) l = refl

-- a second word behind `mode`
pub mode_long : (word line : List ℕ) → mode_in (word ∷ words_of line) ≡ None
mode_long word line = more_words word (words_of line) (some_words line)

-- the first number of those that are left, and the others
pub differ_more : (ns : List ℕ) (i : ℕ) → i < length ns → all_differ (drop i ns) ≡ (not (list_any (λ m. m == get_or ns i 0) (drop (i + 1) ns)) && all_differ (drop (i + 1) ns))
differ_more ns i l = ap all_differ (drop-cons ns i 0 l) ∙ ap (λ k. not (list_any (λ m. m == get_or ns i 0) (drop k ns)) && all_differ (drop k ns)) (sym (add-one i))
