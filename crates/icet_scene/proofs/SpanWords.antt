-- A span has at least eight words behind its keyword.
use Rattle.std.proofs.Common.{◌≡◌, ℕ, ◌≤◌, Bool, true, false, cond, List, length, Some, None, arith}
use Rattle.std.specs.List.{list_all}
use Rattle.std.proofs.lemmas.Bool.Decides.{nat_tests}
use Rattle.icet_text.specs.Numerals.{is_numeral}
use Rattle.icet_scene_model.specs.SceneLines.{has_form, counts, fits}
use Rattle.icet_scene_model.specs.declared.keyword.Keyword.TheVariants.{Span}

enough : (n : ℕ) → fits Span n ≡ true → 8 ≤ n
enough n e = grind (arith, nat_tests, e)

pub many_words : (words : List (List ℕ)) → has_form Span words ≡ true → 8 ≤ length words
many_words words e = go (list_all is_numeral words) e
  where
    go : (b : Bool) → counts Span (cond b (Some (length words)) None) ≡ true → 8 ≤ length words
    go true e = enough (length words) e
    go false e = absurd cc
