use Rattle.std.proofs.Common.{◌++◌, codes, sym, subst, ap, ◌∙◌, Ok, Err}
use Rattle.std.proofs.lemmas.Result.{err_from_is_err_and}
use Rattle.icet_base.specs.PenText.{Puts}
use Rattle.icet_plan_text.specs.PlanTexts.{bracket_text}
use Rattle.icet_plan_text.proofs.PairTexts.{all_put, first_failed, fourth_failed, pair_text, second_failed, third_failed}
use Rattle.icet_plan_text.proofs.brackets.+put_bracket.Goals as goal

pub returns-in_err-put-in-Pair : goal.returns-in_err-put-in-Pair
returns-in_err-put-in-Pair g t c =
    let p = err_from_is_err_and c.from_residual.result c.from_residual.ensures.1 in
    rw (p.1, c.in-Pair.is, pair_text) (first_failed g.K.Sink.told (codes "(") (bracket_text c.in-Pair.front) (codes " ") (bracket_text c.in-Pair.back) (codes ")") _ _ p.0 c.in_err-put-in-Pair.ensures)

pub returns-in_err-put_bracket-in-Pair : goal.returns-in_err-put_bracket-in-Pair
returns-in_err-put_bracket-in-Pair g t c =
    let p = err_from_is_err_and c.from_residual-in_err-put_bracket-in-Pair.result c.from_residual-in_err-put_bracket-in-Pair.ensures.1 in
    rw (p.1, c.in-Pair.is, pair_text) (second_failed g.K.Sink.told (codes "(") (bracket_text c.in-Pair.front) (codes " ") (bracket_text c.in-Pair.back) (codes ")") _ _ _ p.0 c.in_ok-put-in-Pair.ensures (rw c.get.ensures at c.in_err-put_bracket-in-Pair.ensures))

pub returns-in_err-put-in-Pair-2 : goal.returns-in_err-put-in-Pair-2
returns-in_err-put-in-Pair-2 g t c =
    let p = err_from_is_err_and c.from_residual-in_err-put-in-Pair-2.result c.from_residual-in_err-put-in-Pair-2.ensures.1 in
    rw (p.1, c.in-Pair.is, pair_text) (third_failed g.K.Sink.told (codes "(") (bracket_text c.in-Pair.front) (codes " ") (bracket_text c.in-Pair.back) (codes ")") _ _ _ _ p.0 c.in_ok-put-in-Pair.ensures (rw c.get.ensures at c.in_ok-put_bracket-in-Pair.ensures) c.in_err-put-in-Pair-2.ensures)

pub returns-in_err-put_bracket-in-Pair-2 : goal.returns-in_err-put_bracket-in-Pair-2
returns-in_err-put_bracket-in-Pair-2 g t c =
    let p = err_from_is_err_and c.from_residual-in_err-put_bracket-in-Pair-2.result c.from_residual-in_err-put_bracket-in-Pair-2.ensures.1 in
    rw (p.1, c.in-Pair.is, pair_text) (fourth_failed g.K.Sink.told (codes "(") (bracket_text c.in-Pair.front) (codes " ") (bracket_text c.in-Pair.back) (codes ")") _ _ _ _ _ p.0 c.in_ok-put-in-Pair.ensures (rw c.get.ensures at c.in_ok-put_bracket-in-Pair.ensures) c.in_ok-put-in-Pair-2.ensures (rw c.get-in-Pair.ensures at c.in_err-put_bracket-in-Pair-2.ensures))

pub returns-in_ok-put_bracket-in-Pair-2 : goal.returns-in_ok-put_bracket-in-Pair-2
returns-in_ok-put_bracket-in-Pair-2 g t c =
    rw (c.in-Pair.is, pair_text) (all_put g.K.Sink.told (codes "(") (bracket_text c.in-Pair.front) (codes " ") (bracket_text c.in-Pair.back) (codes ")") _ _ _ _ _ _ _ c.in_ok-put-in-Pair.ensures (rw c.get.ensures at c.in_ok-put_bracket-in-Pair.ensures) c.in_ok-put-in-Pair-2.ensures (rw c.get-in-Pair.ensures at c.in_ok-put_bracket-in-Pair-2.ensures) c.put-in-Pair-3.ensures)
