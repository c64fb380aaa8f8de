use Rattle.std.proofs.Common.{◌+◌, ◌<◌, ◌∙◌, ap, sym, ◌∷◌, [], arith, length, drop}
use Rattle.std.proofs.lemmas.List.{take_rest}
use Rattle.icet_text.specs.Lines.{words_of}
use Rattle.icet_text.proofs.FirstWords.{numeral_whole, numeral_cut, first_of}
use Rattle.icet_text.proofs.first_number.split_at_sight.Goals as goal

pub returns-then-end-line-clause-numeral : goal.returns-then-end-line-clause-numeral
returns-then-end-line-clause-numeral c =
    let words = numeral_whole c.args.line.now c.in_ok-number.end c.in_ok-number.ensures.numeral (omega (arith, c.if-end-line.true)) in
    rw (first_of c.args.line.now _ _ words) c.in_ok-number.ensures.numeral

pub returns-then-end-line-clause-value : goal.returns-then-end-line-clause-value
returns-then-end-line-clause-value c =
    let words = numeral_whole c.args.line.now c.in_ok-number.end c.in_ok-number.ensures.numeral (omega (arith, c.if-end-line.true)) in
    rw (first_of c.args.line.now _ _ words) c.in_ok-number.ensures.value

pub returns-then-end-line-clause-words : goal.returns-then-end-line-clause-words
returns-then-end-line-clause-words c =
    let words = numeral_whole c.args.line.now c.in_ok-number.end c.in_ok-number.ensures.numeral (omega (arith, c.if-end-line.true)) in
    words ∙ ap (λ word. word ∷ []) (sym (first_of c.args.line.now _ _ words))

pub returns-then-line-end-eq32-clause-numeral : goal.returns-then-line-end-eq32-clause-numeral
returns-then-line-end-eq32-clause-numeral c =
    let l : c.in_ok-number.end < length c.args.line.now = omega (arith, c.if-end-line.false, c.in_ok-number.ensures.within) in
    let words = numeral_cut c.args.line.now c.in_ok-number.end c.in_ok-number.ensures.numeral l (omega (arith, c.if-line-end-eq32.true)) in
    rw (first_of c.args.line.now _ _ words) c.in_ok-number.ensures.numeral

pub returns-then-line-end-eq32-clause-value : goal.returns-then-line-end-eq32-clause-value
returns-then-line-end-eq32-clause-value c =
    let l : c.in_ok-number.end < length c.args.line.now = omega (arith, c.if-end-line.false, c.in_ok-number.ensures.within) in
    let words = numeral_cut c.args.line.now c.in_ok-number.end c.in_ok-number.ensures.numeral l (omega (arith, c.if-line-end-eq32.true)) in
    rw (first_of c.args.line.now _ _ words) c.in_ok-number.ensures.value

pub returns-then-line-end-eq32-clause-words : goal.returns-then-line-end-eq32-clause-words
returns-then-line-end-eq32-clause-words c =
    let l : c.in_ok-number.end < length c.args.line.now = omega (arith, c.if-end-line.false, c.in_ok-number.ensures.within) in
    let words = numeral_cut c.args.line.now c.in_ok-number.end c.in_ok-number.ensures.numeral l (omega (arith, c.if-line-end-eq32.true)) in
    rw (take_rest c.args.line.now (c.in_ok-number.end + 1)) (words ∙ ap (λ word. word ∷ words_of (drop (c.in_ok-number.end + 1) c.args.line.now)) (sym (first_of c.args.line.now _ _ words)))
