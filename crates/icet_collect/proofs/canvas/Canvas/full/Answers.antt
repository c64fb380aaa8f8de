use Rattle.std.proofs.Common.{sym, ◌∙◌, eqb-true, eq-eqb, arith}
use Rattle.icet_collect.proofs.Positions.{none_left, left_none}
use Rattle.icet_collect.proofs.canvas.Canvas.full.Goals as goal

pub returns-clause-value : goal.returns-clause-value
returns-clause-value c =
    let s = c.self.inside in
    rw (← c.self.view_is) (λ e i h. none_left s.placed.items (sym c.self.invariant.count ∙ eqb-true s.left 0 e) i (omega arith), λ f. eq-eqb s.left 0 (c.self.invariant.count ∙ left_none s.placed.items (λ i h. f i (omega arith))))
