use Rattle.std.proofs.Common.{arith, sym, ◌∙◌}
use Rattle.icet_tiles.proofs.Displays.{apart_more, shown_twice}
use Rattle.icet_tiles.proofs.layout.have_own_displays.Goals as goal

pub returns-then-is_shown : goal.returns-then-is_shown
returns-then-is_shown c = (λ no. absurd cc, λ apart. absurd (shown_twice c.args.tiles.now c.loop-at.at c.index-tiles-at.result (omega arith) (sym c.is_shown.ensures ∙ c.if-is_shown.true) apart))

pub loop-at-preserved : goal.loop-at-preserved
loop-at-preserved c = apart_more c.args.tiles.now c.loop-at.at c.index-tiles-at.result (omega arith) (sym c.is_shown.ensures ∙ c.if-is_shown.false) c.loop-at.invariant
