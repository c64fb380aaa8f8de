use Rattle.icet_rank.specs.Moves.{HasPeer}
use Rattle.std.proofs.lemmas.List.{drop_all}
use Rattle.std.proofs.Common.{◌≡◌, sym, ap, ◌∙◌, eqb-true, subst}
use Rattle.std.proofs.lemmas.Option.{get_or_from_slice_get}
use Rattle.icet_rank.proofs.ports.place_of.Goals as goal

pub returns-then-eq-clause-there : goal.returns-then-eq-clause-there
returns-then-eq-clause-there g c = λ x h.
    let s : c.index-ports-at.result ≡ x = c.index-ports-at.is ∙ get_or_from_slice_get c.args.ports.now c.loop-at.at x c.index-ports-at.result h in
    ap (λ p. p.0) (sym s) ∙ eqb-true c.index-ports-at.result.0 c.args.peer (sym c.eq.ensures ∙ c.if-eq.true)

pub loop-at-init : goal.loop-at-init
loop-at-init g c = c.requires

pub unreachable-requires : goal.unreachable-requires
unreachable-requires g c = subst (HasPeer c.args.peer) (drop_all _ c.args.ports.now c.loop-at-test.false) c.loop-at.invariant

pub returns-then-eq-clause-within : goal.returns-then-eq-clause-within
returns-then-eq-clause-within g c = c.loop-at-test.true
