use Rattle.std.proofs.Common.{◌+◌, List, sym, ap, ◌∙◌, subst}
use Rattle.std.proofs.lemmas.Bool.{both_ways}
use Rattle.icet_model.specs.Pixel.{Pixel}
use Rattle.icet_model.specs.Run.{Piece}
use Rattle.icet_collect.specs.Collect.{IsFree, Places}
use Rattle.icet_net.specs.CloseSteps.{ShowsFirst}
use Rattle.icet_net.proofs.ClosePieces.{free_at, placed_more, skipped_more, full_at, picture_is}
use Rattle.icet_net.proofs.closing.show.Goals as goal
use Rattle.icet_net.proofs.closing.show.Goals.{then-tile, else-tile}
use Rattle.icet_model.proofs.Lists.{any_default}

pub place-requires-clause-free : goal.place-requires-clause-free
place-requires-clause-free c = subst (λ (p : Piece (List Pixel)). IsFree c.placing.canvas p) (sym c.index-kept-i-then-tile.is) (free_at c.args.tile _ c.placing.i c.args.kept.now c.args.canvas c.placing.canvas c.placing.invariant c.index-kept-i-then-tile.result c.requires.once c.placing-test.true)

pub placing-preserved : goal.placing-preserved
placing-preserved c =
    elim c.if-tile.branch [
      | then-tile w ↦ subst (ShowsFirst c.args.tile (c.placing.i + 1) c.args.kept.now c.args.canvas) (sym w.canvas-is) (placed_more c.args.tile 0 c.placing.i c.args.kept.now c.args.canvas c.placing.canvas c.placing.invariant _ c.index-kept-i.result c.placing-test.true (ap (λ (p : Piece (List Pixel)). p.tile) (sym c.index-kept-i.is) ∙ (sym c.tile.ensures.value ∙ w.if-tile.true)) (subst (Places c.placing.canvas _) (w.index-kept-i-then-tile.is ∙ any_default c.args.kept.now c.placing.i _ _ c.placing-test.true) w.place.ensures))
      | else-tile w ↦ subst (ShowsFirst c.args.tile (c.placing.i + 1) c.args.kept.now c.args.canvas) (sym w.canvas-is) (skipped_more c.args.tile 0 c.placing.i c.args.kept.now c.args.canvas c.placing.canvas c.placing.invariant c.index-kept-i.result c.placing-test.true (λ e. w.if-tile.false (c.tile.ensures.value ∙ (ap (λ (p : Piece (List Pixel)). p.tile) c.index-kept-i.is ∙ e))))
    ]

pub unreachable-requires : goal.unreachable-requires
unreachable-requires c = both_ways c.full.result c.if-full.false (c.full.ensures.value.1 (full_at c.args.tile 0 c.placing.i c.args.kept.now c.args.canvas c.placing.canvas c.placing.invariant c.requires.once c.placing-test.false))

pub returns : goal.returns
returns c = picture_is c.args.tile 0 c.placing.i c.args.kept.now c.args.canvas c.placing.canvas c.placing.invariant c.requires.once c.placing-test.false c.full.ensures.known c.finish.result c.finish.ensures
