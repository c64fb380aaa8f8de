use Rattle.std.proofs.Common.{◌≡◌, ◌+◌, ◌*◌, ◌≤◌, ◌∙◌, ap, arith}
use Rattle.std.proofs.lemmas.List.{take_all}
use Rattle.icet_sparse.specs.Runs.{weight_of}
use Rattle.icet_jobs.specs.Weights.{image_weight}
use Rattle.icet_jobs.proofs.Weighed.{more_at}
use Rattle.icet_jobs.proofs.weighing.weigh_image.Goals as goal

pub overflow_add-weight : goal.overflow_add-weight
overflow_add-weight c = let small = c.loop-t.invariant.1 in omega (arith, small, c.weigh_part-weight.ensures.small, c.loop-t-test.true, c.requires.tiles)

pub loop-t-preserved : goal.loop-t-preserved
loop-t-preserved c =
    let i = c.loop-t.invariant in (
      more_at (λ piece. weight_of piece.content) c.args.image.now c.loop-t.t c.part.result.now c.loop-t.weight c.weigh_part-weight.result c.part.ensures i.0 c.weigh_part-weight.ensures.weight,
      omega (arith, i.1, c.weigh_part-weight.ensures.small),
    )

pub returns-clause-weight : goal.returns-clause-weight
returns-clause-weight c = c.loop-t.invariant.0 ∙ ap image_weight (take_all c.loop-t.t c.args.image.now (omega (arith, c.requires.each, c.loop-t-test.false)))

pub returns-clause-small : goal.returns-clause-small
returns-clause-small c = let small = c.loop-t.invariant.1 in omega (arith, small, c.loop-t.auto.t-end, c.requires.tiles)
