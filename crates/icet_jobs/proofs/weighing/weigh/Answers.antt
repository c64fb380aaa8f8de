use Rattle.std.proofs.Common.{◌≡◌, ◌+◌, ◌*◌, ◌≤◌, ◌<◌, length, ◌∙◌, ap, arith}
use Rattle.std.proofs.lemmas.List.{take_all}
use Rattle.icet_jobs.specs.Weights.{image_weight, images_weight}
use Rattle.icet_jobs.proofs.Weighed.{more_in_turn}
use Rattle.icet_jobs.proofs.weighing.weigh.Goals as goal

pub loop-image-preserved : goal.loop-image-preserved
loop-image-preserved c =
    let l = c.loop-image in
    let weighed = c.weigh_image-weight in (
      more_in_turn image_weight c.args.images.now l.image-index c.image-item.result l.weight weighed.result c.loop-image-test.true c.image-item.is l.invariant.0 weighed.ensures.weight,
      (let small = l.invariant.1 in omega (arith, small, weighed.ensures.small)),
    )

pub overflow_add-weight : goal.overflow_add-weight
overflow_add-weight c = let small = c.loop-image.invariant.1 in omega (arith, small, c.weigh_image-weight.ensures.small, c.loop-image-test.true, c.requires.ranks)
