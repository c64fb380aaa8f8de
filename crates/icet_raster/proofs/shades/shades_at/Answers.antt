use Rattle.std.proofs.Common.{◌∙◌}
use Rattle.icet_raster.proofs.ShareSteps.{share-first}
use Rattle.icet_raster.proofs.shades.shades_at.Goals as goal

pub returns : goal.returns
returns c =
    let w = c.args.walk.now in
    let is = c.requires.walk in
    let same = (c.weights_at-weights.ensures c.args.x c.args.y c.requires.values c.requires.covered).1 in
    record {
      r = share-first w c.args.x c.args.y c.weights_at-weights.result _ _ _ w.first.r w.second.r w.third.r c.share_by.result is c.requires.covered same (c.from.ensures ∙ c.r.ensures.value) (c.from-2.ensures ∙ c.r-2.ensures.value) (c.from-3.ensures ∙ c.r-3.ensures.value) c.share_by.ensures.share c.share_by.ensures.small;
      g = share-first w c.args.x c.args.y c.weights_at-weights.result _ _ _ w.first.g w.second.g w.third.g c.share_by-2.result is c.requires.covered same (c.from-4.ensures ∙ c.g.ensures.value) (c.from-5.ensures ∙ c.g-2.ensures.value) (c.from-6.ensures ∙ c.g-3.ensures.value) c.share_by-2.ensures.share c.share_by-2.ensures.small;
      b = share-first w c.args.x c.args.y c.weights_at-weights.result _ _ _ w.first.b w.second.b w.third.b c.share_by-3.result is c.requires.covered same (c.from-7.ensures ∙ c.b.ensures.value) (c.from-8.ensures ∙ c.b-2.ensures.value) (c.from-9.ensures ∙ c.b-3.ensures.value) c.share_by-3.ensures.share c.share_by-3.ensures.small;
      a = share-first w c.args.x c.args.y c.weights_at-weights.result _ _ _ w.first.a w.second.a w.third.a c.share_by-4.result is c.requires.covered same (c.from-10.ensures ∙ c.a.ensures.value) (c.from-11.ensures ∙ c.a-2.ensures.value) (c.from-12.ensures ∙ c.a-3.ensures.value) c.share_by-4.ensures.share c.share_by-4.ensures.small;
      z = share-first w c.args.x c.args.y c.weights_at-weights.result _ _ _ w.first.z w.second.z w.third.z c.share_by-5.result is c.requires.covered same c.z.ensures.value c.z-2.ensures.value c.z-3.ensures.value c.share_by-5.ensures.share c.share_by-5.ensures.small;
    }
