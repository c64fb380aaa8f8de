use Rattle.icet_raster.proofs.ShareSteps.{share-step}
use Rattle.icet_raster.proofs.shades.next_shades.Goals as goal

pub returns : goal.returns
returns c =
    let w = c.args.walk.now in
    let is = c.requires.walk in
    record {
      r = share-step w c.args.x c.args.y w.first.r w.second.r w.third.r c.args.shades.r c.args.slopes.r c.grown.result is c.requires.shades.r c.requires.slopes.r c.grown.ensures.share c.grown.ensures.small;
      g = share-step w c.args.x c.args.y w.first.g w.second.g w.third.g c.args.shades.g c.args.slopes.g c.grown-2.result is c.requires.shades.g c.requires.slopes.g c.grown-2.ensures.share c.grown-2.ensures.small;
      b = share-step w c.args.x c.args.y w.first.b w.second.b w.third.b c.args.shades.b c.args.slopes.b c.grown-3.result is c.requires.shades.b c.requires.slopes.b c.grown-3.ensures.share c.grown-3.ensures.small;
      a = share-step w c.args.x c.args.y w.first.a w.second.a w.third.a c.args.shades.a c.args.slopes.a c.grown-4.result is c.requires.shades.a c.requires.slopes.a c.grown-4.ensures.share c.grown-4.ensures.small;
      z = share-step w c.args.x c.args.y w.first.z w.second.z w.third.z c.args.shades.z c.args.slopes.z c.grown-5.result is c.requires.shades.z c.requires.slopes.z c.grown-5.ensures.share c.grown-5.ensures.small;
    }
