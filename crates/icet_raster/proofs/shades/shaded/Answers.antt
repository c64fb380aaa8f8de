use Rattle.std.proofs.Common.{sym, subst, arith, ◌≤◌, ◌∙◌}
use Rattle.icet_model.specs.Pixel.{IsFragment}
use Rattle.icet_raster.proofs.ShareSteps.{shaded-fragment, shades-shaded, share-within, small}
use Rattle.icet_raster.proofs.shades.shaded.Goals as goal

pub channel-requires : goal.channel-requires
channel-requires c =
    let w = c.args.walk.now in
    let f = c.requires.slopes in
    share-within w c.args.x c.args.y w.first.r w.second.r w.third.r c.args.shades.r 65535 c.requires.walk c.requires.covered c.requires.shades.r (small w.first f.first).r (small w.second f.second).r (small w.third f.third).r (omega arith)

pub channel-requires-2 : goal.channel-requires-2
channel-requires-2 c =
    let w = c.args.walk.now in
    let f = c.requires.slopes in
    share-within w c.args.x c.args.y w.first.g w.second.g w.third.g c.args.shades.g 65535 c.requires.walk c.requires.covered c.requires.shades.g (small w.first f.first).g (small w.second f.second).g (small w.third f.third).g (omega arith)

pub channel-requires-3 : goal.channel-requires-3
channel-requires-3 c =
    let w = c.args.walk.now in
    let f = c.requires.slopes in
    share-within w c.args.x c.args.y w.first.b w.second.b w.third.b c.args.shades.b 65535 c.requires.walk c.requires.covered c.requires.shades.b (small w.first f.first).b (small w.second f.second).b (small w.third f.third).b (omega arith)

pub channel-requires-4 : goal.channel-requires-4
channel-requires-4 c =
    let w = c.args.walk.now in
    let f = c.requires.slopes in
    share-within w c.args.x c.args.y w.first.a w.second.a w.third.a c.args.shades.a 65535 c.requires.walk c.requires.covered c.requires.shades.a (small w.first f.first).a (small w.second f.second).a (small w.third f.third).a (omega arith)

pub depth-requires : goal.depth-requires
depth-requires c =
    let w = c.args.walk.now in
    let f = c.requires.slopes in
    share-within w c.args.x c.args.y w.first.z w.second.z w.third.z c.args.shades.z 16777214 c.requires.walk c.requires.covered c.requires.shades.z (small w.first f.first).z (small w.second f.second).z (small w.third f.third).z (omega arith)

pub of-requires : goal.of-requires
of-requires c =
    let w = c.args.walk.now in
    let f = c.requires.slopes in
    let e = shades-shaded w c.args.x c.args.y c.args.shades c.channel.result c.channel-2.result c.channel-3.result c.channel-4.result c.depth.result c.requires.walk c.requires.covered c.requires.shades f.first f.second f.third c.channel.ensures c.channel-2.ensures c.channel-3.ensures c.channel-4.ensures c.depth.ensures in
    subst IsFragment (sym e) (shaded-fragment w c.args.x c.args.y c.requires.covered f.first f.second f.third)

pub returns : goal.returns
returns c =
    let w = c.args.walk.now in
    let f = c.requires.slopes in
    c.of.ensures ∙ shades-shaded w c.args.x c.args.y c.args.shades c.channel.result c.channel-2.result c.channel-3.result c.channel-4.result c.depth.result c.requires.walk c.requires.covered c.requires.shades f.first f.second f.third c.channel.ensures c.channel-2.ensures c.channel-3.ensures c.channel-4.ensures c.depth.ensures
