use Rattle.std.proofs.Common.{◌∙◌, ◌++◌, [], ◌∷◌, sym, ap, map, take}
use Rattle.std.proofs.lemmas.List.{map_more, take_all}
use Rattle.icet_multi.proofs.direct.displays_of.Goals as goal

pub loop-tile-preserved : goal.loop-tile-preserved
loop-tile-preserved c =
    c.in_ok-push.ensures.items
    ∙ (ap (λ l. l ++ c.display.result ∷ []) c.loop-tile.invariant
    ∙ (ap (λ s. map (λ x. x.display) (take c.loop-tile.tile-index c.args.tiles.now) ++ s ∷ []) (c.display.ensures ∙ ap (λ x. x.display) c.tile-item.is)
    ∙ sym (map_more (λ x. x.display) c.args.tiles.now c.loop-tile.tile-index c.tile-item.result c.loop-tile-test.true)))

pub returns : goal.returns
returns c = c.loop-tile.invariant ∙ ap (map (λ x. x.display)) (take_all c.loop-tile.tile-index c.args.tiles.now c.loop-tile-test.false)
