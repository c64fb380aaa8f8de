use Rattle.std.proofs.Common.{◌∙◌, ◌++◌, [], ◌∷◌, ap, map, sym}
use Rattle.std.specs.List.{range_with_len}
use Rattle.icet_model.proofs.Lists.{made_more}
use Rattle.icet_multi.specs.Direct.{tile_bracket}
use Rattle.icet_multi.specs.Reduce.{block_tile}
use Rattle.icet_multi.proofs.legs.folds_of.Goals as goal

pub loop-j-preserved : goal.loop-j-preserved
loop-j-preserved c =
    c.in_ok-push.ensures.items
    ∙ (ap (λ z. z ++ c.in_ok-bracket.bracket ∷ []) c.loop-j.invariant
    ∙ (ap (λ z. map (λ j. tile_bracket (block_tile c.args.tile.now c.args.group.now j)) (range_with_len 0 c.loop-j.j) ++ z ∷ []) (c.in_ok-bracket.ensures ∙ ap tile_bracket c.in_ok-block.ensures)
    ∙ sym (made_more (λ j. tile_bracket (block_tile c.args.tile.now c.args.group.now j)) c.loop-j.j)))
