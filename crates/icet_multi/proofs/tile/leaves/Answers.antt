use Rattle.std.proofs.Common.{◌∙◌, ◌++◌, [], ◌∷◌, sym, ap, map, take}
use Rattle.std.proofs.lemmas.List.{map_more, take_all}
use Rattle.icet_model.specs.declared.bracket.Bracket.TheVariants.{Leaf}
use Rattle.icet_multi.proofs.tile.leaves.Goals as goal

pub loop-rank-preserved : goal.loop-rank-preserved
loop-rank-preserved c =
    let rs = c.args.ranks.now in
    let i = c.loop-rank.rank-index in
    c.in_ok-push.ensures.items
    ∙ (ap (λ l. l ++ Leaf c.rank-item.result ∷ []) c.loop-rank.invariant
    ∙ (ap (λ r. map (λ r. Leaf r) (take i rs) ++ Leaf r ∷ []) c.rank-item.is
    ∙ sym (map_more (λ r. Leaf r) rs i c.rank-item.result c.loop-rank-test.true)))

pub returns : goal.returns
returns c = c.loop-rank.invariant ∙ ap (map (λ r. Leaf r)) (take_all c.loop-rank.rank-index c.args.ranks.now c.loop-rank-test.false)
