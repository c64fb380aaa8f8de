-- Each strategy's brackets join in the order.
use Rattle.std.proofs.Common.{ℕ, List, length, ap, ◌∙◌, inl, inr}
use Rattle.std.proofs.lemmas.List.{length-map}
use Rattle.icet_model.specs.Bracket.{leaves}
use Rattle.icet_groups.specs.Tiles.{AreTiles, TileView}
use Rattle.icet_multi.specs.declared.settings.Strategy.{Strategy}
use Rattle.icet_multi.specs.declared.settings.Strategy.TheVariants.{Sequential, Direct, Reduce}
use Rattle.icet_multi.specs.Direct.{tile_bracket}
use Rattle.icet_multi.specs.Rules.{JoinsInOrder, RulesJoinInOrder, rule_by, strategy_of}
use Rattle.icet_multi.proofs.Absent.{tile_leaves}
use Rattle.icet_multi.proofs.BracketLeaves.{made_from, single_joins}
use Rattle.icet_multi.proofs.ReduceLeaves.{reduce_joins}

pub rules_join_in_order : RulesJoinInOrder
rules_join_in_order settings order tiles are = go settings.strategy
  where
    go : (strategy : Strategy) → JoinsInOrder (rule_by strategy (strategy_of settings.single settings.k)) order tiles
    go Sequential = record {
      count = length-map tiles _;
      joined = λ t x b at is. inl (ap leaves (made_from _ tiles t x b at is) ∙ single_joins settings.single settings.k order);
    }
    go Direct = record {
      count = length-map tiles tile_bracket;
      joined = λ t x b at is. inr (ap leaves (made_from tile_bracket tiles t x b at is) ∙ tile_leaves x);
    }
    go Reduce = reduce_joins settings.single settings.k order tiles are
