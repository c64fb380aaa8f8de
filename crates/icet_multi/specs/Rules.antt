-- The rules of the strategies.
use Rattle.std.specs.Prelude.{ℕ, ◌*◌, List, map, length}
use Rattle.icet_model.specs.declared.bracket.Bracket.TheVariants.{Leaf}
use Rattle.icet_model.specs.Exchange.{exchanges}
use Rattle.icet_model.specs.Plan.{PlanView}
use Rattle.icet_plan.specs.Each.{each}
use Rattle.icet_groups.specs.Tiles.{AreTiles}
use Rattle.icet_legs.specs.Team.{Team, by_pos, place_in, team_of}
use Rattle.icet_legs.specs.TileStrategy.{TileStrategy, messages_of, ops_of}
use Rattle.icet_multi.specs.declared.settings.Settings.{Settings}
use Rattle.icet_multi.specs.declared.settings.Strategy.{Strategy}
use Rattle.icet_multi.specs.declared.settings.Strategy.TheVariants.{Sequential, Direct, Reduce}
use Rattle.icet_multi.specs.Direct.{IsDirect, TileView, direct_exchanges, direct_messages, tile_bracket}
use Rattle.icet_multi.specs.Reduce.{reduce_rule}
pub use Rattle.icet_multi.specs.Rule.{IsPlanBy, JoinsInOrder, Rule, strategy_of, tile_of}

-- every contributor sends its whole image to the tile's display
abbrev pub direct_rule : Rule
direct_rule = record {
  brackets = λ order tiles. map tile_bracket tiles;
  messages = λ order tiles. direct_messages tiles;
  exchanges = λ order tiles. direct_exchanges tiles;
}

-- all ranks take part in tile t, and their leaves are themselves; the tiles before take so many rounds each
abbrev pub team_at : TileStrategy → List ℕ → List TileView → ℕ → Team
team_at s order tiles t = team_of order (map (λ r. Leaf r) order) t (tile_of tiles t).size (t * s.rounds (length order))

-- where the display of tile t stands in the order
abbrev pub shows_at : List ℕ → List TileView → ℕ → ℕ
shows_at order tiles t = by_pos 0 (λ p. p) (place_in order (tile_of tiles t).display)

-- tile after tile, all ranks join their images by one strategy
abbrev pub sequential_rule : TileStrategy → Rule
sequential_rule s = record {
  brackets = λ order tiles. map (λ x. s.bracket (map (λ r. Leaf r) order)) tiles;
  messages = λ order tiles q r. each (λ t. messages_of s (team_at s order tiles t) (shows_at order tiles t) q r) (length tiles);
  exchanges = λ order tiles r. each (λ t. exchanges (ops_of s (team_at s order tiles t) (shows_at order tiles t) r)) (length tiles);
}

-- the rule of a strategy, which may rest on one for a single tile
abbrev pub rule_by : Strategy → TileStrategy → Rule
rule_by Sequential s = sequential_rule s
rule_by Direct s = direct_rule
rule_by Reduce s = reduce_rule s

-- the rule that settings name
abbrev pub rule_of : Settings → Rule
rule_of settings = rule_by settings.strategy (strategy_of settings.single settings.k)

-- each strategy joins in the order, where each tile has a display of its own and no contributor stands twice
abbrev pub RulesJoinInOrder : Type 0
RulesJoinInOrder = (settings : Settings) (order : List ℕ) (tiles : List TileView) → AreTiles (length order) tiles → JoinsInOrder (rule_of settings) order tiles

-- the direct strategy's plan is that of its rule
abbrev pub DirectIsByRule : Type 0
DirectIsByRule = (order : List ℕ) (tiles : List TileView) (plan : PlanView) → IsDirect (length order) tiles plan → IsPlanBy direct_rule order tiles plan
