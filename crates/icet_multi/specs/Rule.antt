-- A strategy as a value: what it says of the plan for a list of tiles and the ranks in their order.
use Rattle.std.specs.Prelude.{◌≡◌, ℕ, ◌<◌, ◌⊎◌, List, [], map, length, get_or, slice_get, Some}
use Rattle.icet_model.specs.declared.bracket.Bracket.{Bracket}
use Rattle.icet_model.specs.declared.exchange.Exchange.{Exchange}
use Rattle.icet_model.specs.Bracket.{leaves}
use Rattle.icet_model.specs.Exchange.{of_rank}
use Rattle.icet_model.specs.Flow.{Messages}
use Rattle.icet_model.specs.Plan.{PlanView, bracket_flow, plan_exchanges}
use Rattle.icet_legs.specs.TileStrategy.{TileStrategy}
use Rattle.icet_tree.specs.Tree.{tree_strategy}
use Rattle.icet_bswap.specs.Bswap.{bswap_strategy}
use Rattle.icet_radixk.specs.Radixk.{radix_strategy}
use Rattle.icet_multi.specs.declared.settings.Single.{Single}
use Rattle.icet_multi.specs.declared.settings.Single.TheVariants.{Tree, Bswap, Radixk}
use Rattle.icet_multi.specs.Direct.{TileView}

pub record Rule : Type 0 where
  pub brackets : List ℕ → List TileView → List Bracket  -- of each tile
  pub messages : List ℕ → List TileView → Messages Bracket  -- what each rank sends to each
  pub exchanges : List ℕ → List TileView → ℕ → List Exchange  -- of each rank, in its order

-- the plan that a rule says
pub record IsPlanBy (rule : Rule) (order : List ℕ) (tiles : List TileView) (plan : PlanView) : Type 0 where
  pub sizes : plan.tiles.sizes ≡ map (λ x. x.size) tiles
  pub displays : plan.tiles.displays ≡ map (λ x. x.display) tiles
  pub brackets : plan.brackets ≡ rule.brackets order tiles
  pub programs : length plan.programs ≡ length order
  pub messages : (q r : ℕ) → bracket_flow plan q r ≡ rule.messages order tiles q r
  pub exchanges : (r : ℕ) → r < length order → of_rank (plan_exchanges plan) r ≡ rule.exchanges order tiles r

-- a tile beyond the last has no pixels
abbrev pub tile_of : List TileView → ℕ → TileView
tile_of tiles t = get_or tiles t (record { size = 0; display = 0; contributors = [] })

-- the strategy for one tile, with factors up to k where it splits into groups
abbrev pub strategy_of : Single → ℕ → TileStrategy
strategy_of Tree k = tree_strategy
strategy_of Bswap k = bswap_strategy
strategy_of Radixk k = radix_strategy k

-- the bracket of each tile joins all ranks in their order, or the tile's contributors in theirs
pub record JoinsInOrder (rule : Rule) (order : List ℕ) (tiles : List TileView) : Type 0 where
  pub count : length (rule.brackets order tiles) ≡ length tiles
  pub joined : (t : ℕ) (x : TileView) (b : Bracket) → slice_get tiles t ≡ Some x → slice_get (rule.brackets order tiles) t ≡ Some b → (leaves b ≡ order) ⊎ (leaves b ≡ x.contributors)
