-- The direct strategy: every contributor to a tile hands its whole image to the rank that shows the
-- tile, which folds them from the left. All is in round 0.
use Rattle.std.specs.Prelude.{◌≡◌, ◌≢◌, ℕ, suc, ◌<◌, Bool, false, cond, ◌&&◌, ◌||◌, ◌==◌, not, List, [], ◌∷◌, ◌++◌, map, length, AllPairs}
use Rattle.std.specs.List.{AllByRecursion, range_with_len}
pub use Rattle.icet_groups.specs.Tiles.{TileView, has, IsTile, AreTiles}
use Rattle.icet_model.specs.declared.bracket.Bracket.{Bracket}
use Rattle.icet_model.specs.declared.bracket.Bracket.TheVariants.{Leaf}
use Rattle.icet_model.specs.declared.exchange.Kind.TheVariants.{Send, Take}
use Rattle.icet_model.specs.declared.exchange.Exchange.{Exchange}
use Rattle.icet_model.specs.declared.exchange.Op.{Op}
use Rattle.icet_model.specs.declared.exchange.Op.TheVariants.{Load, Blank, Join, Swap, Keep}
use Rattle.icet_model.specs.BracketFold.{left}
use Rattle.icet_model.specs.Exchange.{of_rank}
use Rattle.icet_model.specs.Run.{MessageView}
use Rattle.icet_model.specs.Flow.{Messages}
use Rattle.icet_model.specs.Plan.{PlanView, bracket_flow, plan_exchanges}

-- rank q hands its image of the tile to the display
abbrev pub hands_in : TileView → ℕ → Bool
hands_in x q = has q x.contributors && not (q == x.display)

-- the images of the contributors, folded from the left
abbrev pub tile_bracket : TileView → Bracket
tile_bracket x = left (map (λ c. Leaf c) x.contributors)

-- the message of a rank that hands in its image of tile t
abbrev pub image_message : ℕ → TileView → ℕ → MessageView Bracket
image_message t x q = record { round = 0; from = q; to = x.display; piece = record { tile = t; lo = 0; hi = x.size; content = Leaf q } }

-- what each tile gives, one tile after the other; t is the number of the first
abbrev pub by_tile : {A : Type 0} → (ℕ → TileView → List A) → ℕ → List TileView → List A
by_tile of_tile t [] = []
by_tile of_tile t (x ∷ xs) = of_tile t x ++ by_tile of_tile (suc t) xs

-- the messages from q to r, of one tile and of all
abbrev pub messages_for : ℕ → TileView → Messages Bracket
messages_for t x q r = cond ((x.display == r) && hands_in x q) (image_message t x q ∷ []) []

abbrev pub messages_from : ℕ → List TileView → Messages Bracket
messages_from t tiles q r = by_tile (λ n x. messages_for n x q r) t tiles

-- one message from each contributor to the display of its tile, if that is another rank, and none else
abbrev pub direct_messages : List TileView → Messages Bracket
direct_messages tiles = messages_from 0 tiles

-- the exchange that sends a rank's image of tile t, and the one that takes it from that rank
abbrev pub send_of : ℕ → TileView → Exchange
send_of t x = record { round = 0; kind = Send; peer = x.display; tile = t; lo = 0; hi = x.size }

abbrev pub take_of : ℕ → TileView → ℕ → Exchange
take_of t x q = record { round = 0; kind = Take; peer = q; tile = t; lo = 0; hi = x.size }

-- the sends of rank r, of one tile and of all
abbrev pub sends_for : ℕ → TileView → ℕ → List Exchange
sends_for t x r = cond (hands_in x r) (send_of t x ∷ []) []

abbrev pub sends_of : ℕ → List TileView → ℕ → List Exchange
sends_of t tiles r = by_tile (λ n x. sends_for n x r) t tiles

-- the takes of a tile's display, in the order of the contributors
abbrev pub takes_in : ℕ → TileView → List ℕ → List Exchange
takes_in t x [] = []
takes_in t x (c ∷ cs) = cond (c == x.display) [] (take_of t x c ∷ []) ++ takes_in t x cs

-- the takes of rank r, of one tile and of all
abbrev pub takes_for : ℕ → TileView → ℕ → List Exchange
takes_for t x r = cond (x.display == r) (takes_in t x x.contributors) []

abbrev pub takes_of : ℕ → List TileView → ℕ → List Exchange
takes_of t tiles r = by_tile (λ n x. takes_for n x r) t tiles

-- a rank's sends come first
abbrev pub direct_exchanges : List TileView → ℕ → List Exchange
direct_exchanges tiles r = sends_of 0 tiles r ++ takes_of 0 tiles r

-- hands in the own image of tile t, if it is to
abbrev pub sending : ℕ → TileView → ℕ → List Op
sending t x r = cond (hands_in x r) (Load t 0 ∷ Swap (send_of t x) 0 ∷ []) []

-- puts the image of one contributor into a slot of the display
abbrev pub fetch : ℕ → TileView → ℕ → ℕ → Op
fetch t x slot c = cond (c == x.display) (Load t slot) (Swap (take_of t x c) slot)

-- joins each further image behind those before
abbrev pub joins : ℕ → TileView → List ℕ → List Op
joins t x [] = []
joins t x (c ∷ cs) = fetch t x 1 c ∷ Join 0 1 0 ∷ joins t x cs

abbrev pub folds : ℕ → TileView → List ℕ → List Op
folds t x [] = Blank t 0 ∷ []
folds t x (c ∷ cs) = fetch t x 0 c ∷ joins t x cs

-- what rank r does to show tile t, if it is its display
abbrev pub showing : ℕ → TileView → ℕ → List Op
showing t x r = cond (x.display == r) (folds t x x.contributors ++ Keep 0 ∷ []) []

abbrev pub sendings : ℕ → List TileView → ℕ → List Op
sendings t tiles r = by_tile (λ n x. sending n x r) t tiles

abbrev pub showings : ℕ → List TileView → ℕ → List Op
showings t tiles r = by_tile (λ n x. showing n x r) t tiles

abbrev pub direct_program : List TileView → ℕ → List Op
direct_program tiles r = sendings 0 tiles r ++ showings 0 tiles r

-- the plan of the direct strategy for these tiles
pub record IsDirect (ranks : ℕ) (tiles : List TileView) (plan : PlanView) : Type 0 where
  pub sizes : plan.tiles.sizes ≡ map (λ x. x.size) tiles
  pub displays : plan.tiles.displays ≡ map (λ x. x.display) tiles
  pub brackets : plan.brackets ≡ map tile_bracket tiles
  pub programs : length plan.programs ≡ ranks
  -- its messages are those of the strategy
  pub messages : (q r : ℕ) → bracket_flow plan q r ≡ direct_messages tiles q r
  -- each rank's exchanges stand in the strategy's order
  pub order : (r : ℕ) → r < ranks → of_rank (plan_exchanges plan) r ≡ direct_exchanges tiles r

-- the plan of these programs
abbrev pub direct_plan : ℕ → List TileView → PlanView
direct_plan ranks tiles = record {
  tiles = record { sizes = map (λ x. x.size) tiles; displays = map (λ x. x.display) tiles };
  brackets = map tile_bracket tiles;
  programs = map (direct_program tiles) (range_with_len 0 ranks);
}
