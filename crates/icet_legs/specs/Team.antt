-- Legs: the participants of one tile by position, and what a rank has by its position.
use Rattle.std.specs.Prelude.{cond, ◌==◌, ◌∷◌, ◌++◌, length, get_or, option_map, suc, ◌≡◌, ℕ, ◌<◌, List, [], Option, Some, None}
use Rattle.icet_model.specs.declared.bracket.Bracket.{Bracket}
use Rattle.icet_model.specs.declared.bracket.Bracket.TheVariants.{Empty}
use Rattle.icet_model.specs.declared.exchange.Op.{Op}
use Rattle.icet_model.specs.declared.exchange.Op.TheVariants.{Load}

-- what a leg is about: n participants, the one at p being rank who p; the tile, its positions, the first round, the leaves
pub record Team : Type 0 where
  pub n : ℕ
  pub who : ℕ → ℕ
  pub pos : ℕ → Option ℕ
  pub leaf : ℕ → Bracket
  pub tile : ℕ
  pub size : ℕ
  pub first : ℕ

-- positions and ranks belong together
pub record IsTeam (g : Team) : Type 0 where
  pub back : (p : ℕ) → p < g.n → g.pos (g.who p) ≡ Some p
  pub forth : (r p : ℕ) → g.pos r ≡ Some p → (g.who p ≡ r) × (p < g.n)

-- what a rank has by its position, if it has one
abbrev pub by_pos : {V : Type 0} → V → (ℕ → V) → Option ℕ → V
by_pos d f None = d
by_pos d f (Some p) = f p

abbrev pub by_pair : {V : Type 0} → (ℕ → ℕ → List V) → Option ℕ → Option ℕ → List V
by_pair f o u = by_pos [] (λ a. by_pos [] (λ b. f a b) u) o

-- where in the list a number stands first
abbrev pub place_in : List ℕ → ℕ → Option ℕ
place_in [] r = None
place_in (x ∷ xs) r = cond (x == r) (Some 0) (option_map suc (place_in xs r))

-- the leg of these participants with these leaves
abbrev pub team_of : List ℕ → List Bracket → ℕ → ℕ → ℕ → Team
team_of participants leaves tile size first = record {
  n = length participants;
  who = λ p. get_or participants p 0;
  pos = place_in participants;
  leaf = λ p. get_or leaves p Empty;
  tile = tile;
  size = size;
  first = first;
}

-- each participant loads its own image into slot 0 before it does these operations
abbrev pub loaded : Team → (ℕ → List Op) → ℕ → List Op
loaded g ops r = by_pos [] (λ p. Load g.tile 0 ∷ []) (g.pos r) ++ ops r
