-- What a rank has by its position: the entry of one position, and none.
use Rattle.std.proofs.Common.{◌≡◌, ℕ, ◌<◌, Bool, true, false, cond, List, [], ◌∷◌, length, get_or, refl, sym, ap, ◌∙◌, subst, Option, Some, None, eqb-true}
use Rattle.std.proofs.lemmas.Bool.{eqb-false}
use Rattle.std.specs.Prelude.{◌==◌, ◌≢◌}
use Rattle.icet_legs.specs.Team.{IsTeam, Team, by_pos}
use Rattle.icet_model.specs.Fit.{Tiles}
use Rattle.icet_model.specs.Run.{put}

-- lists by rank, for participants
abbrev pub one_at : {V : Type 0} → ℕ → V → ℕ → List V
one_at peer m = put (λ _. []) peer (m ∷ [])

abbrev pub nothing : {V : Type 0} → ℕ → List V
nothing q = []

module _ {V : Type 0} (g : Team) (team : IsTeam g) where
  -- the one participant at t, and no other
  pub pick_at : (t : ℕ) → t < g.n → (F : ℕ → List V) (m : V) → F t ≡ m ∷ [] → ((b : ℕ) → b ≢ t → F b ≡ []) → (q : ℕ) → one_at (g.who t) m q ≡ by_pos [] F (g.pos q)
  pick_at t l F m here other q = go (g.pos q) refl (g.who t == q) refl
    where
      go : (o : Option ℕ) → g.pos q ≡ o → (b : Bool) → (g.who t == q) ≡ b → cond b (m ∷ []) [] ≡ by_pos [] F o
      go None e true h = let k : g.pos q ≡ Some t = subst (λ z. g.pos z ≡ Some t) (eqb-true (g.who t) q h) (team.back t l) in absurd (cc)
      go None e false h = refl
      go (Some a) e true h = let k : g.pos q ≡ Some t = subst (λ z. g.pos z ≡ Some t) (eqb-true (g.who t) q h) (team.back t l) in let s : t ≡ a = cc in sym here ∙ ap F s
      go (Some a) e false h = sym (other a (λ s. eqb-false (g.who t) q h (ap g.who (sym s) ∙ (team.forth q a e).0)))

  pub none_at : (F : ℕ → List V) → ((b : ℕ) → F b ≡ []) → (q : ℕ) → nothing q ≡ by_pos [] F (g.pos q)
  none_at F h q = go (g.pos q)
    where
      go : (o : Option ℕ) → [] ≡ by_pos [] F o
      go None = refl
      go (Some a) = sym (h a)

-- the tile of the leg
pub record OnTiles (tiles : Tiles) (g : Team) : Type 0 where
  pub tile : g.tile < length tiles.sizes
  pub size : g.size ≡ get_or tiles.sizes g.tile 0
