-- What the displays keep: each position once, in the tile's bracket.
use Rattle.std.proofs.Common.{◌≡◌, ℕ, zero, suc, ◌+◌, ◌<◌, Bool, true, false, cond, List, [], ◌∷◌, ◌++◌, length, get_or, refl, ap, ◌∙◌, arith, eq-eqb, ne_eqb, Some}
use Rattle.std.specs.Prelude.{◌==◌, ◌&&◌, ◌≢◌, nat_le, nat_lt}
use Rattle.std.specs.List.{AllByRecursion, filter, slice_get}
use Rattle.std.proofs.lemmas.Bool.Decides.{nat_tests}
use Rattle.icet_model.specs.declared.bracket.Bracket.{Bracket}
use Rattle.icet_model.specs.declared.bracket.Bracket.TheVariants.{Empty}
use Rattle.icet_model.specs.Fit.{Tiles}
use Rattle.icet_model.specs.Plan.{has_place}
use Rattle.icet_plan.proofs.Lists.{filter-append}
use Rattle.icet_plan.proofs.Segments.{all_append}
use Rattle.icet_multi.specs.Direct.{TileView, tile_bracket}
use Rattle.icet_multi.proofs.OnTiles.{AreOn}
use Rattle.icet_multi.proofs.DirectRuns.{piece_of, kept_of, kept_from}

module _ (r : ℕ) where
  -- pieces of other tiles don't hold the position
  of_others : (u i t : ℕ) (x : TileView) → t ≢ u → filter (has_place u i) (kept_of t x r) ≡ []
  of_others u i t x n = go (x.display == r)
    where
      go : (b : Bool) → filter (has_place u i) (cond b (piece_of t x (tile_bracket x) ∷ []) []) ≡ []
      go false = refl
      go true = ap (λ b. cond (b && (nat_le 0 i && nat_lt i x.size)) (piece_of t x (tile_bracket x) ∷ []) []) (ne_eqb t u n)

  of_later : (u i t : ℕ) (xs : List TileView) → u < t → filter (has_place u i) (kept_from t xs r) ≡ []
  of_later u i t [] l = refl
  of_later u i t (x ∷ xs) l = filter-append (has_place u i) (kept_of t x r) (kept_from (suc t) xs r) ∙ (ap (λ z. z ++ filter (has_place u i) (kept_from (suc t) xs r)) (of_others u i t x (λ e. absurd (omega (arith, e, l)))) ∙ of_later u i (suc t) xs (omega arith))

  here : (t i : ℕ) (x : TileView) → x.display ≡ r → i < x.size → filter (has_place t i) (kept_of t x r) ≡ piece_of t x (tile_bracket x) ∷ []
  here t i x mine l =
      ap (λ b. filter (has_place t i) (cond b (piece_of t x (tile_bracket x) ∷ []) [])) (eq-eqb x.display r mine)
      ∙ (ap (λ b. cond (b && (nat_le 0 i && nat_lt i x.size)) (piece_of t x (tile_bracket x) ∷ []) []) (eq-eqb t t refl)
      ∙ ap (λ b. cond b (piece_of t x (tile_bracket x) ∷ []) []) (inside x.size l))
    where
      inside : (size : ℕ) → i < size → (nat_le 0 i && nat_lt i size) ≡ true
      inside size l = grind (arith, nat_tests)

  pub kept_once : (t k i : ℕ) (xs : List TileView) (x : TileView) → slice_get xs k ≡ Some x → x.display ≡ r → i < x.size → length (filter (has_place (t + k) i) (kept_from t xs r)) ≡ 1
  kept_once t k i [] x e mine l = absurd (cc)
  kept_once t zero i (y ∷ xs) x e mine l =
      let same : y ≡ x = cc in
      let first : filter (has_place t i) (kept_of t y r) ≡ piece_of t y (tile_bracket y) ∷ [] = here t i y (ap (λ (z : TileView). z.display) same ∙ mine) (let s = ap (λ (z : TileView). z.size) same in omega (arith, s, l)) in
      ap (λ u. length (filter (has_place u i) (kept_from t (y ∷ xs) r))) (let z : t + 0 ≡ t = omega arith in z)
      ∙ (ap (λ z. length z) (filter-append (has_place t i) (kept_of t y r) (kept_from (suc t) xs r))
      ∙ (ap (λ z. length (z ++ filter (has_place t i) (kept_from (suc t) xs r))) first
      ∙ ap (λ z. suc (length z)) (of_later t i (suc t) xs (omega arith))))
  kept_once t (suc k) i (y ∷ xs) x e mine l =
      ap (λ u. length (filter (has_place u i) (kept_from t (y ∷ xs) r))) (let z : t + suc k ≡ suc t + k = omega arith in z)
      ∙ (ap (λ z. length z) (filter-append (has_place (suc t + k) i) (kept_of t y r) (kept_from (suc t) xs r))
      ∙ (ap (λ z. length (z ++ filter (has_place (suc t + k) i) (kept_from (suc t) xs r))) (of_others (suc t + k) i t y (λ z. absurd (omega (arith, z))))
      ∙ kept_once (suc t) k i xs x (cc) mine l))

  pub kept_carries : (tiles : Tiles) (brackets : List Bracket) (t : ℕ) (xs : List TileView) → AreOn tiles brackets t xs → AllByRecursion (λ p. get_or brackets p.tile Empty ≡ p.content) (kept_from t xs r)
  kept_carries tiles brackets t [] on = tt
  kept_carries tiles brackets t (x ∷ xs) on = all_append (λ p. get_or brackets p.tile Empty ≡ p.content) (kept_of t x r) (kept_from (suc t) xs r) (go (x.display == r)) (kept_carries tiles brackets (suc t) xs on.1)
    where
      go : (b : Bool) → AllByRecursion (λ p. get_or brackets p.tile Empty ≡ p.content) (cond b (piece_of t x (tile_bracket x) ∷ []) [])
      go true = (on.0.bracket, tt)
      go false = tt
