-- Binary-swap makes legs.
use Rattle.std.proofs.Common.{◌≡◌, ℕ, suc, ◌+◌, ◌*◌, ◌^◌, ◌<◌, sym, ap, subst, arith}
use Rattle.std.proofs.Math.Nat.{pow-succ'}
use Rattle.std.proofs.lemmas.List.FromFn.{length-map-range_with_len}
use Rattle.icet_model.specs.Fit.{Tiles}
use Rattle.icet_legs.specs.Leg.{AreRanks, IsLeg, IsTileOf}
use Rattle.icet_legs.specs.Pairing.{couples, tree}
use Rattle.icet_legs.specs.Powers.{floor_log2}
use Rattle.icet_legs.specs.Team.{Team, IsTeam}
use Rattle.icet_legs.specs.TileStrategy.{kept_of, leaves_of, messages_of, ops_of}
use Rattle.icet_legs.proofs.LegAlone.{makes_leg}
use Rattle.icet_legs.proofs.LegFacts.{MakesLeg}
use Rattle.icet_legs.proofs.PowersOfTwo.{floor_high, floor_low}
use Rattle.icet_bswap.specs.Bswap.{IsSwap, bswap_bracket, bswap_strategy, fold_count}
use Rattle.icet_bswap.proofs.SwapMakesLeg.{bswap_makes_leg}

-- so many participants are a power of two and fewer couples than that
pub count_is : (n : ℕ) → 0 < n → n ≡ 2 ^ floor_log2 n + fold_count n
count_is n some = let l = floor_low n some in omega (arith, l)

pub fold_few : (n : ℕ) → 0 < n → fold_count n < 2 ^ floor_log2 n
fold_few n some = let l = floor_low n some in let h = floor_high n some in let e = pow-succ' 2 (floor_log2 n) in omega (arith, l, h, e)

module _ (g : Team) (team : IsTeam g) (shows : ℕ) (shown : shows < g.n) where
  abbrev m : ℕ
  m = floor_log2 g.n

  abbrev e : ℕ
  e = fold_count g.n

  pub is_swap : IsSwap g m e shows
  is_swap = let some : 0 < g.n = omega (arith, shown) in record { count = count_is g.n some; few = fold_few g.n some; shown = shown }

  bracket_is : bswap_bracket g e ≡ bswap_strategy.bracket (leaves_of g)
  bracket_is = ap (λ n. tree (couples (fold_count n) (leaves_of g))) (sym (length-map-range_with_len g.leaf 0 g.n))

  module _ (tiles : Tiles) (of : IsTileOf tiles g shows) where
    as_strategy : MakesLeg tiles g shows (bswap_strategy.bracket (leaves_of g)) (2 * g.first) (2 * (g.first + (m + 2))) (ops_of bswap_strategy g shows) (messages_of bswap_strategy g shows) (kept_of bswap_strategy g shows)
    as_strategy =
        let y : 2 * suc (suc (g.first + m)) ≡ 2 * (g.first + (m + 2)) = omega arith in
        subst (λ b. MakesLeg tiles g shows b (2 * g.first) (2 * (g.first + (m + 2))) (ops_of bswap_strategy g shows) (messages_of bswap_strategy g shows) (kept_of bswap_strategy g shows)) bracket_is
        (subst (λ u. MakesLeg tiles g shows (bswap_bracket g e) (2 * g.first) u (ops_of bswap_strategy g shows) (messages_of bswap_strategy g shows) (kept_of bswap_strategy g shows)) y
        (bswap_makes_leg g team m e shows is_swap tiles (record { tile = of.tile; size = of.size }) of.display))

    pub bswap_is_leg : (ranks : ℕ) → AreRanks ranks g → IsLeg tiles ranks g (m + 2) (bswap_strategy.bracket (leaves_of g)) (ops_of bswap_strategy g shows) (messages_of bswap_strategy g shows) (kept_of bswap_strategy g shows)
    bswap_is_leg ranks ranked = makes_leg tiles ranks g team shows of ranked (m + 2) (bswap_strategy.bracket (leaves_of g)) (ops_of bswap_strategy g shows) (messages_of bswap_strategy g shows) (kept_of bswap_strategy g shows) as_strategy
