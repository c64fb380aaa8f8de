-- The groups of lawful tiles are groups for them.
use Rattle.std.proofs.Common.{◌≡◌, ◌≢◌, ℕ, suc, ◌<◌, ◌≤◌, Bool, true, false, List, [], ◌∷◌, length, get_or, refl, arith, eqb-true}
use Rattle.std.specs.Prelude.{◌==◌, ◌||◌, AllPairs}
use Rattle.std.specs.List.{AllByRecursion}
use Rattle.icet_model.proofs.Lists.{all_in_turn}
use Rattle.icet_groups.specs.Lawful.{AreGroups}
use Rattle.icet_groups.specs.Places.{AreShared, places_of}
use Rattle.icet_groups.specs.Seats.{counts_of, groups_of}
use Rattle.icet_groups.specs.Tiles.{AreTiles, IsTile, TileView, has}
use Rattle.icet_groups.proofs.Fewness.{few_contributors}
use Rattle.icet_groups.proofs.Grouped.{each_can, lawful}
use Rattle.icet_groups.proofs.Sharing.{are_shared}
use Rattle.icet_legs.specs.Task.{StandsIn}
use Rattle.icet_legs.proofs.ListTeams.{all_get_or}
use Rattle.icet_multi.specs.Rules.{tile_of}
use Rattle.icet_multi.specs.Sequential.{IsShown}
use Rattle.icet_multi.proofs.GroupMembers.{AreSeats, has_at}
use Rattle.icet_multi.proofs.ReduceLeaves.{count_at}

stands_from : (xs : List ℕ) (r : ℕ) → has r xs ≡ true → StandsIn xs r
stands_from [] r h = absurd (cc)
stands_from (x ∷ xs) r h = go (x == r) refl (λ k. stands_from xs r k) h
  where
    go : (b : Bool) → (x == r) ≡ b → (has r xs ≡ true → StandsIn xs r) → (b || has r xs) ≡ true → StandsIn (x ∷ xs) r
    go true e rest k = record { at = 0; within = omega arith; is = eqb-true x r e }
    go false e rest k = let s = rest k in record { at = suc s.at; within = let w = s.within in omega (arith, w); is = s.is }

all_of_all : (P : ℕ → Type 0) (xs : List ℕ) → ((i : ℕ) → i < length xs → P (get_or xs i 0)) → AllByRecursion P xs
all_of_all P [] h = tt
all_of_all P (x ∷ xs) h = (h 0 (omega arith), all_of_all P xs (λ i l. h (suc i) (omega (arith, l))))

different : (xs : List ℕ) → AllPairs (λ a b. a < b) xs → AllPairs (λ a b. a ≢ b) xs
different xs h = λ i j d l m e. absurd (let k = h i j d l m in omega (arith, k, e))

pub groups_for : (ranks : ℕ) (tiles : List TileView) → AreTiles ranks tiles → AllByRecursion (IsShown ranks) tiles → AreSeats ranks tiles (groups_of ranks tiles)
groups_for ranks tiles are shown = record {
  for = record {
    each = g.each;
    are = λ t l.
        let d : TileView = record { size = 0; display = 0; contributors = [] } in
        let group = get_or (groups_of ranks tiles) t [] in
        let many = g.many t l in
        let few = shared.few t in
        let c = count_at tiles t in
        record {
          tile = all_get_or (IsTile ranks) tiles t d are.each l;
          small = (all_get_or (IsShown ranks) tiles t d shown l).small;
          known = all_get_or (λ x. length x.contributors ≤ ranks) tiles t d (all_in_turn (λ x. length x.contributors ≤ ranks) tiles (few_contributors ranks tiles are)) l;
          distinct = different group (g.ascend t);
          within = all_of_all (λ r. r < ranks) group (λ i m. g.within t (get_or group i 0) (has_at group i m));
          few = omega (arith, many, few, c);
          shown = λ some. stands_from group (tile_of tiles t).display (g.shown t l some);
        };
  };
  apart = g.apart;
}
  where
    g : AreGroups ranks tiles (places_of ranks (counts_of tiles)) (groups_of ranks tiles)
    g = lawful ranks tiles are

    shared : AreShared ranks (counts_of tiles) (places_of ranks (counts_of tiles))
    shared = are_shared ranks (counts_of tiles) (each_can ranks tiles are)
