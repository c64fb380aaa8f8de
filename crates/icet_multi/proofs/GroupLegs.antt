-- The legs of groups as they are made, and that programs of them are the strategy's.
use Rattle.std.proofs.Common.{◌≡◌, ℕ, zero, suc, ◌+◌, ◌^◌, ◌<◌, true, false, cond, List, [], ◌∷◌, ◌++◌, map, length, length-append, get_or, refl, sym, ap, ◌∙◌, subst, arith, Option, Some, None, ⊎_elim}
use Rattle.std.proofs.lemmas.Bool.Decides.{nat_tests}
use Rattle.std.proofs.lemmas.List.{length-map}
use Rattle.std.proofs.lemmas.List.FromFn.{get_or-map-range_with_len, length-map-range_with_len}
use Rattle.std.specs.Prelude.{◌⊎◌, Result, Ok, Err, IfOk, nat_lt, slice_get}
use Rattle.std.specs.List.{AllByRecursion, range_with_len}
use Rattle.icet_model.specs.declared.bracket.Bracket.{Bracket}
use Rattle.icet_model.specs.declared.bracket.Bracket.TheVariants.{Empty}
use Rattle.icet_model.specs.declared.exchange.Op.{Op}
use Rattle.icet_plan.specs.Each.{each}
use Rattle.icet_plan.specs.declared.plan.Leg.{Leg}
use Rattle.icet_groups.specs.Tiles.{TileView}
use Rattle.icet_legs.specs.Leg.{IsLegOf, IsPlanFor}
use Rattle.icet_legs.specs.Team.{by_pos, place_in}
use Rattle.icet_legs.specs.TileStrategy.{TileStrategy, ops_of}
use Rattle.icet_legs.proofs.EachMore.{each_same}
use Rattle.icet_legs.proofs.ListTeams.{get_from, leaves_are, list_team}
use Rattle.icet_multi.specs.Direct.{tile_bracket}
use Rattle.icet_multi.specs.Rules.{tile_of}
use Rattle.icet_multi.specs.Reduce.{block_brackets, block_tile, display_in, group_team, reduce_bracket, reduce_brackets}
use Rattle.icet_multi.specs.Reduced.{AllHaveSeats, AreGroupLegs, HaveSeats, IsGroupFor, IsGroupLeg, all_legs, leg_part, programs_in, team_for}
use Rattle.icet_multi.proofs.GroupMembers.{AreSeats, group_apart, stands}
use Rattle.icet_multi.proofs.GroupsRun.{IsLegAt, leg_at}
use Rattle.icet_multi.proofs.Growing.{listed, tile_same}

pub brackets_many : (x : TileView) (group : List ℕ) → length (block_brackets x group) ≡ length group
brackets_many x group = length-map-range_with_len (λ j. tile_bracket (block_tile x group j)) 0 (length group)

all_short : (s : TileStrategy) (f : ℕ → List Op) (k first : ℕ) → ((p : ℕ) → p < first + k → length (f p) < 2 ^ 20) → AllByRecursion (λ ops. length ops < 2 ^ 20) (map f (range_with_len first k))
all_short s f zero first h = tt
all_short s f (suc k) first h = (h first (omega arith), all_short s f k (first + 1) (λ p m. h p (omega (arith, m))))

-- the leg of a group of a tile to which some contribute
pub group_leg : (s : TileStrategy) (t : ℕ) (x : TileView) (group : List ℕ) (leg : Leg) → 0 < length x.contributors → IsLegOf s (team_for t x group) x.display leg.programs.items leg.bracket leg.rounds → IsGroupLeg s t x group leg
group_leg s t x group leg some is = record {
  programs = ap (λ z. length z) is.programs_are ∙ length-map-range_with_len (s.program (team_for t x group) is.shows) 0 (length group);
  short = subst (AllByRecursion (λ ops. length ops < 2 ^ 20)) (sym is.programs_are) (all_short s (s.program (team_for t x group) is.shows) (length group) 0 (λ p m. is.short p (omega (arith, m))));
  bracket = is.bracket_is ∙ (ap s.bracket (leaves_are group (block_brackets x group) t x.size 1 (brackets_many x group)) ∙ sym (ap (λ b. cond b (s.bracket (block_brackets x group)) Empty) (let z : nat_lt 0 (length x.contributors) ≡ true = grind (arith, nat_tests, some) in z)));
  is_leg = λ _. is;
}

pub group_leg_ok : {E : Type 0} (s : TileStrategy) (t : ℕ) (x : TileView) (group : List ℕ) (folds : List Bracket) (size display : ℕ) → 0 < length x.contributors → folds ≡ block_brackets x group → size ≡ x.size → display ≡ x.display → (r : Result Leg E) → IfOk r (IsPlanFor s group folds t size 1 display) → IfOk r (IsGroupLeg s t x group)
group_leg_ok s t x group folds size display some are size_is display_is (Ok leg) h = group_leg s t x group leg some
    (subst (λ ys. IsPlanFor s group ys t x.size 1 x.display leg) are (subst (λ n. IsPlanFor s group folds t n 1 x.display leg) size_is (subst (λ d. IsPlanFor s group folds t size 1 d leg) display_is h)))
group_leg_ok s t x group folds size display some are size_is display_is (Err e) h = tt

-- where nobody contributes
pub empty_leg : (ranks : ℕ) (s : TileStrategy) (t : ℕ) (x : TileView) (group : List ℕ) → IsGroupFor ranks x group → length x.contributors ≡ 0 → (leg : Leg) → leg.programs.items ≡ [] → leg.bracket ≡ Empty → IsGroupLeg s t x group leg
empty_leg ranks s t x group for none leg programs bracket = record {
  programs = ap (λ z. length z) programs ∙ (let f = for.few in let z : 0 ≡ length group = omega (arith, f, none) in z);
  short = subst (AllByRecursion (λ ops. length ops < 2 ^ 20)) (sym programs) tt;
  bracket = bracket ∙ sym (ap (λ b. cond b (s.bracket (block_brackets x group)) Empty) (let z : nat_lt 0 (length x.contributors) ≡ false = grind (arith, nat_tests, none) in z));
  is_leg = λ some. absurd (omega (arith, some, none));
}

-- ---- all legs

pub no_legs : (s : TileStrategy) (tiles : List TileView) (groups : List (List ℕ)) → AreGroupLegs s tiles groups 0 []
no_legs s tiles groups = record { each = refl; are = λ t leg l e. absurd (omega (arith, l)) }

front : {X : Type 0} (xs : List X) (y x : X) (t : ℕ) → t < length xs → slice_get (xs ++ y ∷ []) t ≡ Some x → slice_get xs t ≡ Some x
front [] y x t l e = absurd (omega (arith, l))
front (z ∷ xs) y x zero l e = e
front (z ∷ xs) y x (suc t) l e = front xs y x t (omega (arith, l)) e

last : {X : Type 0} (xs : List X) (y x : X) → slice_get (xs ++ y ∷ []) (length xs) ≡ Some x → y ≡ x
last [] y x e = cc
last (z ∷ xs) y x e = last xs y x e

-- one leg more
pub leg_pushed : (s : TileStrategy) (tiles : List TileView) (groups : List (List ℕ)) (t : ℕ) (old new : List Leg) (leg : Leg) → AreGroupLegs s tiles groups t old → new ≡ old ++ leg ∷ [] → IsGroupLeg s t (tile_of tiles t) (get_or groups t []) leg → AreGroupLegs s tiles groups (t + 1) new
leg_pushed s tiles groups t old new leg past put is = record {
  each = ap (λ z. length z) put ∙ (length-append old (leg ∷ []) ∙ (let m = past.each in let z : length old + 1 ≡ t + 1 = omega (arith, m) in z));
  are = λ u x l e.
      let here : slice_get (old ++ leg ∷ []) u ≡ Some x = sym (ap (λ z. slice_get z u) put) ∙ e in
      let m = past.each in
      ⊎_elim
      (λ (b : u < t). past.are u x b (front old leg x u (omega (arith, b, m)) here))
      (λ (b : u ≡ t).
      let v : u ≡ length old = omega (arith, b, m) in
      let same : leg ≡ x = last old leg x (subst (λ z. slice_get (old ++ leg ∷ []) z ≡ Some x) v here) in
      subst (λ z. IsGroupLeg s z (tile_of tiles z) (get_or groups z []) x) (sym b) (subst (IsGroupLeg s t (tile_of tiles t) (get_or groups t [])) same is))
      (let z : (u < t) ⊎ (u ≡ t) = grind (arith, l) in z);
}

pub record LegAt (legs : List Leg) (t : ℕ) : Type 0 where
  pub leg : Leg
  pub is : slice_get legs t ≡ Some leg

one_at : (legs : List Leg) (t : ℕ) → t < length legs → LegAt legs t
one_at [] t l = absurd (omega (arith, l))
one_at (x ∷ legs) zero l = record { leg = x; is = refl }
one_at (x ∷ legs) (suc t) l = let h = one_at legs t (omega (arith, l)) in record { leg = h.leg; is = h.is }

read_at : {Y : Type 0} (f : Leg → Y) (legs : List Leg) (t : ℕ) (x : Leg) (d : Y) → slice_get legs t ≡ Some x → get_or (map f legs) t d ≡ f x
read_at f [] t x d e = absurd (cc)
read_at f (y ∷ legs) zero x d e = ap f (let z : y ≡ x = cc in z)
read_at f (y ∷ legs) (suc t) x d e = read_at f legs t x d e

module _ (s : TileStrategy) (ranks : ℕ) (tiles : List TileView) (groups : List (List ℕ)) (are : AreSeats ranks tiles groups) (legs : List Leg) (made : AreGroupLegs s tiles groups (length tiles) legs) where
  abbrev count : ℕ
  count = length tiles

  module _ (t : ℕ) (l : t < count) where
    abbrev found : LegAt legs t
    found = one_at legs t (let m = made.each in omega (arith, l, m))

    leg_is : IsGroupLeg s t (tile_of tiles t) (get_or groups t []) found.leg
    leg_is = made.are t found.leg l found.is

    pub leg_for : 0 < length (tile_of tiles t).contributors → IsLegAt s ranks tiles groups t
    leg_for some = leg_at s ranks tiles groups are t l found.leg.programs.items found.leg.bracket found.leg.rounds (leg_is.is_leg some)

    programs_at : get_or (programs_in legs) t [] ≡ found.leg.programs.items
    programs_at = read_at (λ leg. leg.programs.items) legs t found.leg [] found.is

    -- what a rank does in the leg is what the strategy says
    part_is : (r : ℕ) → leg_part (get_or groups t []) (get_or (programs_in legs) t []) r ≡ ops_of s (group_team tiles groups t) (display_in tiles groups t) r
    part_is r = ap (λ ps. leg_part (get_or groups t []) ps r) programs_at ∙ go (place_in (get_or groups t []) r) refl
      where
        go : (o : Option ℕ) → place_in (get_or groups t []) r ≡ o → by_pos [] (λ p. get_or found.leg.programs.items p []) o ≡ by_pos [] (s.program (group_team tiles groups t) (display_in tiles groups t)) o
        go None e = refl
        go (Some p) e =
            let st = stands ranks tiles groups are t r p e in
            let few = (are.for.are t l).few in
            let of = leg_is.is_leg (omega (arith, st.1, few)) in
            let display : display_in tiles groups t ≡ of.shows = ap (λ d. by_pos 0 (λ p. p) (place_in (get_or groups t []) d)) (sym of.display_is) ∙ ap (by_pos 0 (λ p. p)) ((list_team (get_or groups t []) [] 0 0 0 (group_apart ranks tiles groups are t)).back of.shows of.shown) in
            ap (λ ps. get_or ps p []) of.programs_are
            ∙ (get_or-map-range_with_len (s.program (group_team tiles groups t) of.shows) 0 (length (get_or groups t [])) p p [] st.1 (omega arith)
            ∙ ap (λ d. s.program (group_team tiles groups t) d p) (sym display))

  many : length (programs_in legs) ≡ count
  many = length-map legs (λ leg. leg.programs.items) ∙ made.each

  pub legs_are : (r : ℕ) → all_legs groups (programs_in legs) r ≡ each (λ t. ops_of s (group_team tiles groups t) (display_in tiles groups t) r) count
  legs_are r = ap (λ k. each (λ t. leg_part (get_or groups t []) (get_or (programs_in legs) t []) r) k) many ∙ each_same (λ t. leg_part (get_or groups t []) (get_or (programs_in legs) t []) r) (λ t. ops_of s (group_team tiles groups t) (display_in tiles groups t) r) count (λ t l. part_is t l r)

  pub brackets_are : map (λ leg. leg.bracket) legs ≡ reduce_brackets s tiles groups
  brackets_are = listed (λ t. reduce_bracket s (tile_of tiles t) (get_or groups t [])) (map (λ leg. leg.bracket) legs) Empty count (length-map legs (λ leg. leg.bracket) ∙ made.each) (λ t l. read_at (λ leg. leg.bracket) legs t (found t l).leg Empty (found t l).is ∙ (leg_is t l).bracket)

  pub have_seats : AllHaveSeats ranks groups (programs_in legs)
  have_seats = record {
    each = are.for.each ∙ sym many;
    are = λ t l.
        let k : t < count = omega (arith, l, many) in
        subst (HaveSeats ranks (get_or groups t [])) (sym (programs_at t k)) (record {
          distinct = (are.for.are t k).distinct;
          within = (are.for.are t k).within;
          each = (leg_is t k).programs;
          short = (leg_is t k).short;
        });
  }

-- the leg of a tile and its group is the one at their place
pub placed : (s : TileStrategy) (tiles : List TileView) (groups : List (List ℕ)) (t : ℕ) (x : TileView) (group : List ℕ) (leg : Leg) → t < length tiles → x ≡ get_or tiles t x → slice_get groups t ≡ Some group → IsGroupLeg s t x group leg → IsGroupLeg s t (tile_of tiles t) (get_or groups t []) leg
placed s tiles groups t x group leg l is found h =
    subst (λ y. IsGroupLeg s t y (get_or groups t []) leg) (sym (tile_same tiles t x l is)) (subst (λ g. IsGroupLeg s t x g leg) (sym (get_from groups t group [] found)) h)
