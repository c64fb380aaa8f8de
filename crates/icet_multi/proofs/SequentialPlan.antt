-- The sequential strategy: its legs in a row are the plan of its rule.
use Rattle.std.proofs.Common.{◌≡◌, ◌≢◌, ℕ, zero, suc, ◌+◌, ◌*◌, ◌^◌, ◌<◌, ◌≤◌, List, [], ◌∷◌, ◌++◌, map, length, length-append, get_or, refl, sym, ap, ◌∙◌, subst, arith, Option, Some, None, ⊎_elim}
use Rattle.std.proofs.lemmas.List.{length-map}
use Rattle.std.proofs.lemmas.List.FromFn.{length-map-range_with_len, get_or-map-range_with_len}
use Rattle.std.specs.Prelude.{AllPairs, ◌⊎◌, Result, Ok, Err, IfOk}
use Rattle.std.specs.List.{AllByRecursion, range_with_len}
use mathlib.Core.Path.{fun_ext}
use Rattle.icet_model.proofs.Lists.{all_in_turn}
use Rattle.icet_model.specs.declared.bracket.Bracket.{Bracket}
use Rattle.icet_model.specs.declared.bracket.Bracket.TheVariants.{Empty, Leaf}
use Rattle.icet_model.specs.declared.exchange.Op.{Op}
use Rattle.icet_model.specs.Exchange.{exchanges, of_rank}
use Rattle.icet_model.specs.Plan.{PlanView, plan_exchanges}
use Rattle.icet_plan.specs.Each.{each}
use Rattle.icet_plan.proofs.LocalRuns.{exchanges-append}
use Rattle.icet_plan.proofs.PlanFlows.{of_program}
use Rattle.icet_legs.specs.InRow.{AreLegsInRow, IsLegInRow, IsRowPlan, TileLegView, leg_ops_at, row_messages, row_plan, row_program, row_team, rounds_before, tile_at, tile_messages_at, tile_ops_at, tiles_of}
use Rattle.icet_legs.specs.Leg.{AreRanks, IsLeg, IsLegOf, IsTileOf}
use Rattle.icet_legs.specs.Task.{StandsIn}
use Rattle.icet_legs.specs.Team.{Team, by_pos, place_in, team_of}
use Rattle.icet_legs.specs.TileStrategy.{TileStrategy, kept_of, leaves_of, messages_of, ops_of}
use Rattle.icet_legs.proofs.EachMore.{each_same}
use Rattle.icet_legs.proofs.Everyone.{has_place_in}
use Rattle.icet_legs.proofs.LegAlone.{same_exchanges}
use Rattle.icet_legs.proofs.ListTeams.{Apart, all_get_or, apart_from_pairs, leaves_are, list_team, slice_at}
use Rattle.icet_tiles.specs.Contributors.{HasEachOnce}
use Rattle.icet_multi.specs.Direct.{TileView}
use Rattle.icet_multi.specs.Rules.{IsPlanBy, sequential_rule, shows_at, team_at, tile_of}
use Rattle.icet_multi.specs.Sequential.{AreLegsOf, IsShown, IsTileLegOf}

-- each rank stands in the order
pub stands_in : (order : List ℕ) → HasEachOnce (length order) order → (d : ℕ) → d < length order → StandsIn order d
stands_in order once d l =
    let apart = apart_from_pairs order once.distinct in
    let h = has_place_in order (length order) refl (all_in_turn (λ r. r < length order) order once.below) apart d l in
    let f = (list_team order [] 0 0 0 apart).forth d h.0 h.1 in
    record { at = h.0; within = f.1; is = f.0 }

get_mapped : {X Y : Type 0} (f : X → Y) (xs : List X) (t : ℕ) (d : X) (e : Y) → t < length xs → get_or (map f xs) t e ≡ f (get_or xs t d)
get_mapped f [] t d e l = absurd (omega arith)
get_mapped f (x ∷ xs) zero d e l = refl
get_mapped f (x ∷ xs) (suc t) d e l = get_mapped f xs t d e (omega arith)

-- two lists that agree in a value at each place have the same values
same_values : {X Y Z : Type 0} (f : X → Z) (h : Y → Z) (xs : List X) (ys : List Y) (d : X) (e : Y) → length xs ≡ length ys → ((t : ℕ) → t < length ys → f (get_or xs t d) ≡ h (get_or ys t e)) → map f xs ≡ map h ys
same_values f h [] [] d e n s = refl
same_values f h [] (y ∷ ys) d e n s = absurd (omega (arith, n))
same_values f h (x ∷ xs) [] d e n s = absurd (omega (arith, n))
same_values f h (x ∷ xs) (y ∷ ys) d e n s =
    let one = s 0 (omega arith) in
    let rest = same_values f h xs ys d e (omega (arith, n)) (λ t l. s (suc t) (omega (arith, l))) in
    λ j. one j ∷ rest j

module _ (s : TileStrategy) (order : List ℕ) (once : HasEachOnce (length order) order) (tiles : List TileView) (shown : AllByRecursion (IsShown (length order)) tiles) (legs : List TileLegView) (are : AreLegsOf s order tiles (length tiles) legs) where
  abbrev n : ℕ
  n = length order

  abbrev leaf_list : List Bracket
  leaf_list = map (λ r. Leaf r) order

  apart : Apart order
  apart = apart_from_pairs order once.distinct

  -- how many rounds the tiles before take
  rounds_are : (t : ℕ) → t < length tiles → (tile_at legs t).rounds ≡ s.rounds n
  rounds_are t l = (are.are t l).is_leg.rounds_are

  before_are : (t : ℕ) → t ≤ length tiles → rounds_before legs t ≡ t * s.rounds n
  before_are t l = go legs t (λ i k. rounds_are i (omega (arith, k, l))) (let m = are.many in omega (arith, l, m))
    where
      go : (xs : List TileLegView) (t : ℕ) → ((i : ℕ) → i < t → (tile_at xs i).rounds ≡ s.rounds n) → t ≤ length xs → rounds_before xs t ≡ t * s.rounds n
      go xs zero h m = omega arith
      go [] (suc t) h m = absurd (omega (arith, m))
      go (x ∷ xs) (suc t) h m =
          let one = h 0 (omega arith) in
          let rest = go xs t (λ i k. h (suc i) (omega (arith, k))) (omega (arith, m)) in
          omega (arith, one, rest)

  module _ (t : ℕ) (l : t < length tiles) where
    abbrev x : TileLegView
    x = tile_at legs t

    abbrev y : TileView
    y = tile_of tiles t

    is_of : IsTileLegOf s order t y x
    is_of = are.are t l

    abbrev g : Team
    g = team_at s order tiles t

    abbrev shows : ℕ
    shows = is_of.is_leg.shows

    same_team : row_team legs t ≡ g
    same_team = let p = is_of.participants in let z = is_of.size in let b = before_are t (omega (arith, l)) in λ j. team_of (p j) (map (λ r. Leaf r) (p j)) t (z j) (b j)

    display_low : y.display < n
    display_low = (all_get_or (IsShown n) tiles t (record { size = 0; display = 0; contributors = [] }) shown l).display

    -- the display's place is where it stands in the order
    shows_is : shows_at order tiles t ≡ shows
    shows_is = ap (by_pos 0 (λ p. p)) (ap (place_in order) (sym is_of.is_leg.display_is) ∙ (list_team order leaf_list t y.size (t * s.rounds n) apart).back shows is_of.is_leg.shown)

    -- what a rank does is what the strategy says
    ops_are : (r : ℕ) → leg_ops_at legs t r ≡ ops_of s g shows r
    ops_are r = ap (λ ps. by_pos [] (λ p. get_or x.programs p []) (place_in ps r)) is_of.participants ∙ go (place_in order r) refl
      where
        go : (o : Option ℕ) → place_in order r ≡ o → by_pos [] (λ p. get_or x.programs p []) o ≡ by_pos [] (s.program g shows) o
        go None e = refl
        go (Some p) e =
            let f = (list_team order leaf_list t y.size (t * s.rounds n) apart).forth r p e in
            ap (λ ps. get_or ps p []) is_of.is_leg.programs_are ∙ get_or-map-range_with_len (s.program g shows) 0 n p p [] f.1 (omega arith)

    tile_is : IsTileOf (tiles_of legs) g shows
    tile_is =
        let m = are.many in
        let d : TileLegView = record { size = 0; display = 0; participants = []; programs = []; bracket = Empty; rounds = 0 } in
        let k : t < length legs = omega (arith, l, m) in
        let a = length-map legs (λ (z : TileLegView). z.size) in
        let b = length-map legs (λ (z : TileLegView). z.display) in
        record {
          tile = omega (arith, k, a);
          size = sym (get_mapped (λ z. z.size) legs t d 0 k ∙ is_of.size);
          display = slice_at (tiles_of legs).displays t 0 (omega (arith, k, b)) ∙ ap (λ z. Some z) (get_mapped (λ z. z.display) legs t d 0 k ∙ (is_of.display ∙ sym is_of.is_leg.display_is));
        }

    ranked : AreRanks n g
    ranked p k = all_get_or (λ r. r < n) order p 0 (all_in_turn (λ r. r < n) order once.below) k

    leaf_is : leaves_of g ≡ leaf_list
    leaf_is = leaves_are order leaf_list t y.size (t * s.rounds n) (length-map order (λ r. Leaf r))

    said : IsLeg (tiles_of legs) n g (s.rounds n) (s.bracket (leaves_of g)) (ops_of s g shows) (messages_of s g shows) (kept_of s g shows)
    said = is_of.is_leg.is_leg (tiles_of legs) n tile_is ranked

    in_row : IsLeg (tiles_of legs) n (row_team legs t) x.rounds x.bracket (leg_ops_at legs t) (messages_of s g shows) (kept_of s g shows)
    in_row =
        subst (λ z. IsLeg (tiles_of legs) n z x.rounds x.bracket (leg_ops_at legs t) (messages_of s g shows) (kept_of s g shows)) (sym same_team)
        (subst (λ z. IsLeg (tiles_of legs) n g z x.bracket (leg_ops_at legs t) (messages_of s g shows) (kept_of s g shows)) (sym (rounds_are t l))
        (subst (λ z. IsLeg (tiles_of legs) n g (s.rounds n) z (leg_ops_at legs t) (messages_of s g shows) (kept_of s g shows)) (sym is_of.is_leg.bracket_is)
        (subst (λ z. IsLeg (tiles_of legs) n g (s.rounds n) (s.bracket (leaves_of g)) z (messages_of s g shows) (kept_of s g shows)) (sym (fun_ext ops_are)) said)))

    is_in_row : IsLegInRow n legs t
    is_in_row = record {
      shown = let a = is_of.display in let b = display_low in omega (arith, a, b);
      ranked = subst (AllByRecursion (λ r. r < n)) (sym is_of.participants) (all_in_turn (λ r. r < n) order once.below);
      distinct = subst (AllPairs (λ a b. a ≢ b)) (sym is_of.participants) once.distinct;
      programs = ap (λ z. length z) is_of.is_leg.programs_are ∙ (length-map-range_with_len (s.program g shows) 0 n ∙ sym (ap (λ z. length z) is_of.participants));
      short = subst (AllByRecursion (λ ops. length ops < 2 ^ 20)) (sym is_of.is_leg.programs_are) (all_short n 0 (λ p k. is_of.is_leg.short p (omega (arith, k))));
      messages = messages_of s g shows;
      kept = kept_of s g shows;
      is_leg = in_row;
    }
      where
        all_short : (k first : ℕ) → ((p : ℕ) → p < first + k → length (s.program g shows p) < 2 ^ 20) → AllByRecursion (λ ops. length ops < 2 ^ 20) (map (s.program g shows) (range_with_len first k))
        all_short zero first h = tt
        all_short (suc k) first h = (h first (omega arith), all_short k (first + 1) (λ p m. h p (omega (arith, m))))

    -- the tile's messages, and a rank's exchanges for it
    messages_are : (q r : ℕ) → tile_messages_at n legs t q r ≡ messages_of s g (shows_at order tiles t) q r
    messages_are q r = in_row.flows q r ∙ ap (λ z. messages_of s g z q r) (sym shows_is)

    exchanges_are : (r : ℕ) → exchanges (tile_ops_at legs t r) ≡ exchanges (ops_of s g (shows_at order tiles t) r)
    exchanges_are r = same_exchanges (row_team legs t) (leg_ops_at legs t) r ∙ (ap exchanges (ops_are r) ∙ ap (λ z. exchanges (ops_of s g z r)) (sym shows_is))

    bracket_is : x.bracket ≡ s.bracket leaf_list
    bracket_is = is_of.is_leg.bracket_is ∙ ap s.bracket leaf_is

  pub legs_in_row : AreLegsInRow n legs
  legs_in_row t l = let m = are.many in is_in_row t (omega (arith, l, m))

  row_exchanges : (r k : ℕ) → k ≤ length tiles → exchanges (row_program (tile_ops_at legs) k r) ≡ each (λ t. exchanges (ops_of s (team_at s order tiles t) (shows_at order tiles t) r)) k
  row_exchanges r zero l = refl
  row_exchanges r (suc k) l =
      exchanges-append (row_program (tile_ops_at legs) k r) (tile_ops_at legs k r)
      ∙ (ap (λ z. z ++ exchanges (tile_ops_at legs k r)) (row_exchanges r k (omega (arith, l)))
      ∙ ap (λ z. each (λ t. exchanges (ops_of s (team_at s order tiles t) (shows_at order tiles t) r)) k ++ z) (exchanges_are k (omega (arith, l)) r))

  by_rule : (plan : PlanView) → IsRowPlan n legs plan → IsPlanBy (sequential_rule s) order tiles plan
  by_rule plan is =
      let d : TileLegView = record { size = 0; display = 0; participants = []; programs = []; bracket = Empty; rounds = 0 } in
      let e : TileView = record { size = 0; display = 0; contributors = [] } in
      record {
        sizes = ap (λ (z : PlanView). z.tiles.sizes) is.plan_is ∙ same_values (λ z. z.size) (λ z. z.size) legs tiles d e are.many (λ t l. (is_of t l).size);
        displays = ap (λ (z : PlanView). z.tiles.displays) is.plan_is ∙ same_values (λ z. z.display) (λ z. z.display) legs tiles d e are.many (λ t l. (is_of t l).display);
        brackets = ap (λ (z : PlanView). z.brackets) is.plan_is ∙ same_values (λ z. z.bracket) (λ z. s.bracket leaf_list) legs tiles d e are.many (λ t l. bracket_is t l);
        programs = ap (λ (z : PlanView). length z.programs) is.plan_is ∙ length-map-range_with_len (row_program (tile_ops_at legs) (length legs)) 0 n;
        messages = λ q r. is.messages q r ∙ (ap (λ k. row_messages (tile_messages_at n legs) k q r) are.many ∙ each_same (λ t. tile_messages_at n legs t q r) (λ t. messages_of s (team_at s order tiles t) (shows_at order tiles t) q r) (length tiles) (λ t l. messages_are t l q r));
        exchanges = λ r l.
            ap (λ (z : PlanView). of_rank (plan_exchanges z) r) is.plan_is
            ∙ (of_program (row_plan n legs).programs r
            ∙ (ap exchanges (get_or-map-range_with_len (row_program (tile_ops_at legs) (length legs)) 0 n r r [] l (omega arith))
            ∙ (ap (λ k. exchanges (row_program (tile_ops_at legs) k r)) are.many ∙ row_exchanges r (length tiles) (omega arith))));
      }

  pub sequential_plan : {Z : Type 0} (r : Result PlanView Z) → IfOk r (IsRowPlan n legs) → IfOk r (IsPlanBy (sequential_rule s) order tiles)
  sequential_plan (Ok p) h = by_rule p h
  sequential_plan (Err z) h = tt

-- the legs of the first t tiles, and how many rounds they take
pub record HasLegs (s : TileStrategy) (order : List ℕ) (tiles : List TileView) (t first : ℕ) (legs : List TileLegView) : Type 0 where
  pub are : AreLegsOf s order tiles t legs
  pub first_is : first ≡ t * s.rounds (length order)
  pub early : first ≤ t * 2 ^ 16

pub no_legs : (s : TileStrategy) (order : List ℕ) (tiles : List TileView) → HasLegs s order tiles 0 0 []
no_legs s order tiles = record { are = record { many = refl; are = λ t l. absurd (omega (arith, l)) }; first_is = omega arith; early = omega arith }

tile_same : (tiles : List TileView) (t : ℕ) (x : TileView) → t < length tiles → x ≡ get_or tiles t x → tile_of tiles t ≡ x
tile_same tiles t x l h = same tiles t l ∙ sym h
  where
    same : (xs : List TileView) (i : ℕ) → i < length xs → tile_of xs i ≡ get_or xs i x
    same [] i l = absurd (omega arith)
    same (y ∷ xs) zero l = refl
    same (y ∷ xs) (suc i) l = same xs i (omega arith)

-- one leg more
pub leg_pushed : (s : TileStrategy) (order : List ℕ) (tiles : List TileView) (t first : ℕ) (x : TileView) → t < length tiles → x ≡ get_or tiles t x → (programs : List (List Op)) (bracket : Bracket) (rounds : ℕ) → IsLegOf s (team_of order (map (λ r. Leaf r) order) t x.size first) x.display programs bracket rounds → (y : TileLegView) → y ≡ record { size = x.size; display = x.display; participants = order; programs = programs; bracket = bracket; rounds = rounds } → (old new : List TileLegView) → HasLegs s order tiles t first old → new ≡ old ++ y ∷ [] → HasLegs s order tiles (t + 1) (first + rounds) new
leg_pushed s order tiles t first x l h programs bracket rounds is y y_is old new past put =
    let z : TileLegView = record { size = x.size; display = x.display; participants = order; programs = programs; bracket = bracket; rounds = rounds } in
    let made : new ≡ old ++ z ∷ [] = put ∙ ap (λ u. old ++ u ∷ []) y_is in
    let m = past.are.many in
    let tile : tile_of tiles t ≡ x = tile_same tiles t x l h in
    let here : IsTileLegOf s order t (tile_of tiles t) z = subst (λ u. IsTileLegOf s order t u z) (sym tile) (record { size = refl; display = refl; participants = refl; is_leg = subst (λ f. IsLegOf s (team_of order (map (λ r. Leaf r) order) t x.size f) x.display programs bracket rounds) past.first_is is }) in
    let few = is.few in
    let count = is.rounds_are in
    record {
      are = record {
        many = ap (λ u. length u) made ∙ (length-append old (z ∷ []) ∙ (let v : length old + 1 ≡ t + 1 = omega (arith, m) in v));
        are = λ u k. subst (λ us. IsTileLegOf s order u (tile_of tiles u) (tile_at us u)) (sym made) (⊎_elim
            (λ (b : u < t). subst (IsTileLegOf s order u (tile_of tiles u)) (sym (front old (z ∷ []) u (omega (arith, b, m)))) (past.are.are u b))
            (λ (b : u ≡ t). subst (λ v. IsTileLegOf s order v (tile_of tiles v) (tile_at (old ++ z ∷ []) v)) (sym b) (subst (IsTileLegOf s order t (tile_of tiles t)) (sym (ap (tile_at (old ++ z ∷ [])) (sym m) ∙ last old z)) here))
            (let v : (u < t) ⊎ (u ≡ t) = grind (arith, k) in v));
      };
      first_is = let f = past.first_is in let v : first + rounds ≡ (t + 1) * s.rounds (length order) = omega (arith, f, count) in v;
      early = let e = past.early in omega (arith, e, few, count);
    }
  where
    front : (xs ys : List TileLegView) (a : ℕ) → a < length xs → tile_at (xs ++ ys) a ≡ tile_at xs a
    front [] ys a l = absurd (omega arith)
    front (x ∷ xs) ys zero l = refl
    front (x ∷ xs) ys (suc a) l = front xs ys a (omega arith)

    last : (xs : List TileLegView) (y : TileLegView) → tile_at (xs ++ y ∷ []) (length xs) ≡ y
    last [] y = refl
    last (x ∷ xs) y = last xs y

pub tile_shown : (ranks : ℕ) (tiles : List TileView) (t : ℕ) (x : TileView) → AllByRecursion (IsShown ranks) tiles → t < length tiles → x ≡ get_or tiles t x → IsShown ranks x
tile_shown ranks tiles t x all l h = subst (IsShown ranks) (sym h) (all_get_or (IsShown ranks) tiles t x all l)
