-- Different participants in a list are a leg.
use Rattle.std.proofs.Common.{◌≡◌, ◌≢◌, ℕ, zero, suc, ◌+◌, ◌<◌, Bool, true, false, cond, List, [], ◌∷◌, map, length, get_or, refl, sym, ap, ◌∙◌, arith, Option, Some, None, eqb-true, eq-eqb, ne_eqb}
use Rattle.std.specs.Prelude.{◌==◌, AllPairs, option_map}
use Rattle.std.specs.List.{AllByRecursion, range_with_len, slice_get}
use Rattle.icet_model.specs.declared.bracket.Bracket.{Bracket}
use Rattle.icet_model.proofs.Lists.{all_in_turn}
use Rattle.icet_legs.specs.Team.{IsTeam, team_of, place_in}
use Rattle.icet_model.specs.declared.bracket.Bracket.TheVariants.{Empty}
use Rattle.icet_legs.specs.TileStrategy.{leaves_of}

-- no number stands twice
abbrev pub Apart : List ℕ → Type 0
Apart [] = Unit {0}
Apart (x ∷ xs) = AllByRecursion (λ y. x ≢ y) xs × Apart xs

pub apart_from_pairs : (xs : List ℕ) → AllPairs (λ a b. a ≢ b) xs → Apart xs
apart_from_pairs [] h = tt
apart_from_pairs (x ∷ xs) h = (all_in_turn (λ y. x ≢ y) xs (λ i d l. h 0 (suc i) d (omega arith) (omega arith)), apart_from_pairs xs (λ i j d l m. h (suc i) (suc j) d (omega arith) (omega arith)))

pub all_get_or : {X : Type 0} (P : X → Type 0) (xs : List X) (p : ℕ) (d : X) → AllByRecursion P xs → p < length xs → P (get_or xs p d)
all_get_or P [] p d h l = absurd (omega arith)
all_get_or P (x ∷ xs) zero d h l = h.0
all_get_or P (x ∷ xs) (suc p) d h l = all_get_or P xs p d h.1 (omega arith)

back : (xs : List ℕ) (p : ℕ) → Apart xs → p < length xs → place_in xs (get_or xs p 0) ≡ Some p
back [] p h l = absurd (omega arith)
back (x ∷ xs) zero h l = ap (λ b. cond b (Some 0) (option_map suc (place_in xs x))) (eq-eqb x x refl)
back (x ∷ xs) (suc p) h l =
    let v = get_or xs p 0 in
    ap (λ b. cond b (Some 0) (option_map suc (place_in xs v))) (ne_eqb x v (all_get_or (λ y. x ≢ y) xs p 0 h.0 (omega arith)))
    ∙ ap (option_map suc) (back xs p h.1 (omega arith))

forth : (xs : List ℕ) (r p : ℕ) → place_in xs r ≡ Some p → (get_or xs p 0 ≡ r) × (p < length xs)
forth [] r p e = absurd (cc)
forth (x ∷ xs) r p e = go (x == r) refl (place_in xs r) refl (λ s k. forth xs r s k) e
  where
    go : (b : Bool) → (x == r) ≡ b → (o : Option ℕ) → place_in xs r ≡ o → ((s : ℕ) → place_in xs r ≡ Some s → (get_or xs s 0 ≡ r) × (s < length xs)) → cond b (Some 0) (option_map suc o) ≡ Some p → (get_or (x ∷ xs) p 0 ≡ r) × (p < length (x ∷ xs))
    go true b o k f e = let z : 0 ≡ p = cc in (ap (λ i. get_or (x ∷ xs) i 0) (sym z) ∙ eqb-true x r b, omega (arith, z))
    go false b None k f e = absurd (cc)
    go false b (Some s) k f e =
        let z : suc s ≡ p = cc in
        let h = f s k in
        (ap (λ i. get_or (x ∷ xs) i 0) (sym z) ∙ h.0, let l = h.1 in omega (arith, z, l))

pub list_team : (participants : List ℕ) (leaves : List Bracket) (tile size first : ℕ) → Apart participants → IsTeam (team_of participants leaves tile size first)
list_team participants leaves tile size first h = record {
  back = λ p l. back participants p h l;
  forth = λ r p e. forth participants r p e;
}

-- the list by its positions
pub by_position : {X : Type 0} (xs : List X) (d : X) → map (λ p. get_or xs p d) (range_with_len 0 (length xs)) ≡ xs
by_position xs d = from d xs (λ p. get_or xs p d) 0 (λ p l. ap (λ i. get_or xs i d) (let z : 0 + p ≡ p = omega arith in z))
  where
    from : {X : Type 0} (d : X) (ys : List X) (f : ℕ → X) (a : ℕ) → ((p : ℕ) → p < length ys → f (a + p) ≡ get_or ys p d) → map f (range_with_len a (length ys)) ≡ ys
    from d [] f a h = refl
    from d (y ∷ ys) f a h =
        let one : f a ≡ y = ap f (let z : a ≡ a + 0 = omega arith in z) ∙ h 0 (omega arith) in
        let rest = from d ys f (a + 1) (λ p l. ap f (let z : a + 1 + p ≡ a + suc p = omega arith in z) ∙ h (suc p) (omega arith)) in
        λ j. one j ∷ rest j

pub get_from : {X : Type 0} (xs : List X) (p : ℕ) (x d : X) → slice_get xs p ≡ Some x → get_or xs p d ≡ x
get_from [] p x d e = absurd (cc)
get_from (y ∷ xs) zero x d e = cc
get_from (y ∷ xs) (suc p) x d e = get_from xs p x d e

pub slice_at : {X : Type 0} (xs : List X) (p : ℕ) (d : X) → p < length xs → slice_get xs p ≡ Some (get_or xs p d)
slice_at [] p d l = absurd (omega arith)
slice_at (x ∷ xs) zero d l = refl
slice_at (x ∷ xs) (suc p) d l = slice_at xs p d (omega arith)

-- the leaves of a team are its list of leaves
pub leaves_are : (participants : List ℕ) (leaves : List Bracket) (tile size first : ℕ) → length leaves ≡ length participants → leaves_of (team_of participants leaves tile size first) ≡ leaves
leaves_are participants leaves tile size first e = ap (λ n. map (λ p. get_or leaves p Empty) (range_with_len 0 n)) (sym e) ∙ by_position leaves Empty
