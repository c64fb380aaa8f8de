-- The ends of areas, and what holds of each element of lists that are put behind one another.
use Rattle.std.proofs.Common.{◌≡◌, ℕ, zero, suc, ◌+◌, ◌<◌, ◌≤◌, max, Bool, true, false, List, [], ◌∷◌, ◌++◌, map, refl, ap, ◌∙◌, arith}
use Rattle.std.specs.Prelude.{◌||◌, All}
use Rattle.std.specs.List.{flat_map, list_any, range_with_len}
use Rattle.std.proofs.lemmas.List.Elements.{All-nil, All-cons, All-head, All-tail, All-append}
use Rattle.icet_model.specs.Tiles.{Area, TileView}
use Rattle.icet_scene_model.specs.Ready.{bottom_end, right_end}

pub all_ranged : {X : Type 0} (P : X → Type 0) (f : ℕ → List X) (a n : ℕ) → ((i : ℕ) → a ≤ i → i < a + n → All P (f i)) → All P (flat_map f (range_with_len a n))
all_ranged P f a zero h = All-nil P
all_ranged P f a (suc n) h = All-append P (f a) (flat_map f (range_with_len (a + 1) n)) (h a (omega arith) (omega arith)) (all_ranged P f (a + 1) n (λ i l m. h i (omega (arith, l)) (omega (arith, m))))

pub any_mapped : {X Y : Type 0} (p : Y → Bool) (f : X → Y) (xs : List X) → list_any p (map f xs) ≡ list_any (λ x. p (f x)) xs
any_mapped p f [] = refl
any_mapped p f (x ∷ xs) = ap (λ b. p (f x) || b) (any_mapped p f xs)

pub right_holds : {X : Type 0} (f : X → Area) (xs : List X) → All (λ x. (f x).x + (f x).w ≤ right_end (map f xs)) xs
right_holds f [] = All-nil (λ x. (f x).x + (f x).w ≤ 0)
right_holds f (x ∷ xs) = All-cons (λ y. (f y).x + (f y).w ≤ right_end (map f (x ∷ xs))) x xs (omega arith) (λ k d l. let e = right_holds f xs k d l in omega (arith, e))

pub bottom_holds : {X : Type 0} (f : X → Area) (xs : List X) → All (λ x. (f x).y + (f x).h ≤ bottom_end (map f xs)) xs
bottom_holds f [] = All-nil (λ x. (f x).y + (f x).h ≤ 0)
bottom_holds f (x ∷ xs) = All-cons (λ y. (f y).y + (f y).h ≤ bottom_end (map f (x ∷ xs))) x xs (omega arith) (λ k d l. let e = bottom_holds f xs k d l in omega (arith, e))

pub right_within : (areas : List Area) (most : ℕ) → All (λ a. a.x + a.w ≤ most) areas → right_end areas ≤ most
right_within [] most h = omega arith
right_within (a ∷ rest) most h =
    let first = All-head (λ a. a.x + a.w ≤ most) a rest h in
    let later = right_within rest most (All-tail (λ a. a.x + a.w ≤ most) a rest h) in
    omega (arith, first, later)

pub bottom_within : (areas : List Area) (most : ℕ) → All (λ a. a.y + a.h ≤ most) areas → bottom_end areas ≤ most
bottom_within [] most h = omega arith
bottom_within (a ∷ rest) most h =
    let first = All-head (λ a. a.y + a.h ≤ most) a rest h in
    let later = bottom_within rest most (All-tail (λ a. a.y + a.h ≤ most) a rest h) in
    omega (arith, first, later)
