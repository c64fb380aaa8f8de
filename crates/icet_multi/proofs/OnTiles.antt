-- A plan's tiles and brackets, read by the number of a tile.
use Rattle.std.proofs.Common.{◌≡◌, ℕ, suc, ◌<◌, List, [], ◌∷◌, ◌++◌, map, length, get_or, refl, ap, ◌∙◌, subst, arith, Some}
use Rattle.std.specs.List.{slice_get}
use Rattle.icet_model.specs.declared.bracket.Bracket.{Bracket}
use Rattle.icet_model.specs.declared.bracket.Bracket.TheVariants.{Empty}
use Rattle.icet_model.specs.Fit.{Tiles}
use Rattle.icet_multi.specs.Direct.{TileView, tile_bracket}

-- tile t of the plan has as many pixels as this one
pub record IsSized (tiles : Tiles) (t : ℕ) (x : TileView) : Type 0 where
  pub within : t < length tiles.sizes
  pub size : get_or tiles.sizes t 0 ≡ x.size

-- tile t of the plan is this one
pub record IsOn (tiles : Tiles) (brackets : List Bracket) (t : ℕ) (x : TileView) : Type 0 where
  pub within : t < length tiles.sizes
  pub size : get_or tiles.sizes t 0 ≡ x.size
  pub display : slice_get tiles.displays t ≡ Some x.display
  pub bracket : get_or brackets t Empty ≡ tile_bracket x

pub sized : (tiles : Tiles) (brackets : List Bracket) (t : ℕ) (x : TileView) → IsOn tiles brackets t x → IsSized tiles t x
sized tiles brackets t x on = record { within = on.within; size = on.size }

-- so are all from tile t on
abbrev pub AreOn : Tiles → List Bracket → ℕ → List TileView → Type 0
AreOn tiles brackets t [] = Unit {0}
AreOn tiles brackets t (x ∷ xs) = IsOn tiles brackets t x × AreOn tiles brackets (suc t) xs

abbrev pub tiles_of : List TileView → Tiles
tiles_of xs = record { sizes = map (λ x. x.size) xs; displays = map (λ x. x.display) xs }

abbrev pub brackets_of : List TileView → List Bracket
brackets_of xs = map tile_bracket xs

-- the element behind a front of some length
get_behind : {X Y : Type 0} (f : X → Y) (front : List X) (x : X) (back : List X) → slice_get (map f (front ++ x ∷ back)) (length front) ≡ Some (f x)
get_behind f [] x back = refl
get_behind f (y ∷ front) x back = get_behind f front x back

read_behind : {X Y : Type 0} (f : X → Y) (d : Y) (front : List X) (x : X) (back : List X) → get_or (map f (front ++ x ∷ back)) (length front) d ≡ f x
read_behind f d [] x back = refl
read_behind f d (y ∷ front) x back = read_behind f d front x back

within_behind : {X Y : Type 0} (f : X → Y) (front : List X) (x : X) (back : List X) → length front < length (map f (front ++ x ∷ back))
within_behind f [] x back = omega arith
within_behind f (y ∷ front) x back = let h = within_behind f front x back in omega (arith, h)

one_more : {X : Type 0} (front : List X) (x : X) → length (front ++ x ∷ []) ≡ suc (length front)
one_more [] x = refl
one_more (y ∷ front) x = ap suc (one_more front x)

regroup : {X : Type 0} (front : List X) (x : X) (back : List X) → (front ++ x ∷ []) ++ back ≡ front ++ x ∷ back
regroup [] x back = refl
regroup (y ∷ front) x back = ap (λ xs. y ∷ xs) (regroup front x back)

on_behind : (front back : List TileView) (t : ℕ) → length front ≡ t → AreOn (tiles_of (front ++ back)) (brackets_of (front ++ back)) t back
on_behind front [] t e = tt
on_behind front (x ∷ back) t e =
    let whole = front ++ x ∷ back in (
      subst (λ n. IsOn (tiles_of whole) (brackets_of whole) n x) e (record {
        within = within_behind (λ y. y.size) front x back;
        size = read_behind (λ y. y.size) 0 front x back;
        display = get_behind (λ y. y.display) front x back;
        bracket = read_behind tile_bracket Empty front x back;
      }),
      subst (λ w. AreOn (tiles_of w) (brackets_of w) (suc t) back) (regroup front x back) (on_behind (front ++ x ∷ []) back (suc t) (one_more front x ∙ ap suc e)),
    )

pub all_on : (xs : List TileView) → AreOn (tiles_of xs) (brackets_of xs) 0 xs
all_on xs = on_behind [] xs 0 refl
