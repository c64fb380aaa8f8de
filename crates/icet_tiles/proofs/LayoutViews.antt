-- The tiles of a layout, as contracts see them, are the definitions' layout.
use Rattle.std.proofs.Common.{suc, List, [], ◌∷◌, map, arith}
use Rattle.std.specs.Prelude.{◌≢◌, All, AllPairs}
use Rattle.std.proofs.lemmas.List.{length-map}
use Rattle.std.proofs.lemmas.List.Elements.{All-nil, All-cons, All-head, All-tail}
use Rattle.std.proofs.lemmas.List.Kept.{AllPairs-cons}
use Rattle.icet_model.specs.Tiles.{IsOnDisplay, IsTileArea, IsLayout as IsLayoutOfViews}
use Rattle.icet_tiles.specs.declared.layout.Tile.{Tile}
use Rattle.icet_tiles.specs.Layouts.{tile_view, IsLayout}

module _ {X Y : Type 0} (f : X → Y) where
  all_map : (P : Y → Type 0) (xs : List X) → All (λ x. P (f x)) xs → All P (map f xs)
  all_map P [] h = All-nil P
  all_map P (x ∷ xs) h = All-cons P (f x) (map f xs) (All-head (λ a. P (f a)) x xs h) (all_map P xs (All-tail (λ a. P (f a)) x xs h))

  pairs_map : (R : Y → Y → Type 0) (xs : List X) → AllPairs (λ a b. R (f a) (f b)) xs → AllPairs R (map f xs)
  pairs_map R [] h = λ i j d l m. absurd (omega arith)
  pairs_map R (x ∷ xs) h =
      AllPairs-cons R (f x) (map f xs)
      (all_map (R (f x)) xs (λ i d l. h 0 (suc i) d (omega arith) (omega arith)))
      (pairs_map R xs (λ i j d l m. h (suc i) (suc j) d (omega arith) (omega arith)))

on_display : (tiles : List Tile) → All (λ tile. IsTileArea tile.area) tiles → All (λ tile. IsOnDisplay (tile_view tile).area) tiles
on_display [] h = All-nil (λ tile. IsOnDisplay (tile_view tile).area)
on_display (tile ∷ tiles) h = All-cons (λ t. IsOnDisplay (tile_view t).area) tile tiles (All-head (λ t. IsTileArea t.area) tile tiles h).display (on_display tiles (All-tail (λ t. IsTileArea t.area) tile tiles h))

pub layout_view : (tiles : List Tile) → IsLayout tiles → IsLayoutOfViews (map tile_view tiles)
layout_view tiles l =
    let n = length-map tiles tile_view in
    record {
      some = omega (arith, n, l.some);
      few = omega (arith, n, l.few);
      inside = all_map tile_view (λ tile. IsOnDisplay tile.area) tiles (on_display tiles l.inside);
      distinct = pairs_map tile_view (λ one other. one.display ≢ other.display) tiles l.distinct;
    }
