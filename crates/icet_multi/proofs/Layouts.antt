-- The tiles of a layout with their contributors are tiles as the strategies want them.
use Rattle.std.proofs.Common.{◌≡◌, ◌≢◌, ℕ, zero, suc, ◌+◌, ◌*◌, ◌^◌, ◌<◌, ◌≤◌, List, [], ◌∷◌, ◌++◌, length, take, refl, sym, ap, subst, arith, add-one}
use Rattle.std.specs.Prelude.{All, AllPairs}
use Rattle.std.specs.List.{AllByRecursion}
use Rattle.std.proofs.lemmas.Nat.{mul-le}
use Rattle.std.proofs.lemmas.List.Elements.{All-head, All-tail, All-nil, All-cons, All-filter}
use Rattle.std.proofs.lemmas.List.Kept.{AllPairs-filter, AllPairs-cons}
use Rattle.icet_model.specs.Tiles.{TileView as AreaTile, IsOnDisplay, IsLayout}
use Rattle.icet_model.specs.declared.limits.TheConstants.{MAX_SIDE, MAX_TILES}
use Rattle.icet_tiles.specs.Contributors.{HasEachOnce}
use Rattle.icet_multi.specs.Direct.{TileView, IsTile, AreTiles}
use Rattle.icet_multi.specs.Sequential.{IsShown}
use Rattle.icet_multi.specs.Strategies.{IsTileAt, KeepsOrder, tile_ranks}
use Rattle.icet_model.proofs.Lists.{no_pairs, all_in_turn}

-- one tile more
pub tiles_more : (layout : List AreaTile) (who : List (List ℕ)) (t : ℕ) (x : TileView) → IsTileAt layout who t x → tile_ranks (take (t + 1) layout) who ≡ tile_ranks (take t layout) who ++ x ∷ []
tiles_more layout who t x at = rw add-one (next layout who t x at)
  where
    next : (layout : List AreaTile) (who : List (List ℕ)) (t : ℕ) (x : TileView) → IsTileAt layout who t x → tile_ranks (take (suc t) layout) who ≡ tile_ranks (take t layout) who ++ x ∷ []
    next [] who t x at = absurd (let e = at.is_tile in cc)
    next (tile ∷ layout) [] t x at = absurd (let e = at.are_ranks in cc)
    next (tile ∷ layout) (ranks ∷ who) zero x at = ap (λ y. y ∷ []) (same tile ranks x (let e : tile ≡ at.tile = (let h = at.is_tile in cc) in e) (let e : ranks ≡ at.ranks = (let h = at.are_ranks in cc) in e) at.is)
      where
        same : (tile : AreaTile) (ranks : List ℕ) (x : TileView) → tile ≡ at.tile → ranks ≡ at.ranks → x ≡ record { size = at.tile.area.w * at.tile.area.h; display = at.tile.display; contributors = at.ranks } → record { size = tile.area.w * tile.area.h; display = tile.display; contributors = ranks } ≡ x
        same tile ranks x e f is = rw (e, f) (sym is)
    next (tile ∷ layout) (ranks ∷ who) (suc t) x at = ap (λ xs. record { size = tile.area.w * tile.area.h; display = tile.display; contributors = ranks } ∷ xs) (next layout who t x (record { tile = at.tile; ranks = at.ranks; is_tile = at.is_tile; are_ranks = at.are_ranks; is = at.is }))

tile_count : (layout : List AreaTile) (who : List (List ℕ)) → length who ≡ length layout → length (tile_ranks layout who) ≡ length layout
tile_count [] who e = refl
tile_count (tile ∷ layout) [] e = absurd (omega (arith, e))
tile_count (tile ∷ layout) (ranks ∷ who) e = ap suc (tile_count layout who (omega (arith, e)))

-- a list that keeps an order of ranks names ranks, each at most once
kept_below : (ranks : ℕ) (order list : List ℕ) → HasEachOnce ranks order → KeepsOrder order list → AllByRecursion (λ c. c < ranks) list
kept_below ranks order list once kept = all_in_turn (λ c. c < ranks) list (subst (All (λ c. c < ranks)) (sym kept.is) (All-filter kept.keeps (λ c. c < ranks) order once.below))

kept_apart : (ranks : ℕ) (order list : List ℕ) → HasEachOnce ranks order → KeepsOrder order list → AllPairs (λ a b. a ≢ b) list
kept_apart ranks order list once kept = subst (AllPairs (λ a b. a ≢ b)) (sym kept.is) (AllPairs-filter (λ a b. a ≢ b) kept.keeps order once.distinct)

tiles_are : (ranks : ℕ) (order : List ℕ) → HasEachOnce ranks order → (layout : List AreaTile) (who : List (List ℕ)) → All (λ tile. tile.display < ranks) layout → All (KeepsOrder order) who → AllByRecursion (IsTile ranks) (tile_ranks layout who)
tiles_are ranks order once [] who shown kept = tt
tiles_are ranks order once (tile ∷ layout) [] shown kept = tt
tiles_are ranks order once (tile ∷ layout) (list ∷ who) shown kept =
    let keeps = All-head (KeepsOrder order) list who kept in (
      record { display = All-head (λ t. t.display < ranks) tile layout shown; contributors = kept_below ranks order list once keeps; distinct = kept_apart ranks order list once keeps },
      tiles_are ranks order once layout who (All-tail (λ t. t.display < ranks) tile layout shown) (All-tail (KeepsOrder order) list who kept),
    )

-- displays that differ in the layout differ among the tiles
all_display : (P : ℕ → Type 0) (layout : List AreaTile) (who : List (List ℕ)) → All (λ tile. P tile.display) layout → All (λ x. P x.display) (tile_ranks layout who)
all_display P [] who h = All-nil (λ x. P x.display)
all_display P (tile ∷ layout) [] h = All-nil (λ x. P x.display)
all_display P (tile ∷ layout) (list ∷ who) h = All-cons (λ x. P x.display) _ (tile_ranks layout who) (All-head (λ t. P t.display) tile layout h) (all_display P layout who (All-tail (λ t. P t.display) tile layout h))

displays_differ : (layout : List AreaTile) (who : List (List ℕ)) → AllPairs (λ one other. one.display ≢ other.display) layout → AllPairs (λ x y. x.display ≢ y.display) (tile_ranks layout who)
displays_differ [] who h = no_pairs (λ x y. x.display ≢ y.display)
displays_differ (tile ∷ layout) [] h = no_pairs (λ x y. x.display ≢ y.display)
displays_differ (tile ∷ layout) (list ∷ who) h =
    AllPairs-cons (λ x y. x.display ≢ y.display) _ (tile_ranks layout who)
    (all_display (λ d. tile.display ≢ d) layout who (λ i d l. h 0 (suc i) d (omega arith) (omega arith)))
    (displays_differ layout who (λ i j d l m. h (suc i) (suc j) d (omega arith) (omega arith)))

pub few_tiles : (layout : List AreaTile) (who : List (List ℕ)) → length who ≡ length layout → IsLayout layout → length (tile_ranks layout who) ≤ MAX_TILES
few_tiles layout who e l = omega (arith, tile_count layout who e, l.few)

pub are_tiles : (ranks : ℕ) (order : List ℕ) (layout : List AreaTile) (who : List (List ℕ)) → HasEachOnce ranks order → All (λ tile. tile.display < ranks) layout → All (KeepsOrder order) who → IsLayout layout → AreTiles ranks (tile_ranks layout who)
are_tiles ranks order layout who once shown kept l = record { each = tiles_are ranks order once layout who shown kept; displays = displays_differ layout who l.distinct }

-- a tile on the display has fewer than 2^31 pixels
pub are_shown : (ranks : ℕ) (layout : List AreaTile) (who : List (List ℕ)) → All (λ tile. tile.display < ranks) layout → All (λ tile. IsOnDisplay tile.area) layout → AllByRecursion (IsShown ranks) (tile_ranks layout who)
are_shown ranks [] who shown inside = tt
are_shown ranks (tile ∷ layout) [] shown inside = tt
are_shown ranks (tile ∷ layout) (list ∷ who) shown inside =
    let on = All-head (λ t. IsOnDisplay t.area) tile layout inside in
    let pixels = mul-le tile.area.w tile.area.h MAX_SIDE MAX_SIDE (let r = on.right in omega (arith, r)) (let b = on.bottom in omega (arith, b)) in (
      record { display = All-head (λ t. t.display < ranks) tile layout shown; small = omega (arith, pixels) },
      are_shown ranks layout who (All-tail (λ t. t.display < ranks) tile layout shown) (All-tail (λ t. IsOnDisplay t.area) tile layout inside),
    )
