use Rattle.std.proofs.Common.{◌≡◌, ℕ, ◌+◌, ◌<◌, List, [], ◌∷◌, ◌++◌, map, take, length, Some, arith, ap, sym, ◌∙◌}
use Rattle.std.specs.Prelude.{slice_get}
use Rattle.std.proofs.lemmas.List.{map-append, map_more}
use Rattle.std.proofs.lemmas.Option.{get_or_from_slice_get}
use Rattle.icet_tiles.specs.Layouts.{tile_view}
use Rattle.icet_scene_model.specs.Boxes.{contributors}
use Rattle.icet_tiles.proofs.contributors.Contributors.of.Goals as goal

-- one more list, for the next tile
one_more : {X Y Z : Type 0} (f : X → Y) (g : Z → Y) (lists : List Z) (made : Z) (tiles : List X) (t : ℕ) (x : X) → map g lists ≡ map f (take t tiles) → slice_get tiles t ≡ Some x → t < length tiles → g made ≡ f x
    → map g (lists ++ made ∷ []) ≡ map f (take (t + 1) tiles)
one_more f g lists made tiles t x before at within same =
    map-append g lists (made ∷ [])
    ∙ ap (λ ys. ys ++ g made ∷ []) before
    ∙ ap (λ y. map f (take t tiles) ++ y ∷ []) (same ∙ ap f (sym (get_or_from_slice_get tiles t x x at)))
    ∙ sym (map_more f tiles t x within)

pub loop-tile-preserved : goal.loop-tile-preserved
loop-tile-preserved c =
    rw c.in_ok-push.ensures.items (one_more (λ tile. contributors c.args.boxes.now c.args.order.now tile.area) (λ ranks. ranks.items) c.loop-tile.lists.items c.in_ok-contributors_to.field-0 c.args.layout.now c.loop-tile.tile (tile_view c.tile.result) c.loop-tile.invariant c.tile.ensures.tile (omega arith) c.in_ok-contributors_to.ensures)
