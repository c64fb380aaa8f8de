use Rattle.std.proofs.Common.{arith, subst}
use Rattle.icet_tiles.proofs.LayoutViews.{layout_view}
use Rattle.icet_scene_model.specs.Lawful.{greatest_channel, IsPaint}
use Rattle.icet_scene.proofs.Ends.{displayed, each_of, ascending_of, drawn_by, mode_again, painted_by}
use Rattle.icet_scene_model.specs.Scene.{is_wide}
use Rattle.icet_scene.proofs.read.sized.Goals as goal

pub invariant_of-result : goal.invariant_of-result
invariant_of-result c =
    let d = c.args.draft in
    let h = c.requires in
    let small = rw (c.rank_pixels.ensures, c.tile_pixels-pixels.ensures.sum, c.as_slice.ensures.value) at c.if-rank_pixels-gt-MAX_RANK_PIXELS.false in (
      record {
        mode_is = rw c.mode_of.ensures (mode_again d.blends (is_wide d.maxval));
        some = h.ranked.some;
        few = h.ranked.few;
        depth = h.sound.depth;
        paint = subst (λ most. IsPaint most d.background) h.sound.known h.sound.paint;
        each = each_of d.blends d.ranks c.in_ok-order.order d.order.items h.ordered.each c.in_ok-order.ensures;
        ascending = λ m. ascending_of d.blends (is_wide d.maxval) d.ranks c.in_ok-order.order d.order.items c.in_ok-order.ensures (rw c.mode_of.ensures at m);
        layout = rw c.of.ensures (layout_view d.tiles.items (record { some = h.some; few = h.few; inside = h.areas; distinct = h.distinct }));
        displays = rw c.of.ensures (displayed d.ranks d.tiles.items h.ranked.some h.displays);
        drawers = rw c.from_vec.ensures (drawn_by d.ranks d.shapes.items h.ranked.some h.drawers);
        painted = rw c.from_vec.ensures (painted_by d.maxval (greatest_channel (is_wide d.maxval)) d.shapes.items h.sound.known h.painted);
        small = rw c.of.ensures small;
      },
      record {
        drawers = rw c.from_vec.ensures (λ k e l. omega (arith, h.drawers k e l, h.ranked.some));
        in_range = rw c.from_vec.ensures h.in_range;
      },
    )
