use Rattle.std.proofs.Common.{◌≡◌, ◌+◌, ◌∷◌, [], length, map, ap, ◌∙◌, arith, length-append}
use Rattle.icet_rank.specs.Machine.{PartsView}
use Rattle.icet_net.specs.CloseSteps.{shown_on}
use Rattle.icet_net.proofs.ClosePieces.{kept_is, tile_is, tiles_next, all_next, shown_next, once_moved, wanted_moved}
use Rattle.icet_net.proofs.closing.show_all.Goals as goal

pub display-display-requires : goal.display-display-requires
display-display-requires g c =
    let s = c.in-Some.ensures.steps.0 in
    let t = tile_is _ _ _ s _ c.showing.invariant.tiles in
    let w = (all_next _ _ _ s _ c.showing.invariant.showable).0.within in
    let l = c.len-tile.ensures in
    let o = c.showing.pictures.ok.0 in
    omega (arith, t, w, l, o)

pub show-requires-clause-once : goal.show-requires-clause-once
show-requires-clause-once g c =
    let s = c.in-Some.ensures.steps.0 in
    let t = tile_is _ _ _ s _ c.showing.invariant.tiles in
    let l = c.len-tile.ensures in
    let o = c.showing.pictures.ok.0 in
    let e : c.in-Some.canvas.tile ≡ c.len-tile.result = omega (arith, t, l, o) in
    let k = kept_is (λ p. p.kept) c.args.parts.now c.args.plan.now.tiles.displays c.len-tile.result c.display.inside.0 c.display-display.result c.index-parts-display.result c.deref.result.now c.display-display.ensures.shown c.display.view_is (let a = c.display-display.ensures.ranked in let b = c.requires.ranks in omega (arith, a, b)) (c.deref.ensures.value ∙ ap (λ (p : PartsView). p.kept) (c.part.view_is ∙ c.index-parts-display.is)) in
    once_moved (map (λ p. p.kept) c.args.parts.now) c.args.plan.now.tiles.displays c.in-Some.canvas.tile c.len-tile.result _ _ e k (all_next _ _ _ s _ c.showing.invariant.showable).0.once

pub showing-preserved : goal.showing-preserved
showing-preserved g c =
    let s = c.in-Some.ensures.steps.0 in
    let v = c.showing.invariant in
    let t = tile_is _ _ _ s _ v.tiles in
    let l = c.len-tile.ensures in
    let o = c.showing.pictures.ok.0 in
    let e : c.in-Some.canvas.tile ≡ c.len-tile.result = omega (arith, t, l, o) in
    let k = kept_is (λ p. p.kept) c.args.parts.now c.args.plan.now.tiles.displays c.len-tile.result c.display.inside.0 c.display-display.result c.index-parts-display.result c.deref.result.now c.display-display.ensures.shown c.display.view_is (let a = c.display-display.ensures.ranked in let b = c.requires.ranks in omega (arith, a, b)) (c.deref.ensures.value ∙ ap (λ (p : PartsView). p.kept) (c.part.view_is ∙ c.index-parts-display.is)) in
    let more : length c.push_reserved.new.self.items ≡ length c.showing.pictures.items + 1 = ap length c.push_reserved.ensures.items ∙ length-append c.showing.pictures.items (c.show.result ∷ []) in
    record {
      tiles = tiles_next _ _ _ s _ _ more v.tiles;
      showable = (all_next _ _ _ s _ v.showable).1;
      memory = let m = v.memory in let f = ap length s in let h = c.push_reserved.ensures.capacity in omega (arith, m, f, h, more);
      shown = λ wanted a. shown_next _ _ _ s (shown_on wanted) _ _ _ _ c.push_reserved.ensures.items (c.show.ensures (wanted c.in-Some.canvas.tile) (wanted_moved (map (λ p. p.kept) c.args.parts.now) c.args.plan.now.tiles.displays c.in-Some.canvas.tile c.len-tile.result _ _ e k (a c.in-Some.canvas.tile (all_next _ _ _ s _ v.showable).0.within))) (v.shown wanted a);
    }
