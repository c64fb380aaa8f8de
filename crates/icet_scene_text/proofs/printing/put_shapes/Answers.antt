use Rattle.std.proofs.Common.{◌++◌, codes, map, sym, subst, Ok, Err}
use Rattle.std.proofs.lemmas.Result.{err_from_is_err_and}
use Rattle.std.proofs.lemmas.List.Folds.{flat_map-map}
use Rattle.icet_base.specs.PenText.{Puts}
use Rattle.icet_scene.specs.Lines.{placed_of}
use Rattle.icet_scene_model.specs.Printed.{line_of}
use Rattle.icet_scene_model.specs.Scene.{Said, Placed, Draws}
use Rattle.icet_scene_text.proofs.PieceLoops.{mapped_end, mapped_failed, mapped_more}
use Rattle.icet_scene_text.proofs.printing.put_shapes.Goals as goal

pub returns-in_err-put_shape : goal.returns-in_err-put_shape
returns-in_err-put_shape g c =
    let p = err_from_is_err_and c.from_residual.result c.from_residual.ensures.1 in
    let shapes = c.args.shapes.now in
    rw p.1 (subst (Puts g.K.Sink.told c.args.pen.now c.put_shape.new.pen (Err p.0)) (sym (flat_map-map (λ (said : Said). line_of said ++ codes "\n") Draws (map placed_of shapes)))
    (mapped_failed g.K.Sink.told (λ (placed : Placed). line_of (Draws placed) ++ codes "\n") placed_of _ _ _ p.0 shapes c.loop-rank.rank-index c.loop-rank-item.result c.loop-rank-test.true (sym c.loop-rank-item.is) c.loop-rank.invariant c.in_err-put_shape.ensures))

pub loop-rank-preserved : goal.loop-rank-preserved
loop-rank-preserved g c = mapped_more g.K.Sink.told (λ (placed : Placed). line_of (Draws placed) ++ codes "\n") placed_of _ _ _ c.args.shapes.now c.loop-rank.rank-index c.loop-rank-item.result c.loop-rank-test.true (sym c.loop-rank-item.is) c.loop-rank.invariant c.in_ok-put_shape.ensures

pub returns : goal.returns
returns g c =
    let shapes = c.args.shapes.now in
    subst (Puts g.K.Sink.told c.args.pen.now c.loop-rank.pen (Ok tt)) (sym (flat_map-map (λ (said : Said). line_of said ++ codes "\n") Draws (map placed_of shapes)))
    (mapped_end g.K.Sink.told (λ (placed : Placed). line_of (Draws placed) ++ codes "\n") placed_of _ _ shapes c.loop-rank.rank-index c.loop-rank-test.false c.loop-rank.invariant)
