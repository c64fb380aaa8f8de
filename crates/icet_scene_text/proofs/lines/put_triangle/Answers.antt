use Rattle.std.proofs.Common.{◌++◌, codes, Ok, Err}
use Rattle.std.proofs.lemmas.Result.{err_from_is_err_and}
use Rattle.std.specs.List.{flat_map}
use Rattle.icet_base.proofs.GrowingBytes.{puts_failed, puts_then}
use Rattle.std.specs.Prelude.{decimal}
use Rattle.icet_raster.specs.Shapes.{triangle_of}
use Rattle.icet_scene_model.specs.Printed.{spaced, triangle_numbers}
use Rattle.icet_scene_text.proofs.lines.put_triangle.Goals as goal

pub returns-in_err-put_corners : goal.returns-in_err-put_corners
returns-in_err-put_corners g c =
    let p = err_from_is_err_and c.from_residual-in_err-put_corners.result c.from_residual-in_err-put_corners.ensures.1 in
    rw p.1 (puts_failed g.K.Sink.told _ _ p.0 ((codes "tri " ++ decimal c.args.rank) ++ (flat_map spaced (triangle_numbers (triangle_of c.args.corners.now)))) (codes "\n") (puts_then g.K.Sink.told _ _ _ (Err p.0) (codes "tri " ++ decimal c.args.rank) (flat_map spaced (triangle_numbers (triangle_of c.args.corners.now))) (rw c.from.ensures at c.in_ok-put_number.ensures) c.in_err-put_corners.ensures))

pub returns : goal.returns
returns g c = puts_then g.K.Sink.told _ _ _ _ ((codes "tri " ++ decimal c.args.rank) ++ (flat_map spaced (triangle_numbers (triangle_of c.args.corners.now)))) (codes "\n") (puts_then g.K.Sink.told _ _ _ (Ok tt) (codes "tri " ++ decimal c.args.rank) (flat_map spaced (triangle_numbers (triangle_of c.args.corners.now))) (rw c.from.ensures at c.in_ok-put_number.ensures) c.in_ok-put_corners.ensures) c.put.ensures
