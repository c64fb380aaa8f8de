use Rattle.std.proofs.Common.{◌++◌, Err}
use Rattle.std.specs.List.{slice_index_or}
use Rattle.std.proofs.lemmas.Result.{err_from_is_err_and}
use Rattle.icet_raster.specs.Shapes.{corner_of, nowhere}
use Rattle.icet_scene_model.specs.Printed.{corner_numbers}
use Rattle.icet_scene_text.proofs.NumberPieces.{numbers_then, numbers_failed}
use Rattle.icet_scene_text.proofs.lines.put_corners.Goals as goal

pub returns-in_err-put_corner : goal.returns-in_err-put_corner
returns-in_err-put_corner g c =
    let p = err_from_is_err_and c.from_residual.result c.from_residual.ensures.1 in
    let first = corner_numbers (corner_of (slice_index_or c.args.corners.now 0 nowhere)) in
    let second = corner_numbers (corner_of (slice_index_or c.args.corners.now 1 nowhere)) in
    let third = corner_numbers (corner_of (slice_index_or c.args.corners.now 2 nowhere)) in
    let failed = c.in_err-put_corner.ensures in
    rw p.1 (numbers_failed g.K.Sink.told _ _ p.0 first (second ++ third) failed)

pub returns-in_err-put_corner-2 : goal.returns-in_err-put_corner-2
returns-in_err-put_corner-2 g c =
    let p = err_from_is_err_and c.from_residual-in_err-put_corner-2.result c.from_residual-in_err-put_corner-2.ensures.1 in
    let first = corner_numbers (corner_of (slice_index_or c.args.corners.now 0 nowhere)) in
    let second = corner_numbers (corner_of (slice_index_or c.args.corners.now 1 nowhere)) in
    let third = corner_numbers (corner_of (slice_index_or c.args.corners.now 2 nowhere)) in
    let before = c.in_ok-put_corner.ensures in
    let failed = c.in_err-put_corner-2.ensures in
    rw p.1 (numbers_then g.K.Sink.told _ _ _ (Err p.0) first (second ++ third) before (numbers_failed g.K.Sink.told _ _ p.0 second third failed))

pub returns : goal.returns
returns g c =
    let first = corner_numbers (corner_of (slice_index_or c.args.corners.now 0 nowhere)) in
    let second = corner_numbers (corner_of (slice_index_or c.args.corners.now 1 nowhere)) in
    let third = corner_numbers (corner_of (slice_index_or c.args.corners.now 2 nowhere)) in
    let one = c.in_ok-put_corner.ensures in
    let two = c.in_ok-put_corner-2.ensures in
    let three = c.put_corner-3.ensures in
    numbers_then g.K.Sink.told _ _ _ _ first (second ++ third) one (numbers_then g.K.Sink.told _ _ _ _ second third two three)
