use Rattle.std.proofs.Common.{◌≡◌, ◌≤◌, take, length, arith}
use Rattle.std.proofs.lemmas.Grind.{common_steps}
use Rattle.std.proofs.lemmas.Result.{err_from_is_err_and}
use Rattle.icet_model.specs.declared.limits.TheConstants.{MAX_READ, MAX_SCENE_BYTES}
use Rattle.icet_cli.proofs.PiecesRead.{read_more, few_read}
use Rattle.icet_cli.proofs.scene_bytes.read_all.Goals as goal

pub loop-source-preserved : goal.loop-source-preserved
loop-source-preserved g c =
    let i = c.loop-source.invariant in
    let e = c.in_ok-n.ensures in
    let piece : take c.in_ok-n.n c.deref.result.now ≡ take c.in_ok-n.n c.read.new.buf = grind (arith, common_steps) in
    let short : length c.loop-source.all.items ≤ MAX_SCENE_BYTES = grind (arith, common_steps) in
    let full : length c.read.new.buf ≡ MAX_READ = grind (arith, common_steps) in
    (rw (c.in_ok-extend_from_slice.ensures.items, piece) (read_more _ _ _ _ _ _ i.0 short full e.bytes.0 e.cause.well), i.1)

pub returns-in_err-extend_from_slice-clause-fault : goal.returns-in_err-extend_from_slice-clause-fault
returns-in_err-extend_from_slice-clause-fault g c =
    let from = err_from_is_err_and c.from_residual-in_err-extend_from_slice.result c.from_residual-in_err-extend_from_slice.ensures.1 in
    let i = c.loop-source.invariant in
    let e = c.in_ok-n.ensures in
    let short : length c.loop-source.all.items ≤ MAX_SCENE_BYTES = grind (arith, common_steps) in
    let full : length c.read.new.buf ≡ MAX_READ = grind (arith, common_steps) in
    let read = read_more _ _ _ c.loop-source.all.items c.read.new.buf c.in_ok-n.n i.0 short full e.bytes.0 e.cause.well in
    rw (from.1, from.2) (few_read _ _ _ read, read.well)
