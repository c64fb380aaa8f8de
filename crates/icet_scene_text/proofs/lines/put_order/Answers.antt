use Rattle.std.proofs.Common.{◌++◌, codes, Ok, Err}
use Rattle.std.proofs.lemmas.Result.{err_from_is_err_and}
use Rattle.std.specs.List.{flat_map}
use Rattle.icet_base.proofs.GrowingBytes.{puts_failed, puts_then}
use Rattle.std.proofs.Common.{map}
use Rattle.icet_scene_model.specs.Printed.{natural, spaced}
use Rattle.icet_scene_text.proofs.lines.put_order.Goals as goal

pub returns-in_err-put_ranks : goal.returns-in_err-put_ranks
returns-in_err-put_ranks g c =
    let p = err_from_is_err_and c.from_residual-in_err-put_ranks.result c.from_residual-in_err-put_ranks.ensures.1 in
    rw p.1 (puts_failed g.K.Sink.told _ _ p.0 ((codes "order") ++ (flat_map spaced (map natural c.args.order.now))) (codes "\n") (puts_then g.K.Sink.told _ _ _ (Err p.0) (codes "order") (flat_map spaced (map natural c.args.order.now)) c.in_ok-put.ensures c.in_err-put_ranks.ensures))

pub returns : goal.returns
returns g c = puts_then g.K.Sink.told _ _ _ _ ((codes "order") ++ (flat_map spaced (map natural c.args.order.now))) (codes "\n") (puts_then g.K.Sink.told _ _ _ (Ok tt) (codes "order") (flat_map spaced (map natural c.args.order.now)) c.in_ok-put.ensures c.in_ok-put_ranks.ensures) c.put-2.ensures
