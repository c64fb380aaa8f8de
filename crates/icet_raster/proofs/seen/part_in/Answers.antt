use Rattle.std.proofs.Common.{◌≡◌, w32, to_z, of_z, unsigned_abs, arith, rules}
use Rattle.std.proofs.lemmas.Int.{ints}
use Rattle.icet_raster.proofs.seen.part_in.Goals as goal

pub returns-clause-cut : goal.returns-clause-cut
returns-clause-cut c =
    let near = c.requires.near in
    let bounds = c.args.bounds in
    let x : to_z w32 (of_z w32 bounds.x) ≡ bounds.x = omega (arith, ints, near.columns.least, near.columns.within) in
    let y : to_z w32 (of_z w32 bounds.y) ≡ bounds.y = omega (arith, ints, near.rows.least, near.rows.within) in
    let l : c.unsigned_abs.result ≡ unsigned_abs c.args.area.x = search rules in
    let t : c.unsigned_abs-2.result ≡ unsigned_abs c.args.area.y = search rules in
    record {
      columns = λ p m f g. c.cut-from.ensures.inside p m (rw (x, l) f) (rw (x, l) g);
      rows = λ p m f g. c.cut-top.ensures.inside p m (rw (y, t) f) (rw (y, t) g);
    }
