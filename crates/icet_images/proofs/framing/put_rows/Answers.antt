use Rattle.std.proofs.Common.{◌≡◌, ◌+◌, ◌-◌, ◌*◌, ◌++◌, ◌∙◌, sym, ap, length, take, drop, append_assoc, length-append, arith}
use Rattle.std.proofs.Math.Nat.{add-mul}
use Rattle.icet_images.specs.Images.{framed_row, framed_rows}
use Rattle.icet_images.proofs.FramedImages.{row_length, rows_more}
use Rattle.icet_images.proofs.framing.put_rows.Goals as goal

pub loop-row-preserved : goal.loop-row-preserved
loop-row-preserved c =
    let m = c.args.margins in
    let ps = c.args.pixels.now in
    let i = c.loop-row.row in
    let before = c.args.strip.now in
    let start = i * m.width in
    let row = framed_row m (take m.width (drop start ps)) in
    let width : start + m.width - start ≡ m.width = omega arith in
    let put = c.in_ok-put_row.ensures ∙ ap (λ n. c.loop-row.strip ++ framed_row m (take n (drop start ps))) width in
    let size = row_length m i c.args.rows ps c.requires.size c.loop-row-test.true in
    record {
      pixels = put ∙ ap (λ l. l ++ row) c.loop-row.invariant.pixels ∙ append_assoc before (framed_rows m i ps) row ∙ ap (λ l. before ++ l) (sym (rows_more m i ps));
      size = omega (arith, ap length put, length-append c.loop-row.strip row, size, c.loop-row.invariant.size, add-mul i 1 (m.left + m.width + m.right));
    }
