use Rattle.std.proofs.Common.{replicate, None, arith}
use Rattle.std.proofs.lemmas.List.{length-replicate}
use Rattle.icet_model.specs.Pixel.{Pixel}
use Rattle.icet_collect.proofs.Positions.{stretch_free}
use Rattle.icet_collect.proofs.Stretches.{drawn_free, stretch_placed, walk_on}
use Rattle.icet_collect.proofs.canvas.Canvas.place.Goals as goal

pub leave_blank-requires-clause-free : goal.leave_blank-requires-clause-free
leave_blank-requires-clause-free c =
    let i = c.placing.invariant in
    let st = c.next-stretch.result in
    stretch_free c.args.self.now c.placing.self c.args.piece.now c.placing.at (replicate {A = Pixel} st.blank None) i.placed c.requires.free c.requires.tile i.from (omega (arith, length-replicate {A = Pixel} st.blank None))

pub put_run-requires-clause-free : goal.put_run-requires-clause-free
put_run-requires-clause-free c =
    let i = c.placing.invariant in
    let st = c.next-stretch.result in
    drawn_free c.args.self.now c.placing.self c.leave_blank.new.self c.args.piece.now c.placing.walk c.next-stretch.new.self c.placing.at st.blank st.drawn.now i.placed i.walk c.next-stretch.ensures.pixels c.requires.tile i.from c.requires.free c.leave_blank.ensures (omega arith)

pub placing-preserved : goal.placing-preserved
placing-preserved c =
    let i = c.placing.invariant in
    let st = c.next-stretch.result in
    record {
      placed = rw c.len-at.ensures (stretch_placed c.args.self.now c.placing.self c.leave_blank.new.self c.args.piece.now c.placing.walk c.next-stretch.new.self c.placing.at st.blank st.drawn.now i.placed i.walk c.next-stretch.ensures.pixels c.requires.tile i.from c.put_run.new.self c.leave_blank.ensures c.put_run.ensures);
      walk = rw c.len-at.ensures (walk_on c.args.self.now c.placing.self c.leave_blank.new.self c.args.piece.now c.placing.walk c.next-stretch.new.self c.placing.at st.blank st.drawn.now i.placed i.walk c.next-stretch.ensures.pixels c.requires.tile i.from);
      from = omega arith;
      within = omega arith;
    }
