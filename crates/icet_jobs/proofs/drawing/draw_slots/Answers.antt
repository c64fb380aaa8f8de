use Rattle.std.proofs.Common.{◌≡◌, get_or, map}
use Rattle.icet_jobs.specs.Drawings.{drawn_slot}
use Rattle.icet_jobs.proofs.RankDrawings.{each_mapped, left_by, on_ok_by}
use Rattle.icet_jobs.proofs.drawing.draw_slots.Goals as goal

pub returns : goal.returns
returns g c =
    let drawn = drawn_slot c.args.strands c.args.scene.now in
    let old = c.args.slots.now in
    let new = c.for_each_share.new.items in
    let calls = c.for_each_share.ensures in
    on_ok_by {P = new ≡ map drawn old} c.for_each_share.result (λ ok. each_mapped drawn old new (record {
      count = calls.count;
      each = λ k d l.
          let call = calls.each k d l in
          left_by drawn (get_or old k d) (get_or new k d) call.argument call.after_call call.answer call.argument_is call.left (call.answered ok) call.call;
    }))
