use Rattle.std.proofs.Common.{◌≡◌, ◌+◌, ◌-◌, ◌++◌, replicate, map, length, Some, None, ◌∙◌, ap, length-append, arith}
use Rattle.icet_model.specs.Pixel.{Pixel}
use Rattle.icet_sparse.proofs.Walking.{left_behind, stretch_length}
use Rattle.icet_sparse.proofs.walk.Walk.skip.Goals as goal

pub skipping-preserved : goal.skipping-preserved
skipping-preserved c =
    let st = c.next.result in
    let passed = replicate {A = Pixel} st.blank None ++ map {B = Pixel} (λ f. Some f) st.drawn.now in
    let size = stretch_length st.blank st.drawn.now in
    let e = c.next.ensures.pixels in
    let count : c.skipping.left ≡ length passed + (c.skipping.left - c.len-left.result) = omega arith in
    record {
      rest = left_behind c.skipping.self c.next.new.self passed c.skipping.left (c.skipping.left - c.len-left.result) e count ∙ c.skipping.invariant.rest;
      within = omega (arith, ap length e, length-append passed c.next.new.self);
    }
