use Rattle.std.proofs.Common.{◌≡◌, ◌+◌, ◌-◌, ◌++◌, replicate, map, length, Some, None, ◌∙◌, ap, append_assoc, length-append, arith}
use Rattle.icet_model.specs.Pixel.{Pixel}
use Rattle.icet_sparse.proofs.Walking.{left_behind, put_down, stretch_length}
use Rattle.icet_sparse.proofs.strip.Strip.append.Goals as goal

pub copying-preserved : goal.copying-preserved
copying-preserved c =
    let i = c.copying.invariant in
    let st = c.next-stretch.result in
    let blank = replicate {A = Pixel} st.blank None in
    let drawn = map {B = Pixel} (λ f. Some f) st.drawn.now in
    let e = c.next-stretch.ensures.pixels in
    let size = stretch_length st.blank st.drawn.now in
    let count : c.copying.left ≡ length (blank ++ drawn) + (c.copying.left - c.len-left.result) = omega arith in
    let put : c.push_all.new.self ≡ c.copying.self ++ (blank ++ drawn) = c.in_ok-push_all.ensures.grown ∙ ap (λ l. l ++ drawn) c.push_blank.ensures ∙ append_assoc c.copying.self blank drawn in
    record {
      pixels = put_down c.copying.walk c.next-stretch.new.self (blank ++ drawn) c.copying.left (c.copying.left - c.len-left.result) e count c.copying.self c.push_all.new.self put ∙ i.pixels;
      rest = left_behind c.copying.walk c.next-stretch.new.self (blank ++ drawn) c.copying.left (c.copying.left - c.len-left.result) e count ∙ i.rest;
      within = omega (arith, ap length e, length-append (blank ++ drawn) c.next-stretch.new.self);
      room = omega (arith, ap length put, length-append c.copying.self (blank ++ drawn));
    }
