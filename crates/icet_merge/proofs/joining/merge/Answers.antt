use Rattle.std.proofs.Common.{◌≡◌, ◌∙◌, ◌++◌, ap, length, take, drop, Some, length-append, length-drop, arith}
use Rattle.std.proofs.lemmas.List.{length-map, length-take-le}
use Rattle.icet_model.specs.Pixel.{FragmentView}
use Rattle.icet_merge.specs.Merge.{zip_joined}
use Rattle.icet_merge.proofs.Joins.{drawn, merge_more, passed_length, zip_length}
use Rattle.icet_merge.proofs.joining.merge.Goals as goal

pub merging-preserved : goal.merging-preserved
merging-preserved c =
    let i = c.merging.invariant in
    let st = c.next-stretch.result in
    let e = c.next-stretch.ensures.pixels in
    let a = c.in_ok-append.ensures in
    let j = c.in_ok-join_onto.ensures in
    let below = c.merging.below in
    let n = length st.drawn.now in
    let now = take n (drop st.blank below) in
    let size = ap length e ∙ passed_length st.blank st.drawn.now c.next-stretch.new.self in
    let rest : c.join_onto.new.back ≡ drop n (drop st.blank below) = j.rest ∙ ap (drop n) a.rest in
    let put : c.join_onto.new.pixels ≡ c.merging.pixels ++ take st.blank below ++ zip_joined c.args.mode (drawn st.drawn.now) now = j.grown ∙ ap (λ l. l ++ zip_joined c.args.mode (drawn st.drawn.now) (take n c.append.new.walk)) a.grown ∙ ap (λ l. c.merging.pixels ++ take st.blank below ++ zip_joined c.args.mode (drawn st.drawn.now) (take n l)) a.rest in
    let ends = length-take-le st.blank below (omega arith) in
    let taken = length-take-le n (drop st.blank below) (omega (arith, length-drop st.blank below)) in
    let pairs = zip_length c.args.mode (drawn st.drawn.now) now (omega (arith, length-map st.drawn.now (λ (f : FragmentView). Some f))) in
    record {
      pixels = ap (λ l. c.join_onto.new.pixels ++ zip_joined c.args.mode c.next-stretch.new.self l) rest ∙ merge_more c.args.mode c.merging.pixels c.join_onto.new.pixels c.merging.above c.next-stretch.new.self below st.drawn.now st.blank e (omega arith) put ∙ i.pixels;
      above = omega arith;
      below = omega (arith, ap length rest, length-drop n (drop st.blank below), length-drop st.blank below);
      room = omega (arith, ap length put, length-append (c.merging.pixels ++ take st.blank below) (zip_joined c.args.mode (drawn st.drawn.now) now), length-append c.merging.pixels (take st.blank below), length-map st.drawn.now (λ (f : FragmentView). Some f));
    }
