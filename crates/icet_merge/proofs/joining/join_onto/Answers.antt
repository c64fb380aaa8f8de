use Rattle.std.proofs.Common.{◌≡◌, ◌∙◌, ◌+◌, ◌++◌, sym, ap, length, Some, length-append, arith}
use Rattle.std.proofs.lemmas.List.{length-map}
use Rattle.icet_model.specs.Pixel.{FragmentView}
use Rattle.icet_merge.specs.Merge.{zip_joined}
use Rattle.icet_merge.proofs.Joins.{drawn, joined_drawn, onto_more, passed_length, passed_rest, zip_length}
use Rattle.icet_merge.proofs.joining.join_onto.Goals as goal

pub joining-preserved : goal.joining-preserved
joining-preserved c =
    let i = c.joining.invariant in
    let st = c.next-stretch.result in
    let e = c.next-stretch.ensures.pixels in
    let rest = c.joining.rest.now in
    let one = c.split_at.ensures in
    let two = c.split_at-in-joining.ensures in
    let alone = c.split_at.result.0.now in
    let behind = c.split_at.result.1.now in
    let both = c.split_at-in-joining.result.0.now in
    let later = c.split_at-in-joining.result.1.now in
    let parts : rest ≡ alone ++ (both ++ later) = one.by_index.0 ∙ ap (λ l. alone ++ l) two.by_index.0 in
    let size : length rest ≡ length alone + (length both + length later) = omega (arith, ap length parts, length-append alone (both ++ later), length-append both later) in
    let put : c.push_joined.new.self ≡ c.joining.pixels ++ drawn alone ++ zip_joined c.args.mode (drawn both) (drawn st.drawn.now) = c.in_ok-push_joined.ensures.grown ∙ ap (λ l. c.push_all.new.self ++ l) (sym (joined_drawn c.args.mode both st.drawn.now)) ∙ ap (λ l. l ++ zip_joined c.args.mode (drawn both) (drawn st.drawn.now)) c.in_ok-push_all.ensures.grown in
    let pairs = zip_length c.args.mode (drawn both) (drawn st.drawn.now) (omega (arith, length-map both (λ (f : FragmentView). Some f), length-map st.drawn.now (λ (f : FragmentView). Some f))) in
    record {
      pixels = onto_more c.args.mode c.joining.pixels c.push_joined.new.self c.joining.back c.next-stretch.new.self rest later alone both st.drawn.now st.blank parts one.front_len two.front_len e put ∙ i.pixels;
      behind = passed_rest c.joining.back c.next-stretch.new.self st.drawn.now st.blank (length rest) (length later) e (omega arith) ∙ i.behind;
      within = omega (arith, ap length e, passed_length st.blank st.drawn.now c.next-stretch.new.self);
      room = omega (arith, ap length put, length-append (c.joining.pixels ++ drawn alone) (zip_joined c.args.mode (drawn both) (drawn st.drawn.now)), length-append c.joining.pixels (drawn alone), length-map alone (λ (f : FragmentView). Some f), length-map both (λ (f : FragmentView). Some f));
    }
