use Rattle.std.proofs.Common.{◌≡◌, ◌∙◌, sym, ap, get_or, [], ◌∷◌, None, length, refl, length-append, arith}
use Rattle.std.proofs.lemmas.List.{get_or_read}
use Rattle.icet_interlace.specs.Interlace.{place, IsInterlaced}
use Rattle.icet_interlace.proofs.Interlaced.{taken_more, one_origin, one_strand}
use Rattle.icet_interlace.proofs.interlacing.restore.Goals as goal

pub restoring-preserved : goal.restoring-preserved
restoring-preserved c =
    let image = c.args.image.now in
    let x = c.index.result.now in
    let grown = c.in_ok-push_pixel.ensures.grown in
    let whole = c.hi-count.ensures.known in
    let place_is : c.place-position.result ≡ place c.restoring.i image.hi c.args.strands = c.place-position.ensures.value ∙ ap (λ n. place c.restoring.i n c.args.strands) c.hi-count.ensures.value in
    let read : x ≡ get_or image.content c.place-position.result x = rw (← c.in_ok-cells.ensures) c.index.ensures in
    record {
      size = omega (arith, ap length grown, length-append c.restoring.pixels (x ∷ []));
      each = taken_more c.restoring.pixels c.push_pixel.new.self x grown image.content image.hi c.args.strands c.restoring.i c.restoring.invariant.size (get_or_read image.content c.place-position.result x (omega arith) read None ∙ ap (λ p. get_or image.content p None) place_is) c.restoring.invariant.each;
    }

pub returns-then-strands-eq1-clause-undoes : goal.returns-then-strands-eq1-clause-undoes
returns-then-strands-eq1-clause-undoes c = λ original o. rw c.in_ok-copy.ensures (one_origin c.args.strands c.args.image.now original c.args.image.now (one_strand c.args.strands c.args.image.now c.if-strands-eq1.true o.whole_too) o)

restored : (c : goal.After-drop-cells-2) → IsInterlaced c.args.strands c.in_ok-from_strip.field-0 c.args.image.now
restored c =
    let image = c.args.image.now in
    let whole = c.hi-count.ensures.known in
    rw (c.in_ok-from_strip.ensures) (record {
      tile = sym c.tile.ensures.value;
      hi = sym c.hi-count.ensures.value;
      whole = record { from_first = refl; size = omega arith };
      whole_too = record { from_first = c.requires.lo; size = omega arith };
      each = λ i h. ap (λ n. get_or image.content (place i n c.args.strands) None) c.hi-count.ensures.value ∙ c.restoring.invariant.each i (omega arith);
    })

pub returns-clause-undoes : goal.returns-clause-undoes
returns-clause-undoes c = λ original o. one_origin c.args.strands c.in_ok-from_strip.field-0 original c.args.image.now (restored c) o
