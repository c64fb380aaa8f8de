use Rattle.std.proofs.Common.{List, ◌≡◌, ◌∙◌, sym, ap, get_or, [], ◌∷◌, None, refl, length, length-append, arith}
use Rattle.std.proofs.lemmas.List.{get_or_read}
use Rattle.icet_model.specs.Pixel.{Pixel}
use Rattle.icet_interlace.specs.Interlace.{place, interlaced_piece, IsInterlaced}
use Rattle.icet_interlace.proofs.Interlaced.{placed_more}
use Rattle.icet_interlace.proofs.Places.{place_within}
use Rattle.icet_interlace.proofs.Strands.{piece_is, one_interlaced}
use Rattle.icet_interlace.proofs.interlacing.interlace.Goals as goal

pub placing-preserved : goal.placing-preserved
placing-preserved c =
    let image = c.args.image.now in
    let i = c.pixel_at-i.result in
    let x = c.index.result.now in
    let grown = c.in_ok-push_pixel.ensures.grown in
    let whole = c.hi-count.ensures.known in
    let here : place i image.hi c.args.strands ≡ c.placing.position = ap (λ n. place i n c.args.strands) (sym c.hi-count.ensures.value) ∙ c.pixel_at-i.ensures.inverse in
    let read : x ≡ get_or image.content i x = rw (← c.in_ok-cells.ensures) c.index.ensures in
    record {
      size = omega (arith, ap length grown, length-append c.placing.pixels (x ∷ []));
      each = placed_more c.placing.pixels c.push_pixel.new.self x grown image.content image.hi c.args.strands i c.placing.position c.requires.strands c.placing.invariant.size (omega arith) here (get_or_read image.content i x (omega arith) read None) c.placing.invariant.each;
    }

placed : (c : goal.After-drop-cells-2) → IsInterlaced c.args.strands c.args.image.now c.in_ok-from_strip.field-0
placed c =
    let image = c.args.image.now in
    let whole = c.hi-count.ensures.known in
    rw (c.in_ok-from_strip.ensures) (record {
      tile = c.tile.ensures.value;
      hi = c.hi-count.ensures.value;
      whole = record { from_first = c.requires.lo; size = omega arith };
      whole_too = record { from_first = refl; size = omega arith };
      each = λ i h. c.placing.invariant.each i h (omega (arith, place_within i image.hi c.args.strands c.requires.strands h));
    })

pub returns-clause-places : goal.returns-clause-places
returns-clause-places c = placed c

pub returns-clause-exact : goal.returns-clause-exact
returns-clause-exact c = piece_is c.args.strands c.args.image.now c.in_ok-from_strip.field-0 c.requires.strands (placed c)

pub returns-then-strands-eq1-clause-exact : goal.returns-then-strands-eq1-clause-exact
returns-then-strands-eq1-clause-exact c =
    let image = c.args.image.now in
    c.in_ok-copy.ensures ∙ ap (λ (pixels : List Pixel). record image { content = pixels }) (sym (one_interlaced image.content)) ∙ ap (λ n. interlaced_piece n image) (sym c.if-strands-eq1.true)
