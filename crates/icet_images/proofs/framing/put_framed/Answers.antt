use Rattle.std.proofs.Common.{◌-◌, ◌*◌, ◌∙◌, ap, length, replicate, None, length-append, arith}
use Rattle.std.proofs.lemmas.List.{length-replicate}
use Rattle.icet_model.specs.Pixel.{Pixel}
use Rattle.icet_images.specs.Images.{framed_rows, margins_of}
use Rattle.icet_images.proofs.FramedImages.{rows_length, rows_within}
use Rattle.icet_images.proofs.framing.put_framed.Goals as goal

pub put_rows-requires-clause-room : goal.put_rows-requires-clause-room
put_rows-requires-clause-room c =
    let part = c.args.part in
    let above = replicate {A = Pixel} (part.top * c.args.w) None in
    let size = ap length c.push_blank.ensures ∙ length-append c.args.strip.now above in
    let fits = rows_within c.args.w c.args.h part c.requires.part in
    omega (arith, size, length-replicate {A = Pixel} (part.top * c.args.w) None, fits, c.requires.room)

pub push_blank-requires-2 : goal.push_blank-requires-2
push_blank-requires-2 c =
    let part = c.args.part in
    let rows = part.bottom - part.top in
    let above = replicate {A = Pixel} (part.top * c.args.w) None in
    let size = ap length c.push_blank.ensures ∙ length-append c.args.strip.now above in
    let put = ap length c.in_ok-put_rows.ensures in
    let all = rows_length (margins_of c.args.w part) rows c.args.pixels.now c.requires.size in
    let fits = rows_within c.args.w c.args.h part c.requires.part in
    omega (arith, put, size, all, length-append c.push_blank.new.self (framed_rows (margins_of c.args.w part) rows c.args.pixels.now), length-replicate {A = Pixel} (part.top * c.args.w) None, fits, c.requires.room)
