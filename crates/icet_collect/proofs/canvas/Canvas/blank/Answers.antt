use Rattle.std.proofs.Common.{◌≡◌, false, replicate, get_or, None, sym, ap, ◌∙◌, ◌*◌, rules}
use Rattle.icet_model.specs.Pixel.{Pixel}
use Rattle.icet_collect.specs.Collect.{left_in}
use Rattle.icet_collect.proofs.Positions.{left_in_blank, blank_pixel}
use Rattle.icet_collect.proofs.canvas.Canvas.blank.Goals as goal

pub invariant_of-result : goal.invariant_of-result
invariant_of-result c =
    let free : c.in_ok-placed.placed.items ≡ replicate (c.args.w * c.args.h) false = search rules in
    let none : c.in_ok-pixels.pixels.items ≡ replicate {A = Pixel} (c.args.w * c.args.h) None = search rules in
    record {
      canvas = search rules;
      blank_left = λ i l e. ap (λ l. get_or l i None) none ∙ blank_pixel (c.args.w * c.args.h) i;
      count = sym (ap left_in free ∙ left_in_blank (c.args.w * c.args.h));
    }
