use Rattle.std.proofs.Common.{◌+◌, ◌*◌, ◌/◌, ◌%◌, ◌∙◌, sym, ap, arith}
use Rattle.icet_interlace.proofs.Places.{place_is, place_within}
use Rattle.icet_interlace.proofs.interlacing.place.Goals as goal

pub returns-clause-value : goal.returns-clause-value
returns-clause-value c = ap (λ m. c.args.i % c.args.strands * (c.args.n / c.args.strands) + m + c.args.i / c.args.strands) c.min.ensures ∙ sym (place_is c.args.i c.args.n c.args.strands c.requires.strands)

pub returns-clause-within : goal.returns-clause-within
returns-clause-within c = let w = place_within c.args.i c.args.n c.args.strands c.requires.strands c.requires.i in let e = place_is c.args.i c.args.n c.args.strands c.requires.strands in omega arith
