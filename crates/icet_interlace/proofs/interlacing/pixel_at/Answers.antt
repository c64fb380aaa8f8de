use Rattle.icet_interlace.proofs.Places.{long_place, short_within, short_place}
use Rattle.icet_interlace.proofs.interlacing.pixel_at.Goals as goal

pub returns-then-position-longer-clause-inverse : goal.returns-then-position-longer-clause-inverse
returns-then-position-longer-clause-inverse c = long_place c.args.position c.args.n c.args.strands c.requires.strands c.requires.position c.if-position-longer.true

pub returns-clause-within : goal.returns-clause-within
returns-clause-within c = short_within c.args.position c.args.n c.args.strands c.requires.strands c.requires.position c.if-position-longer.false

pub returns-clause-inverse : goal.returns-clause-inverse
returns-clause-inverse c = short_place c.args.position c.args.n c.args.strands c.requires.strands c.requires.position c.if-position-longer.false
