use Rattle.icet_interlace.proofs.Places.{place_within, place_apart, place_onto}
use Rattle.icet_interlace.proofs.laws.bijection.Goals as goal

pub returns-clause-within : goal.returns-clause-within
returns-clause-within c = λ i n strands l h. place_within i n strands h l

pub returns-clause-apart : goal.returns-clause-apart
returns-clause-apart c = place_apart

pub returns-clause-onto : goal.returns-clause-onto
returns-clause-onto c = λ p n strands l h. place_onto p n strands h l
