use Rattle.icet_text.proofs.FirstBytes.{first_byte}
use Rattle.icet_text.proofs.lines.newline_in.Goals as goal

pub returns-clause-first : goal.returns-clause-first
returns-clause-first c = first_byte 10 c.args.bytes.now c.memchr.result c.memchr.ensures
