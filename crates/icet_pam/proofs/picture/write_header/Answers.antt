use Rattle.icet_pam.proofs.picture.write_header.Goals as goal

pub returns : goal.returns
returns g c = rw (← c.from.ensures, ← c.from-2.ensures, ← c.header_end.ensures) c.write_fields.ensures
