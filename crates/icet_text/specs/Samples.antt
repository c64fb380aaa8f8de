-- Fields of one digit.
use Rattle.std.specs.Prelude.{false, true}
use Rattle.icet_text.specs.declared.field.Field.{Field}

abbrev pub digit : Field
digit = record { is_signed = false; least = 0; greatest = 9 }

-- and with a sign before it
abbrev pub signed_digit : Field
signed_digit = record { is_signed = true; least = 0; greatest = 9 }
