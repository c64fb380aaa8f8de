use Rattle.icet_text.proofs.Decimals.{natural_of_decimal, decimal_of_number}
use Rattle.icet_text.proofs.laws.numerals_are_decimals.Goals as goal

pub returns-clause-read : goal.returns-clause-read
returns-clause-read c = natural_of_decimal

pub returns-clause-written : goal.returns-clause-written
returns-clause-written c = decimal_of_number
