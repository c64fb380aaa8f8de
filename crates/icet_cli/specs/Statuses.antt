-- The exit statuses.
use Rattle.std.specs.Prelude.{ℕ}
use Rattle.icet_cli.specs.declared.status.Status.{Status}
use Rattle.icet_cli.specs.declared.status.Status.TheVariants.{Ok, SceneRefused, WordsRefused, ReadFault, WriteFault, NoMemory}

abbrev pub number_of : Status → ℕ
number_of Ok = 0
number_of SceneRefused = 1
number_of WordsRefused = 2
number_of ReadFault = 3
number_of WriteFault = 4
number_of NoMemory = 5
