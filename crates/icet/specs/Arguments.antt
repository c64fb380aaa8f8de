-- What a run on the process's arguments leaves.
use Rattle.std.specs.Prelude.{◌≡◌, ℕ, List, map, Option, Some, None}
use Rattle.std.specs.String.{string_bytes}
use Rattle.std.specs.declared.string.String.{String}
use Rattle.icet_cli.specs.Outcome.{Outside, RunsTo}
use Rattle.icet_cli.specs.declared.status.Status.{Status}

-- the bytes of each argument
abbrev pub texts_of : {Z : Type 0} → List (String Z) → List (List ℕ)
texts_of arguments = map (λ argument. string_bytes argument) arguments

-- with no status the arguments couldn't be held, and all is as it was
abbrev pub RunsOn : {Z : Type 0} → List (String Z) → Outside → Outside → Option Status → Type 0
RunsOn arguments old new (Some status) = RunsTo (texts_of arguments) old new status
RunsOn arguments old new None = new ≡ old
