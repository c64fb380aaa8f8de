use Rattle.std.proofs.Common.{length, ◌-◌}
use Rattle.icet_scene.specs.Drafts.{HasPlace}
use Rattle.icet_scene.specs.Readings.{HasReadTo}
use Rattle.icet_scene.proofs.read.read_lines.Given as goal

abbrev pub invariant-loop-at : goal.invariant-loop-at
invariant-loop-at l = HasReadTo l.bytes l.at l.number l.draft × HasPlace l.draft.place l.draft

abbrev pub decreases-loop-at : goal.decreases-loop-at
decreases-loop-at l = length l.bytes - l.at
