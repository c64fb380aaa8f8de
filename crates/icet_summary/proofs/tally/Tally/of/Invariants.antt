use Rattle.std.proofs.Common.{◌≡◌, take}
use Rattle.icet_summary.specs.Summaries.{finish, tally_of}
use Rattle.icet_summary.specs.Tallies.{IsAtMost}
use Rattle.icet_summary.proofs.tally.Tally.of.Given as goal

abbrev pub invariant-loop-pixel : goal.invariant-loop-pixel
invariant-loop-pixel l = (l.all ≡ tally_of (finish l.fn.wide l.fn.mode l.fn.background) (take l.pixel-index l.fn.picture.pixels)) × IsAtMost l.pixel-index l.all
