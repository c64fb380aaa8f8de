use Rattle.std.proofs.Common.{◌+◌, ◌*◌}
use Rattle.icet_workers.proofs.sharing.+shares.Given as goal

abbrev pub decreases-first_shares : goal.decreases-first_shares
decreases-first_shares g l = 4 * l.left

abbrev pub decreases-both : goal.decreases-both
decreases-both g l = 4 * l.left + 3

abbrev pub decreases-both-others : goal.decreases-both-others
decreases-both-others g l = 4 * l.left + 1
