use Rattle.std.proofs.Common.{◌≡◌, ◌<◌, ◌+◌, ℕ, [], length, get_or, drop}
use Rattle.std.specs.Vec.Iter.{into_iter_items, into_iter_len}
use Rattle.icet_net.specs.Ranks.{machine_at}
use Rattle.icet_net.specs.Opening.{IsStarted, ports_of}
use Rattle.icet_net.proofs.starting.machines_of.Given as goal

abbrev pub invariant-starting : goal.invariant-starting
invariant-starting g l = record {
  count : length l.machines.items ≡ l.rank;
  images : into_iter_items l.images ≡ drop l.rank l.fn.images.items;
  ins : into_iter_items l.inboxes ≡ drop l.rank l.fn.inboxes.items;
  outs : into_iter_items l.outboxes ≡ drop l.rank l.fn.outboxes.items;
  images_long : into_iter_len l.images + l.rank ≡ length l.plan.programs;
  ins_long : into_iter_len l.inboxes + l.rank ≡ length l.plan.programs;
  outs_long : into_iter_len l.outboxes + l.rank ≡ length l.plan.programs;
  started : (r : ℕ) → r < l.rank → IsStarted l.plan l.mode (get_or l.fn.images.items r []) (ports_of l.fn.inboxes.items r) (ports_of l.fn.outboxes.items r) r (machine_at l.machines.items r);
}
