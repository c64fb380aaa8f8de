use Rattle.std.proofs.Common.{reverse, ◌≡◌, ℕ, ◌+◌, ◌<◌, ◌++◌, map, take, Some}
use Rattle.std.specs.List.{slice_get}
use Rattle.icet_net.specs.CloseSteps.{KeepsPortsFrom, IsTaken, entry_of}
use Rattle.icet_net.proofs.closing.close_pairs.Given as goal

abbrev pub invariant-closing : goal.invariant-closing
invariant-closing g l = record {
  ports : KeepsPortsFrom l.i l.pairs (map (λ p. reverse p.outboxes) l.fn.parts) (map (λ p. reverse p.outboxes) l.parts) (map (λ p. reverse p.inboxes) l.fn.parts) (map (λ p. reverse p.inboxes) l.parts);
  kept : map (λ p. p.kept) l.parts ≡ map (λ p. p.kept) l.fn.parts;
  taken : (j : ℕ) (p : ℕ × ℕ) → j < l.i → slice_get l.pairs j ≡ Some p → IsTaken (map (λ p. reverse p.outboxes) l.fn.parts) (map (λ p. reverse p.inboxes) l.fn.parts) p;
  log : g.W.Wires.log l.wires ≡ g.W.Wires.log l.fn.wires ++ map (entry_of (map (λ p. reverse p.outboxes) l.fn.parts)) (take l.i l.pairs);
  owed : g.W.Wires.owed l.fn.wires ≡ g.W.Wires.owed l.wires + l.i;
}
