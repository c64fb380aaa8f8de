use Rattle.std.proofs.Common.{◌≡◌, ◌+◌, ◌≤◌, take, drop, length, ap, ◌∙◌, arith}
use Rattle.std.proofs.lemmas.List.{length-take-le, length-drop}
use Rattle.icet_sparse.specs.Shared.{held_items}
use Rattle.icet_sparse.proofs.Sharing.{take_of_part}
use Rattle.icet_sparse.proofs.fragments.Fragments.part.Goals as goal

pub returns : goal.returns
returns c =
    let s = c.self.inside in
    let items = held_items s.held in
    let size = length-take-le s.count (drop s.from items) (omega (arith, length-drop s.from items, c.self.invariant)) in
    ap (λ l. take c.args.count (drop (s.from + c.args.skip) l)) c.in_ok-held_again.ensures
    ∙ take_of_part items s.from s.count c.args.skip c.args.count (omega (arith, size, ap length c.self.view_is))
    ∙ ap (λ l. take c.args.count (drop c.args.skip l)) c.self.view_is
