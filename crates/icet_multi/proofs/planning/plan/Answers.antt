use Rattle.std.proofs.Common.{length, sym, subst, ◌∙◌}
use Rattle.std.specs.List.{AllByRecursion}
use Rattle.icet_multi.specs.Sequential.{IsShown}
use Rattle.icet_multi.specs.Strategies.{tile_ranks}
use Rattle.icet_groups.specs.Tiles.{AreTiles}
use Rattle.icet_multi.proofs.Layouts.{are_shown, are_tiles}
use Rattle.icet_multi.proofs.planning.plan.Goals as goal

pub sequential-requires-clause-tiles : goal.sequential-requires-clause-tiles
sequential-requires-clause-tiles c =
    let layout = c.args.layout.now in
    let who = c.args.who.now in
    let ranked = subst (λ n. AllByRecursion (IsShown n) (tile_ranks layout who)) (sym c.requires.order.count) (are_shown c.args.ranks layout who c.requires.displays c.count-count.ensures.layout.inside) in
    subst (AllByRecursion (IsShown (length c.args.order.now))) (sym (c.deref.ensures.value ∙ c.in_ok-tiles.ensures)) ranked

pub reduce-requires-clause-tiles : goal.reduce-requires-clause-tiles
reduce-requires-clause-tiles c =
    let layout = c.args.layout.now in
    let who = c.args.who.now in
    let all = subst (λ n. AreTiles n (tile_ranks layout who)) (sym c.requires.order.count) (are_tiles c.args.ranks c.args.order.now layout who c.requires.order c.requires.displays c.requires.kept c.count-count.ensures.layout) in
    subst (AreTiles (length c.args.order.now)) (sym (c.deref-in-Reduce.ensures.value ∙ c.in_ok-tiles.ensures)) all

pub reduce-requires-clause-shown : goal.reduce-requires-clause-shown
reduce-requires-clause-shown c =
    let layout = c.args.layout.now in
    let who = c.args.who.now in
    let ranked = subst (λ n. AllByRecursion (IsShown n) (tile_ranks layout who)) (sym c.requires.order.count) (are_shown c.args.ranks layout who c.requires.displays c.count-count.ensures.layout.inside) in
    subst (AllByRecursion (IsShown (length c.args.order.now))) (sym (c.deref-in-Reduce.ensures.value ∙ c.in_ok-tiles.ensures)) ranked
