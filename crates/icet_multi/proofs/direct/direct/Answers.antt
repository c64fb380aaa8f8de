use Rattle.std.proofs.Common.{◌≡◌, ◌∙◌, refl, ap, subst, length, arith}
use Rattle.std.proofs.lemmas.List.FromFn.{length-map-range_with_len}
use Rattle.icet_model.specs.Plan.{IsPlan}
use Rattle.icet_multi.specs.Direct.{IsDirect, direct_plan, direct_program}
use Rattle.icet_multi.proofs.DirectPlan.{direct_is_plan, direct_is_direct, ok_holds}
use Rattle.icet_multi.proofs.direct.direct.Goals as goal

pub make-requires-clause-ranks : goal.make-requires-clause-ranks
make-requires-clause-ranks c =
    let count = ap (λ ps. length ps) c.in_ok-programs.ensures ∙ length-map-range_with_len (direct_program c.args.tiles.now) 0 c.args.ranks in
    omega (arith, count, c.requires.ranks)

pub make-requires-clause-plan : goal.make-requires-clause-plan
make-requires-clause-plan c =
    let same : direct_plan c.args.ranks c.args.tiles.now ≡ record { tiles = record { sizes = c.in_ok-sizes.sizes.items; displays = c.in_ok-displays.displays.items }; brackets = c.in_ok-brackets.brackets.items; programs = c.in_ok-programs.programs.items } =
    rw (c.in_ok-sizes.ensures, c.in_ok-displays.ensures, c.in_ok-brackets.ensures, c.in_ok-programs.ensures) refl in
    subst IsPlan same (direct_is_plan c.args.ranks c.args.tiles.now c.requires.tiles)

pub returns-clause-plan : goal.returns-clause-plan
returns-clause-plan c =
    let same : direct_plan c.args.ranks c.args.tiles.now ≡ record { tiles = record { sizes = c.in_ok-sizes.sizes.items; displays = c.in_ok-displays.displays.items }; brackets = c.in_ok-brackets.brackets.items; programs = c.in_ok-programs.programs.items } =
    rw (c.in_ok-sizes.ensures, c.in_ok-displays.ensures, c.in_ok-brackets.ensures, c.in_ok-programs.ensures) refl in
    ok_holds (IsDirect c.args.ranks c.args.tiles.now) _ c.make.result c.make.ensures (subst (IsDirect c.args.ranks c.args.tiles.now) same (direct_is_direct c.args.ranks c.args.tiles.now c.requires.tiles))
