use Rattle.std.proofs.Common.{ap, ◌∙◌, ◌++◌, sym, arith, take, length}
use Rattle.std.proofs.lemmas.List.{take_all}
use Rattle.icet_plan.specs.Places.{place_of, places}
use Rattle.icet_plan.proofs.ExchangePlaces.{places_few, places_more}
use Rattle.icet_plan.proofs.program.Program.places.Goals as goal

pub loop-place-preserved : goal.loop-place-preserved
loop-place-preserved c =
    c.in_ok-push_place.ensures
    ∙ (ap (λ ps. ps ++ place_of c.loop-place.place c.op.result) c.loop-place.invariant
    ∙ sym (places_more c.args.self.now c.loop-place.place c.op.result c.op.ensures))

pub invariant_of-result : goal.invariant_of-result
invariant_of-result c =
    let ops = c.args.self.now in
    let listed = ap (λ ps. length ps) c.loop-place.invariant in
    let few = places_few 0 (take c.loop-place.place ops) in
    let whole = ap (λ o. length (places o)) (take_all c.loop-place.place ops (let l = c.loop-place-test.false in let n = c.len-place-end.ensures in omega (arith, l, n))) in
    let bound = places_few 0 ops in
    omega (arith, listed, whole, bound, c.len-place-end.ensures, c.len-place-end.type_inv)
