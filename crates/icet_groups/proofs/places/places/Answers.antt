use Rattle.std.proofs.Common.{◌≡◌, ap, arith}
use Rattle.std.specs.Prelude.{sum}
use Rattle.icet_groups.specs.Places.{first_places}
use Rattle.icet_groups.proofs.Sharing.{few_first}
use Rattle.icet_groups.proofs.places.places.Goals as goal

pub total-given-requires : goal.total-given-requires
total-given-requires c =
    let e : sum c.in_ok-all.all.items ≡ sum (first_places c.args.counts.now) = ap sum c.in_ok-all.ensures in
    let l = few_first c.args.counts.now in
    let s : sum c.deref.result.now ≡ sum c.in_ok-all.all.items = ap sum c.deref.ensures.value in
    omega (arith, e, l, s, c.requires.few)
