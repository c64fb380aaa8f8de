use Rattle.std.proofs.Common.{◌≤◌, ◌∙◌, ap, length, subst, sym, arith}
use Rattle.std.specs.Prelude.{All}
use Rattle.icet_groups.specs.Places.{places_of}
use Rattle.icet_groups.specs.Seats.{groups_in, seats_after}
use Rattle.icet_groups.proofs.Fewness.{counts_many, few_contributors, few_counts, seats_many}
use Rattle.icet_groups.proofs.Sharing.{places_many}
use Rattle.icet_groups.proofs.grouping.groups.Goals as goal

pub counts_of-requires : goal.counts_of-requires
counts_of-requires c = λ k d l. let f = few_contributors c.args.ranks c.args.tiles.now c.requires.tiles k d l in omega (arith, f, c.requires.ranks)

pub places-requires-clause-small : goal.places-requires-clause-small
places-requires-clause-small c = λ k d l.
    let e = c.deref.ensures.value ∙ c.in_ok-counts.ensures in
    let f = subst (All (λ n. n ≤ c.args.ranks)) (sym e) (few_counts c.args.ranks c.args.tiles.now c.requires.tiles) k d l in
    omega (arith, f, c.requires.ranks)

pub seats-requires-clause-each : goal.seats-requires-clause-each
seats-requires-clause-each c =
    let e = c.deref-2.ensures.value ∙ c.in_ok-places.ensures in
    let d = c.deref.ensures.value ∙ c.in_ok-counts.ensures in
    ap length e ∙ (places_many c.args.ranks _ ∙ (ap length d ∙ counts_many c.args.tiles.now))

pub lists_of-requires-clause-ranks : goal.lists_of-requires-clause-ranks
lists_of-requires-clause-ranks c =
    let e = ap length (c.deref-3.ensures.value ∙ c.in_ok-seats.ensures) ∙ seats_many c.args.ranks c.args.tiles.now c.deref-2.result.now (length c.args.tiles.now) in
    omega (arith, e, c.requires.ranks)

pub returns : goal.returns
returns c =
    let d = c.deref.ensures.value ∙ c.in_ok-counts.ensures in
    let e = c.deref-2.ensures.value ∙ (c.in_ok-places.ensures ∙ ap (places_of c.args.ranks) d) in
    let s = c.deref-3.ensures.value ∙ (c.in_ok-seats.ensures ∙ ap (λ p. seats_after c.args.ranks c.args.tiles.now p (length c.args.tiles.now)) e) in
    c.of.ensures ∙ (c.in_ok-lists.ensures ∙ ap (λ z. groups_in z (length c.args.tiles.now)) s)
