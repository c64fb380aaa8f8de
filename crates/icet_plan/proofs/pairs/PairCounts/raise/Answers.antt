use Rattle.std.proofs.Common.{◌≡◌, ◌<◌, ◌+◌, ◌*◌, ◌∙◌, sym, subst, set, get_or, length}
use Rattle.std.proofs.lemmas.Grind.{get_or_default_zero}
use Rattle.icet_plan.specs.Pairs.{PairsView, Raised}
use Rattle.icet_plan.proofs.PairRows.{raised}
use Rattle.icet_plan.proofs.pairs.PairCounts.raise.Goals as goal

pub returns : goal.returns
returns c =
    let la = subst (λ (v : PairsView). c.args.from < v.ranks) (sym c.self.view_is) c.requires.from in
    let lb = subst (λ (v : PairsView). c.args.to < v.ranks) (sym c.self.view_is) c.requires.to in
    let items = c.self.inside.counts.items in
    let place = c.place-place.result in
    let place_is = subst (λ (v : PairsView). place ≡ c.args.from * v.ranks + c.args.to) (sym c.self.view_is) c.place-place.ensures.is in
    let within = subst (λ (v : PairsView). place < length v.counts) (sym c.self.view_is) c.place-place.ensures.within in
    let value = c.index_mut.ensures.value ∙ get_or_default_zero items place c.index_mut.result.now within in
    rw (← c.self.view_is)
    (subst (λ n. Raised (record { ranks = c.self.inside.ranks; counts = items }) (record { ranks = c.self.inside.ranks; counts = set items place (n + 1) }) c.args.from c.args.to) (sym value)
    (subst (λ at. Raised (record { ranks = c.self.inside.ranks; counts = items }) (record { ranks = c.self.inside.ranks; counts = set items at (get_or items at 0 + 1) }) c.args.from c.args.to) (sym place_is)
    (raised c.self.inside.ranks c.args.from c.args.to items la lb c.self.invariant.1)))
