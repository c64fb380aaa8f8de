use Rattle.std.proofs.Common.{List, ℕ, ◌∙◌, sym, ap, map, arith}
use Rattle.std.specs.Prelude.{slice_index_or, is_some}
use Rattle.icet_model.specs.declared.exchange.Op.{Op}
use Rattle.icet_model.specs.Plan.{PlanView}
use Rattle.icet_plan.specs.Places.{places}
use Rattle.icet_plan.proofs.ExchangePlaces.{row_count, found}
use Rattle.icet_plan.proofs.plan.Plan.exchange.Goals as goal

pub at-place-requires : goal.at-place-requires
at-place-requires c =
    let programs = ap (λ (v : PlanView). v.programs) c.self.view_is in
    let index = c.self.invariant.index_is ∙ ap (map places) programs in
    let count = row_count c.args.self.now.programs c.args.rank c.index.result.now c.requires.rank
    (c.index.ensures ∙ ap (λ n. slice_index_or c.self.inside.places.items n c.index.result.now) c.rank.view_is ∙ ap (λ (all : List (List ℕ)). slice_index_or all c.args.rank c.index.result.now) index) in
    omega (arith, count, c.requires.place)

pub exchange_at-requires : goal.exchange_at-requires
exchange_at-requires c =
    let programs = ap (λ (v : PlanView). v.programs) c.self.view_is in
    let index = c.self.invariant.index_is ∙ ap (map places) programs in
    let it = found c.args.self.now.programs c.args.rank c.args.i c.at-place.result c.index.result.now c.index-2.result.now c.requires.rank
    (c.index.ensures ∙ ap (λ n. slice_index_or c.self.inside.places.items n c.index.result.now) c.rank.view_is ∙ ap (λ (all : List (List ℕ)). slice_index_or all c.args.rank c.index.result.now) index)
    (c.index-2.ensures ∙ ap (λ n. slice_index_or c.self.inside.programs.items n c.index-2.result.now) c.rank.view_is ∙ ap (λ (all : List (List Op)). slice_index_or all c.args.rank c.index-2.result.now) programs)
    c.at-place.ensures c.requires.place in
    ap is_some it.there

pub returns : goal.returns
returns c =
    let programs = ap (λ (v : PlanView). v.programs) c.self.view_is in
    let index = c.self.invariant.index_is ∙ ap (map places) programs in
    let it = found c.args.self.now.programs c.args.rank c.args.i c.at-place.result c.index.result.now c.index-2.result.now c.requires.rank
    (c.index.ensures ∙ ap (λ n. slice_index_or c.self.inside.places.items n c.index.result.now) c.rank.view_is ∙ ap (λ (all : List (List ℕ)). slice_index_or all c.args.rank c.index.result.now) index)
    (c.index-2.ensures ∙ ap (λ n. slice_index_or c.self.inside.programs.items n c.index-2.result.now) c.rank.view_is ∙ ap (λ (all : List (List Op)). slice_index_or all c.args.rank c.index-2.result.now) programs)
    c.at-place.ensures c.requires.place in
    it.listed ∙ (sym it.there ∙ c.exchange_at.ensures)
