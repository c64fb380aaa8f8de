use Rattle.std.proofs.Common.{List, ℕ, ◌∙◌, ap, map}
use Rattle.std.specs.Prelude.{slice_index_or}
use Rattle.icet_model.specs.Plan.{PlanView}
use Rattle.icet_plan.specs.Places.{places}
use Rattle.icet_plan.proofs.ExchangePlaces.{row_count}
use Rattle.icet_plan.proofs.plan.Plan.exchanges.Goals as goal

pub returns : goal.returns
returns c =
    let programs = ap (λ (v : PlanView). v.programs) c.self.view_is in
    let index = c.self.invariant.index_is ∙ ap (map places) programs in
    c.len.ensures
    ∙ row_count c.args.self.now.programs c.args.rank c.index.result.now c.requires
    (c.index.ensures ∙ ap (λ n. slice_index_or c.self.inside.places.items n c.index.result.now) c.rank.view_is ∙ ap (λ (all : List (List ℕ)). slice_index_or all c.args.rank c.index.result.now) index)
