-- The exchanges of a strategy's plan.
use Rattle.std.proofs.Common.{◌≡◌, ℕ, suc, ◌+◌, ◌<◌, List, [], ◌∷◌, map, length, get_or, refl, ap, ◌∙◌, arith}
use Rattle.std.specs.List.{range_with_len}
use Rattle.std.proofs.lemmas.List.{length-map}
use Rattle.icet_model.specs.Exchange.{exchanges}
use Rattle.icet_model.specs.Plan.{PlanView, plan_exchanges}
use Rattle.icet_scene_model.specs.Scene.{SceneView}
use Rattle.icet_multi.specs.declared.settings.Settings.{Settings}
use Rattle.icet_multi.specs.Rules.{rule_of}
use Rattle.icet_jobs.specs.Composites.{IsPlanFor, exchanges_of, scene_tiles}

-- a list that has these entries is made of them
made_of : {X : Type 0} (f : ℕ → X) (d : X) (first : ℕ) (xs : List X) → ((k : ℕ) → k < length xs → get_or xs k d ≡ f (first + k)) → xs ≡ map f (range_with_len first (length xs))
made_of f d first [] h = refl
made_of f d first (x ∷ xs) h =
    ap (λ y. y ∷ xs) (h 0 (omega arith) ∙ ap f (let e : first + 0 ≡ first = omega arith in e))
    ∙ ap (λ ys. f first ∷ ys) (made_of f d (first + 1) xs (λ k l. h (suc k) (omega (arith, l)) ∙ ap f (let e : first + suc k ≡ first + 1 + k = omega arith in e)))

pub plan_exchanges_are : (settings : Settings) (scene : SceneView) (plan : PlanView) → IsPlanFor settings scene plan → plan_exchanges plan ≡ exchanges_of settings scene
plan_exchanges_are settings scene plan is =
    let f = (rule_of settings).exchanges scene.order (scene_tiles scene) in
    let count = length-map plan.programs exchanges ∙ is.programs in
    made_of f [] 0 (plan_exchanges plan) (λ k l. is.exchanges k (omega (arith, l, count)) ∙ ap f (let e : k ≡ 0 + k = omega arith in e))
    ∙ ap (λ n. map f (range_with_len 0 n)) count
