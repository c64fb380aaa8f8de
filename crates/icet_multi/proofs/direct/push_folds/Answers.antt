use Rattle.std.proofs.Common.{◌<◌, ◌∙◌, ◌++◌, List, [], ◌∷◌, ℕ, sym, subst, ap, take, get_or, length, arith}
use Rattle.std.proofs.lemmas.List.{append_assoc}
use Rattle.std.proofs.lemmas.Grind.{common_steps}
use Rattle.icet_model.specs.declared.exchange.Op.TheVariants.{Join}
use Rattle.icet_multi.specs.Direct.{fetch, folds}
use Rattle.icet_multi.proofs.DirectSteps.{folds_more}
use Rattle.icet_multi.proofs.direct.push_folds.Goals as goal

pub loop-i-preserved : goal.loop-i-preserved
loop-i-preserved c =
    let t = c.args.t in
    let x = c.args.tile.now in
    let cs = x.contributors in
    let i = c.loop-i.i in
    let q = c.index-contributors-i.result in
    let before = c.args.ops.now.items in
    let ranks = c.loop-i.invariant.ranks in
    let q_is = c.index-contributors-i.is ∙ ap (λ (l : List ℕ). get_or l i q) ranks in
    let within = subst (λ (l : List ℕ). i < length l) ranks c.loop-i-test.true in
    record {
      first = omega (arith, c.loop-i.invariant.first);
      ranks = ranks;
      grown = c.in_ok-push_join.ensures
          ∙ (ap (λ z. z ++ fetch t x 1 q ∷ Join 0 1 0 ∷ []) c.loop-i.invariant.grown
          ∙ (append_assoc before (folds t x (take i cs)) (fetch t x 1 q ∷ Join 0 1 0 ∷ [])
          ∙ (ap (λ y. before ++ (folds t x (take i cs) ++ fetch t x 1 y ∷ Join 0 1 0 ∷ [])) q_is
          ∙ ap (λ z. before ++ z) (sym (folds_more t x cs i q c.loop-i.invariant.first within)))));
    }

pub loop-i-init : goal.loop-i-init
loop-i-init c = record { first = omega arith; ranks = grind (arith, common_steps); grown = grind (arith, common_steps) }
