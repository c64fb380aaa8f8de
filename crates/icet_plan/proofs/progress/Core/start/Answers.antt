use Rattle.std.proofs.Common.{◌≡◌, List, ℕ, zero, suc, refl, ap, ◌∙◌, get_or, replicate, rules}
use Rattle.icet_model.specs.Plan.{plan_exchanges}
use Rattle.icet_plan.proofs.CoreCounts.{zeros_start}
use Rattle.icet_plan.proofs.CoreLaws.{start_lawful}
use Rattle.icet_plan.proofs.progress.Core.start.Goals as goal

none_done : (n q : ℕ) → ◌≡◌ {A = ℕ} (get_or (replicate n 0) q 0) 0
none_done zero q = refl
none_done (suc n) zero = refl
none_done (suc n) (suc q) = none_done n q

pub returns : goal.returns
returns c =
    ap (λ (d : List ℕ). record { plan = c.args.plan.now; cap = c.args.cap; done = d })
    (c.in_ok-zeros.ensures ∙ (ap (λ n. replicate n 0) c.ranks-ranks.ensures.ranks ∙ zeros_start c.args.plan.now.programs))

pub invariant_of-result : goal.invariant_of-result
invariant_of-result c =
    let first = c.in_ok-zeros.ensures ∙ (ap (λ n. replicate n 0) c.ranks-ranks.ensures.ranks ∙ zeros_start c.args.plan.now.programs) in
    record {
      is_plan = c.ranks-ranks.ensures.plan;
      ranks = search rules;
      cap_low = c.requires;
      lawful = rw first (start_lawful (plan_exchanges c.args.plan.now) c.args.cap);
      sent_are = record { ranks_are = c.in_ok-zero.ensures.ranks ∙ c.ranks-ranks.ensures.ranks; entries = λ q r _ _. rw (c.in_ok-zeros.ensures, none_done c.ranks-ranks.result q) (c.in_ok-zero.ensures.counts q r) };
      taken_are = record { ranks_are = c.in_ok-zero-2.ensures.ranks ∙ c.ranks-ranks.ensures.ranks; entries = λ q r _ _. rw (c.in_ok-zeros.ensures, none_done c.ranks-ranks.result r) (c.in_ok-zero-2.ensures.counts q r) };
    }
