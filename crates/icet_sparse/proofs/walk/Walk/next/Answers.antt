use Rattle.std.proofs.Common.{◌≡◌, ℕ, ◌-◌, ◌+◌, ◌∷◌, ◌∙◌, sym, ap, arith}
use Rattle.icet_sparse.specs.Runs.{strip_pixels}
use Rattle.icet_sparse.proofs.Walking.{run, walked}
use Rattle.icet_sparse.proofs.walk.Walk.next.Goals as goal

pub returns-clause-pixels : goal.returns-clause-pixels
returns-clause-pixels c =
    let s = c.self.inside in
    let r = c.begin_run.new.self.under_way in
    let later = c.begin_run.new.self.later.now in
    let behind = c.begin_run.new.self.behind in
    let b = c.min-blank.result in
    let n = c.min-drawn.result in
    let blank : r.blank ≡ b + (r.blank - b) = omega arith in
    let drawn : r.drawn ≡ n + (r.drawn - n) = omega arith in
    let whole : strip_pixels (r ∷ later) s.fragments.now behind ≡ strip_pixels (run (b + (r.blank - b)) (n + (r.drawn - n)) ∷ later) s.fragments.now behind = ap (λ (x : ℕ). strip_pixels (run x r.drawn ∷ later) s.fragments.now behind) blank ∙ ap (λ (y : ℕ). strip_pixels (run (b + (r.blank - b)) y ∷ later) s.fragments.now behind) drawn in
    rw (c.split_at.ensures.front, c.split_at.ensures.back) (sym c.self.view_is ∙ sym (c.begin_run.ensures.pixels s.fragments.now) ∙ whole ∙ walked b (r.blank - b) n (r.drawn - n) behind later s.fragments.now (λ h. omega arith))
