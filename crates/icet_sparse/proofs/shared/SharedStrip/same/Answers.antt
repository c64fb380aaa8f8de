use Rattle.std.proofs.Common.{◌∙◌, sym, true, false, refl}
use Rattle.std.proofs.lemmas.Bool.{false≢true, not-true, not-false}
use Rattle.std.proofs.lemmas.Slice.Eq.{slice_eq-Decides}
use Rattle.icet_sparse.proofs.Equality.{run_decides, fragment_decides}
use Rattle.icet_sparse.proofs.Form.{same_runs, same_fragments, same_behind}
use Rattle.icet_sparse.proofs.shared.SharedStrip.same.Goals as goal

pub returns-then-self-other : goal.returns-then-self-other
returns-then-self-other c =
    let s = c.self.inside in
    let o = c.other.inside in
    (λ f. absurd (false≢true f), λ e. absurd (c.if-self-other.true (same_behind s.runs.items o.runs.items s.fragments o.fragments s.behind o.behind c.self.invariant c.other.invariant (c.self.view_is ∙ e ∙ sym c.other.view_is))))

pub returns-then-ne : goal.returns-then-ne
returns-then-ne c =
    let s = c.self.inside in
    let o = c.other.inside in
    let h = slice_eq-Decides run_decides s.runs.items o.runs.items false (sym (not-true _ (sym c.ne.ensures ∙ c.if-ne.true))) in
    (λ f. absurd (false≢true f), λ e. h.1 (same_runs s.runs.items o.runs.items s.fragments o.fragments s.behind o.behind c.self.invariant c.other.invariant (c.self.view_is ∙ e ∙ sym c.other.view_is)))

pub returns : goal.returns
returns c =
    let s = c.self.inside in
    let o = c.other.inside in
    let runs = (slice_eq-Decides run_decides s.runs.items o.runs.items true (sym (not-false _ (sym c.ne.ensures ∙ c.if-ne.false)))).0 refl in
    let h = slice_eq-Decides fragment_decides c.as_slice.result.now c.as_slice-2.result.now c.eq.result c.eq.ensures in
    (λ t. rw (← c.self.view_is, ← c.other.view_is, runs, sym c.as_slice.ensures ∙ h.0 t ∙ c.as_slice-2.ensures, c.if-self-other.false), λ e. h.1 (c.as_slice.ensures ∙ same_fragments s.runs.items o.runs.items s.fragments o.fragments s.behind o.behind c.self.invariant c.other.invariant (c.self.view_is ∙ e ∙ sym c.other.view_is) ∙ sym c.as_slice-2.ensures))
