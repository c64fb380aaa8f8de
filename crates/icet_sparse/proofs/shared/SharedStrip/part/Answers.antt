use Rattle.std.proofs.Common.{◌≡◌, ◌+◌, ◌-◌, ◌≤◌, ◌<◌, ◌^◌, take, drop, length, sym, subst, ◌∙◌, ap, arith}
use Rattle.std.proofs.lemmas.List.{length-take-le, length-drop}
use Rattle.icet_sparse.specs.Runs.{fragments_of, strip_pixels, IsCanonical, IsStrip}
use Rattle.icet_sparse.specs.Shared.{AreRunsOf}
use Rattle.icet_sparse.proofs.Form.{fragments_are}
use Rattle.icet_sparse.proofs.Sharing.{fewer_behind, shared_part}
use Rattle.icet_sparse.proofs.shared.SharedStrip.part.Goals as goal

pub overflow_sub-all : goal.overflow_sub-all
overflow_sub-all c =
    let ps = c.args.self.now in
    let all = c.fragments_left-all.ensures ∙ ap (λ p. length (fragments_of p)) c.walk-walk.ensures in
    let here = c.fragments_left-here.ensures ∙ ap (λ p. length (fragments_of p)) (c.skip.ensures ∙ ap (drop c.args.skip) c.walk-walk.ensures) in
    omega (arith, fewer_behind c.args.skip ps, all, here)

pub overflow_sub-here : goal.overflow_sub-here
overflow_sub-here c =
    let rest = drop c.args.skip c.args.self.now in
    let skipped = c.skip.ensures ∙ ap (drop c.args.skip) c.walk-walk.ensures in
    let here = c.fragments_left-here.ensures ∙ ap (λ p. length (fragments_of p)) skipped in
    let left = c.fragments_left.ensures ∙ ap (λ p. length (fragments_of p)) (c.in_ok-list.ensures.rest ∙ ap (drop c.args.count) skipped) in
    omega (arith, fewer_behind c.args.count rest, here, left)

pub part-requires : goal.part-requires
part-requires c =
    let s = c.self.inside in
    let ps = c.args.self.now in
    let rest = drop c.args.skip ps in
    let same = ap fragments_of (sym c.self.view_is) ∙ fragments_are s.runs.items s.fragments s.behind c.self.invariant.canonical.counted in
    let skipped = c.skip.ensures ∙ ap (drop c.args.skip) c.walk-walk.ensures in
    let all = c.fragments_left-all.ensures ∙ ap (λ p. length (fragments_of p)) c.walk-walk.ensures in
    let here = c.fragments_left-here.ensures ∙ ap (λ p. length (fragments_of p)) skipped in
    let left = c.fragments_left.ensures ∙ ap (λ p. length (fragments_of p)) (c.in_ok-list.ensures.rest ∙ ap (drop c.args.count) skipped) in
    omega (arith, fewer_behind c.args.skip ps, fewer_behind c.args.count rest, all, here, left, ap length same)

pub invariant_of-result : goal.invariant_of-result
invariant_of-result c =
    let s = c.self.inside in
    let ps = c.args.self.now in
    let part = take c.args.count (drop c.args.skip ps) in
    let same = ap fragments_of (sym c.self.view_is) ∙ fragments_are s.runs.items s.fragments s.behind c.self.invariant.canonical.counted in
    let skipped = c.skip.ensures ∙ ap (drop c.args.skip) c.walk-walk.ensures in
    let all = c.fragments_left-all.ensures ∙ ap (λ p. length (fragments_of p)) c.walk-walk.ensures in
    let here = c.fragments_left-here.ensures ∙ ap (λ p. length (fragments_of p)) skipped in
    let left = c.fragments_left.ensures ∙ ap (λ p. length (fragments_of p)) (c.in_ok-list.ensures.rest ∙ ap (drop c.args.count) skipped) in
    let these = c.in_ok-fragments.ensures ∙ shared_part s.fragments ps c.args.skip c.args.count c.fragments_left-all.result c.fragments_left-here.result c.fragments_left.result same all here left in
    let runs = subst (λ w. AreRunsOf c.in_ok-list.list.runs.items c.in_ok-list.list.behind (take c.args.count w)) skipped c.in_ok-list.ensures.runs in
    let size = length-take-le c.args.count (drop c.args.skip ps) (omega (arith, length-drop c.args.skip ps)) in
    record {
      canonical = subst (IsCanonical c.in_ok-list.list.runs.items) (sym these) runs.canonical;
      short = omega (arith, size, ap length (ap (λ fs. strip_pixels c.in_ok-list.list.runs.items fs c.in_ok-list.list.behind) these ∙ runs.pixels));
    }

pub returns : goal.returns
returns c =
    let s = c.self.inside in
    let ps = c.args.self.now in
    let same = ap fragments_of (sym c.self.view_is) ∙ fragments_are s.runs.items s.fragments s.behind c.self.invariant.canonical.counted in
    let skipped = c.skip.ensures ∙ ap (drop c.args.skip) c.walk-walk.ensures in
    let all = c.fragments_left-all.ensures ∙ ap (λ p. length (fragments_of p)) c.walk-walk.ensures in
    let here = c.fragments_left-here.ensures ∙ ap (λ p. length (fragments_of p)) skipped in
    let left = c.fragments_left.ensures ∙ ap (λ p. length (fragments_of p)) (c.in_ok-list.ensures.rest ∙ ap (drop c.args.count) skipped) in
    let these = c.in_ok-fragments.ensures ∙ shared_part s.fragments ps c.args.skip c.args.count c.fragments_left-all.result c.fragments_left-here.result c.fragments_left.result same all here left in
    let runs = subst (λ w. AreRunsOf c.in_ok-list.list.runs.items c.in_ok-list.list.behind (take c.args.count w)) skipped c.in_ok-list.ensures.runs in
    ap (λ fs. strip_pixels c.in_ok-list.list.runs.items fs c.in_ok-list.list.behind) these ∙ runs.pixels
