use Rattle.std.proofs.Common.{◌≡◌, ◌+◌, ◌-◌, ◌<◌, ◌≤◌, ◌^◌, ◌++◌, replicate, map, length, take, drop, Some, None, refl, sym, ◌∙◌, ap, subst, arith}
use Rattle.std.proofs.lemmas.List.{length-take-le}
use Rattle.icet_model.specs.Pixel.{Pixel}
use Rattle.icet_sparse.specs.Shared.{AreRunsOf}
use Rattle.icet_sparse.proofs.Walking.{stretch_length}
use Rattle.icet_sparse.proofs.Sharing.{runs_grow, blank_behind, drawn_of, more_walked, less_to_come}
use Rattle.icet_sparse.proofs.shared.next_runs.Goals as goal

pub add-requires-clause-blank : goal.add-requires-clause-blank
add-requires-clause-blank c =
    let i = c.cutting.invariant in
    let done = take (c.args.count - c.cutting.left) c.args.walk.now in
    let size = length-take-le (c.args.count - c.cutting.left) c.args.walk.now (omega (arith, i.enough)) in
    let b = blank_behind c.cutting.list.runs.items c.cutting.list.behind done i.runs in
    omega (arith, i.within, c.next-stretch.ensures.within)

pub add-requires-clause-drawn : goal.add-requires-clause-drawn
add-requires-clause-drawn c =
    let i = c.cutting.invariant in
    let done = take (c.args.count - c.cutting.left) c.args.walk.now in
    let size = length-take-le (c.args.count - c.cutting.left) c.args.walk.now (omega (arith, i.enough)) in
    let d = drawn_of c.cutting.list.runs.items c.cutting.list.behind done i.runs in
    omega (arith, i.within, c.next-stretch.ensures.within)

pub cutting-preserved : goal.cutting-preserved
cutting-preserved c =
    let i = c.cutting.invariant in
    let whole = c.args.walk.now in
    let done = c.args.count - c.cutting.left in
    let st = c.next-stretch.result in
    let passed = replicate {A = Pixel} st.blank None ++ map {B = Pixel} (λ f. Some f) st.drawn.now in
    let size = stretch_length st.blank st.drawn.now in
    let m = c.len-left.result in
    let count : m ≡ length passed = omega arith in
    let now : c.args.count - (c.cutting.left - m) ≡ done + m = omega (arith, i.within) in
    let grown = runs_grow c.cutting.list.runs.items c.cutting.list.behind st.blank (length st.drawn.now) (take done whole) st.drawn.now (refl) i.runs in
    record {
      runs = rw (now, more_walked whole c.cutting.walk c.next-stretch.new.self passed done m i.rest c.next-stretch.ensures.pixels count, c.in_ok-add.ensures.runs, c.in_ok-add.ensures.behind) grown;
      rest = less_to_come whole c.cutting.walk c.next-stretch.new.self passed done m i.rest c.next-stretch.ensures.pixels count ∙ ap (λ n. drop n whole) (sym now);
      within = omega (arith, i.within);
      enough = i.enough;
    }
