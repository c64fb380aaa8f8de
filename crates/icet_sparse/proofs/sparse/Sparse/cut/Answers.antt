use Rattle.std.proofs.Common.{◌≡◌, ◌-◌, take, drop, length, refl, ap, ◌∙◌, arith}
use Rattle.std.proofs.lemmas.List.{length-drop}
use Rattle.std.proofs.Math.Seq.{take-length}
use Rattle.icet_model.specs.Pixel.{Pixel}
use Rattle.icet_sparse.proofs.sparse.Sparse.cut.Goals as goal

pub returns-clause-upper : goal.returns-clause-upper
returns-clause-upper c =
    let old = c.args.self.now in
    let rest = drop (c.args.at - old.lo) old.content in
    let count : old.hi - c.args.at ≡ length rest = omega (arith, length-drop (c.args.at - old.lo) old.content, c.hi.ensures.known.size, c.hi.ensures.known.ordered) in
    let all : take (old.hi - c.args.at) rest ≡ rest = ap (λ n. take n rest) count ∙ take-length rest in
    c.in_ok-upper.ensures ∙ rw (c.hi.ensures.value, all) refl
