use Rattle.std.proofs.Common.{◌≡◌, ◌∙◌, sym, ap, ◌++◌, ◌∷◌, [], length, take, append_assoc, arith}
use Rattle.icet_sparse.specs.Joined.{joined_places}
use Rattle.icet_sparse.proofs.JoinedPlaces.{joined_more}
use Rattle.icet_sparse.proofs.strip.put_joined.Goals as goal

pub loop-i-preserved : goal.loop-i-preserved
loop-i-preserved c =
    let i = c.loop-i.i in
    let before = c.args.fragments.now.items in
    let so_far = joined_places c.args.mode (take i c.args.front.now) (take i c.args.back.now) in
    let more = joined_more c.args.mode c.args.front.now c.args.back.now i c.index-front-i.result c.index-back-i.result c.loop-i-test.true (omega arith) c.index-front-i.is c.index-back-i.is in
    let j = c.join_fragments.result in
    record {
      items = c.push_reserved.ensures.items ∙ ap (λ l. l ++ j ∷ []) c.loop-i.invariant.items ∙ append_assoc before so_far (j ∷ []) ∙ ap (λ l. before ++ l) (ap (λ p. so_far ++ p ∷ []) c.join_fragments.ensures ∙ sym more);
      size = omega (arith, c.loop-i.invariant.size);
      room = omega (arith, c.loop-i.invariant.room);
    }
