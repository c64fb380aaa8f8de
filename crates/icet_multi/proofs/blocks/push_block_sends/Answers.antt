use Rattle.std.proofs.Common.{◌≢◌, ◌<◌, ◌≤◌, ◌∙◌, List, ℕ, ap, subst, length, get_or, take}
use Rattle.std.proofs.lemmas.List.{take_all}
use Rattle.icet_multi.specs.Direct.{sending}
use Rattle.icet_multi.proofs.Distinct.{apart_from_pairs}
use Rattle.icet_multi.specs.Reduced.{handing}
use Rattle.icet_multi.proofs.Growing.{given, given_all, given_more, grown_as, ranks_low}
use Rattle.icet_multi.proofs.blocks.push_block_sends.Goals as goal

pub push_send-requires : goal.push_send-requires
push_send-requires c =
    let ranks = c.loop-i.invariant.ranks in
    let q = c.index-contributors-i.result in
    record {
      rank = ranks_low _ c.args.block.now.contributors c.loop-i.i q _ c.requires.block.contributors
          (subst (λ (l : List ℕ). c.loop-i.i < length l) ranks c.loop-i-test.true)
          (c.index-contributors-i.is ∙ ap (λ (l : List ℕ). get_or l c.loop-i.i q) ranks)
          c.loop-i.invariant.grown.same;
    }

pub loop-i-preserved : goal.loop-i-preserved
loop-i-preserved c =
    let x = c.args.block.now in
    let ranks = c.loop-i.invariant.ranks in
    let q = c.index-contributors-i.result in
    record {
      ranks = ranks;
      grown = given_more x.display (handing c.args.t x) x.contributors c.loop-i.i q _ _ _
          (subst (λ (l : List ℕ). c.loop-i.i < length l) ranks c.loop-i-test.true)
          (c.index-contributors-i.is ∙ ap (λ (l : List ℕ). get_or l c.loop-i.i q) ranks)
          c.loop-i.invariant.grown c.in_ok-push_send.ensures;
    }

pub returns : goal.returns
returns c =
    let x = c.args.block.now in
    let i = c.loop-i.i in
    let past : length x.contributors ≤ i = subst (λ (l : List ℕ). length l ≤ i) c.loop-i.invariant.ranks c.loop-i-test.false in
    grown_as (given x.display (handing c.args.t x) (take i x.contributors)) (sending c.args.t x) _ _
    (λ r. ap (λ (cs : List ℕ). given x.display (handing c.args.t x) cs r) (take_all i x.contributors past) ∙ given_all x.display (handing c.args.t x) x.contributors r (apart_from_pairs (λ a b. a ≢ b) x.contributors c.requires.block.distinct))
    c.loop-i.invariant.grown
