use Rattle.std.proofs.Common.{◌≡◌, ◌∙◌, ap, ◌+◌, ◌*◌, ◌%◌, pos, ◌-ℤ◌, to_z, of_z, w32, rules}
use Rattle.icet_demo.proofs.Words.{word_at, after_at}
use Rattle.icet_demo.proofs.corners.next_corner.Goals as goal

pub returns-clause-corner : goal.returns-clause-corner
returns-clause-corner c =
    let g = c.args.rng.now in
    let g1 = c.next_below.ensures.next in
    let g2 = after_at 1 1 g _ _ g1 c.next_below-2.ensures.next in
    let g3 = after_at 2 1 g _ _ g2 c.next_below-z.ensures.next in
    let g4 = after_at 3 1 g _ _ g3 c.next_channel-r.ensures.next in
    let g5 = after_at 4 1 g _ _ g4 c.next_channel-g.ensures.next in
    let x0 : to_z w32 (of_z w32 c.near-x.result) ≡ c.near-x.result = search rules in
    let y0 : to_z w32 (of_z w32 c.near-y.result) ≡ c.near-y.result = search rules in
    let x = x0 ∙ c.near-x.ensures ∙ ap (λ w. pos (16 * c.args.cx + w) -ℤ pos 4096) c.next_below.ensures.value in
    let y = y0 ∙ c.near-y.ensures ∙ ap (λ w. pos (16 * c.args.cy + w) -ℤ pos 4096) (c.next_below-2.ensures.value ∙ ap (λ w. w % 8192) (word_at 1 g _ g1)) in
    let z = c.next_below-z.ensures.value ∙ ap (λ w. w % 16777215) (word_at 2 g _ g2) in
    let r = c.next_channel-r.ensures.value ∙ ap (λ w. w % 256) (word_at 3 g _ g3) in
    let gr = c.next_channel-g.ensures.value ∙ ap (λ w. w % 256) (word_at 4 g _ g4) in
    let b = c.next_channel-b.ensures.value ∙ ap (λ w. w % 256) (word_at 5 g _ g5) in
    let paint = c.of-paint.ensures ∙ (λ i. record { r = r i; g = gr i; b = b i; a = 255; z = z i }) in
    λ i. record { spot = record { x = x i; y = y i }; paint = paint i }

pub returns-clause-next : goal.returns-clause-next
returns-clause-next c =
    let g = c.args.rng.now in
    let g2 = after_at 1 1 g _ _ c.next_below.ensures.next c.next_below-2.ensures.next in
    let g3 = after_at 2 1 g _ _ g2 c.next_below-z.ensures.next in
    let g4 = after_at 3 1 g _ _ g3 c.next_channel-r.ensures.next in
    let g5 = after_at 4 1 g _ _ g4 c.next_channel-g.ensures.next in
    after_at 5 1 g _ _ g5 c.next_channel-b.ensures.next
