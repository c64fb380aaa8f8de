use Rattle.std.proofs.Common.{◌≡◌, ◌∙◌, ap, ◌%◌, ℕ, [], ◌∷◌}
use Rattle.rand_pcg.specs.Lcg.{Lcg}
use Rattle.std.proofs.lemmas.List.Elements.{All-nil, All-cons}
use Rattle.icet_raster.specs.Shapes.{IsCorner}
use Rattle.icet_demo.specs.Demonstration.{corner_from, after}
use Rattle.icet_demo.proofs.Words.{word_at, after_at}
use Rattle.icet_demo.proofs.corners.next_corners.Goals as goal

same : (a b : Lcg) (x y x' y' : ℕ) → a ≡ b → x ≡ x' → y ≡ y' → corner_from a x y ≡ corner_from b x' y'
same a b x y x' y' e f g i = corner_from (e i) (f i) (g i)

pub returns-clause-corners : goal.returns-clause-corners
returns-clause-corners c =
    let g = c.args.rng.now in
    let g1 = c.next_below-cx.ensures.next in
    let g2 = after_at 1 1 g _ _ g1 c.next_below-cy.ensures.next in
    let g8 = c.next_corner-first.ensures.next ∙ ap (after 6) g2 in
    let g14 = after_at 6 6 (after 2 g) _ _ g8 c.next_corner-second.ensures.next in
    let cx = c.next_below-cx.ensures.value in
    let cy = c.next_below-cy.ensures.value ∙ ap (λ w. w % 1080) (word_at 1 g _ g1) in
    let first = c.next_corner-first.ensures.corner ∙ same _ _ _ _ _ _ g2 cx cy in
    let second = c.next_corner-second.ensures.corner ∙ same _ _ _ _ _ _ g8 cx cy in
    let third = c.next_corner-third.ensures.corner ∙ same _ _ _ _ _ _ g14 cx cy in
    λ i. record { a = first i; b = second i; c = third i }

pub returns-clause-next : goal.returns-clause-next
returns-clause-next c =
    let g = c.args.rng.now in
    let g2 = after_at 1 1 g _ _ c.next_below-cx.ensures.next c.next_below-cy.ensures.next in
    let g8 = after_at 2 6 g _ _ g2 c.next_corner-first.ensures.next in
    let g14 = after_at 8 6 g _ _ g8 c.next_corner-second.ensures.next in
    after_at 14 6 g _ _ g14 c.next_corner-third.ensures.next

pub returns-clause-on_plane : goal.returns-clause-on_plane
returns-clause-on_plane c =
    let first = c.next_corner-first in
    let second = c.next_corner-second in
    let third = c.next_corner-third in
    let last = All-cons IsCorner third.result [] third.ensures.on_plane (All-nil IsCorner) in
    All-cons IsCorner first.result (second.result ∷ third.result ∷ []) first.ensures.on_plane (All-cons IsCorner second.result (third.result ∷ []) second.ensures.on_plane last)
