-- The shapes of the demonstration, one after the other.
use Rattle.std.proofs.Common.{◌≡◌, ℕ, ◌+◌, ◌*◌, ◌/◌, ◌<◌, List, [], ◌∷◌, ◌++◌, map, refl, sym, ap, ◌∙◌, arith, subst}
use Rattle.std.specs.Prelude.{All}
use Rattle.std.specs.List.{range_with_len}
use Rattle.std.proofs.lemmas.List.{map-append}
use Rattle.std.proofs.lemmas.List.Elements.{All-nil, All-cons, All-append}
use Rattle.rand_pcg.specs.Lcg.{Lcg}
use Rattle.icet_model.proofs.Lists.{made_more}
use Rattle.icet_scene_model.specs.Raster.{Tri}
use Rattle.icet_raster.specs.declared.shape.Shape.{Shape}
use Rattle.icet_raster.specs.Shapes.{IsInRange}
use Rattle.icet_scene.specs.Lines.{placed_of}
use Rattle.icet_scene.specs.Scenes.{AreShapes}
use Rattle.icet_demo.specs.Demonstration.{after, generator, placed_from, triangle_from}
use Rattle.icet_demo.proofs.Words.{after_at, after_none}

-- i shapes stand there, and the generator has given twenty words for each
pub record HasDrawn (seed i : ℕ) (rng : Lcg) (all : List (ℕ × Shape)) : Type 0 where
  pub shapes : map placed_of all ≡ map (placed_from (generator seed)) (range_with_len 0 i)
  pub rng_is : rng ≡ after (20 * i) (generator seed)
  pub lawful : AreShapes 16 all

pub none_drawn : (seed : ℕ) (rng : Lcg) → rng ≡ generator seed → HasDrawn seed 0 rng []
none_drawn seed rng e = record {
  shapes = refl;
  rng_is = e ∙ sym (after_none (generator seed));
  lawful = record { drawers = All-nil (λ (shape : ℕ × Shape). shape.0 < 16); in_range = All-nil (λ (shape : ℕ × Shape). IsInRange shape.1) };
}

-- one shape more
pub one_drawn : (seed i : ℕ) (rng next : Lcg) (all more : List (ℕ × Shape)) (shape : Shape) → HasDrawn seed i rng all → i < 400 → placed_of (i / 25, shape) ≡ record { rank = i / 25; shape = Tri (triangle_from rng) } → next ≡ after 20 rng → IsInRange shape → more ≡ all ++ (i / 25, shape) ∷ [] → HasDrawn seed (i + 1) next more
one_drawn seed i rng next all more shape h l e n s m =
    let g = generator seed in
    let twenty : 20 * i + 20 ≡ 20 * (i + 1) = omega arith in
    let from = ap (λ x. record { rank = i / 25; shape = Tri (triangle_from x) }) h.rng_is in
    let below : i / 25 < 16 = omega (arith, l) in
    record {
      shapes = ap (map placed_of) m ∙ map-append placed_of all ((i / 25, shape) ∷ []) ∙ (λ k. h.shapes k ++ (e ∙ from) k ∷ []) ∙ sym (made_more (placed_from g) i);
      rng_is = after_at (20 * i) 20 g rng next h.rng_is n ∙ ap (λ k. after k g) twenty;
      lawful = subst (AreShapes 16) (sym m) (record {
        drawers = All-append (λ (x : ℕ × Shape). x.0 < 16) all ((i / 25, shape) ∷ []) h.lawful.drawers (All-cons (λ (x : ℕ × Shape). x.0 < 16) (i / 25, shape) [] below (All-nil (λ (x : ℕ × Shape). x.0 < 16)));
        in_range = All-append (λ (x : ℕ × Shape). IsInRange x.1) all ((i / 25, shape) ∷ []) h.lawful.in_range (All-cons (λ (x : ℕ × Shape). IsInRange x.1) (i / 25, shape) [] s (All-nil (λ (x : ℕ × Shape). IsInRange x.1)));
      });
    }
