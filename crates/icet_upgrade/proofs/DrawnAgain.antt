-- What was drawn is drawn again as itself.
use Rattle.std.proofs.Common.{◌≡◌, ◌≢◌, ℕ, ◌+◌, ◌*◌, ◌/◌, ◌-◌, ◌≤◌, Bool, true, false, cond, List, [], ◌∷◌, Some, None, refl, sym, ap, ◌∙◌, arith, ne_eqb, eq-eqb}
use Rattle.std.specs.Prelude.{◌==◌}
use Rattle.std.specs.List.{fold}
use Rattle.icet_model.specs.declared.names.Mode.{Mode}
use Rattle.icet_model.specs.declared.names.Mode.TheVariants.{Depth, Blend, WideBlend}
use Rattle.icet_model.specs.Pixel.{FragmentView, Pixel, joined, joined_fragments, over_by}
use Rattle.icet_scene_model.specs.Raster.{Drawing, drawn, drawn_over, gives, visible}

-- the pixel can be seen as it is
abbrev IsSeen : Pixel → Type 0
IsSeen p = visible p ≡ p

visible-seen : (p : Pixel) → IsSeen (visible p)
visible-seen None = refl
visible-seen (Some f) = go (f.a == 0) refl
  where
    go : (b : Bool) → (f.a == 0) ≡ b → visible (cond b None (Some f)) ≡ cond b None (Some f)
    go true e = refl
    go false e = ap (λ b. cond b None (Some f)) e

seen : (f : FragmentView) → f.a ≢ 0 → IsSeen (Some f)
seen f h = ap (λ b. cond b None (Some f)) (ne_eqb f.a 0 h)

opaque_some : (f : FragmentView) → IsSeen (Some f) → f.a ≢ 0
opaque_some f h = λ e. let none : visible (Some f) ≡ None = ap (λ b. cond b None (Some f)) (eq-eqb f.a 0 e) in absurd (let bad : None ≡ Some f = sym none ∙ h in cc)

-- the front's alpha stays
KeepsAlpha : Mode → Type 0
KeepsAlpha mode = (f g : FragmentView) → f.a ≢ 0 → (joined_fragments mode f g).a ≢ 0

joined-seen : (mode : Mode) → KeepsAlpha mode → (front back : Pixel) → IsSeen front → IsSeen back → IsSeen (joined mode front back)
unfolding KeepsAlpha
joined-seen mode k None back h b = b
joined-seen mode k (Some f) None h b = h
joined-seen mode k (Some f) (Some g) h b = seen (joined_fragments mode f g) (k f g (opaque_some f h))

joined-none : (mode : Mode) (p : Pixel) → joined mode p None ≡ p
joined-none mode None = refl
joined-none mode (Some f) = refl

over_keeps : (most : ℕ) (f g : FragmentView) → f.a ≢ 0 → (over_by most f g).a ≢ 0
over_keeps most f g h = λ e. h (let z : f.a ≡ 0 = omega (arith, e) in z)

-- by blending, what is drawn over a pixel that can be seen can be seen
blended-seen : (mode : Mode) → KeepsAlpha mode → (shapes : List Drawing) (x y : ℕ) (p : Pixel) → IsSeen p → IsSeen (fold (λ before shape. joined mode (visible (gives shape x y)) before) p shapes)
blended-seen mode k [] x y p h = h
blended-seen mode k (shape ∷ shapes) x y p h = blended-seen mode k shapes x y (joined mode (visible (gives shape x y)) p) (joined-seen mode k (visible (gives shape x y)) p (visible-seen (gives shape x y)) h)

-- what shapes draw at a pixel is drawn by itself as it is
pub again : (mode : Mode) (shapes : List Drawing) (x y : ℕ) → drawn_over mode None (drawn mode shapes x y) ≡ drawn mode shapes x y
unfolding KeepsAlpha
again Depth shapes x y = refl
again Blend shapes x y = joined-none Blend (visible (drawn Blend shapes x y)) ∙ blended-seen Blend (over_keeps 255) shapes x y None refl
again WideBlend shapes x y = joined-none WideBlend (visible (drawn WideBlend shapes x y)) ∙ blended-seen WideBlend (over_keeps 65535) shapes x y None refl
