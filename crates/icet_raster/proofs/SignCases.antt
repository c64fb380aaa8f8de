-- What a number's sign picks.
use Rattle.std.proofs.Common.{◌≡◌, ℕ, zero, suc, ◌<◌, ℤ, pos, negsuc, ◌*ℤ◌, ◌<ℤ◌, neg_ℤ, ap, refl, arith}
use Rattle.std.proofs.lemmas.Int.{ints}
use Rattle.icet_scene_model.specs.Triangles.{by_sign}

pub sign-above : {A : Type 0} (v : ℤ) (x y z : A) → pos 0 <ℤ v → by_sign v x y z ≡ z
sign-above (pos zero) x y z h = absurd (omega (arith, ints))
sign-above (pos (suc n)) x y z h = refl
sign-above (negsuc n) x y z h = absurd (omega (arith, ints))

pub sign-below : {A : Type 0} (v : ℤ) (x y z : A) → v <ℤ pos 0 → by_sign v x y z ≡ x
sign-below (pos n) x y z h = absurd (omega (arith, ints))
sign-below (negsuc n) x y z h = refl

pub sign-turned : {A : Type 0} (v : ℤ) (x y z : A) → by_sign (neg_ℤ v) x y z ≡ by_sign v z y x
sign-turned (pos zero) x y z = refl
sign-turned (pos (suc n)) x y z = refl
sign-turned (negsuc n) x y z = refl

-- where a positive multiple is above 0, or is 0, so is the number
pub above_by : (n : ℕ) (v : ℤ) → pos 0 <ℤ (pos n *ℤ v) → pos 0 <ℤ v
above_by n (pos zero) h = absurd (omega (arith, ints))
above_by n (pos (suc m)) h = omega (arith, ints)
above_by n (negsuc m) h = absurd (omega (arith, ints))

pub none_by : (n : ℕ) (v : ℤ) → 0 < n → pos n *ℤ v ≡ pos 0 → v ≡ pos 0
none_by n (pos zero) l h = refl
none_by (suc n) (pos (suc m)) l h = absurd (omega (arith, ints))
none_by (suc n) (negsuc m) l h = absurd (omega (arith, ints))
none_by zero v l h = absurd (omega arith)

pub above_product : (n : ℕ) (v : ℤ) → 0 < n → pos 0 <ℤ v → pos 0 <ℤ (pos n *ℤ v)
above_product (suc n) (pos (suc m)) l h = omega (arith, ints)
above_product (suc n) (pos zero) l h = absurd (omega (arith, ints))
above_product (suc n) (negsuc m) l h = absurd (omega (arith, ints))
above_product zero v l h = absurd (omega arith)

pub sign-other : {A : Type 0} (v : ℤ) (x y : A) → (v ≡ pos 0 → ⊥) → by_sign v x y x ≡ x
sign-other (pos zero) x y h = absurd (h refl)
sign-other (pos (suc n)) x y h = refl
sign-other (negsuc n) x y h = refl

pub sign-none : {A : Type 0} (v : ℤ) (x y z : A) → v ≡ pos 0 → by_sign v x y z ≡ y
sign-none v x y z e = ap (λ t. by_sign t x y z) e
