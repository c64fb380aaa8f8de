-- One port changes: one peer's value changes.
use Rattle.std.proofs.Common.{◌≡◌, ℕ, zero, suc, ◌<◌, Bool, true, false, cond, List, [], ◌∷◌, set, refl, sym, ap, ◌∙◌, arith, Some, eqb-true}
use Rattle.std.specs.Prelude.{◌==◌}
use Rattle.std.specs.List.{slice_get}
use mathlib.Core.Path.{fun_ext}
use Rattle.icet_model.specs.Run.{put}
use Rattle.icet_model.specs.Ports.{by_peer, AreAscending}
use Rattle.icet_plan.proofs.Lists.{all_get}

module _ {P V : Type 0} (f : P → V) (d : V) where
  at_each : (ports : List (ℕ × P)) (at : ℕ) (old : ℕ × P) (new : P) → AreAscending ports → slice_get ports at ≡ Some old → (k : ℕ) → by_peer f d (set ports at (old.0, new)) k ≡ put (by_peer f d ports) old.0 (f new) k
  at_each [] at old new a h k = absurd (cc)
  at_each (e ∷ es) zero old new a h k = go (old.0 == k) refl
    where
      s : e ≡ old
      s = cc

      go : (b : Bool) → (old.0 == k) ≡ b → cond b (f new) (by_peer f d es k) ≡ cond b (f new) (cond (e.0 == k) (f e.1) (by_peer f d es k))
      go true z = refl
      go false z = sym (ap (λ y. cond y (f e.1) (by_peer f d es k)) (ap (λ (x : ℕ × P). x.0 == k) s ∙ z))
  at_each (e ∷ es) (suc at) old new a h k = go (e.0 == k) refl (old.0 == k) refl (at_each es at old new a.1 h k)
    where
      less : e.0 < old.0
      less = all_get (λ x. e.0 < x.0) es at old h a.0

      go : (b : Bool) → (e.0 == k) ≡ b → (c : Bool) → (old.0 == k) ≡ c → by_peer f d (set es at (old.0, new)) k ≡ cond c (f new) (by_peer f d es k) → cond b (f e.1) (by_peer f d (set es at (old.0, new)) k) ≡ cond c (f new) (cond b (f e.1) (by_peer f d es k))
      go true z true y r = absurd (let p = eqb-true e.0 k z in let q = eqb-true old.0 k y in omega (arith, less, p, q))
      go true z false y r = refl
      go false z true y r = r
      go false z false y r = r

  pub port_set : (ports : List (ℕ × P)) (at : ℕ) (old : ℕ × P) (new : P) → AreAscending ports → slice_get ports at ≡ Some old → by_peer f d (set ports at (old.0, new)) ≡ put (by_peer f d ports) old.0 (f new)
  port_set ports at old new a h = fun_ext (at_each ports at old new a h)
