use Rattle.std.proofs.Common.{◌≡◌, ℕ, ◌+◌, ◌<◌, ◌≤◌, ◌⊎◌, Bool, true, false, refl, sym, ap, subst, inl, inr, arith, ◌∙◌}
use mathlib.Core.Bool.{beq, not}
use Rattle.std.proofs.lemmas.Bool.{cases_lt}
use Rattle.icet_scene_model.specs.Triangles.{centre, covers}
use Rattle.icet_raster.specs.Walks.{AreValues, walked}
use Rattle.icet_raster.proofs.stretches.stretch_end.Goals as goal

same : (a b : Bool) → not (beq a b) ≡ false → a ≡ b
same true true e = refl
same true false e = absurd (cc)
same false true e = absurd (cc)
same false false e = refl

-- one more column of a kind
one-more : (is : ℕ → Bool) (covered : Bool) (from n : ℕ) → ((k : ℕ) → from ≤ k → k < n → is k ≡ covered) → is n ≡ covered → (k : ℕ) → from ≤ k → k < n + 1 → is k ≡ covered
one-more is covered from n h e k l m = by (cases_lt k n)
  where
    by : (k < n) ⊎ (n ≤ k) → is k ≡ covered
    by (inl s) = h k l s
    by (inr s) = let same : k ≡ n = omega arith in ap is same ∙ e

pub loop-column-preserved : goal.loop-column-preserved
loop-column-preserved c =
    let next : (c.args.left + c.loop-column.column) + 1 ≡ c.args.left + (c.loop-column.column + 1) = omega arith in
    let here : c.is_covered.result ≡ c.args.covered = same c.is_covered.result c.args.covered c.if-is_covered-covered.false in
    record {
      values = subst (λ n. AreValues c.args.walk.now n c.args.y c.next_values-values.result) next c.next_values-values.ensures;
      all = one-more (λ k. covers (walked c.args.walk.now) (centre (c.args.left + k) c.args.y)) c.args.covered c.args.from.column c.loop-column.column c.loop-column.invariant.all (sym (c.is_covered.ensures (c.args.left + c.loop-column.column) c.args.y c.loop-column.invariant.values) ∙ here);
    }
