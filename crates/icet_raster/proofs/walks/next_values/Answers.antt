use Rattle.std.proofs.Common.{◌≡◌, ℕ, ◌+◌, ◌*◌, ◌≤◌, ℤ, ◌+ℤ◌, unsigned_abs, to_z, of_z, w64, arith, ◌∙◌}
use Rattle.std.proofs.lemmas.Int.{ints}
use Rattle.icet_raster.proofs.EdgeSteps.{edge-step, step_small}
use Rattle.icet_raster.proofs.walks.next_values.Goals as goal

there_and_back : (v d : ℤ) (x : ℕ) → x ≤ 16383 → unsigned_abs v ≤ 549751619592 + 8388576 * x → unsigned_abs d ≤ 8388576 → to_z w64 (of_z w64 (to_z w64 (of_z w64 v) +ℤ to_z w64 (of_z w64 d))) ≡ v +ℤ d
there_and_back v d x l h k = omega (arith, ints)

pub returns : goal.returns
returns c =
    let w = c.args.walk.now in
    let v = c.args.values in
    let a : to_z w64 (of_z w64 (to_z w64 (of_z w64 v.a) +ℤ to_z w64 (of_z w64 w.step_a))) ≡ v.a +ℤ w.step_a = there_and_back v.a w.step_a c.args.x c.requires.x c.requires.values.small_a c.requires.walk.small_a in
    let b : to_z w64 (of_z w64 (to_z w64 (of_z w64 v.b) +ℤ to_z w64 (of_z w64 w.step_b))) ≡ v.b +ℤ w.step_b = there_and_back v.b w.step_b c.args.x c.requires.x c.requires.values.small_b c.requires.walk.small_b in
    let d : to_z w64 (of_z w64 (to_z w64 (of_z w64 v.c) +ℤ to_z w64 (of_z w64 w.step_c))) ≡ v.c +ℤ w.step_c = there_and_back v.c w.step_c c.args.x c.requires.x c.requires.values.small_c c.requires.walk.small_c in
    record {
      a = a ∙ edge-step w.b w.c c.args.x c.args.y v.a w.step_a c.requires.values.a c.requires.walk.step_a;
      b = b ∙ edge-step w.c w.a c.args.x c.args.y v.b w.step_b c.requires.values.b c.requires.walk.step_b;
      c = d ∙ edge-step w.a w.b c.args.x c.args.y v.c w.step_c c.requires.values.c c.requires.walk.step_c;
      small_a = rw a (step_small v.a w.step_a c.args.x c.requires.values.small_a c.requires.walk.small_a);
      small_b = rw b (step_small v.b w.step_b c.args.x c.requires.values.small_b c.requires.walk.small_b);
      small_c = rw d (step_small v.c w.step_c c.args.x c.requires.values.small_c c.requires.walk.small_c);
    }
