use Rattle.std.proofs.Common.{◌≡◌, ◌-◌, ◌<◌, length, refl, ap, ◌∙◌, arith, rules}
use Rattle.std.proofs.lemmas.Grind.{common_steps}
use Rattle.icet_scene_model.specs.Raster.{Span}
use Rattle.icet_upgrade.proofs.Steps.{run_added}
use Rattle.icet_upgrade.proofs.scan.Scan.end_run.Goals as goal

pub returns : goal.returns
returns c =
    let scan = c.args.self.now in
    let same : c.replace-run.result.items ≡ c.args.self.now.run.items = ap (λ v. v.items) c.replace-run.ensures.value in
    let count : c.args.self.now.next - c.len.result ≡ c.args.self.now.next - length c.args.self.now.run.items = omega (arith, c.len.ensures, ap length same) in
    let some : 0 < length c.args.self.now.run.items = first_of (search rules, grind (arith, common_steps)) in
    record {
      rank = refl;
      row = refl;
      next = refl;
      run = ap (λ v. v.items) c.replace-run.ensures.after ∙ c.new.ensures.items;
      spans = run_added scan.rank scan.y scan.next scan.run.items _ _ c.span.result c.in_ok-push.ensures.items (c.span.ensures.drawing ∙ (λ i. Span (count i) c.args.self.now.y (same i))) c.span.ensures.in_range some;
    }
