use Rattle.std.proofs.Common.{◌≡◌, ◌≤◌, ℤ, ◌-ℤ◌, unsigned_abs, to_z, of_z, w64, FitsSigned, ◌∙◌, arith, rules}
use Rattle.std.proofs.lemmas.Int.{ints}
use Rattle.icet_scene_model.specs.Triangles.{edge_value}
use Rattle.icet_raster.proofs.edge.edge_value.Goals as goal

there_and_back : (a b : ℤ) → unsigned_abs a ≤ 274875809796 → unsigned_abs b ≤ 274875809796 → (to_z w64 (of_z w64 (to_z w64 (of_z w64 a) -ℤ to_z w64 (of_z w64 b))) ≡ a -ℤ b) × (unsigned_abs (a -ℤ b) ≤ 549751619592) × FitsSigned w64 (to_z w64 (of_z w64 a) -ℤ to_z w64 (of_z w64 b))
there_and_back a b h k = (omega (arith, ints), omega (arith, ints), omega (arith, ints))

pub overflow_sub-result : goal.overflow_sub-result
overflow_sub-result c = (there_and_back c.product.result c.product-2.result c.product.ensures.small c.product-2.ensures.small).2

pub returns-clause-value : goal.returns-clause-value
unfolding edge_value
returns-clause-value c =
    let t = there_and_back c.product.result c.product-2.result c.product.ensures.small c.product-2.ensures.small in
    let p = c.product.ensures.value in
    let q = c.product-2.ensures.value in
    let d = c.apart.ensures.value in
    let e = c.apart-2.ensures.value in
    let f = c.apart-3.ensures.value in
    let g = c.apart-4.ensures.value in
    t.0 ∙ rw (p, q, d, e, f, g) (search rules)

pub returns-clause-small : goal.returns-clause-small
returns-clause-small c =
    let t = there_and_back c.product.result c.product-2.result c.product.ensures.small c.product-2.ensures.small in
    rw t.0 t.1
