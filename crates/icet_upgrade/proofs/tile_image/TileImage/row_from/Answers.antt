use Rattle.std.proofs.Common.{◌≡◌, ◌+◌, ◌-◌, ◌*◌, min, take, drop, ap, ◌∙◌}
use Rattle.std.specs.Prelude.{unsigned_abs}
use Rattle.std.proofs.Common.{ℕ, refl}
use Rattle.icet_upgrade.specs.TileImages.{left_of}
use Rattle.icet_upgrade.proofs.RowParts.{cut}
use Rattle.icet_upgrade.proofs.tile_image.TileImage.row_from.Goals as goal

pub returns : goal.returns
returns c =
    let tile = c.args.self.now in
    let w = c.args.self.now.area.w in
    let n = c.min-skipped.result in
    let top : c.top.result ≡ unsigned_abs c.args.self.now.area.y = c.top.ensures in
    let skipped : c.min-skipped.result ≡ min (c.args.column - left_of c.args.self.now) c.args.self.now.area.w =
    c.min-skipped.ensures ∙ ap (λ m. min m c.args.self.now.area.w) (c.saturating_sub.ensures ∙ ap (λ l. c.args.column - l) c.left.ensures.value) in
    (λ i. take (((c.args.y - c.top.result) * w + w) - ((c.args.y - c.top.result) * w + n)) (drop ((c.args.y - c.top.result) * w + n) (c.as_slice.ensures.pixels i)))
    ∙ cut tile.image.pixels w ((c.args.y - c.top.result) * w) (c.args.column - left_of tile) n skipped
    ∙ ap (λ (t : ℕ). drop (c.args.column - left_of tile) (take w (drop ((c.args.y - t) * w) tile.image.pixels))) top
