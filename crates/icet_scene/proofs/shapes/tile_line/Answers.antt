use Rattle.std.proofs.Common.{rules}
use Rattle.std.specs.Option.{option_copied}
use Rattle.icet_text.specs.Words.{words_behind}
use Rattle.icet_scene.proofs.ShapeLines.{tile_taken, tile_says}
use Rattle.icet_scene.proofs.shapes.tile_line.Goals as goal

pub returns-then-is_taken-clause-line : goal.returns-then-is_taken-clause-line
returns-then-is_taken-clause-line c = λ before r h.
    let numbers = rw c.tile_fields.ensures at c.in-Some.ensures.numbers in
    let tile = rw c.as_slice.ensures.value at c.in-Some-tile.ensures.tile in
    tile_taken before c.args.ranks c.args.tiles.now (words_behind (option_copied c.args.words)) c.in-Some.ns.items c.in-Some-tile.tile numbers tile (search rules) r h

pub returns-else-is_taken-clause-line : goal.returns-else-is_taken-clause-line
returns-else-is_taken-clause-line c = λ before r h.
    let numbers = rw c.tile_fields.ensures at c.in-Some.ensures.numbers in
    let tile = rw c.as_slice.ensures.value at c.in-Some-tile.ensures.tile in
    tile_says before c.args.ranks c.args.tiles.now (words_behind (option_copied c.args.words)) c.in-Some.ns.items c.in-Some-tile.tile numbers tile (search rules) r h
