-- Blocks: which contributors each member of a group takes images from.
use Rattle.std.specs.Prelude.{ℕ, suc, ◌*◌, ◌/◌, List, length, slice_range}

-- where the block of member j of g begins, of so many contributors
abbrev pub block_start : ℕ → ℕ → ℕ → ℕ
block_start count g j = count * j / g

-- the contributors of member j of g, in their order
abbrev pub block_of : List ℕ → ℕ → ℕ → List ℕ
block_of contributors g j = slice_range contributors (block_start (length contributors) g j) (block_start (length contributors) g (suc j))
