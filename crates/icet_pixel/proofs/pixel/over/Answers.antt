use Rattle.std.proofs.Common.{refl, inl}
use Rattle.icet_pixel.proofs.pixel.over.Goals as goal

pub blend-requires-else-wide : goal.blend-requires-else-wide
blend-requires-else-wide c = inl refl
