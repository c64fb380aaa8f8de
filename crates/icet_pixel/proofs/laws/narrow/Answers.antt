use Rattle.std.proofs.Common.{Some, None}
use Rattle.icet_model.specs.declared.names.Mode.TheVariants.{Blend}
use Rattle.icet_model.specs.Pixel.{Pixel, IsNarrow, joined}
use Rattle.icet_pixel.proofs.BlendedFits.{narrow_stays}
use Rattle.icet_pixel.proofs.laws.narrow.Goals as goal

stays : (front back : Pixel) → IsNarrow front → IsNarrow back → IsNarrow (joined Blend front back)
stays None back f b = b
stays (Some front) None f b = f
stays (Some front) (Some back) f b = narrow_stays front.a back.a f b

pub returns-clause-blend : goal.returns-clause-blend
returns-clause-blend c = stays
