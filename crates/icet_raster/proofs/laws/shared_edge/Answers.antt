use Rattle.icet_raster.proofs.CoveredOnce.{never_both, exactly_one}
use Rattle.icet_raster.proofs.laws.shared_edge.Goals as goal

pub returns : goal.returns
returns c = record { never_both = never_both; exactly_one = exactly_one }
