use Rattle.std.proofs.Common.{refl}
use Rattle.std.specs.Fmt.{digits}
use Rattle.icet_scene_model.proofs.texts.fault_lines.Goals as goal

pub returns-clause-range : goal.returns-clause-range
unfolding digits
returns-clause-range c = refl

pub returns-clause-form : goal.returns-clause-form
unfolding digits
returns-clause-form c = refl
