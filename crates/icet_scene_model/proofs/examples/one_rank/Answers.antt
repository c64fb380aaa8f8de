use Rattle.std.proofs.Common.{refl}
use Rattle.icet_scene_model.proofs.examples.one_rank.Goals as goal

pub returns-clause-elsewhere : goal.returns-clause-elsewhere
returns-clause-elsewhere c = refl

pub returns-clause-earlier : goal.returns-clause-earlier
returns-clause-earlier c = refl

pub returns-clause-nearer : goal.returns-clause-nearer
returns-clause-nearer c = refl

pub returns-clause-rows : goal.returns-clause-rows
returns-clause-rows c = refl
