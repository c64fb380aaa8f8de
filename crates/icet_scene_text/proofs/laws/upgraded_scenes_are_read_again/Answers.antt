use Rattle.icet_scene_text.proofs.PrintedScenes.{upgraded_again, upgraded_is}
use Rattle.icet_scene_text.proofs.laws.upgraded_scenes_are_read_again.Goals as goal

pub returns-clause-again : goal.returns-clause-again
returns-clause-again c = upgraded_again

pub returns-clause-text : goal.returns-clause-text
returns-clause-text c = upgraded_is
