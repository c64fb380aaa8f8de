use Rattle.icet_scene_text.proofs.PrintedScenes.{printed_again, printed_is}
use Rattle.icet_scene_text.proofs.laws.printed_scenes_are_read_again.Goals as goal

pub returns-clause-again : goal.returns-clause-again
returns-clause-again c = printed_again

pub returns-clause-text : goal.returns-clause-text
returns-clause-text c = printed_is
