use Rattle.std.proofs.Common.{sym}
use Rattle.icet_scene.proofs.Paints.{mode_long}
use Rattle.icet_scene.proofs.form.mode_in.Goals as goal

pub returns-in-Some : goal.returns-in-Some
returns-in-Some c = rw (c.in_ok-words.was, c.split_word.ensures.words, c.in-Some.is) (sym (mode_long c.split_word.result.0.now c.in-Some.field-0.now))
