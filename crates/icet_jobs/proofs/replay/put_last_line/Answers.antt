use Rattle.std.proofs.Common.{◌∙◌, refl, subst}
use Rattle.icet_base.specs.PenText.{Puts}
use Rattle.icet_jobs.proofs.LowestLeft.{unfinished_line, finished_line}
use Rattle.icet_jobs.proofs.replay.put_last_line.Goals as goal

pub returns-in-Some : goal.returns-in-Some
returns-in-Some g c = subst (Puts g.K.Sink.told c.args.pen.now c.put_number_between.new.self c.put_number_between.result) (unfinished_line c.args.core.now _ c.from.result c.in-Some.ensures.lowest (c.from.ensures ∙ c.rank.view_is)) c.put_number_between.ensures

pub returns-in-None : goal.returns-in-None
returns-in-None g c = subst (Puts g.K.Sink.told c.args.pen.now c.put.new.self c.put.result) (finished_line c.args.core.now (c.in-None.ensures.none.0 refl)) c.put.ensures
