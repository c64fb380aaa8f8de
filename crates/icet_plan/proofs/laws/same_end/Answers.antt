use Rattle.icet_plan.proofs.CoreLaws.{same_end}
use Rattle.icet_plan.proofs.laws.same_end.Goals as goal

pub returns : goal.returns
returns c = λ all cap events enabled done. let all_made = same_end all cap events enabled done in record { count = all_made.0; in_order = all_made.1 }
