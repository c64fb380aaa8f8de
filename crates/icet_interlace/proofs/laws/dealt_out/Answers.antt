use Rattle.icet_interlace.proofs.Strands.{interlaced_length, interlaced_each, restored_interlaced, one_interlaced, one_restored}
use Rattle.icet_interlace.proofs.laws.dealt_out.Goals as goal

pub returns-clause-count : goal.returns-clause-count
returns-clause-count c = λ strands pixels h. interlaced_length strands h pixels

pub returns-clause-each : goal.returns-clause-each
returns-clause-each c = λ strands i pixels h l. interlaced_each strands h pixels i l

pub returns-clause-back : goal.returns-clause-back
returns-clause-back c = λ strands pixels h. restored_interlaced strands h pixels

pub returns-clause-one : goal.returns-clause-one
returns-clause-one c = one_interlaced

pub returns-clause-one_back : goal.returns-clause-one_back
returns-clause-one_back c = one_restored
