use Rattle.std.proofs.Common.{◌++◌, ap, ◌∙◌}
use Rattle.icet_net.specs.Closing.{traffic_of}
use Rattle.icet_tests.proofs.Stepped.{same_pictures, same_traffic}
use Rattle.icet_tests.proofs.stepping.drive_and_close.Goals as goal

pub returns-clause-pictures : goal.returns-clause-pictures
returns-clause-pictures g c = c.in-Ok.ensures.pictures ∙ same_pictures c.args.ranks.items c.drive_all.new.ranks.items c.in_ok-drive_all.ensures.comes_on c.args.hull

pub returns-clause-log : goal.returns-clause-log
returns-clause-log g c =
    c.in-Ok.ensures.log
    ∙ ap (λ t. g.W.Wires.log c.drive_all.new.wires ++ t) (same_traffic c.args.ranks.items c.drive_all.new.ranks.items c.in_ok-drive_all.ensures.comes_on c.args.hull)
    ∙ ap (λ l. l ++ traffic_of c.args.hull c.args.ranks.items) c.in_ok-drive_all.ensures.log
