use Rattle.std.proofs.Common.{◌≡◌, ◌++◌, List, subst, IfOk, OnOk}
use Rattle.icet_model.specs.Pixel.{DenseView}
use Rattle.icet_net.specs.Ranks.{EachRank, ComesOn}
use Rattle.icet_net.proofs.DriveKeeps.{still_hulls}
use Rattle.icet_tests.proofs.Stepped.{comes_of_going, each_goes_trans, same_pictures, same_traffic}
use Rattle.icet_tests.proofs.stepping.composite_by_two.Goals as goal

pub drive_and_close-requires-clause-hulls : goal.drive_and_close-requires-clause-hulls
drive_and_close-requires-clause-hulls g c = λ κs h. still_hulls c.args.hull c.args.ranks.items c.turning.ranks.items c.requires.hulls c.turning.invariant

pub returns-clause-pictures : goal.returns-clause-pictures
returns-clause-pictures g c =
    let on = comes_of_going c.args.hull c.args.ranks.items c.turning.ranks.items c.requires.hulls c.turning.invariant in
    subst (λ (shown : List DenseView). IfOk c.drive_and_close.result (λ p. p ≡ shown)) (same_pictures c.args.ranks.items c.turning.ranks.items on c.args.hull) c.drive_and_close.ensures.pictures

pub returns-clause-log : goal.returns-clause-log
returns-clause-log g c =
    let on = comes_of_going c.args.hull c.args.ranks.items c.turning.ranks.items c.requires.hulls c.turning.invariant in
    subst (λ moved. OnOk c.drive_and_close.result (g.W.Wires.log c.drive_and_close.new.wires ≡ g.W.Wires.log c.args.wires.now ++ moved)) (same_traffic c.args.ranks.items c.turning.ranks.items on c.args.hull) c.drive_and_close.ensures.log

pub turning-preserved : goal.turning-preserved
turning-preserved g c = each_goes_trans c.args.ranks.items c.turning.ranks.items c.in_ok-ranks.ranks.items c.turning.invariant c.in_ok-ranks.ensures
