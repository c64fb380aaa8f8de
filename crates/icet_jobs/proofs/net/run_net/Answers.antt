use Rattle.std.proofs.Common.{◌++◌, sym, subst, ap, ◌∙◌}
use Rattle.icet_model.specs.Traffic.{traffic}
use Rattle.icet_net.specs.Net.{HullView}
use Rattle.icet_net.specs.Ranks.{AreHulls, EachRank, ComesOn, mode_of, images_of}
use Rattle.icet_net.specs.Closing.{IsLowestUndone, pictures_of}
use Rattle.icet_jobs.specs.Nets.{piece_images}
use Rattle.icet_jobs.proofs.DrivenNets.{written_back, driven_mode, driven_images}
use Rattle.icet_jobs.proofs.net.run_net.Goals as goal

pub close_net-requires-clause-hulls : goal.close_net-requires-clause-hulls
close_net-requires-clause-hulls g c =
    let on = subst (λ xs. EachRank ComesOn xs c.drive.new.ranks) c.as_mut_slice.ensures.value c.in_ok-drive.ensures.comes_on in
    let back = written_back c.in_ok-hull.ranks.len c.drive.new.ranks c.in_ok-hull.ranks.items c.in_ok-hull.ranks.ok.0 on.count in
    λ κs h. subst (AreHulls c.in_ok-hull.hull) (sym back) c.in_ok-drive.ensures.hulls

pub unreachable-requires : goal.unreachable-requires
unreachable-requires g c =
    let on = subst (λ xs. EachRank ComesOn xs c.drive.new.ranks) c.as_mut_slice.ensures.value c.in_ok-drive.ensures.comes_on in
    let back = written_back c.in_ok-hull.ranks.len c.drive.new.ranks c.in_ok-hull.ranks.items c.in_ok-hull.ranks.ok.0 on.count in
    let undone = subst (IsLowestUndone c.in-Err.field-0.rank) back c.in-Err.ensures.rank in
    undone.undone (c.in_ok-drive.ensures.done.each c.in-Err.field-0.rank undone.within)

pub returns-clause-pictures : goal.returns-clause-pictures
returns-clause-pictures g c =
    let on = subst (λ xs. EachRank ComesOn xs c.drive.new.ranks) c.as_mut_slice.ensures.value c.in_ok-drive.ensures.comes_on in
    let back = written_back c.in_ok-hull.ranks.len c.drive.new.ranks c.in_ok-hull.ranks.items c.in_ok-hull.ranks.ok.0 on.count in
    let opened = c.in_ok-hull.ensures.opened in
    let same_mode = driven_mode c.args.mode c.args.images.items c.in_ok-hull.ranks.items c.drive.new.ranks opened on c.requires.ranks in
    let same_images = driven_images c.args.mode c.args.images.items c.in_ok-hull.ranks.items c.drive.new.ranks opened on c.requires.ranks in
    c.in-Ok.ensures.pictures
    ∙ ap (λ ms. pictures_of c.in_ok-hull.hull (mode_of ms) (images_of ms)) back
    ∙ ap (λ m. pictures_of c.in_ok-hull.hull m (images_of c.drive.new.ranks)) same_mode
    ∙ ap (λ is. pictures_of c.in_ok-hull.hull c.args.mode is) same_images
    ∙ ap (λ h. pictures_of h c.args.mode (piece_images c.args.images.items)) c.in_ok-hull.ensures.hull

pub returns-clause-log : goal.returns-clause-log
returns-clause-log g c =
    let on = subst (λ xs. EachRank ComesOn xs c.drive.new.ranks) c.as_mut_slice.ensures.value c.in_ok-drive.ensures.comes_on in
    let back = written_back c.in_ok-hull.ranks.len c.drive.new.ranks c.in_ok-hull.ranks.items c.in_ok-hull.ranks.ok.0 on.count in
    let opened = c.in_ok-hull.ensures.opened in
    let same_mode = driven_mode c.args.mode c.args.images.items c.in_ok-hull.ranks.items c.drive.new.ranks opened on c.requires.ranks in
    let same_images = driven_images c.args.mode c.args.images.items c.in_ok-hull.ranks.items c.drive.new.ranks opened on c.requires.ranks in
    c.in-Ok.ensures.log
    ∙ ap (λ ms. g.W.Wires.log c.drive.new.wires ++ traffic (mode_of ms) c.in_ok-hull.hull.plan (images_of ms)) back
    ∙ ap (λ m. g.W.Wires.log c.drive.new.wires ++ traffic m c.in_ok-hull.hull.plan (images_of c.drive.new.ranks)) same_mode
    ∙ ap (λ is. g.W.Wires.log c.drive.new.wires ++ traffic c.args.mode c.in_ok-hull.hull.plan is) same_images
    ∙ ap (λ (h : HullView). g.W.Wires.log c.drive.new.wires ++ traffic c.args.mode h.plan (piece_images c.args.images.items)) c.in_ok-hull.ensures.hull
    ∙ ap (λ l. l ++ traffic c.args.mode c.args.plan (piece_images c.args.images.items)) (c.in_ok-drive.ensures.log ∙ c.in_ok-hull.ensures.log)
