use Rattle.std.proofs.Common.{[], length, sym, ap, ◌∙◌, subst, arith, refl}
use Rattle.icet_net.specs.Net.{AreSides, blank_canvases}
use Rattle.icet_net.specs.Ranks.{AreWholeImages}
use Rattle.icet_net.proofs.Sides.{sides_small, are_sides}
use Rattle.icet_net.proofs.Started.{started_hulls, opened_with}
use Rattle.icet_net.proofs.opening.open_net.Goals as goal
use Rattle.icet_model.proofs.Lists.{all_at}

pub canvases_of-requires-clause-small : goal.canvases_of-requires-clause-small
canvases_of-requires-clause-small g c = sides_small c.args.layout.now c.args.plan.tiles.sizes c.as_slice.result.now c.requires.fits.sizes c.requires.fits.small (c.as_slice.ensures.value ∙ c.in_ok-sides.ensures)

pub invariant_of-hull : goal.invariant_of-hull
invariant_of-hull g c = record {
  hull_is = record {
    plan = c.ranks-ranks.ensures.plan;
    cap = c.requires.cap;
    strands = c.requires.strands;
    sides = subst (AreSides c.args.plan.tiles.sizes) (sym c.in_ok-sides.ensures) (are_sides c.args.layout.now c.args.plan.tiles.sizes c.requires.fits.sizes c.requires.fits.small);
    pairs = c.in_ok-ports.ensures.pairs;
  };
  canvases_are = c.in_ok-canvases.ensures ∙ ap (λ sides. blank_canvases sides c.args.strands) c.as_slice.ensures.value;
  parts_kept = let e = c.in_ok-parts.ensures.exact in let r = c.ranks-ranks.ensures.ranks in omega (arith, e, r);
  pictures_kept = let e = c.in_ok-pictures.ensures.exact in let r = c.len.ensures in let l = c.as_slice.ensures.len in let v = ap length c.as_slice.ensures.value in omega (arith, e, r, l, v);
}

pub returns-clause-hulls : goal.returns-clause-hulls
returns-clause-hulls g c =
    let p = c.in_ok-ports.ensures in
    let m = c.in_ok-machines.ensures in
    started_hulls _ c.args.mode c.args.images.items c.in_ok-ports.ports.inboxes.items c.in_ok-ports.ports.outboxes.items c.in_ok-machines.machines.items c.ranks-ranks.ensures.plan m.count (λ r l. all_at (AreWholeImages c.args.plan.tiles.sizes) c.args.images.items r [] c.requires.fits.whole (let e = c.requires.fits.count in omega (arith, e, l))) m.all p.paired

pub returns-clause-opened : goal.returns-clause-opened
returns-clause-opened g c = opened_with c.args.plan c.args.mode c.args.images.items c.in_ok-ports.ports.inboxes.items c.in_ok-ports.ports.outboxes.items c.in_ok-machines.machines.items c.in_ok-machines.ensures.count c.requires.fits.count c.in_ok-machines.ensures.all

pub machines_of-requires-clause-count : goal.machines_of-requires-clause-count
machines_of-requires-clause-count g c κs l = c.requires.fits.count

pub machines_of-requires-clause-in_count : goal.machines_of-requires-clause-in_count
machines_of-requires-clause-in_count g c κs l = c.in_ok-ports.ensures.in_count

pub machines_of-requires-clause-out_count : goal.machines_of-requires-clause-out_count
machines_of-requires-clause-out_count g c κs l = c.in_ok-ports.ensures.out_count

pub machines_of-requires-clause-whole : goal.machines_of-requires-clause-whole
machines_of-requires-clause-whole g c κs l = λ r m. all_at (AreWholeImages c.args.plan.tiles.sizes) c.args.images.items r [] c.requires.fits.whole (let e = c.requires.fits.count in omega (arith, e, m))

pub machines_of-requires-clause-inboxes : goal.machines_of-requires-clause-inboxes
machines_of-requires-clause-inboxes g c κs l = c.in_ok-ports.ensures.inboxes

pub machines_of-requires-clause-outboxes : goal.machines_of-requires-clause-outboxes
machines_of-requires-clause-outboxes g c κs l = c.in_ok-ports.ensures.outboxes

pub returns-in_err-ports-clause-log : goal.returns-in_err-ports-clause-log
returns-in_err-ports-clause-log g c = c.in_err-ports.ensures.log

pub returns-in_err-machines-clause-log : goal.returns-in_err-machines-clause-log
returns-in_err-machines-clause-log g c = c.in_ok-ports.ensures.log

pub returns-clause-hull : goal.returns-clause-hull
returns-clause-hull g c = rw (c.in_ok-sides.ensures, c.in_ok-ports.ensures.pairs) refl

pub returns-clause-log : goal.returns-clause-log
returns-clause-log g c = c.in_ok-ports.ensures.log

pub returns-clause-owed : goal.returns-clause-owed
returns-clause-owed g c = c.in_ok-ports.ensures.owed
