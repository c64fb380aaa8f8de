use Rattle.std.proofs.Common.{reverse, ◌≡◌, ◌++◌, length, map, sym, ap, ◌∙◌, subst, arith}
use Rattle.std.proofs.lemmas.List.{length-map}
use Rattle.icet_rank.specs.Machine.{MachineView}
use Rattle.icet_net.specs.Net.{HullView, IsHull, blank_canvases}
use Rattle.icet_net.specs.Syncs.{AreRunning}
use Rattle.icet_net.specs.CloseSteps.{AreDistinct, entry_of}
use Rattle.icet_net.proofs.CloseDistinct.{pairs_distinct}
use Rattle.icet_net.proofs.CloseEnd.{all_done, blank_tiles, blank_count, hull_closable, log_is, hull_showable, hull_pictures, taken_of, write_back}
use Rattle.icet_net.proofs.closing.close_done.Goals as goal

pub take_apart-parts-requires-clause-done : goal.take_apart-parts-requires-clause-done
take_apart-parts-requires-clause-done g c κs within = all_done c.args.ranks.items c.requires.done

pub close_pairs-requires-clause-distinct : goal.close_pairs-requires-clause-distinct
close_pairs-requires-clause-distinct g c κs within = subst AreDistinct (sym (c.deref-2.ensures.value ∙ c.hull.invariant.hull_is.pairs)) (pairs_distinct c.hull.inside.plan)

pub close_pairs-requires-clause-closable : goal.close_pairs-requires-clause-closable
close_pairs-requires-clause-closable g c κs within =
    let v = c.hull.view_is in
    let running = subst AreRunning c.deref.ensures.value c.look_at.ensures in
    hull_closable c.args.hull c.args.ranks.items (subst IsHull v c.hull.invariant.hull_is) c.requires.hulls running c.requires.done _ _ _
    (ap (map (λ p. reverse p.outboxes)) c.deref_mut.ensures.value ∙ c.take_apart-parts.ensures.outboxes)
    (ap (map (λ p. reverse p.inboxes)) c.deref_mut.ensures.value ∙ c.take_apart-parts.ensures.inboxes)
    (c.deref-2.ensures.value ∙ ap (λ (h : HullView). h.pairs) v)

pub show_all-requires-clause-ranks : goal.show_all-requires-clause-ranks
show_all-requires-clause-ranks g c κs within =
    let back : c.deref-3.result.now ≡ c.close_pairs.new.parts = c.deref-3.ensures.value ∙ write_back c.close_pairs.new.parts _ c.take_apart-parts.result.len (let a = ap length c.close_pairs.ensures.kept in let b = length-map c.close_pairs.new.parts (λ p. p.kept) in let d = length-map c.deref_mut.result.now (λ p. p.kept) in let e = ap length c.deref_mut.ensures.value in let o = c.take_apart-parts.result.ok.0 in omega (arith, a, b, d, e, o)) in
    let kept = ap (map (λ p. p.kept)) back ∙ (c.close_pairs.ensures.kept ∙ (ap (map (λ p. p.kept)) c.deref_mut.ensures.value ∙ c.take_apart-parts.ensures.kept)) in
    let a = ap length kept in
    let b = length-map c.deref-3.result.now (λ p. p.kept) in
    let d = length-map c.args.ranks.items (λ (m : MachineView). m.kept) in
    let e = c.requires.hulls.count in
    let f = ap (λ (h : HullView). length h.plan.programs) c.hull.view_is in
    omega (arith, a, b, d, e, f)

pub show_all-requires-clause-tiles : goal.show_all-requires-clause-tiles
show_all-requires-clause-tiles g c κs within = rw (c.hull.invariant.canvases_are) (blank_tiles c.hull.inside.sides.items c.hull.inside.strands)

pub show_all-requires-clause-showable : goal.show_all-requires-clause-showable
show_all-requires-clause-showable g c κs within =
    let back : c.deref-3.result.now ≡ c.close_pairs.new.parts = c.deref-3.ensures.value ∙ write_back c.close_pairs.new.parts _ c.take_apart-parts.result.len (let a = ap length c.close_pairs.ensures.kept in let b = length-map c.close_pairs.new.parts (λ p. p.kept) in let d = length-map c.deref_mut.result.now (λ p. p.kept) in let e = ap length c.deref_mut.ensures.value in let o = c.take_apart-parts.result.ok.0 in omega (arith, a, b, d, e, o)) in
    let kept = ap (map (λ p. p.kept)) back ∙ (c.close_pairs.ensures.kept ∙ (ap (map (λ p. p.kept)) c.deref_mut.ensures.value ∙ c.take_apart-parts.ensures.kept)) in
    let v = c.hull.view_is in
    let running = subst AreRunning c.deref.ensures.value c.look_at.ensures in
    let outs = ap (map (λ p. reverse p.outboxes)) c.deref_mut.ensures.value ∙ c.take_apart-parts.ensures.outboxes in
    let ins = ap (map (λ p. reverse p.inboxes)) c.deref_mut.ensures.value ∙ c.take_apart-parts.ensures.inboxes in
    let pairs = c.deref-2.ensures.value ∙ ap (λ (h : HullView). h.pairs) v in
    let all = taken_of _ _ _ _ _ _ outs ins pairs c.close_pairs.ensures.taken in
    hull_showable c.args.hull c.args.ranks.items (subst IsHull v c.hull.invariant.hull_is) c.requires.hulls running c.requires.done all _ _ _ kept (c.hull.invariant.canvases_are ∙ ap (λ (h : HullView). blank_canvases h.sides h.strands) v) (ap (λ (h : HullView). h.plan.tiles) v)

pub show_all-requires-clause-memory : goal.show_all-requires-clause-memory
show_all-requires-clause-memory g c κs within =
    let e = ap length c.hull.invariant.canvases_are in
    let f = blank_count c.hull.inside.sides.items c.hull.inside.strands in
    let m = c.hull.invariant.pictures_kept in
    omega (arith, e, f, m)

pub returns-clause-pictures : goal.returns-clause-pictures
returns-clause-pictures g c =
    let back : c.deref-3.result.now ≡ c.close_pairs.new.parts = c.deref-3.ensures.value ∙ write_back c.close_pairs.new.parts _ c.take_apart-parts.result.len (let a = ap length c.close_pairs.ensures.kept in let b = length-map c.close_pairs.new.parts (λ p. p.kept) in let d = length-map c.deref_mut.result.now (λ p. p.kept) in let e = ap length c.deref_mut.ensures.value in let o = c.take_apart-parts.result.ok.0 in omega (arith, a, b, d, e, o)) in
    let kept = ap (map (λ p. p.kept)) back ∙ (c.close_pairs.ensures.kept ∙ (ap (map (λ p. p.kept)) c.deref_mut.ensures.value ∙ c.take_apart-parts.ensures.kept)) in
    let v = c.hull.view_is in
    let running = subst AreRunning c.deref.ensures.value c.look_at.ensures in
    let outs = ap (map (λ p. reverse p.outboxes)) c.deref_mut.ensures.value ∙ c.take_apart-parts.ensures.outboxes in
    let ins = ap (map (λ p. reverse p.inboxes)) c.deref_mut.ensures.value ∙ c.take_apart-parts.ensures.inboxes in
    let pairs = c.deref-2.ensures.value ∙ ap (λ (h : HullView). h.pairs) v in
    let all = taken_of _ _ _ _ _ _ outs ins pairs c.close_pairs.ensures.taken in
    c.of.ensures ∙ hull_pictures c.args.hull c.args.ranks.items (subst IsHull v c.hull.invariant.hull_is) c.requires.hulls running c.requires.done all _ _ _ _ kept (c.hull.invariant.canvases_are ∙ ap (λ (h : HullView). blank_canvases h.sides h.strands) v) (ap (λ (h : HullView). h.plan.tiles) v) c.show_all.ensures

pub returns-clause-log : goal.returns-clause-log
returns-clause-log g c =
    let v = c.hull.view_is in
    let running = subst AreRunning c.deref.ensures.value c.look_at.ensures in
    let outs = ap (map (λ p. reverse p.outboxes)) c.deref_mut.ensures.value ∙ c.take_apart-parts.ensures.outboxes in
    let ins = ap (map (λ p. reverse p.inboxes)) c.deref_mut.ensures.value ∙ c.take_apart-parts.ensures.inboxes in
    let pairs = c.deref-2.ensures.value ∙ ap (λ (h : HullView). h.pairs) v in
    let all = taken_of _ _ _ _ _ _ outs ins pairs c.close_pairs.ensures.taken in
    c.close_pairs.ensures.log
    ∙ (ap (λ xs. g.W.Wires.log c.args.wires.now ++ map (entry_of xs) c.deref-2.result.now) outs
    ∙ (ap (λ ps. g.W.Wires.log c.args.wires.now ++ map (entry_of (map (λ m. m.outboxes) c.args.ranks.items)) ps) pairs
    ∙ ap (λ xs. g.W.Wires.log c.args.wires.now ++ xs) (log_is c.args.hull c.args.ranks.items (subst IsHull v c.hull.invariant.hull_is) c.requires.hulls running c.requires.done all)))

pub returns-clause-owed : goal.returns-clause-owed
returns-clause-owed g c = let o = c.close_pairs.ensures.owed in let e = ap length (c.deref-2.ensures.value ∙ ap (λ (h : HullView). h.pairs) c.hull.view_is) in omega (arith, o, e)
