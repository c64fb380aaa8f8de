use Rattle.std.proofs.Common.{◌≡◌, ◌<◌, ◌*◌, false, true, get_or, refl, subst, sym, ◌∙◌, length-set, None, arith}
use Rattle.icet_interlace.specs.Interlace.{place}
use Rattle.icet_collect.proofs.Positions.{left_in_set, mark_places, marked_blank}
use Rattle.icet_collect.proofs.canvas.Canvas.mark.Goals as goal

pub overflow_sub-self : goal.overflow_sub-self
overflow_sub-self c =
    let s = c.self.inside in
    let inside : c.args.position < s.w * s.h = subst (λ v. c.args.position < v.w * v.h) (sym c.self.view_is) c.requires.inside in
    let free : get_or s.placed.items c.args.position false ≡ false = subst (λ v. get_or v.placed c.args.position false ≡ false) (sym c.self.view_is) c.requires.free in
    let less = left_in_set s.placed.items c.args.position (omega arith) free in
    omega arith

pub invariant_of-self : goal.invariant_of-self
invariant_of-self c =
    let s = c.self.inside in
    let inside : c.args.position < s.w * s.h = subst (λ v. c.args.position < v.w * v.h) (sym c.self.view_is) c.requires.inside in
    let free : get_or s.placed.items c.args.position false ≡ false = subst (λ v. get_or v.placed c.args.position false ≡ false) (sym c.self.view_is) c.requires.free in
    let less = left_in_set s.placed.items c.args.position (omega arith) free in
    record {
      canvas = record {
        most = c.self.invariant.canvas.most;
        strands = c.self.invariant.canvas.strands;
        places = length-set s.placed.items c.args.position true ∙ c.self.invariant.canvas.places;
        size = c.self.invariant.canvas.size;
      };
      count = omega arith;
      blank_left = marked_blank (λ k. place k (s.w * s.h) s.strands) (s.w * s.h) s.placed.items s.pixels.items c.args.position (omega arith) c.self.invariant.blank_left;
    }

pub returns-clause-places : goal.returns-clause-places
returns-clause-places c =
    let s = c.self.inside in
    let inside : c.args.position < s.w * s.h = subst (λ v. c.args.position < v.w * v.h) (sym c.self.view_is) c.requires.inside in
    let free : get_or s.placed.items c.args.position false ≡ false = subst (λ v. get_or v.placed c.args.position false ≡ false) (sym c.self.view_is) c.requires.free in
    rw (← c.self.view_is) (mark_places _ c.args.position None c.self.invariant.canvas inside refl free c.self.invariant.blank_left)
