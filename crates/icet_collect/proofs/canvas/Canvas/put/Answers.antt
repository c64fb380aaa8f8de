use Rattle.std.proofs.Common.{◌≡◌, ◌<◌, ◌*◌, false, true, get_or, subst, sym, ◌∙◌, length-set, Some, arith}
use Rattle.icet_interlace.specs.Interlace.{place}
use Rattle.icet_collect.specs.Collect.{position_of}
use Rattle.icet_collect.proofs.Positions.{left_in_set, put_places, still_blank}
use Rattle.icet_collect.proofs.canvas.Canvas.put.Goals as goal

pub overflow_sub-self : goal.overflow_sub-self
overflow_sub-self c =
    let s = c.self.inside in
    let inside : c.args.position < s.w * s.h = subst (λ v. c.args.position < v.w * v.h) (sym c.self.view_is) c.requires.inside in
    let free : get_or s.placed.items c.args.position false ≡ false = subst (λ v. get_or v.placed c.args.position false ≡ false) (sym c.self.view_is) c.requires.free in
    let less = left_in_set s.placed.items c.args.position (omega arith) free in
    omega arith

pub invariant_of-self : goal.invariant_of-self
invariant_of-self c =
    let s = c.self.inside in
    let inside : c.args.position < s.w * s.h = subst (λ v. c.args.position < v.w * v.h) (sym c.self.view_is) c.requires.inside in
    let free : get_or s.placed.items c.args.position false ≡ false = subst (λ v. get_or v.placed c.args.position false ≡ false) (sym c.self.view_is) c.requires.free in
    let own : place c.pixel_of-i.result (s.w * s.h) s.strands ≡ c.args.position = subst (λ v. position_of v c.pixel_of-i.result ≡ c.args.position) (sym c.self.view_is) c.pixel_of-i.ensures.place in
    let less = left_in_set s.placed.items c.args.position (omega arith) free in
    record {
      canvas = record {
        most = c.self.invariant.canvas.most;
        strands = c.self.invariant.canvas.strands;
        places = length-set s.placed.items c.args.position true ∙ c.self.invariant.canvas.places;
        size = length-set s.pixels.items c.pixel_of-i.result (Some c.args.fragment) ∙ c.self.invariant.canvas.size;
      };
      count = omega arith;
      blank_left = still_blank (λ k. place k (s.w * s.h) s.strands) (s.w * s.h) s.placed.items s.pixels.items c.args.position c.pixel_of-i.result (Some c.args.fragment) (omega arith) own c.self.invariant.blank_left;
    }

pub returns-clause-places : goal.returns-clause-places
returns-clause-places c =
    let s = c.self.inside in
    let inside : c.args.position < s.w * s.h = subst (λ v. c.args.position < v.w * v.h) (sym c.self.view_is) c.requires.inside in
    let within : c.pixel_of-i.result < s.w * s.h = subst (λ v. c.pixel_of-i.result < v.w * v.h) (sym c.self.view_is) c.pixel_of-i.ensures.within in
    let own : place c.pixel_of-i.result (s.w * s.h) s.strands ≡ c.args.position = subst (λ v. position_of v c.pixel_of-i.result ≡ c.args.position) (sym c.self.view_is) c.pixel_of-i.ensures.place in
    rw (← c.self.view_is) (put_places _ c.args.position (Some c.args.fragment) c.self.invariant.canvas inside c.pixel_of-i.result within own)
