-- The box of shapes holds each of them and lies in whatever does.
use Rattle.std.proofs.Common.{◌≡◌, ℕ, ℤ, pos, negsuc, ◌+ℤ◌, ◌-ℤ◌, unsigned_abs, ◌≤ℤ◌, List, [], ◌∷◌, ◌↔◌, refl, sym, ap, ◌∙◌, subst, arith, Option, Some, None}
use Rattle.std.specs.Prelude.{fold, All, IfSome}
use Rattle.std.specs.Int.{int_gap, int_max, int_min}
use Rattle.std.proofs.lemmas.Int.{ints, clamps}
use Rattle.std.proofs.lemmas.List.Elements.{All-nil, All-cons, All-head, All-tail}
use Rattle.icet_model.specs.declared.names.Rect.{Rect}
use Rattle.icet_scene_model.specs.Boxes.{right_of, bottom_of, hull, hull_of, bounds, box, HoldsBox}
use Rattle.icet_scene_model.specs.Raster.{Drawing}

-- a range that begins no later than it ends, by its length
pub end_is : (a b : ℤ) → a ≤ℤ b → a +ℤ pos (int_gap a b) ≡ b
end_is (pos a) (pos b) h = omega (arith, ints)
end_is (pos a) (negsuc b) h = omega (arith, ints)
end_is (negsuc a) (pos b) h = omega (arith, ints)
end_is (negsuc a) (negsuc b) h = omega (arith, ints)

-- the distance of its ends is its length
pub gap_is : (a b : ℤ) → a ≤ℤ b → unsigned_abs (b -ℤ a) ≡ int_gap a b
gap_is (pos a) (pos b) h = omega (arith, ints)
gap_is (pos a) (negsuc b) h = omega (arith, ints)
gap_is (negsuc a) (pos b) h = omega (arith, ints)
gap_is (negsuc a) (negsuc b) h = omega (arith, ints)

-- the hull of two ranges ends where the later of them ends
hull_end : (a b : ℤ) (m n : ℕ) → int_min a b +ℤ pos (int_gap (int_min a b) (int_max (a +ℤ pos m) (b +ℤ pos n))) ≡ int_max (a +ℤ pos m) (b +ℤ pos n)
hull_end a b m n = end_is (int_min a b) (int_max (a +ℤ pos m) (b +ℤ pos n)) (omega (arith, ints, clamps))

pub right-hull : (one other : Rect) → right_of (hull one other) ≡ int_max (right_of one) (right_of other)
right-hull one other = hull_end one.x other.x one.w other.w

pub bottom-hull : (one other : Rect) → bottom_of (hull one other) ≡ int_max (bottom_of one) (bottom_of other)
bottom-hull one other = hull_end one.y other.y one.h other.h

holds_itself : (rect : Rect) → HoldsBox rect (Some rect)
holds_itself rect = (omega (arith, ints), omega (arith, ints), omega (arith, ints), omega (arith, ints))

-- what holds the hull holds both
holds_both : (rect one other : Rect) → HoldsBox rect (Some (hull one other)) → HoldsBox rect (Some one) × HoldsBox rect (Some other)
holds_both rect one other h =
    let right = right-hull one other in
    let bottom = bottom-hull one other in
    let a = h.0 in
    let b = h.1 in
    let c = h.2 in
    let d = h.3 in
    ((omega (arith, ints, clamps), omega (arith, ints, clamps), omega (arith, ints, clamps), omega (arith, ints, clamps)), (omega (arith, ints, clamps), omega (arith, ints, clamps), omega (arith, ints, clamps), omega (arith, ints, clamps)))

-- and what holds both holds the hull
holds_hull : (rect one other : Rect) → HoldsBox rect (Some one) → HoldsBox rect (Some other) → HoldsBox rect (Some (hull one other))
holds_hull rect one other g h =
    let right = right-hull one other in
    let bottom = bottom-hull one other in
    let a = g.0 in
    let b = g.1 in
    let c = g.2 in
    let d = g.3 in
    let e = h.0 in
    let i = h.1 in
    let j = h.2 in
    let k = h.3 in
    (omega (arith, ints, clamps), omega (arith, ints, clamps), omega (arith, ints, clamps), omega (arith, ints, clamps))

-- the same where one or both may be missing
holds_parts : (rect : Rect) (one other : Option Rect) → HoldsBox rect (hull_of one other) → HoldsBox rect one × HoldsBox rect other
holds_parts rect None other h = (tt, h)
holds_parts rect (Some one) None h = (h, tt)
holds_parts rect (Some one) (Some other) h = holds_both rect one other h

holds_joint : (rect : Rect) (one other : Option Rect) → HoldsBox rect one → HoldsBox rect other → HoldsBox rect (hull_of one other)
holds_joint rect None other g h = h
holds_joint rect (Some one) None g h = g
holds_joint rect (Some one) (Some other) g h = holds_hull rect one other g h

-- the box of further shapes around what was there before
abbrev pub box_from : Option Rect → List Drawing → Option Rect
box_from start shapes = fold (λ before shape. hull_of before (bounds shape)) start shapes

-- it holds what was there before and every shape
holds_all : (shapes : List Drawing) (start : Option Rect) (rect : Rect) → box_from start shapes ≡ Some rect → HoldsBox rect start × All (λ drawing. HoldsBox rect (bounds drawing)) shapes
holds_all [] start rect e = (subst (HoldsBox rect) (sym e) (holds_itself rect), All-nil (λ drawing. HoldsBox rect (bounds drawing)))
holds_all (shape ∷ shapes) start rect e =
    let rest = holds_all shapes (hull_of start (bounds shape)) rect e in
    let parts = holds_parts rect start (bounds shape) rest.0 in
    (parts.0, All-cons (λ drawing. HoldsBox rect (bounds drawing)) shape shapes parts.1 rest.1)

-- and lies in whatever holds these
least_of_all : (shapes : List Drawing) (start : Option Rect) (other : Rect) → HoldsBox other start → All (λ drawing. HoldsBox other (bounds drawing)) shapes → HoldsBox other (box_from start shapes)
least_of_all [] start other h all = h
least_of_all (shape ∷ shapes) start other h all =
    let P : Drawing → Type 0 = λ drawing. HoldsBox other (bounds drawing) in
    least_of_all shapes (hull_of start (bounds shape)) other (holds_joint other start (bounds shape) h (All-head P shape shapes all)) (All-tail P shape shapes all)

none_parts : (one other : Option Rect) → hull_of one other ≡ None → (one ≡ None) × (other ≡ None)
none_parts None other e = (refl, e)
none_parts (Some one) None e = cc
none_parts (Some one) (Some other) e = cc

-- it is missing exactly where nothing was there before and no shape has a box
all_none : (shapes : List Drawing) (start : Option Rect) → box_from start shapes ≡ None → (start ≡ None) × All (λ drawing. bounds drawing ≡ None) shapes
all_none [] start e = (e, All-nil (λ drawing. bounds drawing ≡ None))
all_none (shape ∷ shapes) start e =
    let rest = all_none shapes (hull_of start (bounds shape)) e in
    let parts = none_parts start (bounds shape) rest.0 in
    (parts.0, All-cons (λ drawing. bounds drawing ≡ None) shape shapes parts.1 rest.1)

none_from_all : (shapes : List Drawing) → All (λ drawing. bounds drawing ≡ None) shapes → box_from None shapes ≡ None
none_from_all [] all = refl
none_from_all (shape ∷ shapes) all =
    let P : Drawing → Type 0 = λ drawing. bounds drawing ≡ None in
    ap (λ start. box_from start shapes) (All-head P shape shapes all) ∙ none_from_all shapes (All-tail P shape shapes all)

pub box_none : (answer : Option Rect) (shapes : List Drawing) → answer ≡ box shapes → (answer ≡ None) ↔ All (λ drawing. bounds drawing ≡ None) shapes
box_none answer shapes e = (λ none. (all_none shapes None (sym e ∙ none)).1, λ all. e ∙ none_from_all shapes all)

pub box_holds : (answer : Option Rect) (shapes : List Drawing) → answer ≡ box shapes → IfSome answer (λ rect. All (λ drawing. HoldsBox rect (bounds drawing)) shapes)
box_holds None shapes e = tt
box_holds (Some rect) shapes e = (holds_all shapes None rect (sym e)).1

pub box_least : (answer : Option Rect) (shapes : List Drawing) → answer ≡ box shapes → IfSome answer (λ rect. (other : Rect) → All (λ drawing. HoldsBox other (bounds drawing)) shapes → HoldsBox other (Some rect))
box_least None shapes e = tt
box_least (Some rect) shapes e = λ other all. subst (HoldsBox other) (sym e) (least_of_all shapes None other tt all)
