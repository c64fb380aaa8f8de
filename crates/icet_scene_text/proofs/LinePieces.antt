-- Lines put one behind the other.
use Rattle.std.proofs.Common.{◌≡◌, ℕ, List, [], ◌∷◌, ◌++◌, map, Bool, codes, Result, Ok, Err, refl, sym, ap, ◌∙◌, subst, append-nil}
use Rattle.std.specs.Prelude.{◌||◌}
use Rattle.std.specs.List.{list_any}
use Rattle.icet_raster.specs.declared.shape.Shape.{Shape}
use Rattle.icet_raster.specs.Shapes.{drawing_of}
use Rattle.icet_scene.specs.Lines.{placed_of}
use Rattle.std.proofs.lemmas.List.Concat.{flat_map-append}
use Rattle.icet_model.specs.Streams.{SinkView}
use Rattle.icet_base.specs.PenText.{Puts}
use Rattle.icet_base.specs.declared.faults.WriteFault.{WriteFault}
use Rattle.icet_base.specs.declared.pen.Pen.{Pen}
use Rattle.icet_base.proofs.GrowingBytes.{puts_then, puts_failed}
use Rattle.icet_scene_model.specs.Printed.{is_span, line_of, lines_text}
use Rattle.icet_scene_model.specs.Scene.{Said}

module _ {K : Type 0} (told : K → SinkView) where
  pub lines_then : (a b c : Pen K) (r : Result (Unit {0}) WriteFault) (xs ys : List Said) → Puts told a b (Ok tt) (lines_text xs) → Puts told b c r (lines_text ys) → Puts told a c r (lines_text (xs ++ ys))
  lines_then a b c r xs ys p q = subst (Puts told a c r) (sym (flat_map-append (λ said. line_of said ++ codes "\n") xs ys)) (puts_then told a b c r (lines_text xs) (lines_text ys) p q)

  pub lines_failed : (a b : Pen K) (e : WriteFault) (xs ys : List Said) → Puts told a b (Err e) (lines_text xs) → Puts told a b (Err e) (lines_text (xs ++ ys))
  lines_failed a b e xs ys p = subst (Puts told a b (Err e)) (sym (flat_map-append (λ said. line_of said ++ codes "\n") xs ys)) (puts_failed told a b e (lines_text xs) (lines_text ys) p)

  -- a line by itself
  pub one_line : (a b : Pen K) (r : Result (Unit {0}) WriteFault) (said : Said) → Puts told a b r (line_of said ++ codes "\n") → Puts told a b r (lines_text (said ∷ []))
  one_line a b r said p = subst (Puts told a b r) (sym (append-nil (line_of said ++ codes "\n"))) p

any_drawn : (shapes : List (ℕ × Shape)) → list_any (λ placed. is_span placed.shape) (map placed_of shapes) ≡ list_any (λ shape. is_span (drawing_of shape.1)) shapes
any_drawn [] = refl
any_drawn (shape ∷ shapes) = ap (λ b. is_span (drawing_of shape.1) || b) (any_drawn shapes)

-- a span among the shapes as contracts see them is one among those of the code
pub any_placed : (shapes : List (ℕ × Shape)) (b : Bool) → b ≡ list_any (λ shape. is_span (drawing_of shape.1)) shapes → b ≡ list_any (λ placed. is_span placed.shape) (map placed_of shapes)
any_placed shapes b e = e ∙ sym (any_drawn shapes)
