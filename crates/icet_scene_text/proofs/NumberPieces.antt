-- Numbers put one behind the other.
use Rattle.std.proofs.Common.{◌≡◌, List, [], ◌∷◌, ◌++◌, Result, Ok, Err, refl, sym, ap, ◌∙◌, subst}
use Rattle.std.specs.List.{flat_map}
use Rattle.std.proofs.lemmas.List.Concat.{flat_map-append}
use Rattle.icet_model.specs.Streams.{SinkView}
use Rattle.icet_text.specs.declared.field.Number.{Number}
use Rattle.icet_base.specs.PenText.{Puts}
use Rattle.icet_base.specs.declared.faults.WriteFault.{WriteFault}
use Rattle.icet_base.specs.declared.pen.Pen.{Pen}
use Rattle.icet_base.proofs.GrowingBytes.{puts_then, puts_failed}
use Rattle.icet_scene_model.specs.Printed.{spaced}

module _ {K : Type 0} (told : K → SinkView) where
  pub numbers_then : (a b c : Pen K) (r : Result (Unit {0}) WriteFault) (ms ns : List Number) → Puts told a b (Ok tt) (flat_map spaced ms) → Puts told b c r (flat_map spaced ns) → Puts told a c r (flat_map spaced (ms ++ ns))
  numbers_then a b c r ms ns p q = subst (Puts told a c r) (sym (flat_map-append spaced ms ns)) (puts_then told a b c r (flat_map spaced ms) (flat_map spaced ns) p q)

  pub numbers_failed : (a b : Pen K) (e : WriteFault) (ms ns : List Number) → Puts told a b (Err e) (flat_map spaced ms) → Puts told a b (Err e) (flat_map spaced (ms ++ ns))
  numbers_failed a b e ms ns p = subst (Puts told a b (Err e)) (sym (flat_map-append spaced ms ns)) (puts_failed told a b e (flat_map spaced ms) (flat_map spaced ns) p)

-- pieces of pieces
pub flat_map_twice : {X Y Z : Type 0} (f : Y → List Z) (g : X → List Y) (xs : List X) → flat_map f (flat_map g xs) ≡ flat_map (λ x. flat_map f (g x)) xs
flat_map_twice f g [] = refl
flat_map_twice f g (x ∷ xs) = flat_map-append f (g x) (flat_map g xs) ∙ ap (λ zs. flat_map f (g x) ++ zs) (flat_map_twice f g xs)
