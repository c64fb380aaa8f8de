-- Loops that put a piece for each element of a list.
use Rattle.std.proofs.Common.{◌≡◌, ℕ, zero, suc, ◌+◌, ◌<◌, ◌≤◌, List, [], ◌∷◌, length, map, take, get_or, Ok, Err, refl, sym, ap, ◌∙◌, subst}
use Rattle.std.specs.List.{flat_map}
use Rattle.std.specs.Prelude.{slice_get, unwrap_or, Some}
use Rattle.std.proofs.lemmas.Option.{unwrap_or-slice_get}
use Rattle.std.proofs.lemmas.List.{take_all}
use Rattle.std.proofs.lemmas.List.Folds.{flat_map-map}
use Rattle.icet_model.specs.Streams.{SinkView}
use Rattle.icet_base.specs.PenText.{Puts}
use Rattle.icet_base.specs.declared.faults.WriteFault.{WriteFault}
use Rattle.icet_base.specs.declared.pen.Pen.{Pen}
use Rattle.icet_base.proofs.PutPieces.{pieces_more, pieces_failed}

pub again : {X : Type 0} (xs : List X) (i : ℕ) (d : X) → get_or xs i (get_or xs i d) ≡ get_or xs i d
again [] i d = refl
again (x ∷ xs) zero d = refl
again (x ∷ xs) (suc i) d = again xs i d

pub stands_at : {X : Type 0} (xs : List X) (i : ℕ) (x d : X) → slice_get xs i ≡ Some x → get_or xs i d ≡ x
stands_at xs i x d is = sym (unwrap_or-slice_get xs i d) ∙ ap (λ o. unwrap_or o d) is

module _ {K X Y : Type 0} (told : K → SinkView) (f : Y → List ℕ) (v : X → Y) where
  -- the pieces of all elements, each seen as what `v` makes of it
  pub mapped_end : (a b : Pen K) (xs : List X) (i : ℕ) → length xs ≤ i → Puts told a b (Ok tt) (flat_map (λ x. f (v x)) (take i xs)) → Puts told a b (Ok tt) (flat_map f (map v xs))
  mapped_end a b xs i l p = subst (Puts told a b (Ok tt)) (ap (flat_map (λ x. f (v x))) (take_all i xs l) ∙ sym (flat_map-map f v xs)) p

  pub mapped_more : (a b c : Pen K) (xs : List X) (i : ℕ) (x : X) → i < length xs → get_or xs i x ≡ x → Puts told a b (Ok tt) (flat_map (λ x. f (v x)) (take i xs)) → Puts told b c (Ok tt) (f (v x)) → Puts told a c (Ok tt) (flat_map (λ x. f (v x)) (take (i + 1) xs))
  mapped_more a b c xs i x l at p q = pieces_more told a b c (λ x. f (v x)) xs i x l at p q

  pub mapped_failed : (a b c : Pen K) (e : WriteFault) (xs : List X) (i : ℕ) (x : X) → i < length xs → get_or xs i x ≡ x → Puts told a b (Ok tt) (flat_map (λ x. f (v x)) (take i xs)) → Puts told b c (Err e) (f (v x)) → Puts told a c (Err e) (flat_map f (map v xs))
  mapped_failed a b c e xs i x l at p q = subst (Puts told a c (Err e)) (sym (flat_map-map f v xs)) (pieces_failed told a b c e (λ x. f (v x)) xs i x l at p q)
