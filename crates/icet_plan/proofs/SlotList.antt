-- A write to one slot of a list is a change of one value of its function.
use Rattle.std.proofs.Common.{◌≡◌, ℕ, ◌<◌, Bool, true, false, cond, List, length, get_or, set, refl, sym, ap, ◌∙◌, Option, None, eqb-true}
use Rattle.std.proofs.lemmas.List.{get_or-set_same, get_or-set_other}
use Rattle.std.proofs.lemmas.Bool.{eqb-false}
use Rattle.std.specs.Prelude.{◌==◌}
use mathlib.Core.Path.{fun_ext}
use Rattle.icet_model.specs.Run.{put}
use Rattle.icet_model.specs.Ports.{at_list}

pub list_set : {V : Type 0} (slots : List (Option V)) (i : ℕ) (v : Option V) → i < length slots → at_list (set slots i v) ≡ put (at_list slots) i v
list_set {V} slots i v l = fun_ext (λ k. go k (i == k) refl)
  where
    go : (k : ℕ) (b : Bool) → (i == k) ≡ b → get_or (set slots i v) k None ≡ cond b v (get_or slots k None)
    go k true h = ap (λ z. get_or (set slots i v) z None) (sym (eqb-true i k h)) ∙ get_or-set_same slots i v None l
    go k false h = get_or-set_other slots i k v None (λ e. eqb-false i k h (sym e))
