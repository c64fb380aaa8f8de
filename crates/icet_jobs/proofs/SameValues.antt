-- Images that agree on a bracket's leaves, each at a position of its own, give it the same value there.
use Rattle.std.proofs.Common.{◌≡◌, ℕ, zero, suc, ◌+◌, ◌<◌, Bool, true, false, cond, List, [], ◌∷◌, ◌++◌, get_or, filter, None, refl, ap, ◌∙◌, arith}
use Rattle.std.specs.List.{AllByRecursion, range_with_len}
use Rattle.icet_model.specs.declared.names.Mode.{Mode}
use Rattle.icet_model.specs.declared.bracket.Bracket.{Bracket, Empty, Leaf, Pair', more_of-Bracket}
use Rattle.icet_model.specs.Pixel.{joined}
use Rattle.icet_model.specs.Bracket.{Images, leaves, value}

split : {X : Type 0} (P : X → Type 0) (xs ys : List X) → AllByRecursion P (xs ++ ys) → AllByRecursion P xs × AllByRecursion P ys
split P [] ys h = (tt, h)
split P (x ∷ xs) ys h = let rest = split P xs ys h.1 in ((h.0, rest.0), rest.1)

pub same_value : (mode : Mode) (one other : Images) (b : Bracket) (t u i j : ℕ) → AllByRecursion (λ r. get_or (one r t) i None ≡ get_or (other r u) j None) (leaves b) → value mode one b t i ≡ value mode other b u j
same_value mode one other Empty t u i j h = refl
same_value mode one other (Leaf r) t u i j h = h.0
same_value mode one other (Pair' s (more_of-Bracket f x) v (more_of-Bracket b w)) t u i j h =
    let parts = split (λ r. get_or (one r t) i None ≡ get_or (other r u) j None) (leaves f) (leaves b) h in
    ap (λ p. joined mode p (value mode one b t i)) (same_value mode one other f t u i j parts.0)
    ∙ ap (joined mode (value mode other f u j)) (same_value mode one other b t u i j parts.1)
