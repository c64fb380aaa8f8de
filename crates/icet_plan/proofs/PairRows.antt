-- Pairs of ranks in one list have places of their own.
use Rattle.std.proofs.Common.{◌≡◌, ℕ, ◌+◌, ◌*◌, ◌/◌, ◌%◌, ◌<◌, List, length, get_or, set, refl, sym, ap, ◌∙◌, arith, ⊎_elim}
use Rattle.std.specs.Prelude.{◌⊎◌, ◌≢◌}
use Rattle.std.proofs.lemmas.Nat.{div-mul-add, mod-mul-add, mul-add-lt}
use Rattle.std.proofs.lemmas.List.{get_or-set_same, get_or-set_other}
use Rattle.icet_plan.specs.Pairs.{Raised}

apart : (n a b q r : ℕ) → b < n → r < n → (q ≢ a) ⊎ (r ≢ b) → q * n + r ≢ a * n + b
apart n a b q r lb lr h e =
    ⊎_elim
    (λ (d : q ≢ a). d (sym (div-mul-add q n r lr) ∙ (ap (λ x. x / n) e ∙ div-mul-add a n b lb)))
    (λ (d : r ≢ b). d (sym (mod-mul-add q n r lr) ∙ (ap (λ x. x % n) e ∙ mod-mul-add a n b lb)))
    h

pub raised : (n a b : ℕ) (xs : List ℕ) → a < n → b < n → length xs ≡ n * n → Raised (record { ranks = n; counts = xs }) (record { ranks = n; counts = set xs (a * n + b) (get_or xs (a * n + b) 0 + 1) }) a b
raised n a b xs la lb e = record {
  same_ranks = refl;
  here = get_or-set_same xs (a * n + b) (get_or xs (a * n + b) 0 + 1) 0 (omega (arith, e, mul-add-lt a n b n la lb));
  elsewhere = λ q r lq lr h. get_or-set_other xs (a * n + b) (q * n + r) (get_or xs (a * n + b) 0 + 1) 0 (apart n a b q r lb lr h);
}
