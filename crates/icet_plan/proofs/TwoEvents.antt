-- Events of two enabled ranks in either order.
use Rattle.std.proofs.Common.{◌≡◌, ℕ, List, arith, sym}
use Rattle.std.specs.Prelude.{◌≢◌}
use Rattle.icet_model.specs.declared.exchange.Exchange.{Exchange}
use Rattle.icet_model.specs.Core.{IsLawful, IsEnabled, after}
use Rattle.icet_plan.proofs.CoreLaws.{stays, either_order, due_ranked}

pub stays_enabled : (all : List (List Exchange)) (cap : ℕ) (now : List ℕ) (q r : ℕ) → IsLawful all cap now → q ≢ r → IsEnabled all cap now q → IsEnabled all cap now r → IsEnabled all cap (after now q) r
stays_enabled all cap now q r lawful n a b = stays all cap now lawful q a r (λ e. n (sym e)) b

pub same_state : (all : List (List Exchange)) (cap : ℕ) (now : List ℕ) (q r : ℕ) → IsLawful all cap now → q ≢ r → IsEnabled all cap now q → IsEnabled all cap now r → after (after now q) r ≡ after (after now r) q
same_state all cap now q r lawful n a b =
    either_order now q r n (omega (arith, lawful.ranks, due_ranked all now q a.exchange a.is_due)) (omega (arith, lawful.ranks, due_ranked all now r b.exchange b.is_due))
