-- Sends counted by receiver, one exchange more.
use Rattle.std.proofs.Common.{◌≡◌, ℕ, zero, suc, ◌+◌, ◌<◌, ◌≤◌, Bool, true, false, cond, List, [], ◌∷◌, length, take, ap, ◌∙◌, arith, Some, add-one}
use Rattle.std.specs.Prelude.{filter}
use Rattle.std.specs.List.{slice_get}
use Rattle.icet_model.specs.declared.exchange.Exchange.{Exchange}
use Rattle.std.proofs.lemmas.List.{length-map}
use Rattle.icet_model.specs.Exchange.{sends_to, of_rank, exchanges}
use Rattle.icet_model.specs.Matched.{HasPeerIn}
use Rattle.icet_model.specs.Plan.{PlanView, IsPlan, plan_exchanges}
use Rattle.icet_plan.proofs.Lists.{all_get}
use Rattle.icet_net.specs.Counting.{sent_in}

pub few_in_front : (i : ℕ) (es : List Exchange) (r : ℕ) → sent_in (take i es) r ≤ i
few_in_front zero es r = omega arith
few_in_front (suc i) [] r = omega arith
few_in_front (suc i) (e ∷ es) r = go (sends_to r e) (few_in_front i es r)
  where
    go : (b : Bool) → sent_in (take i es) r ≤ i → length (cond b (e ∷ filter (sends_to r) (take i es)) (filter (sends_to r) (take i es))) ≤ suc i
    go true h = omega (arith, h)
    go false h = omega (arith, h)

sent_next : (es : List Exchange) (i : ℕ) (e : Exchange) (r : ℕ) → slice_get es i ≡ Some e → sent_in (take (suc i) es) r ≡ sent_in (take i es) r + sent_in (e ∷ []) r
sent_next [] i e r h = absurd (cc)
sent_next (x ∷ xs) zero e r h = let s : x ≡ e = cc in ap (λ z. sent_in (z ∷ []) r) s ∙ (let n = sent_in (e ∷ []) r in omega arith)
sent_next (x ∷ xs) (suc i) e r h = go (sends_to r x) (sent_next xs i e r h)
  where
    go : (b : Bool) → sent_in (take (suc i) xs) r ≡ sent_in (take i xs) r + sent_in (e ∷ []) r → length (cond b (x ∷ filter (sends_to r) (take (suc i) xs)) (filter (sends_to r) (take (suc i) xs))) ≡ length (cond b (x ∷ filter (sends_to r) (take i xs)) (filter (sends_to r) (take i xs))) + sent_in (e ∷ []) r
    go true k = omega (arith, k)
    go false k = k

pub sent_more : (es : List Exchange) (i : ℕ) (e : Exchange) (r : ℕ) → slice_get es i ≡ Some e → sent_in (take (i + 1) es) r ≡ sent_in (take i es) r + sent_in (e ∷ []) r
sent_more es i e r h = ap (λ n. sent_in (take n es) r) (add-one i) ∙ sent_next es i e r h

-- the peer of an exchange of the plan is a rank of it
pub peer_within : (plan : PlanView) (q i : ℕ) (e : Exchange) → IsPlan plan → slice_get (of_rank (plan_exchanges plan) q) i ≡ Some e → e.peer < length plan.programs
peer_within plan q i e is h = let p = (all_get (HasPeerIn (length (plan_exchanges plan)) q) (of_rank (plan_exchanges plan) q) i e h (is.matched.peers q)).within in let n = length-map plan.programs exchanges in omega (arith, p, n)
