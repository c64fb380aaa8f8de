-- Along a rising program a pair has at most one message in a round.
use Rattle.std.proofs.Common.{◌≡◌, ◌≢◌, ℕ, ◌*◌, Bool, true, false, cond, List, [], ◌∷◌, refl, sym, ap, ◌∙◌, arith, eqb-true}
use Rattle.std.specs.Prelude.{AllPairs}
use Rattle.std.specs.List.{AllByRecursion, All, filter}
use Rattle.std.proofs.lemmas.List.Kept.{AllPairs-cons}
use Rattle.std.proofs.lemmas.List.Elements.{All-nil, All-cons}
use Rattle.icet_model.specs.declared.exchange.Kind.{Kind}
use Rattle.icet_model.specs.declared.exchange.Kind.TheVariants.{Send, Take}
use Rattle.icet_model.specs.declared.exchange.Exchange.{Exchange}
use Rattle.icet_model.specs.Exchange.{key_of, key, is_send_of, sends_to, Follows, IsRising}
use Rattle.icet_plan.proofs.Lists.{all_filter}

-- both exchanges send to rank r and have different rounds
abbrev Differ : Exchange → Exchange → Type 0
Differ e f = e.round ≢ f.round

send_peer : (k : Kind) (peer r : ℕ) → is_send_of k peer r ≡ true → (peer ≡ r) × (k ≡ Send)
send_peer Send peer r h = (eqb-true peer r h, refl)
send_peer Take peer r h = absurd (cc)

send_key : (e : Exchange) → e.kind ≡ Send → key e ≡ 2 * e.round
send_key e h = ap (key_of e.round) h

differ : (r : ℕ) (e f : Exchange) → sends_to r e ≡ true → sends_to r f ≡ true → Follows e f → Differ e f
differ r e f h g w same =
    let he = send_peer e.kind e.peer r h in
    let hf = send_peer f.kind f.peer r g in
    let l = w.apart (he.0 ∙ sym hf.0) in
    omega (arith, l, send_key e he.1, send_key f hf.1, same)

all_by : {X : Type 0} (P : X → Type 0) (xs : List X) → AllByRecursion P xs → All P xs
all_by P [] h = All-nil P
all_by P (x ∷ xs) h = All-cons P x xs h.0 (all_by P xs h.1)

pub one_a_round : (r : ℕ) (es : List Exchange) → IsRising es → AllPairs (λ e f. e.round ≢ f.round) (filter (sends_to r) es)
one_a_round r [] h = λ i j d l m. absurd (omega arith)
one_a_round r (e ∷ es) h = go (sends_to r e) refl (one_a_round r es h.1)
  where
    go : (b : Bool) → sends_to r e ≡ b → AllPairs Differ (filter (sends_to r) es) → AllPairs Differ (cond b (e ∷ filter (sends_to r) es) (filter (sends_to r) es))
    go true p ih = AllPairs-cons Differ e (filter (sends_to r) es) (all_by (Differ e) (filter (sends_to r) es) (all_filter (Follows e) (Differ e) (sends_to r) (λ f g w. differ r e f p g w) es h.0)) ih
    go false p ih = ih
