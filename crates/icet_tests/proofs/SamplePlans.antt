-- The small plan is a plan.
use Rattle.std.proofs.Common.{◌≡◌, ℕ, zero, suc, ◌<◌, ◌≤◌, Bool, true, false, cond, List, [], ◌∷◌, map, length, get_or, refl, arith, eq-eqb, ne_eqb}
use Rattle.std.specs.Prelude.{◌==◌, ◌&&◌, ◌||◌, not, nat_le, nat_lt}
use Rattle.std.specs.List.{AllByRecursion, filter}
use Rattle.std.proofs.lemmas.Bool.Decides.{nat_tests}
use mathlib.Core.Path.{fun_ext}
use Rattle.icet_model.specs.declared.bracket.Bracket.{Bracket}
use Rattle.icet_model.specs.declared.bracket.Bracket.TheVariants.{Empty, Leaf, Pair}
use Rattle.icet_model.specs.declared.exchange.Exchange.{Exchange}
use Rattle.icet_model.specs.Exchange.{key, heading, sends_to, takes_from, Follows, IsRising, exchanges}
use Rattle.icet_model.specs.Matched.{HasPeerIn}
use Rattle.icet_model.specs.Run.{MessageView, Local, put, fresh, run}
use Rattle.icet_model.specs.Flow.{Messages, program}
use Rattle.icet_model.specs.Fit.{AllFit}
use Rattle.icet_model.specs.Plan.{PlanView, IsPlan, has_place, bracket_carrier, bracket_flow}
use Rattle.icet_tests.specs.Plans.{two_swappers}
use Rattle.icet_plan.proofs.CarrierImages.{local_same}
use Rattle.icet_plan.proofs.Assemble.{DoesAll, plan_matched, plan_flow, plan_sound}

-- tests that compute on a program that is written out
abbrev follows : Exchange → Exchange → Bool
follows e f = nat_le (key e) (key f) && (not (e.peer == f.peer) || nat_lt (key e) (key f))

abbrev all : {X : Type 0} → (X → Bool) → List X → Bool
all p [] = true
all p (x ∷ xs) = p x && all p xs

abbrev rises : List Exchange → Bool
rises [] = true
rises (e ∷ es) = all (follows e) es && rises es

abbrev has_peer : ℕ → ℕ → Exchange → Bool
has_peer ranks me e = nat_lt e.peer ranks && not (e.peer == me)

and_first : (a b : Bool) → (a && b) ≡ true → a ≡ true
and_first true b h = refl
and_first false b h = absurd (cc)

and_second : (a b : Bool) → (a && b) ≡ true → b ≡ true
and_second true b h = h
and_second false b h = absurd (cc)

or_second : (a b : Bool) → a ≡ true → (not a || b) ≡ true → b ≡ true
or_second true b h k = k
or_second false b h k = absurd (cc)

not_false : (a : Bool) → not a ≡ true → a ≡ true → ⊥
not_false true h k = absurd (cc)
not_false false h k = absurd (cc)

at_most : (a b : ℕ) → nat_le a b ≡ true → a ≤ b
at_most a b h = grind (arith, nat_tests)

below : (a b : ℕ) → nat_lt a b ≡ true → a < b
below a b h = grind (arith, nat_tests)

all_hold : {X : Type 0} (p : X → Bool) (P : X → Type 0) → ((x : X) → p x ≡ true → P x) → (xs : List X) → all p xs ≡ true → AllByRecursion P xs
all_hold p P f [] h = tt
all_hold p P f (x ∷ xs) h = (f x (and_first (p x) (all p xs) h), all_hold p P f xs (and_second (p x) (all p xs) h))

follows_holds : (e f : Exchange) → follows e f ≡ true → Follows e f
follows_holds e f h = record {
  later = at_most (key e) (key f) (and_first (nat_le (key e) (key f)) (not (e.peer == f.peer) || nat_lt (key e) (key f)) h);
  apart = λ s. below (key e) (key f) (or_second (e.peer == f.peer) (nat_lt (key e) (key f)) (eq-eqb e.peer f.peer s) (and_second (nat_le (key e) (key f)) (not (e.peer == f.peer) || nat_lt (key e) (key f)) h));
}

rise : (es : List Exchange) → rises es ≡ true → IsRising es
rise [] h = tt
rise (e ∷ es) h = (all_hold (follows e) (Follows e) (follows_holds e) es (and_first (all (follows e) es) (rises es) h), rise es (and_second (all (follows e) es) (rises es) h))

peer_holds : (ranks me : ℕ) (e : Exchange) → has_peer ranks me e ≡ true → HasPeerIn ranks me e
peer_holds ranks me e h = record {
  within = below e.peer ranks (and_first (nat_lt e.peer ranks) (not (e.peer == me)) h);
  other = λ s. not_false (e.peer == me) (and_second (nat_lt e.peer ranks) (not (e.peer == me)) h) (eq-eqb e.peer me s);
}

far : (k x : ℕ) → k < x → (k == x) ≡ false
far k x l = ne_eqb k x (λ e. absurd (omega (arith, e, l)))

twice : {X : Type 0} (b : Bool) (xs ys : List X) → cond b xs (cond b ys []) ≡ cond b xs []
twice true xs ys = refl
twice false xs ys = refl

module _ (plan : PlanView) (ms : Messages Bracket) where
  abbrev ran : ℕ → Local Bracket
  ran r = run (bracket_carrier plan.tiles.sizes r) r (λ p. ms p r) (program plan.programs r) fresh

  -- each rank's own run fits, and sends and takes these messages
  record Runs : Type 0 where
    fits : (r : ℕ) → AllFit plan.tiles (bracket_carrier plan.tiles.sizes r) r (λ p. ms p r) (program plan.programs r) fresh
    sends : (r : ℕ) → (ran r).sent ≡ ms r
    takes : (r p : ℕ) → (ran r).used p ≡ length (ms p r)

  all_do : Runs → ((r : ℕ) → rises (exchanges (program plan.programs r)) ≡ true) → ((r : ℕ) → all (has_peer (length plan.programs) r) (exchanges (program plan.programs r)) ≡ true) → ((q r : ℕ) → map heading (filter (sends_to r) (exchanges (program plan.programs q))) ≡ map heading (filter (takes_from q) (exchanges (program plan.programs r)))) → DoesAll plan ms (λ r. (ran r).kept)
  all_do runs rising peers pairs = record {
    matched = record { rising = λ r. rise (exchanges (program plan.programs r)) (rising r); pairs = pairs };
    peers = λ r. all_hold (has_peer (length plan.programs) r) (HasPeerIn (length plan.programs) r) (peer_holds (length plan.programs) r) (exchanges (program plan.programs r)) (peers r);
    after = λ r. (ran r).slots;
    does = λ r. record {
      fits = runs.fits r;
      does = local_same (ran r) (record { slots = (ran r).slots; kept = (ran r).kept; sent = λ q. ms r q; used = λ p. length (ms p r) }) refl refl (runs.sends r) (fun_ext (λ p. runs.takes r p));
    };
  }

abbrev part_message : ℕ → ℕ → ℕ → ℕ → ℕ → ℕ → Bracket → MessageView Bracket
part_message round from to tile lo hi b = record { round = round; from = from; to = to; piece = record { tile = tile; lo = lo; hi = hi; content = b } }

abbrev pub messages_of_swappers : Messages Bracket
messages_of_swappers zero = put (λ r. []) 1 (part_message 1 0 1 0 1 2 (Leaf 0) ∷ [])
messages_of_swappers (suc zero) = put (λ r. []) 0 (part_message 1 1 0 0 0 1 (Leaf 1) ∷ part_message 2 1 0 0 1 2 (Pair (Leaf 0) (Leaf 1)) ∷ [])
messages_of_swappers (suc (suc q)) = λ r. []

two_swappers_runs : Runs two_swappers messages_of_swappers
two_swappers_runs = record { fits = fits; sends = sends; takes = takes }
  where
    fits : (r : ℕ) → AllFit two_swappers.tiles (bracket_carrier two_swappers.tiles.sizes r) r (λ p. messages_of_swappers p r) (program two_swappers.programs r) fresh
    fits zero = (omega arith, (((λ e. absurd (omega (arith, e))), (omega arith, omega arith)), (refl, ((omega arith, omega arith, omega arith), (((λ e. absurd (omega (arith, e))), refl), (refl, ((omega arith, omega arith, omega arith), (refl, tt))))))))
    fits (suc zero) = (omega arith, (((λ e. absurd (omega (arith, e))), (omega arith, omega arith)), (refl, ((omega arith, omega arith, omega arith), (((λ e. absurd (omega (arith, e))), refl), (refl, tt))))))
    fits (suc (suc r)) = tt

    sends : (r : ℕ) → (ran two_swappers messages_of_swappers r).sent ≡ messages_of_swappers r
    sends zero = refl
    sends (suc zero) = fun_ext (λ k. twice (0 == k) (messages_of_swappers 1 0) (part_message 1 1 0 0 0 1 (Leaf 1) ∷ []))
    sends (suc (suc r)) = refl

    takes : (r p : ℕ) → (ran two_swappers messages_of_swappers r).used p ≡ length (messages_of_swappers p r)
    takes zero zero = refl
    takes zero (suc zero) = refl
    takes zero (suc (suc p)) = simp (far 1 (suc (suc p)) (omega arith)) refl
    takes (suc zero) zero = refl
    takes (suc zero) (suc zero) = refl
    takes (suc zero) (suc (suc p)) = simp (far 0 (suc (suc p)) (omega arith)) refl
    takes (suc (suc r)) zero = simp (far 1 (suc (suc r)) (omega arith)) refl
    takes (suc (suc r)) (suc zero) = simp (far 0 (suc (suc r)) (omega arith)) refl
    takes (suc (suc r)) (suc (suc p)) = refl

two_swappers_do : DoesAll two_swappers messages_of_swappers (λ r. (ran two_swappers messages_of_swappers r).kept)
two_swappers_do = all_do two_swappers messages_of_swappers two_swappers_runs rising peers pairs
  where
    rising : (r : ℕ) → rises (exchanges (program two_swappers.programs r)) ≡ true
    rising zero = refl
    rising (suc zero) = refl
    rising (suc (suc r)) = refl

    peers : (r : ℕ) → all (has_peer 2 r) (exchanges (program two_swappers.programs r)) ≡ true
    peers zero = refl
    peers (suc zero) = refl
    peers (suc (suc r)) = refl

    pairs : (q r : ℕ) → map heading (filter (sends_to r) (exchanges (program two_swappers.programs q))) ≡ map heading (filter (takes_from q) (exchanges (program two_swappers.programs r)))
    pairs zero zero = refl
    pairs zero (suc zero) = refl
    pairs zero (suc (suc r)) = simp (far 1 (suc (suc r)) (omega arith)) refl
    pairs (suc zero) zero = refl
    pairs (suc zero) (suc zero) = refl
    pairs (suc zero) (suc (suc r)) = simp (far 0 (suc (suc r)) (omega arith)) refl
    pairs (suc (suc q)) zero = simp (far 1 (suc (suc q)) (omega arith)) refl
    pairs (suc (suc q)) (suc zero) = simp (far 0 (suc (suc q)) (omega arith)) refl
    pairs (suc (suc q)) (suc (suc r)) = refl

pub two_swappers_plan : IsPlan two_swappers
two_swappers_plan = record {
  formed = record { displays = refl; brackets = refl; shown = (omega arith, tt) };
  matched = plan_matched two_swappers messages_of_swappers (λ r. (ran two_swappers messages_of_swappers r).kept) two_swappers_do;
  sound = plan_sound two_swappers messages_of_swappers (λ r. (ran two_swappers messages_of_swappers r).kept) two_swappers_do once carries;
}
  where
    once : (t i : ℕ) → t < 1 → i < get_or two_swappers.tiles.sizes t 0 → length (filter (has_place t i) (ran two_swappers messages_of_swappers (get_or two_swappers.tiles.displays t 0)).kept) ≡ 1
    once zero zero l m = refl
    once zero (suc zero) l m = refl
    once zero (suc (suc i)) l m = absurd (omega arith)
    once (suc t) i l m = absurd (omega arith)

    carries : (r : ℕ) → AllByRecursion (λ p. get_or two_swappers.brackets p.tile Empty ≡ p.content) (ran two_swappers messages_of_swappers r).kept
    carries zero = (refl, (refl, tt))
    carries (suc zero) = tt
    carries (suc (suc r)) = tt
