-- What holds of all plans and of all interleavings of their ranks, said as types.
use Rattle.std.specs.Prelude.{◌≡◌, ◌≢◌, ◌≤◌, ℕ, List, length, get_or, map}
use Rattle.icet_model.specs.declared.names.Mode.{Mode}
use Rattle.icet_model.specs.declared.bracket.Bracket.{Bracket}
use Rattle.icet_model.specs.declared.exchange.Exchange.{Exchange}
use Rattle.icet_model.specs.declared.exchange.Op.{Op}
use Rattle.icet_model.specs.Exchange.{exchanges, of_rank}
use Rattle.icet_model.specs.Matched.{IsMatched}
use Rattle.icet_model.specs.Run.{Carrier}
use Rattle.icet_model.specs.Flow.{Messages, IsFlow, program, flow}
use Rattle.icet_model.specs.Bracket.{Images}
use Rattle.icet_model.specs.Plan.{PlanView, IsSound, plan_exchanges, pixel_carrier, AreWhole}
use Rattle.icet_model.specs.Traffic.{pixel_messages}
use Rattle.icet_model.specs.Core.{IsLawful, HasLeft, SomeEnabled, IsEnabled, Reaches, AreEnabled, AllDone, start, after, after_all, total, made}

-- no stuck state: in a lawful state in which some rank has an exchange left, some rank is enabled
abbrev pub NoStateIsStuck : Type 0
NoStateIsStuck = (all : List (List Exchange)) (cap : ℕ) (now : List ℕ) → 1 ≤ cap → IsMatched all → IsLawful all cap now → HasLeft all now → SomeEnabled all cap now

-- of two enabled ranks each stays enabled after the other's event
abbrev pub EventsStayEnabled : Type 0
EventsStayEnabled =
    (all : List (List Exchange)) (cap : ℕ) (now : List ℕ) (q r : ℕ) → IsLawful all cap now → q ≢ r
    → IsEnabled all cap now q → IsEnabled all cap now r → IsEnabled all cap (after now q) r

-- the events of two enabled ranks end in one state in either order
abbrev pub EventsCommute : Type 0
EventsCommute =
    (all : List (List Exchange)) (cap : ℕ) (now : List ℕ) (q r : ℕ) → IsLawful all cap now → q ≢ r
    → IsEnabled all cap now q → IsEnabled all cap now r → after (after now q) r ≡ after (after now r) q

-- events that finish all ranks are as many as the plan has exchanges, and each rank makes its own in order
pub record MakesAll (all : List (List Exchange)) (events : List ℕ) : Type 0 where
  pub count : length events ≡ total all
  pub in_order : (r : ℕ) → made all (start all) events r ≡ of_rank all r

abbrev pub EachRunMakesAll : Type 0
EachRunMakesAll =
    (all : List (List Exchange)) (cap : ℕ) (events : List ℕ) → AreEnabled all cap (start all) events
    → AllDone all (after_all (start all) events) → MakesAll all events

-- from each lawful state to each in which no counter is lower there are enabled events
abbrev pub LawfulStatesReachLater : Type 0
LawfulStatesReachLater =
    (all : List (List Exchange)) (cap : ℕ) (now then : List ℕ) → 1 ≤ cap → IsMatched all → IsLawful all cap now → IsLawful all cap then
    → ((r : ℕ) → get_or now r 0 ≤ get_or then r 0) → Reaches all cap now then

-- the flow of matched programs comes out as it goes in
abbrev pub FlowsAreFlows : Type 0
FlowsAreFlows = (c : ℕ → Carrier Bracket) (programs : List (List Op)) → IsMatched (map exchanges programs) → IsFlow c (program programs) (flow c programs)

-- and no other messages do
abbrev pub FlowIsOne : Type 0
FlowIsOne =
    (c : ℕ → Carrier Bracket) (programs : List (List Op)) (ms : Messages Bracket) → IsMatched (map exchanges programs)
    → IsFlow c (program programs) ms → (q r : ℕ) → ms q r ≡ flow c programs q r

-- with pixels in place of brackets the flow has the same messages, each with the values of its bracket
abbrev pub FlowOfPixelsIsTraffic : Type 0
FlowOfPixelsIsTraffic =
    (mode : Mode) (plan : PlanView) (images : Images) → IsMatched (plan_exchanges plan) → IsSound plan → AreWhole plan.tiles images
    → (q r : ℕ) → flow (λ me. pixel_carrier mode plan.tiles.sizes (images me)) plan.programs q r ≡ pixel_messages mode plan images q r
