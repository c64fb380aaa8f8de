-- The pairs of a hull: they are used, their ports are paired, and all used ones are among them.
use Rattle.std.proofs.Common.{◌≡◌, ◌≢◌, ℕ, ◌<◌, ◌≤◌, List, length, sym, ap, ◌∙◌, arith, Some, OnOk, IfOk}
use Rattle.std.specs.List.{slice_get}
use Rattle.std.specs.declared.result.Result.{Result}
use Rattle.std.specs.declared.result.Result.TheVariants.{Ok, Err}
use Rattle.std.proofs.lemmas.Option.{slice_get_within}
use Rattle.icet_rank.specs.Moves.{ArePaired}
use Rattle.icet_rank.specs.Machine.{MachineView}
use Rattle.icet_net.specs.Net.{HullView, IsHull}
use Rattle.icet_net.specs.Ranks.{machine_at, AreHulls, AreAllSynced}
use Rattle.icet_net.specs.Syncs.{AreSyncedBelow}
use Rattle.icet_net.proofs.PairPlaces.{IsUsed, is_used, used_apart, place_of_used}

-- what follows from what an Ok says
pub on_ok_then : {A B X Y : Type 0} (r : Result A B) → (X → Y) → OnOk r X → OnOk r Y
on_ok_then (Ok v) f h = f h
on_ok_then (Err e) f h = tt

pub if_ok_then : {A B : Type 0} (P Q : A → Type 0) (r : Result A B) → ((v : A) → P v → Q v) → IfOk r P → IfOk r Q
if_ok_then P Q (Ok v) f h = f v h
if_ok_then P Q (Err e) f h = tt

pub hull_used : (hull : HullView) (i : ℕ) (p : ℕ × ℕ) → IsHull hull → slice_get hull.pairs i ≡ Some p → IsUsed hull.plan p.0 p.1
hull_used hull i p is e = is_used hull.plan i p (ap (λ ps. slice_get ps i) (sym is.pairs) ∙ e)

pub hull_apart : (hull : HullView) (i : ℕ) (p : ℕ × ℕ) → IsHull hull → slice_get hull.pairs i ≡ Some p → p.0 ≢ p.1
hull_apart hull i p is e = used_apart hull.plan is.plan p.0 p.1 (hull_used hull i p is e).carries

module _ (hull : HullView) (machines : List MachineView) (i : ℕ) (p : ℕ × ℕ) (hulls : AreHulls hull machines) (is : IsHull hull) (at : slice_get hull.pairs i ≡ Some p) where
  pub hull_from : p.0 < length machines
  hull_from = let u = (hull_used hull i p is at).from in let e = hulls.count in omega (arith, u, e)

  pub hull_to : p.1 < length machines
  hull_to = let u = (hull_used hull i p is at).to in let e = hulls.count in omega (arith, u, e)

  pub hull_sender : (machine_at machines p.0).number ≡ p.0
  hull_sender = (hulls.each p.0 hull_from).number

  pub hull_receiver : (machine_at machines p.1).number ≡ p.1
  hull_receiver = (hulls.each p.1 hull_to).number

  pub hull_paired : (cap : ℕ) → cap ≡ hull.cap → ArePaired p.0 p.1 cap (machine_at machines p.0).outboxes (machine_at machines p.1).inboxes
  hull_paired cap e = let o = hulls.opened p.0 p.1 (hull_used hull i p is at).carries in record { pairing = o.pairing; out = o.out; inbox = o.inbox; cap_is = o.cap_is ∙ sym e }

-- once all pairs of the list have met, each used one has
pub all_met : (hull : HullView) (machines : List MachineView) (n : ℕ) → IsHull hull → length hull.pairs ≤ n → AreSyncedBelow n hull.cap hull.pairs machines → AreAllSynced hull machines
all_met hull machines n is l below = record {
  synced = λ q r used.
      let at = place_of_used hull.plan is.plan q r used in
      let there : slice_get hull.pairs at.place ≡ Some (q, r) = ap (λ ps. slice_get ps at.place) is.pairs ∙ at.is in
      below.each at.place (q, r) (let w = slice_get_within hull.pairs at.place (q, r) there in omega (arith, w, l)) there;
}
