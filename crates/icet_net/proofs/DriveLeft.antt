-- A turn after a sync leaves fewer exchanges, or all ranks done.
use Rattle.std.proofs.Common.{◌≡◌, ℕ, zero, suc, ◌-◌, ◌<◌, ◌≤◌, List, [], ◌∷◌, length, ap, arith, ◌⊎◌, ⊎_elim}
use Rattle.std.proofs.lemmas.List.{length-map}
use Rattle.std.proofs.lemmas.Option.{slice_get_within}
use Rattle.icet_model.specs.Exchange.{exchanges}
use Rattle.icet_model.specs.Plan.{plan_exchanges}
use Rattle.icet_model.specs.Core.{HasLeft}
use Rattle.icet_plan.proofs.CoreLaws.{some_enabled}
use Rattle.icet_rank.specs.Machine.{MachineView}
use Rattle.icet_net.specs.Net.{HullView, IsHull}
use Rattle.icet_net.specs.Ranks.{machine_at, counters, AreHulls, AreAllSynced, IsOnCourse, EachRank, GoesOn, MetOthers, HadTurn}
use Rattle.icet_net.specs.Syncs.{AreRunning}
use Rattle.icet_net.specs.Drives.{left_of, SomeUndone}
use Rattle.icet_net.proofs.DriveReady.{is_ready, counter_is, ops_are}

-- how many exchanges one machine has left
abbrev left_at : MachineView → ℕ
left_at m = length (exchanges m.ops) - m.counter

module _ where
  no_more : (xs ys : List MachineView) → length ys ≡ length xs → ((r : ℕ) → r < length xs → left_at (machine_at ys r) ≤ left_at (machine_at xs r)) → left_of ys ≤ left_of xs
  no_more [] [] e h = omega arith
  no_more [] (y ∷ ys) e h = absurd (omega arith)
  no_more (x ∷ xs) [] e h = absurd (omega arith)
  no_more (x ∷ xs) (y ∷ ys) e h = omega (arith, h 0 (omega arith), no_more xs ys (omega arith) (λ r l. h (suc r) (omega arith)))

  less : (q : ℕ) (xs ys : List MachineView) → length ys ≡ length xs → ((r : ℕ) → r < length xs → left_at (machine_at ys r) ≤ left_at (machine_at xs r)) → q < length xs → left_at (machine_at ys q) < left_at (machine_at xs q) → left_of ys < left_of xs
  less q [] ys e h l s = absurd (omega arith)
  less q (x ∷ xs) [] e h l s = absurd (omega arith)
  less zero (x ∷ xs) (y ∷ ys) e h l s = omega (arith, s, no_more xs ys (omega arith) (λ r k. h (suc r) (omega arith)))
  less (suc q) (x ∷ xs) (y ∷ ys) e h l s = omega (arith, h 0 (omega arith), less q xs ys (omega arith) (λ r k. h (suc r) (omega arith)) (omega arith) s)

  -- the counters are no lower, and the programs as before
  left_no_more : (x y : MachineView) → GoesOn x y → left_at y ≤ left_at x
  left_no_more x y g = let e = ap (λ ops. length (exchanges ops)) g.job.ops in let c = g.counter in omega (arith, e, c)

module _ where
  -- a meeting of ports leaves as many exchanges as before
  pub met_left : (xs ys : List MachineView) → EachRank MetOthers xs ys → left_of ys ≤ left_of xs
  met_left xs ys m = no_more xs ys m.count (λ r l. let b = (m.each r l).beside in let o = ap (λ (x : MachineView). length (exchanges x.ops)) b in let c = ap (λ (x : MachineView). x.counter) b in omega (arith, o, c))

module _ (hull : HullView) (is : IsHull hull) (xs : List MachineView) (hulls : AreHulls hull xs) (running : AreRunning xs) (synced : AreAllSynced hull xs) (course : IsOnCourse hull xs) where
  -- a rank that isn't done after the turn had an exchange left before it
  had_left : (burst : ℕ) (ys : List MachineView) → EachRank (HadTurn burst) xs ys → SomeUndone ys → HasLeft (plan_exchanges hull.plan) (counters xs)
  had_left burst ys turned some =
      let r = some.rank in
      let l : r < length xs = omega (arith, some.within, turned.count) in
      let within = course.lawful.within r in
      let ops = ap (λ es. length es) (ops_are xs hull hulls r) in
      let t = turned.each r l in
      ⊎_elim
      (λ (e : (machine_at xs r).counter ≡ length (exchanges (machine_at xs r).ops)). absurd (some.undone (t.finished e)))
      (λ (k : (machine_at xs r).counter < length (exchanges (machine_at xs r).ops)). record { rank = r; left = omega (arith, k, ops, counter_is xs r) })
      (let s : ((machine_at xs r).counter ≡ length (exchanges (machine_at xs r).ops)) ⊎ ((machine_at xs r).counter < length (exchanges (machine_at xs r).ops)) = let c = counter_is xs r in let m : (machine_at xs r).counter ≤ length (exchanges (machine_at xs r).ops) = omega (arith, within, ops, c) in equal_or_less _ _ m in s)
    where
      equal_or_less : (a b : ℕ) → a ≤ b → (a ≡ b) ⊎ (a < b)
      equal_or_less a b h = grind arith

  -- some rank made an exchange
  pub fewer_left : (burst : ℕ) (ys : List MachineView) → EachRank GoesOn xs ys → EachRank (HadTurn burst) xs ys → SomeUndone ys → left_of ys < left_of xs
  fewer_left burst ys on turned some =
      let s = some_enabled (plan_exchanges hull.plan) hull.cap (counters xs) is.cap is.plan.matched course.lawful (had_left burst ys turned some) in
      let q = s.rank in
      let ranks = course.lawful.ranks in
      let l : q < length xs = omega (arith, s.ranked, ranks, length-map xs (λ (m : MachineView). m.counter)) in
      let ready = is_ready hull xs hulls running synced q s.enabled in
      let moved = (turned.each q l).moved ready in
      let within = slice_get_within (exchanges (machine_at xs q).ops) (machine_at xs q).counter ready.exchange ready.is_due in
      let ops = ap (λ ops. length (exchanges ops)) (on.each q l).job.ops in
      less q xs ys on.count (λ r k. left_no_more (machine_at xs r) (machine_at ys r) (on.each r k)) l (omega (arith, moved, within, ops))
