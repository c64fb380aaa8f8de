-- Machines of a hull, wherever they stand: their counters are a lawful state, and what they sent is a front of the traffic.
use Rattle.std.proofs.Common.{◌≡◌, ℕ, zero, suc, ◌+◌, ◌<◌, ◌≤◌, Bool, true, false, cond, List, [], ◌∷◌, ◌++◌, length, get_or, take, refl, sym, ap, ◌∙◌, subst, arith, Option, ⊎_elim, length-append}
use Rattle.std.specs.Prelude.{filter}
use Rattle.std.specs.List.{AllByRecursion}
use Rattle.std.proofs.lemmas.List.{get_or_past, length-map}
use Rattle.std.proofs.Math.ListN.{get_or-map}
use Rattle.std.proofs.lemmas.Bool.{cases_lt}
use mathlib.Core.Path.{fun_ext}
use Rattle.icet_model.specs.declared.names.Mode.{Mode}
use Rattle.icet_model.specs.declared.exchange.Exchange.{Exchange}
use Rattle.icet_model.specs.declared.exchange.Op.{Op}
use Rattle.icet_model.specs.Pixel.{Pixel}
use Rattle.icet_model.specs.Exchange.{heading, sends_to, takes_from, exchanges, of_rank}
use Rattle.icet_model.specs.Run.{Piece, MessageView}
use Rattle.icet_model.specs.Core.{passed}
use Rattle.icet_model.specs.Flow.{program}
use Rattle.icet_model.specs.Plan.{PlanView, IsPlan, plan_exchanges, pixel_carrier, AreWhole}
use Rattle.icet_model.specs.Ports.{messages_to, at_list, IsAt}
use Rattle.icet_rank.specs.Machine.{MachineView, sizes_of, content_at}
use Rattle.icet_plan.proofs.Headings.{sent_passed, used_passed}
use Rattle.icet_plan.proofs.MachineNets.{Front, counter_at}
use Rattle.icet_plan.proofs.PlanFlows.{of_program}
use Rattle.icet_plan.proofs.PlanNets.{pixels_of, sent_is_front, counters_are_lawful}
use Rattle.icet_net.specs.Net.{HullView, messages_on}
use Rattle.icet_net.specs.Ranks.{machine_at, no_machine, mode_of, images_of, counters, AreWholeImages, AreHulls, AreAllSynced, IsOnCourse, sent_on, taken_on}
use Rattle.icet_net.specs.Syncs.{AreRunning}

-- each image has its tile's number of pixels
content_long : (images : List (Piece (List Pixel))) (t : ℕ) → AllByRecursion (λ p. length p.content ≡ p.hi) images → t < length images → length (content_at images t) ≡ get_or (sizes_of images) t 0
content_long [] t a l = absurd (omega (arith, l))
content_long (p ∷ ps) zero a l = a.0
content_long (p ∷ ps) (suc t) a l = content_long ps t a.1 (omega (arith, l))

whole_long : (sizes : List ℕ) (images : List (Piece (List Pixel))) (t : ℕ) → AreWholeImages sizes images → t < length sizes → length (content_at images t) ≡ get_or sizes t 0
whole_long sizes images t w l = content_long images t w.filled (let e = ap length w.sizes_are in let f = length-map images (λ (p : Piece (List Pixel)). p.hi) in omega (arith, e, f, l)) ∙ ap (λ ns. get_or ns t 0) w.sizes_are

-- a plan with a tile has a rank
some_rank : (plan : PlanView) → IsPlan plan → 0 < length plan.tiles.sizes → 0 < length plan.programs
some_rank plan is l = go plan.tiles.displays is.formed.shown (let e = is.formed.displays in omega (arith, e, l))
  where
    go : (ds : List ℕ) → AllByRecursion (λ d. d < length plan.programs) ds → 0 < length ds → 0 < length plan.programs
    go [] a h = absurd (omega (arith, h))
    go (d ∷ ds) a h = let b = a.0 in omega (arith, b)

carry : {T : Type 0} (mode mode' : Mode) (sizes sizes' : List ℕ) (image image' : ℕ → List Pixel) (me me' : ℕ) (ops ops' : List Op) (place : ℕ) (taken : ℕ → List (MessageView (List Pixel))) (slots : ℕ → Option (Piece (List Pixel))) (kept : List (Piece (List Pixel))) (sent : ℕ → List (MessageView (List Pixel))) → T ≡ T → mode ≡ mode' → sizes ≡ sizes' → image ≡ image' → me ≡ me' → ops ≡ ops' → IsAt (pixel_carrier mode sizes image) me ops place taken slots kept sent → IsAt (pixel_carrier mode' sizes' image') me' ops' place taken slots kept sent
carry mode mode' sizes sizes' image image' me me' ops ops' place taken slots kept sent z a b c d e h =
    subst (λ x. IsAt (pixel_carrier mode' sizes' image') me' x place taken slots kept sent) e
    (subst (λ x. IsAt (pixel_carrier mode' sizes' image') x ops place taken slots kept sent) d
    (subst (λ x. IsAt (pixel_carrier mode' sizes' x) me ops place taken slots kept sent) c
    (subst (λ x. IsAt (pixel_carrier mode' x image) me ops place taken slots kept sent) b
    (subst (λ x. IsAt (pixel_carrier x sizes image) me ops place taken slots kept sent) a h))))

pub passed_within : (p : Exchange → Bool) (n : ℕ) (es : List Exchange) → passed p n es ≤ length (filter p es)
passed_within p zero es = omega arith
passed_within p (suc n) [] = omega arith
passed_within p (suc n) (e ∷ es) = go (p e) (passed_within p n es)
  where
    go : (b : Bool) → length (filter p (take n es)) ≤ length (filter p es) → length (cond b (e ∷ filter p (take n es)) (filter p (take n es))) ≤ length (cond b (e ∷ filter p es) (filter p es))
    go true h = omega (arith, h)
    go false h = h

none_long : {X : Type 0} (xs : List X) → length xs ≤ 0 → xs ≡ []
none_long [] h = refl
none_long (x ∷ xs) h = absurd (omega (arith, h))

module _ (hull : HullView) (ms : List MachineView) (is : IsPlan hull.plan) (hulls : AreHulls hull ms) (running : AreRunning ms) where
  first_machine : (r : ℕ) → r < length ms → get_or ms r (machine_at ms 0) ≡ machine_at ms r
  first_machine = go ms (machine_at ms 0)
    where
      go : (xs : List MachineView) (d : MachineView) (r : ℕ) → r < length xs → get_or xs r d ≡ machine_at xs r
      go [] d r l = absurd (omega (arith, l))
      go (x ∷ xs) d zero l = refl
      go (x ∷ xs) d (suc r) l = go xs d r (omega (arith, l))

  pub sized : AreWhole hull.plan.tiles (images_of ms)
  sized r t l =
      let some = some_rank hull.plan is (omega (arith, l)) in
      let n = hulls.count in
      ⊎_elim
      (λ (h : r < length ms). ap (λ (m : MachineView). length (content_at m.images t)) (first_machine r h) ∙ whole_long hull.plan.tiles.sizes (machine_at ms r).images t (hulls.each r h).images l)
      (λ (h : length ms ≤ r). ap (λ (m : MachineView). length (content_at m.images t)) (get_or_past ms r (machine_at ms 0) h) ∙ whole_long hull.plan.tiles.sizes (machine_at ms 0).images t (hulls.each 0 (omega (arith, n, some))).images l)
      (cases_lt r (length ms))

  abbrev pub place_at : ℕ → ℕ
  place_at r = (machine_at ms r).place

  abbrev pub slots_of : ℕ → ℕ → Option (Piece (List Pixel))
  slots_of r = at_list (machine_at ms r).slots

  abbrev pub kept_at : ℕ → List (Piece (List Pixel))
  kept_at r = (machine_at ms r).kept

  -- a rank beyond the list has no program
  no_program : (r : ℕ) → length ms ≤ r → program hull.plan.programs r ≡ []
  no_program r h = get_or_past hull.plan.programs r [] (let e = hulls.count in omega (arith, e, h))

  beyond : (r : ℕ) → length ms ≤ r → machine_at ms r ≡ no_machine
  beyond r h = get_or_past ms r no_machine h

  pub at : (r : ℕ) → IsAt (pixels_of (mode_of ms) hull.plan is (images_of ms) sized r) r (program hull.plan.programs r) (place_at r) (λ p. taken_on ms p r) (slots_of r) (kept_at r) (λ q. sent_on ms r q)
  at r =
      ⊎_elim
      (λ (h : r < length ms).
      let o = hulls.each r h in
      let m = machine_at ms r in
      carry {T = ℕ} m.mode (mode_of ms) (sizes_of m.images) hull.plan.tiles.sizes (content_at m.images) (images_of ms r) m.number r m.ops (program hull.plan.programs r) m.place (messages_to m.inboxes) (at_list m.slots) m.kept (messages_to m.outboxes) refl o.mode_is o.images.sizes_are (fun_ext (λ t. ap (λ (z : MachineView). content_at z.images t) (sym (first_machine r h)))) o.number o.ops (running.each r h).runs.is_at)
      (λ (h : length ms ≤ r).
      let c = pixels_of (mode_of ms) hull.plan is (images_of ms) sized r in
      let ops = program hull.plan.programs r in
      subst (λ (m : MachineView). IsAt c r ops m.place (messages_to m.inboxes) (at_list m.slots) m.kept (messages_to m.outboxes)) (sym (beyond r h)) (record { slots_are = fun_ext (λ k. refl); kept_are = refl; sent_are = λ q. refl; used_are = λ q. refl }))
      (cases_lt r (length ms))

  pub within : (r : ℕ) → place_at r ≤ length (program hull.plan.programs r)
  within r =
      ⊎_elim
      (λ (h : r < length ms). let w = (running.each r h).runs.within in let e = ap length (hulls.each r h).ops in omega (arith, w, e))
      (λ (h : length ms ≤ r). let e = ap (λ (m : MachineView). m.place) (beyond r h) in omega (arith, e))
      (cases_lt r (length ms))

  pub counted : (r : ℕ) → get_or (counters ms) r 0 ≡ counter_at (program hull.plan.programs r) (place_at r)
  counted r =
      get_or-map (λ (m : MachineView). m.counter) ms r no_machine
      ∙ ⊎_elim
      (λ (h : r < length ms). (running.each r h).runs.count ∙ ap (λ ops. length (exchanges (take (place_at r) ops))) (hulls.each r h).ops)
      (λ (h : length ms ≤ r). ap (λ (m : MachineView). m.counter) (beyond r h) ∙ ap (λ n. length (exchanges (take n (program hull.plan.programs r)))) (sym (ap (λ (m : MachineView). m.place) (beyond r h))))
      (cases_lt r (length ms))

  -- a pair that carries nothing has nothing
  takes_on : (q r : ℕ) → length (filter (takes_from q) (exchanges (program hull.plan.programs r))) ≡ messages_on hull.plan q r
  takes_on q r =
      let es = of_rank (plan_exchanges hull.plan) q in
      let fs = of_rank (plan_exchanges hull.plan) r in
      ap (λ xs. length (filter (takes_from q) xs)) (sym (of_program hull.plan.programs r)) ∙ (sym (length-map (filter (takes_from q) fs) heading) ∙ (ap length (sym (is.matched.pairs q r)) ∙ length-map (filter (sends_to r) es) heading))

  sends_on : (q r : ℕ) → length (filter (sends_to r) (exchanges (program hull.plan.programs q))) ≡ messages_on hull.plan q r
  sends_on q r = ap (λ xs. length (filter (sends_to r) xs)) (sym (of_program hull.plan.programs q))

  none_sent : (q r : ℕ) → messages_on hull.plan q r ≤ 0 → sent_on ms q r ≡ []
  none_sent q r l =
      let c = pixels_of (mode_of ms) hull.plan is (images_of ms) sized q in
      let ops = program hull.plan.programs q in
      none_long (sent_on ms q r) (let a = ap length ((at q).sent_are r) in let b = sent_passed c q (λ p. taken_on ms p q) ops (place_at q) r in let d = passed_within (sends_to r) (length (exchanges (take (place_at q) ops))) (exchanges ops) in let e = sends_on q r in omega (arith, a, b, d, e, l))

  none_taken : (q r : ℕ) → messages_on hull.plan q r ≤ 0 → taken_on ms q r ≡ []
  none_taken q r l =
      let c = pixels_of (mode_of ms) hull.plan is (images_of ms) sized r in
      let ops = program hull.plan.programs r in
      none_long (taken_on ms q r) (let a = (at r).used_are q in let b = used_passed c r (λ p. taken_on ms p r) ops (place_at r) q in let d = passed_within (takes_from q) (length (exchanges (take (place_at r) ops))) (exchanges ops) in let e = takes_on q r in omega (arith, a, b, d, e, l))

  pub fronts : ((q r : ℕ) → 0 < messages_on hull.plan q r → Front (taken_on ms q r) (sent_on ms q r)) → (q r : ℕ) → Front (taken_on ms q r) (sent_on ms q r)
  fronts f q r =
      ⊎_elim
      (λ (h : 0 < messages_on hull.plan q r). f q r h)
      (λ (h : messages_on hull.plan q r ≤ 0). record { more = []; is = none_sent q r h ∙ ap (λ xs. xs ++ []) (sym (none_taken q r h)) })
      (cases_lt 0 (messages_on hull.plan q r))

  module _ (synced : AreAllSynced hull ms) where
    linked : (q r : ℕ) → Front (taken_on ms q r) (sent_on ms q r)
    linked = fronts (λ q r h. let s = synced.synced q r h in record { more = s.waiting; is = s.carried })

    held : (q r : ℕ) → length (sent_on ms q r) ≤ length (taken_on ms q r) + hull.cap
    held q r =
        ⊎_elim
        (λ (h : 0 < messages_on hull.plan q r). let s = synced.synced q r h in let a = ap length s.carried in let b = length-append (taken_on ms q r) s.waiting in let d = s.held in omega (arith, a, b, d))
        (λ (h : messages_on hull.plan q r ≤ 0). let a = ap length (none_sent q r h) in omega (arith, a))
        (cases_lt 0 (messages_on hull.plan q r))

    pub on_course : IsOnCourse hull ms
    on_course = record {
      lawful = counters_are_lawful (mode_of ms) hull.plan is (images_of ms) sized place_at (taken_on ms) slots_of kept_at (sent_on ms) at linked hull.cap (counters ms) (length-map ms (λ (m : MachineView). m.counter) ∙ hulls.count) counted held;
      sent_fronts = λ q r. let f = sent_is_front (mode_of ms) hull.plan is (images_of ms) sized place_at (taken_on ms) slots_of kept_at (sent_on ms) at linked within q r in record { more = f.more; is = f.is };
      taken_fronts = λ q r. let f = linked q r in record { more = f.more; is = f.is };
    }
