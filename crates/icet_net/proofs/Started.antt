-- Machines at the start of their programs: what `RankMachine::new` asks, and that the machines are the hull's.
use Rattle.std.proofs.Common.{◌≡◌, ℕ, zero, suc, ◌+◌, ◌<◌, ◌≤◌, List, [], ◌∷◌, length, get_or, drop, take, ◌++◌, refl, sym, ap, ◌∙◌, subst, arith, Some, ⊎_elim, inl, inr, add-one}
use Rattle.std.specs.Prelude.{filter, ◌⊎◌, ◌≢◌}
use Rattle.std.specs.List.{slice_get}
use Rattle.std.proofs.lemmas.Bool.{cases_lt}
use Rattle.std.proofs.lemmas.Option.{get_or_from_slice_get}
use Rattle.std.proofs.lemmas.List.{length-map, get_or-append-add, get_or_append_left}
use Rattle.icet_model.specs.declared.names.Mode.{Mode}
use Rattle.icet_model.specs.declared.exchange.Op.{Op}
use Rattle.icet_model.specs.Pixel.{Pixel}
use Rattle.icet_model.specs.Exchange.{heading, sends_to, takes_from, exchanges, of_rank}
use Rattle.icet_model.specs.Run.{Piece, fresh}
use Rattle.icet_model.specs.Flow.{program}
use Rattle.icet_model.specs.Plan.{PlanView, IsPlan, plan_exchanges, bracket_carrier, bracket_flow}
use Rattle.icet_model.specs.Wires.{PortView}
use Rattle.icet_rank.specs.Fits.{AllFitAnyDisplay}
use Rattle.icet_rank.specs.Machine.{MachineView, carrier_of, IsReadyToRun, IsAtStart}
use Rattle.icet_rank.proofs.AnyDisplay.{all_fit_any_display}
use Rattle.icet_plan.proofs.Shapes.{fits_anyhow}
use Rattle.icet_plan.proofs.PlanFlows.{of_program}
use Rattle.icet_net.specs.Net.{HullView, messages_on}
use Rattle.icet_net.specs.Ranks.{machine_at, no_machine, AreOpenedWith, AreWholeImages, AreHulls}
use Rattle.icet_net.specs.Opening.{AreNewPorts, IsOpenedPair, IsStarted, ports_of}
use Rattle.icet_net.proofs.NewPorts.{all_rooms}
use Rattle.icet_net.proofs.PairPlaces.{used_is}
use Rattle.icet_model.proofs.Numbers.{same_or_not}
use Rattle.icet_model.proofs.Lists.{take_next_suc}
use Rattle.icet_model.specs.Ports.{pairing_to}

module _ (plan : PlanView) (is : IsPlan plan) where
  takes_on : (q r : ℕ) → length (filter (takes_from q) (exchanges (program plan.programs r))) ≡ messages_on plan q r
  takes_on q r =
      let es = of_rank (plan_exchanges plan) q in
      let fs = of_rank (plan_exchanges plan) r in
      ap (λ xs. length (filter (takes_from q) xs)) (sym (of_program plan.programs r)) ∙ (sym (length-map (filter (takes_from q) fs) heading) ∙ (ap length (sym (is.matched.pairs q r)) ∙ length-map (filter (sends_to r) es) heading))

  sends_on : (q r : ℕ) → length (filter (sends_to r) (exchanges (program plan.programs q))) ≡ messages_on plan q r
  sends_on q r = ap (λ xs. length (filter (sends_to r) xs)) (sym (of_program plan.programs q))

  none_from : (r k : ℕ) → length plan.programs ≤ k → messages_on plan k r ≡ 0
  none_from r k l = ⊎_elim (λ (h : 0 < messages_on plan k r). absurd (let u = (used_is plan is k r h).from in omega (arith, u, l))) (λ (h : messages_on plan k r ≤ 0). omega (arith, h)) (cases_lt 0 (messages_on plan k r))

  none_to : (q k : ℕ) → length plan.programs ≤ k → messages_on plan q k ≡ 0
  none_to q k l = ⊎_elim (λ (h : 0 < messages_on plan q k). absurd (let u = (used_is plan is q k h).to in omega (arith, u, l))) (λ (h : messages_on plan q k ≤ 0). omega (arith, h)) (cases_lt 0 (messages_on plan q k))

  module _ where
    -- a rank's program, images and new ports are what a machine may be made of
    pub can_start : (r : ℕ) (mode : Mode) (ops : List Op) (images : List (Piece (List Pixel))) (ins : List (ℕ × PortView)) (outs : List (ℕ × PortView)) → ops ≡ program plan.programs r → AreWholeImages plan.tiles.sizes images → AreNewPorts (λ q. messages_on plan q r) (length plan.programs) ins → AreNewPorts (λ k. messages_on plan r k) (length plan.programs) outs → IsReadyToRun r mode ops images ins outs
    can_start r mode ops images ins outs e w hi ho = rw e (record {
      whole = w.whole;
      fits = λ t. subst (λ sizes. AllFitAnyDisplay sizes (carrier_of mode images) r t (program plan.programs r) fresh) (sym w.sizes_are) (all_fit_any_display plan.tiles r (carrier_of mode images) t (program plan.programs r) fresh (fits_anyhow plan.tiles (bracket_carrier plan.tiles.sizes r) (carrier_of mode images) (ap (λ sizes t. get_or sizes t 0) (sym w.sizes_are)) r (λ p. bracket_flow plan p r) t (program plan.programs r) fresh fresh refl (is.sound.fit r)));
      in_ascend = hi.ascend;
      out_ascend = ho.ascend;
      in_rooms = λ q. all_rooms (λ k. messages_on plan k r) (length plan.programs) ins hi (none_from r) q ∙ sym (takes_on q r);
      out_rooms = λ k. all_rooms (λ k. messages_on plan r k) (length plan.programs) outs ho (none_to r) k ∙ sym (sends_on r k);
      none_taken = hi.empty;
      none_sent = ho.empty;
    })

-- a program read by its place
pub program_at : (programs : List (List Op)) (r : ℕ) (ops : List Op) → slice_get programs r ≡ Some ops → ops ≡ program programs r
program_at programs r ops h = sym (get_or_from_slice_get programs r ops [] h)

-- started machines are the ranks of the hull
pub started_hulls : (hull : HullView) (mode : Mode) (images : List (List (Piece (List Pixel)))) (ins : List (List (ℕ × PortView))) (outs : List (List (ℕ × PortView))) (ms : List MachineView) → IsPlan hull.plan → length ms ≡ length hull.plan.programs → ((r : ℕ) → r < length hull.plan.programs → AreWholeImages hull.plan.tiles.sizes (get_or images r [])) → ((r : ℕ) → r < length hull.plan.programs → IsStarted hull.plan mode (get_or images r []) (ports_of ins r) (ports_of outs r) r (machine_at ms r)) → ((q r : ℕ) → 0 < messages_on hull.plan q r → IsOpenedPair hull.cap q r (ports_of outs q) (ports_of ins r)) → AreHulls hull ms
started_hulls hull mode images ins outs ms is count whole started paired = record {
  count = count;
  each = λ r l.
      let within : r < length hull.plan.programs = omega (arith, l, count) in
      let s = started r within in
      let first = started 0 (omega (arith, within)) in
      record { number = s.number; mode_is = s.mode_is ∙ sym first.mode_is; ops = s.ops; images = subst (AreWholeImages hull.plan.tiles.sizes) (sym s.images_are) (whole r within) };
  opened = λ q r used.
      let u = used_is hull.plan is q r used in
      let p = paired q r used in
      record {
        pairing = p.pairing;
        out = ap (λ ports. pairing_to ports r) (started q u.from).outboxes ∙ p.out;
        inbox = ap (λ ports. pairing_to ports q) (started r u.to).inboxes ∙ p.inbox;
        from_is = p.from_is;
        to_is = p.to_is;
        cap_is = p.cap_is;
      };
}

pub opened_with : (plan : PlanView) (mode : Mode) (images : List (List (Piece (List Pixel)))) (ins : List (List (ℕ × PortView))) (outs : List (List (ℕ × PortView))) (ms : List MachineView) → length ms ≡ length plan.programs → length images ≡ length plan.programs → ((r : ℕ) → r < length plan.programs → IsStarted plan mode (get_or images r []) (ports_of ins r) (ports_of outs r) r (machine_at ms r)) → AreOpenedWith mode images ms
opened_with plan mode images ins outs ms count many started = record {
  count = count ∙ sym many;
  each = λ r l. let s = started r (omega (arith, l, count)) in record { mode_is = s.mode_is; images_are = s.images_are; place = s.place; counter = s.counter };
}

-- a new machine is a started one
pub is_started : (plan : PlanView) (r : ℕ) (mode : Mode) (ops : List Op) (images : List (Piece (List Pixel))) (ins outs new_ins new_outs : List (ℕ × PortView)) → ops ≡ program plan.programs r → new_ins ≡ ins → new_outs ≡ outs → (m : MachineView) → IsAtStart r mode ops images new_ins new_outs m → IsStarted plan mode images ins outs r m
is_started plan r mode ops images ins outs new_ins new_outs e ei eo m h = record {
  number = h.number;
  mode_is = h.mode;
  ops = h.ops ∙ e;
  place = h.place;
  counter = h.counter;
  images_are = h.images;
  inboxes = h.inboxes ∙ ei;
  outboxes = h.outboxes ∙ eo;
}

-- what a list begins with behind its first n items
pub drop_head : {X : Type 0} (xs rest : List X) (n : ℕ) (x d : X) → drop n xs ≡ x ∷ rest → (get_or xs n d ≡ x) × (drop (n + 1) xs ≡ rest)
drop_head {X} xs rest n x d h = (go xs n h, ap (λ k. drop k xs) (add-one n) ∙ tail xs n h)
  where
    go : (ys : List X) (k : ℕ) → drop k ys ≡ x ∷ rest → get_or ys k d ≡ x
    go [] zero e = absurd (cc)
    go [] (suc k) e = absurd (cc)
    go (y ∷ ys) zero e = cc
    go (y ∷ ys) (suc k) e = go ys k e

    tail : (ys : List X) (k : ℕ) → drop k ys ≡ x ∷ rest → drop (suc k) ys ≡ rest
    tail [] zero e = absurd (cc)
    tail [] (suc k) e = absurd (cc)
    tail (y ∷ ys) zero e = cc
    tail (y ∷ ys) (suc k) e = tail ys k e

-- one machine more is started
pub started_more : (plan : PlanView) (mode : Mode) (images : List (List (Piece (List Pixel)))) (ins : List (List (ℕ × PortView))) (outs : List (List (ℕ × PortView))) (ms after : List MachineView) (n : ℕ) (x : List (Piece (List Pixel))) (y : List (ℕ × PortView)) (z : List (ℕ × PortView)) (m : MachineView) → length ms ≡ n → after ≡ ms ++ m ∷ [] → get_or images n [] ≡ x → get_or ins n [] ≡ y → get_or outs n [] ≡ z → IsStarted plan mode x y z n m → ((r : ℕ) → r < n → IsStarted plan mode (get_or images r []) (ports_of ins r) (ports_of outs r) r (machine_at ms r)) → (r : ℕ) → r < n + 1 → IsStarted plan mode (get_or images r []) (ports_of ins r) (ports_of outs r) r (machine_at after r)
started_more plan mode images ins outs ms after n x y z m c e ex ey ez s before r l = go (same_or_not r n)
  where
    here : machine_at after n ≡ m
    here = ap (λ xs. machine_at xs n) e ∙ (ap (machine_at (ms ++ m ∷ [])) (let f : n ≡ length ms + 0 = omega (arith, c) in f) ∙ get_or-append-add ms (m ∷ []) 0 no_machine)

    go : (r ≡ n) ⊎ (r ≢ n) → IsStarted plan mode (get_or images r []) (ports_of ins r) (ports_of outs r) r (machine_at after r)
    go (inl f) = subst (λ k. IsStarted plan mode (get_or images k []) (ports_of ins k) (ports_of outs k) k (machine_at after k)) (sym f) (rw (here, ex, ey, ez) s)
    go (inr f) = let w : r < n = omega (arith, l, f) in subst (IsStarted plan mode (get_or images r []) (ports_of ins r) (ports_of outs r) r) (sym (ap (λ xs. machine_at xs r) e ∙ get_or_append_left ms (m ∷ []) no_machine r (omega (arith, c, w)))) (before r w)

-- one item more of a list
pub copied_more : {X : Type 0} (xs old new : List X) (i : ℕ) (x : X) → slice_get xs i ≡ Some x → old ≡ take i xs → new ≡ old ++ x ∷ [] → new ≡ take (i + 1) xs
copied_more xs old new i x h o n = n ∙ (ap (λ zs. zs ++ x ∷ []) o ∙ (sym (take_next_suc xs i x h) ∙ ap (λ k. take k xs) (sym (add-one i))))
