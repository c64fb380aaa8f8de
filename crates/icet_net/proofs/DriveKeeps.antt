-- Machines that went on, or whose ports met, are still the ranks of their hull.
use Rattle.std.proofs.Common.{◌≡◌, ℕ, ◌<◌, ◌≤◌, Bool, true, false, cond, List, [], ◌∷◌, length, refl, sym, ap, ◌∙◌, subst, arith, Option, Some, ⊎_elim}
use Rattle.std.proofs.lemmas.List.{get_or_past}
use Rattle.std.specs.Prelude.{◌==◌}
use Rattle.icet_model.specs.Wires.{Pairing, IsSameOpening, PortView}
use Rattle.icet_rank.specs.Moves.{KeepsPairings, peers}
use Rattle.icet_rank.specs.Machine.{MachineView}
use Rattle.icet_rank.specs.Steps.{SamePairings}
use Rattle.icet_net.specs.Net.{HullView}
use Rattle.icet_net.specs.Ranks.{machine_at, no_machine, AreHulls, EachRank, GoesOn, ComesOn, MetOthers, SameOpenings}
use Rattle.icet_net.specs.Drives.{DrivesOn}
use Rattle.icet_model.proofs.Numbers.{within_or_past}
use Rattle.icet_model.specs.Ports.{pairing_to}

same_opening : (a b : Pairing) → a ≡ b → IsSameOpening a b
same_opening a b e = record { from = ap (λ (p : Pairing). p.from) (sym e); to = ap (λ (p : Pairing). p.to) (sym e); cap = ap (λ (p : Pairing). p.cap) (sym e); total = ap (λ (p : Pairing). p.total) (sym e); rings = ap (λ (p : Pairing). p.rings) (sym e) }

module _ where
  pub same_openings_refl : (ports : List (ℕ × PortView)) → SameOpenings ports ports
  same_openings_refl ports = record { same_peers = refl; openings = λ k a b h g. same_opening a b (let e : Some a ≡ Some b = sym h ∙ g in cc) }

  same_openings_of : (old new : List (ℕ × PortView)) → KeepsPairings old new → SameOpenings old new
  same_openings_of old new keeps = record { same_peers = keeps.same_peers; openings = λ k a b h g. same_opening a b (let e : Some a ≡ Some b = sym h ∙ (ap (λ (f : ℕ → Option Pairing). f k) (sym keeps.same_pairings) ∙ g) in cc) }

  -- where the peers are the same, a port to one stands in both lists
  pub record HasPairing (ports : List (ℕ × PortView)) (k : ℕ) : Type 0 where
    pub pairing_is : Pairing
    pub stands : pairing_to ports k ≡ Some pairing_is

  has_pairing : (old new : List (ℕ × PortView)) (k : ℕ) (a : Pairing) → peers new ≡ peers old → pairing_to old k ≡ Some a → HasPairing new k
  has_pairing [] new k a e h = absurd (cc)
  has_pairing (x ∷ xs) [] k a e h = absurd (cc)
  has_pairing (x ∷ xs) (y ∷ ys) k a e h =
      let head : y.0 ≡ x.0 = cc in
      let tail : peers ys ≡ peers xs = cc in
      go (y.0 == k) refl (subst (λ n. cond (n == k) (Some x.1.pairing) (pairing_to xs k) ≡ Some a) (sym head) h) (has_pairing xs ys k a tail)
    where
      go : (b : Bool) → (y.0 == k) ≡ b → cond b (Some x.1.pairing) (pairing_to xs k) ≡ Some a → (pairing_to xs k ≡ Some a → HasPairing ys k) → HasPairing (y ∷ ys) k
      go true t f r = record { pairing_is = y.1.pairing; stands = ap (λ b. cond b (Some y.1.pairing) (pairing_to ys k)) t }
      go false t f r = let h = r f in record { pairing_is = h.pairing_is; stands = ap (λ b. cond b (Some y.1.pairing) (pairing_to ys k)) t ∙ h.stands }

  same_openings_trans : (xs ys zs : List (ℕ × PortView)) → SameOpenings xs ys → SameOpenings ys zs → SameOpenings xs zs
  same_openings_trans xs ys zs f s = record {
    same_peers = s.same_peers ∙ f.same_peers;
    openings = λ k a c h g.
        let m = has_pairing xs ys k a f.same_peers h in
        let o = f.openings k a m.pairing_is h m.stands in
        let p = s.openings k m.pairing_is c m.stands g in
        record { from = p.from ∙ o.from; to = p.to ∙ o.to; cap = p.cap ∙ o.cap; total = p.total ∙ o.total; rings = p.rings ∙ o.rings };
  }

module _ where
  comes_on_refl : (m : MachineView) → ComesOn m m
  comes_on_refl m = record { job = record { number = refl; mode = refl; ops = refl; images = refl }; inboxes = same_openings_refl m.inboxes; outboxes = same_openings_refl m.outboxes; counter = omega arith }

  comes_on_trans : (a b c : MachineView) → ComesOn a b → ComesOn b c → ComesOn a c
  comes_on_trans a b c g h = record {
    job = record { number = h.job.number ∙ g.job.number; mode = h.job.mode ∙ g.job.mode; ops = h.job.ops ∙ g.job.ops; images = h.job.images ∙ g.job.images };
    inboxes = same_openings_trans a.inboxes b.inboxes c.inboxes g.inboxes h.inboxes;
    outboxes = same_openings_trans a.outboxes b.outboxes c.outboxes g.outboxes h.outboxes;
    counter = let x = g.counter in let y = h.counter in omega arith;
  }

  each_refl : (xs : List MachineView) → EachRank ComesOn xs xs
  each_refl xs = record { count = refl; each = λ r _. comes_on_refl (machine_at xs r) }

  pub each_trans : (xs ys zs : List MachineView) → EachRank ComesOn xs ys → EachRank ComesOn ys zs → EachRank ComesOn xs zs
  each_trans xs ys zs g h = record {
    count = h.count ∙ g.count;
    each = λ r l. comes_on_trans (machine_at xs r) (machine_at ys r) (machine_at zs r) (g.each r l) (h.each r (let e = g.count in omega arith));
  }

  comes_of_goes : (a b : MachineView) → GoesOn a b → ComesOn a b
  comes_of_goes a b g = record { job = g.job; inboxes = same_openings_of a.inboxes b.inboxes g.pairings.inboxes; outboxes = same_openings_of a.outboxes b.outboxes g.pairings.outboxes; counter = g.counter }

  each_comes_of_goes : (xs ys : List MachineView) → EachRank GoesOn xs ys → EachRank ComesOn xs ys
  each_comes_of_goes xs ys g = record { count = g.count; each = λ r l. comes_of_goes (machine_at xs r) (machine_at ys r) (g.each r l) }

  -- a rank beyond the list has no machine, before and after
  same_pairings_at : (xs ys : List MachineView) → EachRank GoesOn xs ys → (r : ℕ) → SamePairings (machine_at xs r) (machine_at ys r)
  same_pairings_at xs ys g r = ⊎_elim
      (λ (l : r < length xs). (g.each r l).pairings)
      (λ (l : length xs ≤ r).
      let x : machine_at xs r ≡ no_machine = get_or_past xs r no_machine l in
      let y : machine_at ys r ≡ no_machine = get_or_past ys r no_machine (let e = g.count in omega arith) in
      subst (λ m. SamePairings (machine_at xs r) m) (x ∙ sym y) (record { inboxes = record { same_peers = refl; same_pairings = refl }; outboxes = record { same_peers = refl; same_pairings = refl } }))
      (within_or_past r (length xs))

  pub still_hulls : (hull : HullView) (xs ys : List MachineView) → AreHulls hull xs → EachRank GoesOn xs ys → AreHulls hull ys
  still_hulls hull xs ys h g = record {
    count = g.count ∙ h.count;
    each = λ r l.
        let k : r < length xs = let e = g.count in omega arith in
        let first : 0 < length xs = omega arith in
        let m = h.each r k in
        let j = (g.each r k).job in
        record {
          number = j.number ∙ m.number;
          mode_is = j.mode ∙ (m.mode_is ∙ sym (g.each 0 first).job.mode);
          ops = j.ops ∙ m.ops;
          images = rw j.images m.images;
        };
    opened = λ q r used.
        let o = h.opened q r used in
        let s = same_pairings_at xs ys g q in
        let t = same_pairings_at xs ys g r in
        record {
          pairing = o.pairing;
          out = ap (λ (f : ℕ → Option Pairing). f r) s.outboxes.same_pairings ∙ o.out;
          inbox = ap (λ (f : ℕ → Option Pairing). f q) t.inboxes.same_pairings ∙ o.inbox;
          from_is = o.from_is;
          to_is = o.to_is;
          cap_is = o.cap_is;
        };
  }

  -- the ranks of a hull that go on are its ranks
  pub drives_on : (hull : HullView) (xs ys : List MachineView) → AreHulls hull xs → EachRank GoesOn xs ys → DrivesOn hull xs ys
  drives_on hull xs ys h g = record { hulls = still_hulls hull xs ys h g; comes_on = each_comes_of_goes xs ys g }

  -- nothing was done yet
  pub drives_from : (hull : HullView) (xs : List MachineView) → AreHulls hull xs → DrivesOn hull xs xs
  drives_from hull xs h = record { hulls = h; comes_on = each_refl xs }

  pub drives_more : (hull : HullView) (xs ys zs : List MachineView) → DrivesOn hull xs ys → DrivesOn hull ys zs → DrivesOn hull xs zs
  drives_more hull xs ys zs f s = record { hulls = s.hulls; comes_on = each_trans xs ys zs f.comes_on s.comes_on }

module _ where
  comes_of_meeting : (a b : MachineView) → MetOthers a b → ComesOn a b
  comes_of_meeting a b m = record {
    job = record { number = ap (λ (x : MachineView). x.number) m.beside; mode = ap (λ (x : MachineView). x.mode) m.beside; ops = ap (λ (x : MachineView). x.ops) m.beside; images = ap (λ (x : MachineView). x.images) m.beside };
    inboxes = m.inboxes;
    outboxes = m.outboxes;
    counter = let e = ap (λ (x : MachineView). x.counter) m.beside in omega (arith, e);
  }

  -- the ranks of a hull whose ports met
  pub drives_met : (hull : HullView) (xs ys : List MachineView) → AreHulls hull ys → EachRank MetOthers xs ys → DrivesOn hull xs ys
  drives_met hull xs ys h m = record { hulls = h; comes_on = record { count = m.count; each = λ r l. comes_of_meeting (machine_at xs r) (machine_at ys r) (m.each r l) } }
