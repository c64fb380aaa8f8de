-- The ports of one pair meet: what that leaves of the machines.
use Rattle.std.proofs.Common.{◌≡◌, ℕ, ◌+◌, ◌<◌, Bool, true, false, cond, List, [], ◌∷◌, refl, sym, ap, ◌∙◌, subst, arith, Option, Some, None, eqb-true, inl, inr}
use Rattle.std.specs.Prelude.{◌==◌, ◌≢◌, ◌⊎◌}
use Rattle.std.proofs.lemmas.Bool.{eqb-false}
use Rattle.std.specs.List.{slice_get}
use Rattle.icet_model.specs.Ports.{by_peer, messages_to, room_to, pairing_to}
use Rattle.icet_model.specs.Wires.{Pairing, IsSameOpening, PortView}
use Rattle.icet_rank.specs.Moves.{peers, Met}
use Rattle.icet_rank.specs.Machine.{MachineView}
use Rattle.icet_rank.proofs.PortMoves.{by_port}
use Rattle.icet_net.specs.Net.{HullView, messages_on}
use Rattle.icet_net.specs.Ranks.{machine_at, mode_of, IsMachineOf, IsOpened, AreHulls, EachRank, SameOpenings, MetOthers}
use Rattle.icet_net.specs.Syncs.{MetPair, HasMet, AreSyncedBelow}
use Rattle.icet_model.proofs.Numbers.{same_or_not}

same_opening : (a : Pairing) → IsSameOpening a a
same_opening a = record { from = refl; to = refl; cap = refl; total = refl; rings = refl }

some_same : {X : Type 0} (o : Option X) (a b : X) → o ≡ Some a → o ≡ Some b → a ≡ b
some_same o a b h k = cc

pub same_openings : (ports : List (ℕ × PortView)) → SameOpenings ports ports
same_openings ports = record {
  same_peers = refl;
  openings = λ k a b h g. subst (λ z. IsSameOpening a z) (some_same (pairing_to ports k) a b h g) (same_opening a);
}

-- a port whose pairing can be read has a peer, and so it can be read where the peers are the same
readable : (old new : List (ℕ × PortView)) (k : ℕ) (b : Pairing) → peers new ≡ peers old → pairing_to new k ≡ Some b → (a : Pairing) × (pairing_to old k ≡ Some a)
readable [] [] k b e h = absurd (cc)
readable [] (y ∷ ys) k b e h = absurd (cc)
readable (x ∷ xs) [] k b e h = absurd (cc)
readable (x ∷ xs) (y ∷ ys) k b e h = go (x.0 == k) (y.0 == k) (ap (λ z. z == k) (let f : y.0 ≡ x.0 = cc in f)) h (readable xs ys k b (let f : peers ys ≡ peers xs = cc in f))
  where
    go : (s t : Bool) → t ≡ s → cond t (Some y.1.pairing) (pairing_to ys k) ≡ Some b → (pairing_to ys k ≡ Some b → (a : Pairing) × (pairing_to xs k ≡ Some a)) → (a : Pairing) × (cond s (Some x.1.pairing) (pairing_to xs k) ≡ Some a)
    go true t z g rest = (x.1.pairing, refl)
    go false true z g rest = absurd (cc)
    go false false z g rest = rest g

opening_trans : (a b c : Pairing) → IsSameOpening a b → IsSameOpening b c → IsSameOpening a c
opening_trans a b c f g = record { from = g.from ∙ f.from; to = g.to ∙ f.to; cap = g.cap ∙ f.cap; total = g.total ∙ f.total; rings = g.rings ∙ f.rings }

openings_trans : (a b c : List (ℕ × PortView)) → SameOpenings a b → SameOpenings b c → SameOpenings a c
openings_trans a b c f g = record {
  same_peers = g.same_peers ∙ f.same_peers;
  openings = λ k x z hx hz. let y = readable b c k z g.same_peers hz in opening_trans x y.0 z (f.openings k x y.0 hx y.1) (g.openings k y.0 z y.1 hz);
}

met_openings : (peer : ℕ) (old new : List (ℕ × PortView)) → Met peer old new → SameOpenings old new
met_openings peer old new met = record { same_peers = met.beside.same_peers; openings = λ k. go k (peer == k) refl }
  where
    go : (k : ℕ) (t : Bool) → (peer == k) ≡ t → (a b : Pairing) → pairing_to old k ≡ Some a → pairing_to new k ≡ Some b → IsSameOpening a b
    go k true e a b h g = met.opening a b (ap (pairing_to old) (eqb-true peer k e) ∙ h) (ap (pairing_to new) (eqb-true peer k e) ∙ g)
    go k false e a b h g =
        let same = by_port (λ (p : PortView). Some p.pairing) None old new k (met.beside.others k (eqb-false peer k e)) in
        subst (λ z. IsSameOpening a z) (some_same (pairing_to old k) a b h (sym same ∙ g)) (same_opening a)

module _ where
  met_none : (m n : MachineView) → n ≡ m → MetOthers m n
  met_none m n e = subst (λ z. MetOthers m z) (sym e) (record {
    beside = refl;
    same_taken = refl;
    same_in_rooms = refl;
    same_sent = refl;
    same_out_rooms = refl;
    inboxes = same_openings m.inboxes;
    outboxes = same_openings m.outboxes;
  })

  pub met_all_none : (a : List MachineView) → EachRank MetOthers a a
  met_all_none a = record { count = refl; each = λ r l. met_none (machine_at a r) (machine_at a r) refl }

  both : (m n o : MachineView) → MetOthers m n → MetOthers n o → MetOthers m o
  both m n o f g = record {
    beside = g.beside ∙ ap (λ (z : MachineView). record z { inboxes = o.inboxes; outboxes = o.outboxes }) f.beside;
    same_taken = g.same_taken ∙ f.same_taken;
    same_in_rooms = g.same_in_rooms ∙ f.same_in_rooms;
    same_sent = g.same_sent ∙ f.same_sent;
    same_out_rooms = g.same_out_rooms ∙ f.same_out_rooms;
    inboxes = openings_trans m.inboxes n.inboxes o.inboxes f.inboxes g.inboxes;
    outboxes = openings_trans m.outboxes n.outboxes o.outboxes f.outboxes g.outboxes;
  }

  pub met_trans : (a b c : List MachineView) → EachRank MetOthers a b → EachRank MetOthers b c → EachRank MetOthers a c
  met_trans a b c f g = record { count = g.count ∙ f.count; each = λ r l. both (machine_at a r) (machine_at b r) (machine_at c r) (f.each r l) (g.each r (let e = f.count in omega (arith, e, l))) }

  module _ (q r cap : ℕ) (old new : List MachineView) (apart : q ≢ r) (met : MetPair q r cap old new) where
    out_machine : (k : ℕ) → k ≢ q → (machine_at new k).outboxes ≡ (machine_at old k).outboxes
    out_machine k n = go (same_or_not k r)
      where
        go : (k ≡ r) ⊎ (k ≢ r) → (machine_at new k).outboxes ≡ (machine_at old k).outboxes
        go (inl e) = ap (λ i. (machine_at new i).outboxes) e ∙ ap (λ (m : MachineView). m.outboxes) met.receiver ∙ ap (λ i. (machine_at old i).outboxes) (sym e)
        go (inr e) = ap (λ (m : MachineView). m.outboxes) (met.others k n e)

    in_machine : (k : ℕ) → k ≢ r → (machine_at new k).inboxes ≡ (machine_at old k).inboxes
    in_machine k n = go (same_or_not k q)
      where
        go : (k ≡ q) ⊎ (k ≢ q) → (machine_at new k).inboxes ≡ (machine_at old k).inboxes
        go (inl e) = ap (λ i. (machine_at new i).inboxes) e ∙ ap (λ (m : MachineView). m.inboxes) met.sender ∙ ap (λ i. (machine_at old i).inboxes) (sym e)
        go (inr e) = ap (λ (m : MachineView). m.inboxes) (met.others k e n)

    -- another pair's outbox is as it was
    out_other : {V : Type 0} (f : PortView → V) (d : V) (a b : ℕ) → (a ≢ q) ⊎ (b ≢ r) → by_peer f d (machine_at new a).outboxes b ≡ by_peer f d (machine_at old a).outboxes b
    out_other f d a b (inl n) = ap (λ ports. by_peer f d ports b) (out_machine a n)
    out_other {V} f d a b (inr n) = go (same_or_not a q)
      where
        go : (a ≡ q) ⊎ (a ≢ q) → by_peer f d (machine_at new a).outboxes b ≡ by_peer f d (machine_at old a).outboxes b
        go (inl e) = ap (λ i. by_peer f d (machine_at new i).outboxes b) e ∙ by_port f d (machine_at old q).outboxes (machine_at new q).outboxes b (met.out.beside.others b (λ z. n (sym z))) ∙ ap (λ i. by_peer f d (machine_at old i).outboxes b) (sym e)
        go (inr e) = ap (λ ports. by_peer f d ports b) (out_machine a e)

    in_other : {V : Type 0} (f : PortView → V) (d : V) (a b : ℕ) → (a ≢ q) ⊎ (b ≢ r) → by_peer f d (machine_at new b).inboxes a ≡ by_peer f d (machine_at old b).inboxes a
    in_other f d a b (inr n) = ap (λ ports. by_peer f d ports a) (in_machine b n)
    in_other {V} f d a b (inl n) = go (same_or_not b r)
      where
        go : (b ≡ r) ⊎ (b ≢ r) → by_peer f d (machine_at new b).inboxes a ≡ by_peer f d (machine_at old b).inboxes a
        go (inl e) = ap (λ i. by_peer f d (machine_at new i).inboxes a) e ∙ by_port f d (machine_at old r).inboxes (machine_at new r).inboxes a (met.inbox.beside.others a (λ z. n (sym z))) ∙ ap (λ i. by_peer f d (machine_at old i).inboxes a) (sym e)
        go (inr e) = ap (λ ports. by_peer f d ports a) (in_machine b e)

    -- all else of the machines is as before
    job : (P : MachineView → Type 0) → ((m : MachineView) (outs : List (ℕ × PortView)) → P m → P (record m { outboxes = outs })) → ((m : MachineView) (ins : List (ℕ × PortView)) → P m → P (record m { inboxes = ins })) → (k : ℕ) → P (machine_at old k) → P (machine_at new k)
    job P on_out on_in k p = go (same_or_not k q)
      where
        last : (k ≡ r) ⊎ (k ≢ r) → k ≢ q → P (machine_at new k)
        last (inl e) n = subst P (sym (ap (machine_at new) e ∙ met.receiver)) (on_in (machine_at old r) (machine_at new r).inboxes (subst (λ i. P (machine_at old i)) e p))
        last (inr e) n = subst P (sym (met.others k n e)) p

        go : (k ≡ q) ⊎ (k ≢ q) → P (machine_at new k)
        go (inl e) = subst P (sym (ap (machine_at new) e ∙ met.sender)) (on_out (machine_at old q) (machine_at new q).outboxes (subst (λ i. P (machine_at old i)) e p))
        go (inr e) = last (same_or_not k r) e

    met_sender : MetOthers (machine_at old q) (machine_at new q)
    met_sender =
        let i = in_machine q apart in
        record {
          beside = met.sender ∙ ap (λ ins. record (machine_at old q) { inboxes = ins; outboxes = (machine_at new q).outboxes }) (sym i);
          same_taken = ap (messages_to) i;
          same_in_rooms = ap (room_to) i;
          same_sent = met.out.same_lists;
          same_out_rooms = met.out.same_rooms;
          inboxes = subst (SameOpenings (machine_at old q).inboxes) (sym i) (same_openings (machine_at old q).inboxes);
          outboxes = met_openings r (machine_at old q).outboxes (machine_at new q).outboxes met.out;
        }

    met_receiver : MetOthers (machine_at old r) (machine_at new r)
    met_receiver =
        let o = out_machine r (λ e. apart (sym e)) in
        record {
          beside = met.receiver ∙ ap (λ outs. record (machine_at old r) { inboxes = (machine_at new r).inboxes; outboxes = outs }) (sym o);
          same_taken = met.inbox.same_lists;
          same_in_rooms = met.inbox.same_rooms;
          same_sent = ap (messages_to) o;
          same_out_rooms = ap (room_to) o;
          inboxes = met_openings q (machine_at old r).inboxes (machine_at new r).inboxes met.inbox;
          outboxes = subst (SameOpenings (machine_at old r).outboxes) (sym o) (same_openings (machine_at old r).outboxes);
        }

    pub pair_met : EachRank MetOthers old new
    pair_met = record { count = met.count; each = λ k l. go k (same_or_not k q) }
      where
        last : (k : ℕ) → k ≢ q → (k ≡ r) ⊎ (k ≢ r) → MetOthers (machine_at old k) (machine_at new k)
        last k n (inl e) = subst (λ i. MetOthers (machine_at old i) (machine_at new i)) (sym e) met_receiver
        last k n (inr e) = met_none (machine_at old k) (machine_at new k) (met.others k n e)

        go : (k : ℕ) → (k ≡ q) ⊎ (k ≢ q) → MetOthers (machine_at old k) (machine_at new k)
        go k (inl e) = subst (λ i. MetOthers (machine_at old i) (machine_at new i)) (sym e) met_sender
        go k (inr e) = last k e (same_or_not k r)

    -- the machines are still the hull's
    module _ (hull : HullView) (hulls : AreHulls hull old) (cap_is : cap ≡ hull.cap) (used : 0 < messages_on hull.plan q r) where
      opened_here : IsOpened hull.cap new q r
      opened_here =
          let o = hulls.opened q r used in
          let same = met.out.opening o.pairing met.paired.pairing o.out met.paired.out in
          record {
            pairing = met.paired.pairing;
            out = met.paired.out;
            inbox = met.paired.inbox;
            from_is = same.from ∙ o.from_is;
            to_is = same.to ∙ o.to_is;
            cap_is = same.cap ∙ o.cap_is;
          }

      opened_other : (a b : ℕ) → (a ≢ q) ⊎ (b ≢ r) → IsOpened hull.cap old a b → IsOpened hull.cap new a b
      opened_other a b n o = record {
        pairing = o.pairing;
        out = out_other (λ p. Some p.pairing) None a b n ∙ o.out;
        inbox = in_other (λ p. Some p.pairing) None a b n ∙ o.inbox;
        from_is = o.from_is;
        to_is = o.to_is;
        cap_is = o.cap_is;
      }

      opened_all : (a b : ℕ) → (a ≡ q) ⊎ (a ≢ q) → (b ≡ r) ⊎ (b ≢ r) → IsOpened hull.cap old a b → IsOpened hull.cap new a b
      opened_all a b (inl e) (inl f) o = rw (e, f) opened_here
      opened_all a b (inl e) (inr f) o = opened_other a b (inr f) o
      opened_all a b (inr e) f o = opened_other a b (inl e) o

      pub hulls_met : AreHulls hull new
      hulls_met = record {
        count = met.count ∙ hulls.count;
        each = λ k l. rw (job (λ m. m.mode ≡ mode_of old) (λ m outs z. z) (λ m ins z. z) 0 refl) (job (λ m. IsMachineOf hull (mode_of old) k m) (λ m outs z. record { number = z.number; mode_is = z.mode_is; ops = z.ops; images = z.images }) (λ m ins z. record { number = z.number; mode_is = z.mode_is; ops = z.ops; images = z.images }) k (hulls.each k (let e = met.count in omega (arith, e, l))));
        opened = λ a b l. opened_all a b (same_or_not a q) (same_or_not b r) (hulls.opened a b l);
      }

  -- one pair more has met
  module _ (q r cap : ℕ) (old new : List MachineView) (apart : q ≢ r) (met : MetPair q r cap old new) (here : HasMet cap new q r) where
    synced_other : (a b : ℕ) → (a ≢ q) ⊎ (b ≢ r) → HasMet cap old a b → HasMet cap new a b
    synced_other a b n s = rw (out_other q r cap old new apart met (λ p. p.messages) [] a b n, in_other q r cap old new apart met (λ p. p.messages) [] a b n, out_other q r cap old new apart met (λ p. p.known) 0 a b n, in_other q r cap old new apart met (λ p. p.known) 0 a b n) s

    synced_all : (a b : ℕ) → (a ≡ q) ⊎ (a ≢ q) → (b ≡ r) ⊎ (b ≢ r) → HasMet cap old a b → HasMet cap new a b
    synced_all a b (inl e) (inl f) s = rw (e, f) here
    synced_all a b (inl e) (inr f) s = synced_other a b (inr f) s
    synced_all a b (inr e) f s = synced_other a b (inl e) s

    one_more : (pairs : List (ℕ × ℕ)) (i : ℕ) → slice_get pairs i ≡ Some (q, r) → AreSyncedBelow i cap pairs old → AreSyncedBelow (i + 1) cap pairs new
    one_more pairs i is before = record { each = λ j p l at. go j p l at (same_or_not j i) }
      where
        go : (j : ℕ) (p : ℕ × ℕ) → j < i + 1 → slice_get pairs j ≡ Some p → (j ≡ i) ⊎ (j ≢ i) → HasMet cap new p.0 p.1
        go j p l at (inl e) = let f : p ≡ (q, r) = some_same (slice_get pairs i) p (q, r) (ap (slice_get pairs) (sym e) ∙ at) is in subst (λ (z : ℕ × ℕ). HasMet cap new z.0 z.1) (sym f) here
        go j p l at (inr e) = synced_all p.0 p.1 (same_or_not p.0 q) (same_or_not p.1 r) (before.each j p (omega (arith, l, e)) at)

    pub synced_more : (pairs : List (ℕ × ℕ)) (i n : ℕ) → cap ≡ n → slice_get pairs i ≡ Some (q, r) → AreSyncedBelow i n pairs old → AreSyncedBelow (i + 1) n pairs new
    synced_more pairs i n same is = subst (λ z. AreSyncedBelow i z pairs old → AreSyncedBelow (i + 1) z pairs new) same (one_more pairs i is)
