-- One port of a list moves: what is seen by the peer.
use Rattle.std.proofs.Common.{◌≡◌, ℕ, zero, suc, ◌-◌, ◌<◌, Bool, true, false, cond, List, [], ◌∷◌, ◌++◌, length, set, refl, sym, ap, ◌∙◌, subst, arith, Option, Some, None, eqb-true, eq-eqb, ne_eqb, inl, inr, slice_set, slice_index_or, get_or, OnOk, OnErr, IfSome, IfNone}
use Rattle.std.specs.declared.result.Result.{Result}
use Rattle.std.specs.declared.result.Result.TheVariants.{Ok, Err}
use Rattle.std.specs.Option.{ForSome}
use Rattle.std.specs.Prelude.{◌==◌}
use Rattle.std.specs.List.{AllByRecursion, slice_get}
use mathlib.Core.Path.{fun_ext}
use Rattle.icet_model.specs.Run.{put}
use Rattle.icet_model.specs.Ports.{at_list, by_peer, messages_to, room_to, misses_to, pairing_to, port_views, AreAscending}
use Rattle.icet_model.specs.Faults.{Rose}
use Rattle.icet_model.specs.Wires.{Pairing, IsSameOpening, PixelMessage, PortView, PortCarries, PortMisses, PortMet}
use Rattle.icet_plan.proofs.Lists.{all_get}
use Rattle.icet_plan.proofs.PortLists.{port_set}
use Rattle.icet_rank.specs.Fits.{IsFilled}
use Rattle.icet_rank.specs.Moves.{HasPeer, peers, port_to, KeepsOthers, KeepsPairings, Carried, Missed, Met, ArePaired}

pub put_same : {V : Type 0} (f : ℕ → V) (i : ℕ) (v : V) → f i ≡ v → put f i v ≡ f
put_same {V} f i v h = fun_ext (λ k. go k (i == k) refl)
  where
    go : (k : ℕ) (b : Bool) → (i == k) ≡ b → cond b v (f k) ≡ f k
    go k true z = sym h ∙ ap f (eqb-true i k z)
    go k false z = refl

module _ {P : Type 0} where
  pub all_set : (Q : ℕ → Type 0) (ports : List (ℕ × P)) (at peer : ℕ) (old new : P) → slice_get ports at ≡ Some (peer, old) → AllByRecursion (λ (x : ℕ × P). Q x.0) ports → AllByRecursion (λ (x : ℕ × P). Q x.0) (set ports at (peer, new))
  all_set Q [] at peer old new h a = a
  all_set Q (e ∷ es) zero peer old new h a = (subst Q (let z : e.0 ≡ peer = cc in z) a.0, a.1)
  all_set Q (e ∷ es) (suc at) peer old new h a = (a.0, all_set Q es at peer old new h a.1)

  pub ascend_set : (ports : List (ℕ × P)) (at peer : ℕ) (old new : P) → slice_get ports at ≡ Some (peer, old) → AreAscending ports → AreAscending (set ports at (peer, new))
  ascend_set [] at peer old new h a = a
  ascend_set (e ∷ es) zero peer old new h a = (subst (λ (k : ℕ). AllByRecursion (λ (x : ℕ × P). k < x.0) es) (let z : e.0 ≡ peer = cc in z) a.0, a.1)
  ascend_set (e ∷ es) (suc at) peer old new h a = (all_set (λ k. e.0 < k) es at peer old new h a.0, ascend_set es at peer old new h a.1)

  pub at_peer : {V : Type 0} (f : P → V) (d : V) (ports : List (ℕ × P)) (at peer : ℕ) (old : P) → AreAscending ports → slice_get ports at ≡ Some (peer, old) → by_peer f d ports peer ≡ f old
  at_peer f d [] at peer old a h = absurd (cc)
  at_peer {V} f d (e ∷ es) zero peer old a h =
      let s : e ≡ (peer, old) = cc in
      ap (λ (b : Bool). cond b (f e.1) (by_peer f d es peer)) (ap (λ (x : ℕ × P). x.0 == peer) s ∙ eq-eqb peer peer refl) ∙ ap (λ (x : ℕ × P). f x.1) s
  at_peer {V} f d (e ∷ es) (suc at) peer old a h = go (e.0 == peer) refl (at_peer f d es at peer old a.1 h)
    where
      less : e.0 < peer
      less = all_get (λ x. e.0 < x.0) es at (peer, old) h a.0

      go : (b : Bool) → (e.0 == peer) ≡ b → by_peer f d es peer ≡ f old → cond b (f e.1) (by_peer f d es peer) ≡ f old
      go true z r = absurd (let p = eqb-true e.0 peer z in omega (arith, less, p))
      go false z r = r

  pub set_same : {V : Type 0} (f : P → V) (d : V) (ports : List (ℕ × P)) (at peer : ℕ) (old new : P) → AreAscending ports → slice_get ports at ≡ Some (peer, old) → f new ≡ f old → by_peer f d (set ports at (peer, new)) ≡ by_peer f d ports
  set_same f d ports at peer old new a h e = port_set f d ports at (peer, old) new a h ∙ put_same (by_peer f d ports) peer (f new) (at_peer f d ports at peer old a h ∙ sym e)

  pub set_here : {V : Type 0} (f : P → V) (d : V) (ports : List (ℕ × P)) (at peer : ℕ) (old new : P) (v : V) → AreAscending ports → slice_get ports at ≡ Some (peer, old) → f new ≡ v → by_peer f d (set ports at (peer, new)) ≡ put (by_peer f d ports) peer v
  set_here f d ports at peer old new v a h e = port_set f d ports at (peer, old) new a h ∙ ap (λ w. put (by_peer f d ports) peer w) e

  -- the changed port, read again
  pub at_peer_set : {V : Type 0} (f : P → V) (d : V) (ports : List (ℕ × P)) (at peer : ℕ) (old new : P) → AreAscending ports → slice_get ports at ≡ Some (peer, old) → by_peer f d (set ports at (peer, new)) peer ≡ f new
  at_peer_set f d ports at peer old new a h = at_peer f d (set ports at (peer, new)) at peer new (ascend_set ports at peer old new h a) (there ports at h)
    where
      there : (ps : List (ℕ × P)) (n : ℕ) → slice_get ps n ≡ Some (peer, old) → slice_get (set ps n (peer, new)) n ≡ Some (peer, new)
      there [] n z = absurd (cc)
      there (x ∷ xs) zero z = refl
      there (x ∷ xs) (suc n) z = there xs n z

-- one port changed, and the others are the same
pub others_kept : (ports : List (ℕ × PortView)) (at peer : ℕ) (old new : PortView) → AreAscending ports → slice_get ports at ≡ Some (peer, old) → KeepsOthers peer ports (set ports at (peer, new))
others_kept ports at peer old new a h = record {
  same_peers = go ports at h;
  others = λ q n. ap (λ f. f q) (port_set (λ p. Some p) None ports at (peer, old) new a h) ∙ ap (λ b. cond b (Some new) (port_to ports q)) (ne_eqb peer q n);
  ascend = ascend_set ports at peer old new h a;
}
  where
    go : (ps : List (ℕ × PortView)) (n : ℕ) → slice_get ps n ≡ Some (peer, old) → peers (set ps n (peer, new)) ≡ peers ps
    go [] n z = refl
    go (e ∷ es) zero z = ap (λ (k : ℕ). k ∷ peers es) (let y : peer ≡ e.0 = cc in y)
    go (e ∷ es) (suc n) z = ap (λ ks. e.0 ∷ ks) (go es n z)

module _ (ports : List (ℕ × PortView)) (at peer : ℕ) (old new : PortView) (a : AreAscending ports) (h : slice_get ports at ≡ Some (peer, old)) where
  carried : (m : PixelMessage) → PortCarries m old new → Carried peer m ports (set ports at (peer, new))
  carried m c = record {
    lists_are = set_here (λ p. p.messages) [] ports at peer old new (messages_to ports peer ++ m ∷ []) a h (c.messages ∙ ap (λ xs. xs ++ m ∷ []) (sym (at_peer (λ p. p.messages) [] ports at peer old a h)));
    rooms_are = set_here (λ p. p.room) 0 ports at peer old new (room_to ports peer - 1) a h (let e = at_peer (λ p. p.room) 0 ports at peer old a h in let r = c.room in omega (arith, e, r));
    less_known = let e = at_peer (λ p. p.known) 0 ports at peer old a h in let f = at_peer_set (λ p. p.known) 0 ports at peer old new a h in let k = c.known in omega (arith, e, f, k);
    same_misses = set_same (λ p. p.misses) 0 ports at peer old new a h c.misses;
    same_pairings = set_same (λ p. Some p.pairing) None ports at peer old new a h (ap (λ p. Some p) c.pairing);
    beside = others_kept ports at peer old new a h;
  }

  missed : PortMisses old new → Missed peer ports (set ports at (peer, new))
  missed c = record {
    same_lists = set_same (λ p. p.messages) [] ports at peer old new a h c.messages;
    same_rooms = set_same (λ p. p.room) 0 ports at peer old new a h c.room;
    none_known = at_peer (λ p. p.known) 0 ports at peer old a h ∙ c.known;
    more_misses = subst (λ n. Rose n (misses_to (set ports at (peer, new)) peer)) (sym (at_peer (λ p. p.misses) 0 ports at peer old a h)) (subst (λ n. Rose old.misses n) (sym (at_peer_set (λ p. p.misses) 0 ports at peer old new a h)) c.misses);
    same_pairings = set_same (λ p. Some p.pairing) None ports at peer old new a h (ap (λ p. Some p) c.pairing);
    beside = others_kept ports at peer old new a h;
  }

  met : PortMet old new → Met peer ports (set ports at (peer, new))
  met c = record {
    same_lists = set_same (λ p. p.messages) [] ports at peer old new a h c.messages;
    same_rooms = set_same (λ p. p.room) 0 ports at peer old new a h c.room;
    same_misses = set_same (λ p. p.misses) 0 ports at peer old new a h c.misses;
    opening = λ x y hx hy.
        let ex = at_peer (λ p. Some p.pairing) None ports at peer old a h in
        let ey = at_peer_set (λ p. Some p.pairing) None ports at peer old new a h in
        let px : old.pairing ≡ x = cc in
        let py : new.pairing ≡ y = cc in
        subst (λ z. IsSameOpening z y) px (subst (λ z. IsSameOpening old.pairing z) py c.opening);
    beside = others_kept ports at peer old new a h;
  }

-- a port to this peer stands in the list where its room, or its pairing, can be read
pub has_peer : (peer : ℕ) (ports : List (ℕ × PortView)) → 0 < room_to ports peer → HasPeer peer ports
has_peer peer [] l = absurd (omega (arith, l))
has_peer peer (e ∷ es) l = go (e.0 == peer) refl l (λ k. has_peer peer es k)
  where
    go : (b : Bool) → (e.0 == peer) ≡ b → 0 < cond b e.1.room (room_to es peer) → (0 < room_to es peer → HasPeer peer es) → HasPeer peer (e ∷ es)
    go true z k r = inl (eqb-true e.0 peer z)
    go false z k r = inr (r k)

pub has_paired : {P V : Type 0} (f : P → V) (peer : ℕ) (v : V) (ports : List (ℕ × P)) → by_peer (λ p. Some (f p)) None ports peer ≡ Some v → HasPeer peer ports
has_paired f peer v [] h = absurd (cc)
has_paired {P} f peer v (e ∷ es) h = go (e.0 == peer) refl h (λ k. has_paired f peer v es k)
  where
    go : (b : Bool) → (e.0 == peer) ≡ b → cond b (Some (f e.1)) (by_peer (λ p. Some (f p)) None es peer) ≡ Some v → (by_peer (λ p. Some (f p)) None es peer ≡ Some v → HasPeer peer es) → HasPeer peer (e ∷ es)
    go true z k r = inl (eqb-true e.0 peer z)
    go false z k r = inr (r k)

-- ports as code has them, and what contracts see of them
module _ {P : Type 0} (view : P → PortView) where
  pub peer_there : (peer : ℕ) (items : List (ℕ × P)) → HasPeer peer (port_views view items) → HasPeer peer items
  peer_there peer [] h = h
  peer_there peer (e ∷ es) (inl h) = inl h
  peer_there peer (e ∷ es) (inr h) = inr (peer_there peer es h)

  set_views : (items : List (ℕ × P)) (at peer : ℕ) (new : P) → port_views view (set items at (peer, new)) ≡ set (port_views view items) at (peer, view new)
  set_views [] at peer new = refl
  set_views (e ∷ es) zero peer new = refl
  set_views (e ∷ es) (suc at) peer new = ap (λ xs. (e.0, view e.1) ∷ xs) (set_views es at peer new)

  get_views : (items : List (ℕ × P)) (at peer : ℕ) (old : P) → slice_get items at ≡ Some (peer, old) → slice_get (port_views view items) at ≡ Some (peer, view old)
  get_views [] at peer old h = absurd (cc)
  get_views (e ∷ es) zero peer old h = let s : e ≡ (peer, old) = cc in ap (λ (x : ℕ × P). Some (x.0, view x.1)) s
  get_views (e ∷ es) (suc at) peer old h = get_views es at peer old h

  -- the port that an index into the list gives
  pub found : (items : List (ℕ × P)) (at peer : ℕ) (d e : ℕ × P) → at < length items → ForSome (slice_get items at) (λ p. p.0 ≡ peer) → d ≡ get_or items at e → (slice_get items at ≡ Some (peer, d.1)) × (d.0 ≡ peer)
  found [] at peer d e l h k = absurd (omega (arith, l))
  found (x ∷ xs) zero peer d e l h k = (ap (λ (n : ℕ). Some (n, x.1)) (h x refl) ∙ ap (λ (y : ℕ × P). Some (peer, y.1)) (sym k), ap (λ (y : ℕ × P). y.0) k ∙ h x refl)
  found (x ∷ xs) (suc at) peer d e l h k = found xs at peer d e (omega (arith, l)) h k

  -- the port at an index, and the ports once it has changed
  module _ (items : List (ℕ × P)) (at peer : ℕ) (d : ℕ × P) (a : AreAscending (port_views view items)) (h : (slice_get items at ≡ Some (peer, d.1)) × (d.0 ≡ peer)) where
    pub read_at : {V : Type 0} (f : PortView → V) (e : V) → by_peer f e (port_views view items) peer ≡ f (view d.1)
    read_at f e = at_peer f e (port_views view items) at peer (view d.1) a (get_views items at peer d.1 h.0)

    pub is_room : 0 < room_to (port_views view items) peer → 0 < (view d.1).room
    is_room r = let e = read_at (λ p. p.room) 0 in omega (arith, e, r)

    pub pairing_at : (v : Pairing) → pairing_to (port_views view items) peer ≡ Some v → (view d.1).pairing ≡ v
    pairing_at v k = let e = read_at (λ p. Some p.pairing) None in cc

    module _ (new : P) where
      abbrev pub ports_set : List (ℕ × PortView)
      ports_set = port_views view (slice_set items at (d.0, new))

      changed : ports_set ≡ set (port_views view items) at (peer, view new)
      changed = ap (λ (n : ℕ). port_views view (slice_set items at (n, new))) h.1 ∙ set_views items at peer new

      pub read_set : {V : Type 0} (f : PortView → V) (e : V) → by_peer f e ports_set peer ≡ f (view new)
      read_set f e = ap (λ xs. by_peer f e xs peer) changed ∙ at_peer_set f e (port_views view items) at peer (view d.1) (view new) a (get_views items at peer d.1 h.0)

      pub carried_at : (m : PixelMessage) → PortCarries m (view d.1) (view new) → Carried peer m (port_views view items) ports_set
      carried_at m c = subst (λ xs. Carried peer m (port_views view items) xs) (sym changed) (carried (port_views view items) at peer (view d.1) (view new) a (get_views items at peer d.1 h.0) m c)

      pub missed_at : PortMisses (view d.1) (view new) → Missed peer (port_views view items) ports_set
      missed_at c = subst (λ xs. Missed peer (port_views view items) xs) (sym changed) (missed (port_views view items) at peer (view d.1) (view new) a (get_views items at peer d.1 h.0) c)

      pub met_at : PortMet (view d.1) (view new) → Met peer (port_views view items) ports_set
      met_at c = subst (λ xs. Met peer (port_views view items) xs) (sym changed) (met (port_views view items) at peer (view d.1) (view new) a (get_views items at peer d.1 h.0) c)

-- a port that carried or missed keeps its pairing
pub carried_keeps : {peer : ℕ} {m : PixelMessage} {old new : List (ℕ × PortView)} → Carried peer m old new → KeepsPairings old new
carried_keeps c = record { same_peers = c.beside.same_peers; same_pairings = c.same_pairings }

pub missed_keeps : {peer : ℕ} {old new : List (ℕ × PortView)} → Missed peer old new → KeepsPairings old new
missed_keeps c = record { same_peers = c.beside.same_peers; same_pairings = c.same_pairings }

pub if_ok : {A B X : Type 0} {Y : Type 0} (r : Result A B) → (X → Y) → OnOk r X → OnOk r Y
if_ok (Ok v) f x = f x
if_ok (Err e) f x = tt

pub if_err : {A B X Y : Type 0} (r : Result A B) → (X → Y) → OnErr r X → OnErr r Y
if_err (Ok v) f x = tt
if_err (Err e) f x = f x

pub either_way : {A B Y : Type 0} (r : Result A B) → OnOk r Y → OnErr r Y → Y
either_way (Ok v) x y = x
either_way (Err e) x y = y

pub if_some : {A : Type 0} {X Y : A → Type 0} (o : Option A) → ((a : A) → X a → Y a) → IfSome o X → IfSome o Y
if_some None f x = tt
if_some (Some a) f x = f a x

pub if_none : {A X Y : Type 0} (o : Option A) → (X → Y) → IfNone o X → IfNone o Y
if_none None f x = f x
if_none (Some a) f x = tt

pub some_or_none : {A Y : Type 0} {X : A → Type 0} (o : Option A) → ((a : A) → X a → Y) → IfSome o X → IfNone o Y → Y
some_or_none None f x y = y
some_or_none (Some a) f x y = f a x

-- slots
module _ {P : Type 0} where
  pub is_filled : (slots : List (Option P)) (slot : ℕ) (d : Option P) → IsFilled (at_list slots slot) → slot < length slots → slice_index_or slots slot d ≡ None → ⊥
  is_filled [] slot d f l z = absurd (omega (arith, l))
  is_filled (x ∷ xs) zero d f l z = subst IsFilled z f
  is_filled (x ∷ xs) (suc slot) d f l z = is_filled xs slot d f (omega (arith, l)) z

  pub put_back : (slots : List (Option P)) (slot : ℕ) (d empty again : Option P) → slot < length slots → slice_index_or slots slot d ≡ again → slice_set (slice_set slots slot empty) slot again ≡ slots
  put_back [] slot d empty again l z = absurd (omega (arith, l))
  put_back (x ∷ xs) zero d empty again l z = ap (λ y. y ∷ xs) (sym z)
  put_back (x ∷ xs) (suc slot) d empty again l z = ap (λ ys. x ∷ ys) (put_back xs slot d empty again (omega (arith, l)) z)

-- a meaning of a port, by the port
pub by_port : {P V : Type 0} (f : P → V) (d : V) (old new : List (ℕ × P)) (q : ℕ) → port_to new q ≡ port_to old q → by_peer f d new q ≡ by_peer f d old q
by_port {P} {V} f d old new q h = reads new ∙ (ap of h ∙ sym (reads old))
  where
    of : Option P → V
    of None = d
    of (Some p) = f p

    reads : (ports : List (ℕ × P)) → by_peer f d ports q ≡ of (port_to ports q)
    reads [] = refl
    reads (e ∷ es) = go (e.0 == q) (reads es)
      where
        go : (b : Bool) → by_peer f d es q ≡ of (port_to es q) → cond b (f e.1) (by_peer f d es q) ≡ of (cond b (Some e.1) (port_to es q))
        go true r = refl
        go false r = r

-- two ports stay paired where each list keeps its pairings
pub paired_kept : (from to cap : ℕ) (outboxes outboxes_new inboxes inboxes_new : List (ℕ × PortView)) → ArePaired from to cap outboxes inboxes → KeepsPairings outboxes outboxes_new → KeepsPairings inboxes inboxes_new → ArePaired from to cap outboxes_new inboxes_new
paired_kept from to cap outboxes outboxes_new inboxes inboxes_new p out inbox = record {
  pairing = p.pairing;
  out = ap (λ f. f to) out.same_pairings ∙ p.out;
  inbox = ap (λ f. f from) inbox.same_pairings ∙ p.inbox;
  cap_is = p.cap_is;
}
