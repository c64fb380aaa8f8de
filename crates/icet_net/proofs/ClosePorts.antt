-- Ports that are taken out of lists of ports, and closed pair by pair.
use Rattle.std.proofs.Common.{reverse, ◌≡◌, ◌≢◌, ℕ, zero, suc, ◌+◌, ◌<◌, ◌≤◌, Bool, true, false, cond, List, [], ◌∷◌, ◌++◌, map, length, get_or, take, drop, slice_set, slice_index_or, refl, sym, ap, ◌∙◌, subst, arith, Some, eq-eqb, ne_eqb, inl, inr}
use Rattle.std.specs.Prelude.{◌⊎◌, ◌==◌, option_map}
use Rattle.std.specs.List.{slice_get}
use Rattle.std.specs.Option.{ForSome}
use Rattle.icet_model.specs.Ports.{by_peer, port_views}
use Rattle.icet_model.specs.Wires.{PortView}
use Rattle.icet_rank.specs.Moves.{HasPeer, port_to}
use Rattle.icet_rank.proofs.PortMoves.{has_paired, by_port, peer_there}
use Rattle.std.proofs.lemmas.List.{append_assoc, map-append, take_more, take_all, reverse-append}
use Rattle.icet_net.specs.Opening.{ports_of}
use Rattle.icet_net.specs.CloseSteps.{IsClosable, LosesPort, KeepsPortsFrom, IsTaken, AreDistinct, entry_of}
use Rattle.icet_model.proofs.Numbers.{same_or_not}

module _ {P : Type 0} where
  at_place : (ports : List (ℕ × P)) (at : ℕ) (d x : ℕ × P) → slice_get ports at ≡ Some x → slice_index_or ports at d ≡ x
  at_place [] at d x h = absurd (cc)
  at_place (y ∷ ys) zero d x h = cc
  at_place (y ∷ ys) (suc at) d x h = at_place ys at d x h

  -- the last of the first n + 1 ports stands first in reverse
  reverse_more : (ports : List (ℕ × P)) (n : ℕ) (d : ℕ × P) → n < length ports → reverse (take (n + 1) ports) ≡ get_or ports n d ∷ reverse (take n ports)
  reverse_more ports n d l = ap reverse (take_more ports n d l) ∙ reverse-append (take n ports) (get_or ports n d ∷ [])

  -- the ports of which those behind the first n are none to the peer
  pub record Seeks (n peer : ℕ) (ports : List (ℕ × P)) : Type 0 where
    pub within : n ≤ length ports
    pub has : HasPeer peer (reverse (take n ports))
    pub same : port_to (reverse ports) peer ≡ port_to (reverse (take n ports)) peer

  pub seeks_all : (n peer : ℕ) (ports : List (ℕ × P)) → n ≡ length ports → HasPeer peer (reverse ports) → Seeks n peer ports
  seeks_all n peer ports e h =
      let z : take n ports ≡ ports = take_all n ports (omega (arith, e)) in
      record { within = omega (arith, e); has = subst (λ xs. HasPeer peer (reverse xs)) (sym z) h; same = ap (λ xs. port_to (reverse xs) peer) (sym z) }

  pub seeks_none : (n peer : ℕ) (ports : List (ℕ × P)) → n ≤ 0 → Seeks n peer ports → ⊥
  seeks_none n peer ports l s = subst (λ k. HasPeer peer (reverse (take k ports))) (let e : n ≡ 0 = omega (arith, l) in e) s.has

  pub seeks_less : (n m peer : ℕ) (ports : List (ℕ × P)) (d : ℕ × P) → n ≡ m + 1 → (get_or ports m d).0 ≢ peer → Seeks n peer ports → Seeks m peer ports
  seeks_less n m peer ports d e nope s =
      let l = s.within in
      let r : reverse (take n ports) ≡ get_or ports m d ∷ reverse (take m ports) = ap (λ k. reverse (take k ports)) e ∙ reverse_more ports m d (omega (arith, e, l)) in
      record {
        within = omega (arith, e, l);
        has = other (subst (HasPeer peer) r s.has);
        same = s.same ∙ (ap (λ xs. port_to xs peer) r ∙ ap (λ (b : Bool). cond b (Some (get_or ports m d).1) (port_to (reverse (take m ports)) peer)) (ne_eqb (get_or ports m d).0 peer nope));
      }
    where
      other : HasPeer peer (get_or ports m d ∷ reverse (take m ports)) → HasPeer peer (reverse (take m ports))
      other (inl h) = absurd (nope h)
      other (inr h) = h

  pub last_here : (n m peer : ℕ) (ports : List (ℕ × P)) (d : ℕ × P) → n ≡ m + 1 → (get_or ports m d).0 ≡ peer → Seeks n peer ports → ForSome (slice_get ports m) (λ p. (p.0 ≡ peer) × (port_to (reverse ports) peer ≡ Some p.1))
  last_here n m peer ports d e is s x i =
      let l = s.within in
      let y = get_or ports m d in
      let z : y ≡ x = at_place ports m d x i in
      let r : reverse (take n ports) ≡ y ∷ reverse (take m ports) = ap (λ k. reverse (take k ports)) e ∙ reverse_more ports m d (omega (arith, e, l)) in (
        ap (λ (w : ℕ × P). w.0) (sym z) ∙ is,
        s.same ∙ (ap (λ xs. port_to xs peer) r ∙ (ap (λ (b : Bool). cond b (Some y.1) (port_to (reverse (take m ports)) peer)) (eq-eqb y.0 peer is) ∙ ap (λ (w : ℕ × P). Some w.1) z)),
      )

  parted : (ports : List (ℕ × P)) (k : ℕ) (d : ℕ × P) → k < length ports → take k ports ++ get_or ports k d ∷ drop (suc k) ports ≡ ports
  parted [] k d l = absurd (omega (arith, l))
  parted (x ∷ xs) zero d l = refl
  parted (x ∷ xs) (suc k) d l = ap (λ ys. x ∷ ys) (parted xs k d (omega (arith, l)))

  skip_one : (xs ys : List (ℕ × P)) (y : ℕ × P) (k : ℕ) → y.0 ≢ k → port_to ((xs ++ y ∷ []) ++ ys) k ≡ port_to (xs ++ ys) k
  skip_one [] ys y k n = ap (λ (b : Bool). cond b (Some y.1) (port_to ys k)) (ne_eqb y.0 k n)
  skip_one (x ∷ xs) ys y k n = ap (λ v. cond (x.0 == k) (Some x.1) v) (skip_one xs ys y k n)

  there : (ports : List (ℕ × P)) (at : ℕ) (d : ℕ × P) → at < length ports → slice_get ports at ≡ Some (get_or ports at d)
  there [] at d l = absurd (omega (arith, l))
  there (y ∷ ys) zero d l = refl
  there (y ∷ ys) (suc at) d l = there ys at d (omega (arith, l))

  -- the ports to other peers stand when one is removed
  removed : (Q : ℕ × P → Type 0) (ports : List (ℕ × P)) (at peer : ℕ) (d : ℕ × P) → at < length ports → ForSome (slice_get ports at) (λ p. (p.0 ≡ peer) × Q p) → (k : ℕ) → k ≢ peer → port_to (reverse (take at ports ++ drop (suc at) ports)) k ≡ port_to (reverse ports) k
  removed Q ports at peer d l h k n =
      let y = get_or ports at d in
      let is = (h y (there ports at d l)).0 in
      let whole : reverse ports ≡ (reverse (drop (suc at) ports) ++ y ∷ []) ++ reverse (take at ports) = ap reverse (sym (parted ports at d l)) ∙ (reverse-append (take at ports) (y ∷ drop (suc at) ports) ∙ ap (λ xs. xs ++ reverse (take at ports)) (reverse-append (y ∷ []) (drop (suc at) ports))) in
      ap (λ xs. port_to xs k) (reverse-append (take at ports) (drop (suc at) ports)) ∙ (sym (skip_one (reverse (drop (suc at) ports)) (reverse (take at ports)) y k (λ e. n (sym e ∙ is))) ∙ ap (λ xs. port_to xs k) (sym whole))

  first_of : (ports : List (ℕ × P)) (at : ℕ) → at < length ports → ℕ × P
  first_of [] at l = absurd (omega (arith, l))
  first_of (y ∷ ys) at l = y

  pub removed_from : (Q : ℕ × P → Type 0) (ports items : List (ℕ × P)) (at peer : ℕ) → ports ≡ items → at < length ports → ForSome (slice_get ports at) (λ p. (p.0 ≡ peer) × Q p) → (k : ℕ) → k ≢ peer → port_to (reverse (take at items ++ drop (suc at) items)) k ≡ port_to (reverse items) k
  removed_from Q ports items at peer e l h = subst (λ (zs : List (ℕ × P)). (k : ℕ) → k ≢ peer → port_to (reverse (take at zs ++ drop (suc at) zs)) k ≡ port_to (reverse zs) k) e (removed Q ports at peer (first_of ports at l) l h)

  -- what is read of a port that is there
  pub read_port : {V : Type 0} (f : P → V) (d : V) (ports : List (ℕ × P)) (k : ℕ) (x : P) → port_to ports k ≡ Some x → by_peer f d ports k ≡ f x
  read_port f d [] k x h = absurd (cc)
  read_port {V} f d (y ∷ ys) k x h = go (y.0 == k) h (λ e. read_port f d ys k x e)
    where
      go : (b : Bool) → cond b (Some y.1) (port_to ys k) ≡ Some x → (port_to ys k ≡ Some x → by_peer f d ys k ≡ f x) → cond b (f y.1) (by_peer f d ys k) ≡ f x
      go true e r = ap f (let z : y.1 ≡ x = cc in z)
      go false e r = r e

  pub has_port : (peer : ℕ) (x : P) (ports : List (ℕ × P)) → port_to ports peer ≡ Some x → HasPeer peer ports
  has_port peer x ports h = has_paired (λ p. p) peer x ports h

module _ {X : Type 0} (f : X → List (ℕ × PortView)) where
  set_there : (xs : List X) (i a : ℕ) (y : X) → a ≢ i → get_or (map f (slice_set xs i y)) a [] ≡ get_or (map f xs) a []
  set_there [] i a y n = refl
  set_there (x ∷ xs) zero zero y n = absurd (n refl)
  set_there (x ∷ xs) zero (suc a) y n = refl
  set_there (x ∷ xs) (suc i) zero y n = refl
  set_there (x ∷ xs) (suc i) (suc a) y n = set_there xs i a y (λ e. n (ap suc e))

  set_here : (xs : List X) (i : ℕ) (y : X) → i < length xs → get_or (map f (slice_set xs i y)) i [] ≡ f y
  set_here [] i y l = absurd (omega (arith, l))
  set_here (x ∷ xs) zero y l = refl
  set_here (x ∷ xs) (suc i) y l = set_here xs i y (omega (arith, l))

  pub at_here : (xs : List X) (i : ℕ) (d : X) → i < length xs → get_or (map f xs) i [] ≡ f (slice_index_or xs i d)
  at_here [] i d l = absurd (omega (arith, l))
  at_here (x ∷ xs) zero d l = refl
  at_here (x ∷ xs) (suc i) d l = at_here xs i d (omega (arith, l))

  -- the list of the element that an index gives
  pub element : (xs : List X) (s q : ℕ) (d : X) → s ≡ q → q < length xs → ports_of (map f xs) q ≡ f (slice_index_or xs s d)
  element xs s q d e l = ap (λ i. get_or (map f xs) i []) (sym e) ∙ at_here xs s d (omega (arith, e, l))

  set_long : (xs : List X) (i : ℕ) (y : X) → length (map f (slice_set xs i y)) ≡ length (map f xs)
  set_long [] i y = refl
  set_long (x ∷ xs) zero y = refl
  set_long (x ∷ xs) (suc i) y = ap suc (set_long xs i y)

  pub loses : (xs : List X) (s q peer : ℕ) (d y : X) → s ≡ q → q < length xs → ((k : ℕ) → k ≢ peer → port_to (f y) k ≡ port_to (f (slice_index_or xs s d)) k) → LosesPort q peer (map f xs) (map f (slice_set xs s y))
  loses xs s q peer d y e l same = record {
    count = set_long xs s y;
    others = λ a b o. go a b o (same_or_not a s);
  }
    where
      go : (a b : ℕ) → (a ≢ q) ⊎ (b ≢ peer) → (a ≡ s) ⊎ (a ≢ s) → port_to (ports_of (map f (slice_set xs s y)) a) b ≡ port_to (ports_of (map f xs) a) b
      go a b o (inr n) = ap (λ ps. port_to ps b) (set_there xs s a y n)
      go a b (inl m) (inl z) = absurd (m (z ∙ e))
      go a b (inr m) (inl z) =
          let ls : s < length xs = omega (arith, e, l) in
          ap (λ i. port_to (ports_of (map f (slice_set xs s y)) i) b) z
          ∙ (ap (λ ps. port_to ps b) (set_here xs s y ls)
          ∙ (same b m
          ∙ (ap (λ ps. port_to ps b) (sym (at_here xs s d ls))
          ∙ ap (λ i. port_to (ports_of (map f xs) i) b) (sym z))))

-- ports as code has them, in reverse, and what contracts see of them
module _ {P : Type 0} (view : P → PortView) where
  pub map_reverse : (items : List (ℕ × P)) → reverse (port_views view items) ≡ port_views view (reverse items)
  map_reverse [] = refl
  map_reverse (e ∷ es) = reverse-append ((e.0, view e.1) ∷ []) (port_views view es) ∙ (ap (λ xs. xs ++ (e.0, view e.1) ∷ []) (map_reverse es) ∙ (sym (map-append (λ (p : ℕ × P). (p.0, view p.1)) (reverse es) (e ∷ [])) ∙ ap (port_views view) (sym (reverse-append (e ∷ []) es))))

  view_there : (items : List (ℕ × P)) (k : ℕ) → port_to (port_views view items) k ≡ option_map view (port_to items k)
  view_there [] k = refl
  view_there (e ∷ es) k = go (e.0 == k) (view_there es k)
    where
      go : (b : Bool) → port_to (port_views view es) k ≡ option_map view (port_to es k) → cond b (Some (view e.1)) (port_to (port_views view es) k) ≡ option_map view (cond b (Some e.1) (port_to es k))
      go true h = refl
      go false h = h

  -- the port to a peer, seen in the reversed list
  pub seen_reversed : (items : List (ℕ × P)) (k : ℕ) → port_to (reverse (port_views view items)) k ≡ option_map view (port_to (reverse items) k)
  seen_reversed items k = ap (λ xs. port_to xs k) (map_reverse items) ∙ view_there (reverse items) k

  pub has_reversed : (peer : ℕ) (items : List (ℕ × P)) → HasPeer peer (reverse (port_views view items)) → HasPeer peer (reverse items)
  has_reversed peer items h = peer_there view peer (reverse items) (subst (HasPeer peer) (map_reverse items) h)

-- what a write leaves of a meaning that doesn't read what was written
pub set_same : {X Y : Type 0} (f : X → Y) (xs : List X) (s : ℕ) (d y : X) → f y ≡ f (slice_index_or xs s d) → map f (slice_set xs s y) ≡ map f xs
set_same f [] s d y e = refl
set_same f (x ∷ xs) zero d y e = ap (λ z. z ∷ map f xs) e
set_same f (x ∷ xs) (suc s) d y e = ap (λ zs. f x ∷ zs) (set_same f xs s d y e)

-- what was taken on a pair is what was sent, once its two ports say so
pub pair_taken : (outs ins ins' : List (List (ℕ × PortView))) (q r : ℕ) (out inbox : PortView) → port_to (ports_of outs q) r ≡ Some out → ins' ≡ ins → port_to (ports_of ins' r) q ≡ Some inbox → inbox.messages ≡ out.messages → IsTaken outs ins (q, r)
pair_taken outs ins ins' q r out inbox ho e hi same = read_port (λ (p : PortView). p.messages) [] (ports_of ins r) q inbox (ap (λ zs. port_to (ports_of zs r) q) (sym e) ∙ hi) ∙ (same ∙ sym (read_port (λ (p : PortView). p.messages) [] (ports_of outs q) r out ho))

-- a pair can be closed as long as its ports stand
pub still_closable : (outs outs' ins ins' : List (List (ℕ × PortView))) (q r : ℕ) → length outs' ≡ length outs → length ins' ≡ length ins → port_to (ports_of outs' q) r ≡ port_to (ports_of outs q) r → port_to (ports_of ins' r) q ≡ port_to (ports_of ins r) q → IsClosable outs ins q r → IsClosable outs' ins' q r
still_closable outs outs' ins ins' q r lo li ho hi c = record {
  from_within = let l = c.from_within in omega (arith, l, lo);
  to_within = let l = c.to_within in omega (arith, l, li);
  out = c.out;
  inbox = c.inbox;
  out_is = ho ∙ c.out_is;
  inbox_is = hi ∙ c.inbox_is;
  taken_pair = c.taken_pair;
}

module _ (pairs : List (ℕ × ℕ)) (distinct : AreDistinct pairs) (outs0 outs1 outs2 : List (List (ℕ × PortView))) (ins0 ins1 ins2 : List (List (ℕ × PortView))) where
  pub keeps_none : (n : ℕ) → KeepsPortsFrom n pairs outs0 outs0 ins0 ins0
  keeps_none n = record { out_count = refl; in_count = refl; outs = λ j p l h. refl; ins = λ j p l h. refl }

  apart : (i j : ℕ) (p x : ℕ × ℕ) → i < j → slice_get pairs i ≡ Some x → slice_get pairs j ≡ Some p → (p.0 ≢ x.0) ⊎ (p.1 ≢ x.1)
  apart i j p x l hi hj = go (same_or_not p.0 x.0)
    where
      next : p.0 ≡ x.0 → (p.1 ≡ x.1) ⊎ (p.1 ≢ x.1) → (p.0 ≢ x.0) ⊎ (p.1 ≢ x.1)
      next a (inr n) = inr n
      next a (inl b) = absurd (let z : i ≡ j = distinct.apart i j x hi (hj ∙ ap (λ (w : ℕ × ℕ). Some w) (λ k. (a k, b k))) in omega (arith, l, z))

      go : (p.0 ≡ x.0) ⊎ (p.0 ≢ x.0) → (p.0 ≢ x.0) ⊎ (p.1 ≢ x.1)
      go (inr n) = inl n
      go (inl a) = next a (same_or_not p.1 x.1)

  turn_round : {A B : Type 0} → A ⊎ B → B ⊎ A
  turn_round (inl a) = inr a
  turn_round (inr b) = inl b

  pub keeps_more : (i : ℕ) (x : ℕ × ℕ) → slice_get pairs i ≡ Some x → KeepsPortsFrom i pairs outs0 outs1 ins0 ins1 → LosesPort x.0 x.1 outs1 outs2 → LosesPort x.1 x.0 ins1 ins2 → KeepsPortsFrom (i + 1) pairs outs0 outs2 ins0 ins2
  keeps_more i x at k lo li = record {
    out_count = lo.count ∙ k.out_count;
    in_count = li.count ∙ k.in_count;
    outs = λ j p l h. lo.others p.0 p.1 (apart i j p x (omega (arith, l)) at h) ∙ k.outs j p (omega (arith, l)) h;
    ins = λ j p l h. li.others p.1 p.0 (turn_round (apart i j p x (omega (arith, l)) at h)) ∙ k.ins j p (omega (arith, l)) h;
  }

-- what holds of the pairs below i and of pair i holds of one more
pub pairs_more : (Q : ℕ × ℕ → Type 0) (pairs : List (ℕ × ℕ)) (i : ℕ) (x : ℕ × ℕ) → slice_get pairs i ≡ Some x → Q x → ((j : ℕ) (p : ℕ × ℕ) → j < i → slice_get pairs j ≡ Some p → Q p) → (j : ℕ) (p : ℕ × ℕ) → j < i + 1 → slice_get pairs j ≡ Some p → Q p
pairs_more Q pairs i x at here before j p l h = go (same_or_not j i)
  where
    go : (j ≡ i) ⊎ (j ≢ i) → Q p
    go (inl e) = subst Q (let z : Some x ≡ Some p = sym at ∙ (ap (slice_get pairs) (sym e) ∙ h) in let w : x ≡ p = cc in w) here
    go (inr n) = before j p (omega (arith, l, n)) h

-- the entry of an index is there
pub pair_at : (pairs : List (ℕ × ℕ)) (i : ℕ) (d : ℕ × ℕ) → i < length pairs → slice_get pairs i ≡ Some (get_or pairs i d)
pair_at [] i d l = absurd (omega (arith, l))
pair_at (p ∷ ps) zero d l = refl
pair_at (p ∷ ps) (suc i) d l = pair_at ps i d (omega (arith, l))

-- the pair that was read at an index
pub pair_read : (pairs : List (ℕ × ℕ)) (i : ℕ) (x : ℕ × ℕ) → i < length pairs → x ≡ get_or pairs i x → slice_get pairs i ≡ Some x
pair_read pairs i x l is = pair_at pairs i x l ∙ ap (λ (w : ℕ × ℕ). Some w) (sym is)

module _ {E : Type 0} where
  -- a log that grew by one entry more
  pub log_more : (f : ℕ × ℕ → E) (pairs : List (ℕ × ℕ)) (i : ℕ) (d : ℕ × ℕ) (e : E) (l0 l1 l2 : List E) → i < length pairs → l2 ≡ l1 ++ e ∷ [] → e ≡ f (get_or pairs i d) → l1 ≡ l0 ++ map f (take i pairs) → l2 ≡ l0 ++ map f (take (i + 1) pairs)
  log_more f pairs i d e l0 l1 l2 l grew is before =
      grew
      ∙ (ap (λ zs. zs ++ e ∷ []) before
      ∙ (append_assoc l0 (map f (take i pairs)) (e ∷ [])
      ∙ (ap (λ z. l0 ++ (map f (take i pairs) ++ z ∷ [])) is
      ∙ (ap (λ zs. l0 ++ zs) (sym (map-append f (take i pairs) (get_or pairs i d ∷ [])))
      ∙ ap (λ zs. l0 ++ map f zs) (sym (take_more pairs i d l))))))

module _ (pairs : List (ℕ × ℕ)) (outs0 outs1 : List (List (ℕ × PortView))) (ins0 ins1 : List (List (ℕ × PortView))) (i : ℕ) (x : ℕ × ℕ) (at : slice_get pairs i ≡ Some x) (keeps : KeepsPortsFrom i pairs outs0 outs1 ins0 ins1) where
  pub entry_before : entry_of outs1 x ≡ entry_of outs0 x
  entry_before = ap (λ ms. record { from = x.0; to = x.1; messages = ms }) (by_port (λ (p : PortView). p.messages) [] (ports_of outs0 x.0) (ports_of outs1 x.0) x.1 (keeps.outs i x (omega arith) at))

  pub taken_before : IsTaken outs1 ins1 x → IsTaken outs0 ins0 x
  taken_before h = sym (by_port (λ (p : PortView). p.messages) [] (ports_of ins0 x.1) (ports_of ins1 x.1) x.0 (keeps.ins i x (omega arith) at)) ∙ (h ∙ by_port (λ (p : PortView). p.messages) [] (ports_of outs0 x.0) (ports_of outs1 x.0) x.1 (keeps.outs i x (omega arith) at))
