-- Ports of a net that is being opened: one list grows by the port to the next peer.
use Rattle.std.proofs.Common.{◌≡◌, ◌≢◌, ℕ, ◌+◌, ◌<◌, ◌≤◌, Bool, cond, List, [], ◌∷◌, ◌++◌, refl, sym, ap, ◌∙◌, arith, Some, None, eq-eqb, ne_eqb, ⊎_elim}
use Rattle.std.specs.Prelude.{◌==◌}
use Rattle.std.specs.List.{AllByRecursion}
use Rattle.std.proofs.lemmas.Bool.{cases_lt}
use Rattle.icet_model.specs.Ports.{by_peer, room_to, AreAscending}
use Rattle.icet_model.specs.Wires.{PortView, IsNewPair}
use Rattle.icet_net.specs.Opening.{AreNewPorts, IsOpenedPair, KeepsPortsBut}

all_push : {X : Type 0} (Q : X → Type 0) (xs : List X) (x : X) → AllByRecursion Q xs → Q x → AllByRecursion Q (xs ++ x ∷ [])
all_push Q [] x a h = (h, tt)
all_push Q (y ∷ ys) x a h = (a.0, all_push Q ys x a.1 h)

all_wider : {P : Type 0} (b c : ℕ) → b ≤ c → (xs : List (ℕ × P)) → AllByRecursion (λ (e : ℕ × P). e.0 < b) xs → AllByRecursion (λ (e : ℕ × P). e.0 < c) xs
all_wider b c l [] a = tt
all_wider b c l (x ∷ xs) a = (let h = a.0 in omega (arith, h, l), all_wider b c l xs a.1)

module _ {P : Type 0} where
  ascend_push : (xs : List (ℕ × P)) (b : ℕ) (x : P) → AreAscending xs → AllByRecursion (λ (e : ℕ × P). e.0 < b) xs → AreAscending (xs ++ (b, x) ∷ [])
  ascend_push [] b x a l = (tt, tt)
  ascend_push (e ∷ es) b x a l = (all_push (λ (z : ℕ × P). e.0 < z.0) es (b, x) a.0 l.0, ascend_push es b x a.1 l.1)

  module _ {V : Type 0} (f : P → V) (d : V) where
    push_there : (xs : List (ℕ × P)) (b k : ℕ) (x : P) → b ≢ k → by_peer f d (xs ++ (b, x) ∷ []) k ≡ by_peer f d xs k
    push_there [] b k x n = ap (λ (t : Bool). cond t (f x) d) (ne_eqb b k n)
    push_there (e ∷ es) b k x n = ap (λ v. cond (e.0 == k) (f e.1) v) (push_there es b k x n)

    push_here : (xs : List (ℕ × P)) (b : ℕ) (x : P) → AllByRecursion (λ (e : ℕ × P). e.0 < b) xs → by_peer f d (xs ++ (b, x) ∷ []) b ≡ f x
    push_here [] b x a = ap (λ (t : Bool). cond t (f x) d) (eq-eqb b b refl)
    push_here (e ∷ es) b x a = ap (λ (t : Bool). cond t (f e.1) (by_peer f d (es ++ (b, x) ∷ []) b)) (ne_eqb e.0 b (λ z. let h = a.0 in omega (arith, h, z))) ∙ push_here es b x a.1

    past : (xs : List (ℕ × P)) (b k : ℕ) → b ≤ k → AllByRecursion (λ (e : ℕ × P). e.0 < b) xs → by_peer f d xs k ≡ d
    past [] b k l a = refl
    past (e ∷ es) b k l a = ap (λ (t : Bool). cond t (f e.1) (by_peer f d es k)) (ne_eqb e.0 k (λ z. let h = a.0 in omega (arith, h, z, l))) ∙ past es b k l a.1

pub push_others : (xs : List (ℕ × PortView)) (b : ℕ) (x : PortView) → KeepsPortsBut b xs (xs ++ (b, x) ∷ [])
push_others xs b x = record { others = λ k n. push_there (λ p. Some p) None xs b k x n }

pub none_new : (count : ℕ → ℕ) → AreNewPorts count 0 []
none_new count = record { ascend = tt; below = tt; empty = tt; rooms = λ k l. absurd (omega (arith, l)) }

pub skip_new : (count : ℕ → ℕ) (b n : ℕ) (xs : List (ℕ × PortView)) → count b ≡ n → n ≡ 0 → AreNewPorts count b xs → AreNewPorts count (b + 1) xs
skip_new count b n xs e z h = record {
  ascend = h.ascend;
  below = all_wider b (b + 1) (omega arith) xs h.below;
  empty = h.empty;
  rooms = λ k l.
      ⊎_elim
      (λ (m : k < b). h.rooms k m)
      (λ (m : b ≤ k). past (λ p. p.room) 0 xs b k m h.below ∙ sym (ap count (let y : k ≡ b = omega (arith, l, m) in y) ∙ (e ∙ z)))
      (cases_lt k b);
}

pub push_new : (count : ℕ → ℕ) (b n : ℕ) (xs : List (ℕ × PortView)) (x : PortView) → count b ≡ n → x.messages ≡ [] → x.room ≡ n → AreNewPorts count b xs → AreNewPorts count (b + 1) (xs ++ (b, x) ∷ [])
push_new count b n xs x e li ro h = record {
  ascend = ascend_push xs b x h.ascend h.below;
  below = all_push (λ (z : ℕ × PortView). z.0 < b + 1) xs (b, x) (all_wider b (b + 1) (omega arith) xs h.below) (omega arith);
  empty = all_push (λ (z : ℕ × PortView). z.1.messages ≡ []) xs (b, x) h.empty li;
  rooms = λ k l.
      ⊎_elim
      (λ (m : k < b). push_there (λ p. p.room) 0 xs b k x (λ z. omega (arith, z, m)) ∙ h.rooms k m)
      (λ (m : b ≤ k). let y : k ≡ b = omega (arith, l, m) in ap (room_to (xs ++ (b, x) ∷ [])) y ∙ (push_here (λ p. p.room) 0 xs b x h.below ∙ (ro ∙ (sym e ∙ sym (ap count y)))))
      (cases_lt k b);
}

-- the room of the port to each peer
pub all_rooms : (count : ℕ → ℕ) (b : ℕ) (xs : List (ℕ × PortView)) → AreNewPorts count b xs → ((k : ℕ) → b ≤ k → count k ≡ 0) → (k : ℕ) → room_to xs k ≡ count k
all_rooms count b xs h none k = ⊎_elim (λ (m : k < b). h.rooms k m) (λ (m : b ≤ k). past (λ p. p.room) 0 xs b k m h.below ∙ sym (none k m)) (cases_lt k b)

-- the two new ports are paired
pub pushed_pair : (a b : ℕ → ℕ) (cap q r n : ℕ) (outs ins : List (ℕ × PortView)) (out inbox : PortView) → AreNewPorts a r outs → AreNewPorts b q ins → IsNewPair q r cap n out inbox → IsOpenedPair cap q r (outs ++ (r, out) ∷ []) (ins ++ (q, inbox) ∷ [])
pushed_pair a b cap q r n outs ins out inbox ho hi new = record {
  pairing = out.pairing;
  out = push_here (λ p. Some p.pairing) None outs r out ho.below;
  inbox = push_here (λ p. Some p.pairing) None ins q inbox hi.below ∙ ap (λ p. Some p) (sym new.paired);
  from_is = new.out_is.from;
  to_is = new.out_is.to;
  cap_is = new.out_is.cap;
}
