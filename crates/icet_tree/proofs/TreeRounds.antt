-- The rounds of the tree strategy: each rank does what is said, with exactly the messages that are said.
use Rattle.std.proofs.Common.{◌≡◌, ℕ, zero, suc, ◌+◌, ◌-◌, ◌*◌, ◌%◌, ◌/◌, ◌^◌, ◌<◌, ◌≤◌, Bool, true, false, cond, List, [], ◌∷◌, map, length, refl, sym, ap, ◌∙◌, subst, arith, Option, Some, None, eqb-true, eq-eqb, ne_eqb}
use Rattle.std.proofs.lemmas.Bool.Decides.{nat_tests}
use Rattle.std.proofs.lemmas.Nat.{pow_pos}
use Rattle.std.proofs.Math.Nat.{mul-add-mod_self_left, mul-mod_right, div-add-mod, mod-eq_of_lt, add-mod_right, pow-succ'}
use Rattle.std.specs.Prelude.{◌==◌, ◌&&◌, ◌≢◌, nat_le, nat_lt, option_map}
use Rattle.std.specs.List.{filter, slice_get}
use mathlib.Core.Path.{fun_ext}
use Rattle.icet_legs.proofs.Positions.{OnTiles, none_at, pick_at}
use Rattle.icet_legs.proofs.Tests.{and_both, and_false, and_parts, below_test}
use Rattle.icet_legs.specs.Team.{IsTeam, Team, by_pair, by_pos}
use Rattle.icet_tree.specs.Tree.{gives, round_messages, round_ops, rounds_messages, rounds_ops, takes, tree_messages, tree_of, tree_ops, tree_piece, tree_swap}
use Rattle.icet_model.specs.Exchange.{Heading, IsRising, exchanges, heading, sends_to, takes_from}
use Rattle.icet_model.specs.Fit.{Fits, FitsJoin, FitsSend, Tiles, shape_at, shape_of}
use Rattle.icet_model.specs.Plan.{bracket_carrier}
use Rattle.icet_model.specs.Run.{given, Carrier, Local, MessageView, Piece, has_heading, join_slots, message_for, message_of, put, received, step}
use Rattle.icet_model.specs.declared.bracket.Bracket.{Bracket}
use Rattle.icet_model.specs.declared.bracket.Bracket.TheVariants.{Empty, Pair}
use Rattle.icet_model.specs.declared.exchange.Exchange.{Exchange}
use Rattle.icet_model.specs.declared.exchange.Kind.TheVariants.{Send, Take}
use Rattle.icet_model.specs.declared.exchange.Op.{Op}
use Rattle.icet_model.specs.declared.exchange.Op.TheVariants.{Join, Swap}
use Rattle.icet_plan.proofs.Segments.{AreWithin, Does, IsPart, does_both, does_nothing, from_slots, parts_join}

not_below : (p q : Bool) → p ≡ true → (p && q) ≡ false → q ≡ false
not_below true q h k = k
not_below false q h k = absurd (cc)

pub record Taking (n w p : ℕ) : Type 0 where
  pub even : p % (2 * w) ≡ 0
  pub below : p + w < n

pub takes_says : (n w p : ℕ) → takes n w p ≡ true → Taking n w p
takes_says n w p h = let f = and_parts (p % (2 * w) == 0) (nat_lt (p + w) n) h in let l = f.1 in record { even = eqb-true (p % (2 * w)) 0 f.0; below = grind (arith, nat_tests) }

pub record Giving (n w q : ℕ) : Type 0 where
  pub high : w ≤ q
  pub taking : takes n w (q - w) ≡ true

pub gives_says : (n w q : ℕ) → gives n w q ≡ true → Giving n w q
gives_says n w q h = let f = and_parts (nat_le w q) (takes n w (q - w)) h in let l = f.0 in record { high = grind (arith, nat_tests); taking = f.1 }

gives_is : (n w p : ℕ) → takes n w p ≡ true → gives n w (p + w) ≡ true
gives_is n w p h = and_both (nat_le w (p + w)) (takes n w ((p + w) - w)) (grind (arith, nat_tests)) (let e : (p + w) - w ≡ p = omega arith in ap (takes n w) e ∙ h)

-- with w more than a multiple of 2 w there is w left
half_left : (x w : ℕ) → 0 < w → x % (2 * w) ≡ 0 → (x + w) % (2 * w) ≡ w
half_left x w l e =
    let m = 2 * w in
    let d : m * (x / m) + x % m ≡ x = div-add-mod x m in
    let x_is : x ≡ m * (x / m) = omega (arith, d, e) in
    ap (λ z. (z + w) % m) x_is ∙ (mul-add-mod_self_left m (x / m) w ∙ mod-eq_of_lt {n = w} {m = 2 * w} (omega arith))

not_both : (n w q : ℕ) → 0 < w → gives n w q ≡ true → takes n w q ≡ false
not_both n w q l g = go (takes n w q) refl
  where
    go : (b : Bool) → takes n w q ≡ b → b ≡ false
    go false h = refl
    go true h = absurd (
        let f = gives_says n w q g in
        let a = (takes_says n w (q - w) f.taking).even in
        let b = (takes_says n w q h).even in
        let s = half_left (q - w) w l a in
        let z : (q - w) + w ≡ q = omega (arith, f.high) in
        let t : q % (2 * w) ≡ w = ap (λ x. x % (2 * w)) (sym z) ∙ s in
        omega (arith, t, b, l))

half_low : (x w : ℕ) → x % (2 * w) ≡ 0 → x % w ≡ 0
half_low x w e =
    let d : 2 * w * (x / (2 * w)) + x % (2 * w) ≡ x = div-add-mod x (2 * w) in
    let x_is : x ≡ w * (2 * (x / (2 * w))) = omega (arith, d, e) in
    ap (λ z. z % w) x_is ∙ mul-mod_right w (2 * (x / (2 * w)))

module _ (tiles : Tiles) (g : Team) (team : IsTeam g) (on : OnTiles tiles g) (r : ℕ) where
  abbrev c : Carrier Bracket
  c = bracket_carrier tiles.sizes r

  abbrev nil : List (MessageView Bracket)
  nil = []

  does_as : (ops : List Op) (a b : ℕ → List (MessageView Bracket)) (s0 s1 : ℕ → Option (Piece Bracket)) (S R : ℕ → List (MessageView Bracket)) (K : List (Piece Bracket)) → a ≡ b → S ≡ R → Does c r tiles ops a s0 s1 S K → Does c r tiles ops b s0 s1 R K
  does_as ops a b s0 s1 S R K e f h = subst (λ x. Does c r tiles ops x s0 s1 R K) e (subst (λ x. Does c r tiles ops a s0 s1 x K) f h)

  abbrev one_for : ℕ → MessageView Bracket → ℕ → List (MessageView Bracket)
  one_for peer m = put (λ _. []) peer (m ∷ [])

  abbrev full : Bracket → Piece Bracket
  full b = record { tile = g.tile; lo = 0; hi = g.size; content = b }

  give_does : (i t : ℕ) (b : Bracket) (sl : ℕ → Option (Piece Bracket)) → sl 0 ≡ Some (full b) → Does c r tiles (Swap (tree_swap g i Send t) 0 ∷ []) (λ _. []) sl (put sl 0 None) (one_for (g.who t) (message_of (tree_swap g i Send t) r (full b))) []
  give_does i t b sl h = record {
    fits = (subst (λ o. FitsSend (tree_swap g i Send t) (option_map shape_of o)) (sym h) refl, tt);
    does = ap (λ o. record { slots = put sl 0 None; kept = []; sent = put (λ _. []) (g.who t) (message_of (tree_swap g i Send t) r (given c (tree_swap g i Send t) o) ∷ []); used = λ _. 0 }) h;
  }

  one_length : (peer : ℕ) (m : MessageView Bracket) → put (λ _. 0) peer 1 ≡ (λ p. length (one_for peer m p))
  one_length peer m = fun_ext (λ p. go (peer == p))
    where
      go : (b : Bool) → cond b 1 0 ≡ length (cond b (m ∷ []) [])
      go true = refl
      go false = refl

  take_does : (i t : ℕ) (b d : Bracket) (m : MessageView Bracket) (sl : ℕ → Option (Piece Bracket)) → m.piece ≡ full d → sl 0 ≡ Some (full b) →
      Does c r tiles (Swap (tree_swap g i Take t) 1 ∷ Join 0 1 0 ∷ []) (one_for (g.who t) m) sl (put (put (put (put sl 1 (Some (full d))) 0 None) 1 None) 0 (Some (full (Pair b d)))) (λ _. []) []
  take_does i t b d m sl piece h =
      let e = tree_swap g i Take t in
      let peer = g.who t in
      let same : (peer == peer) ≡ true = eq-eqb peer peer refl in
      let middle : Local Bracket = record { slots = put sl 1 (Some (full d)); kept = []; sent = λ _. []; used = put (λ _. 0) peer 1 } in
      let heading : has_heading e (full d) ≡ true = and_both (g.tile == g.tile) ((0 == 0) && (g.size == g.size)) (eq-eqb g.tile g.tile refl) (and_both (0 == 0) (g.size == g.size) refl (eq-eqb g.size g.size refl)) in
      let got : message_for (one_for peer m) (λ _. 0) (Swap e 1) ≡ Some m = ap (λ z. slice_get (cond z (m ∷ []) []) 0) same in
      let pc : received c e (Some m) ≡ full d = ap (λ x. cond (has_heading e x) x (record { tile = g.tile; lo = 0; hi = g.size; content = Empty })) piece ∙ ap (λ z. cond z (full d) (record { tile = g.tile; lo = 0; hi = g.size; content = Empty })) heading in
      let first : step c r (message_for (one_for peer m) (λ _. 0) (Swap e 1)) (Swap e 1) (from_slots c r sl) ≡ middle =
      ap (λ o. step c r o (Swap e 1) (from_slots c r sl)) got ∙ ap (λ x. record { slots = put sl 1 (Some x); kept = []; sent = λ _. []; used = put (λ _. 0) peer 1 }) pc in
      let last : step c r None (Join 0 1 0) middle ≡ record { slots = put (put (put (put sl 1 (Some (full d))) 0 None) 1 None) 0 (Some (full (Pair b d))); kept = []; sent = λ _. []; used = put (λ _. 0) peer 1 } =
      ap (λ o. record { slots = join_slots c 0 1 0 o (Some (full d)) (put sl 1 (Some (full d))); kept = []; sent = λ _. []; used = put (λ _. 0) peer 1 }) h in
      record {
        fits = ((on.tile, omega arith, omega (arith, on.size)), (subst (λ (s : Local Bracket). Fits tiles r (Join 0 1 0) (shape_at s)) (sym first) ((λ z. absurd (omega (arith, z))), subst (λ o. FitsJoin (option_map shape_of o) (Some (shape_of (full d)))) (sym h) refl), tt));
        does = ap (λ (s : Local Bracket). step c r None (Join 0 1 0) s) first ∙ (last ∙ ap (λ u. record { slots = put (put (put (put sl 1 (Some (full d))) 0 None) 1 None) 0 (Some (full (Pair b d))); kept = []; sent = λ _. []; used = u }) (one_length peer m));
      }

  pick : (t : ℕ) → t < g.n → (F : ℕ → List (MessageView Bracket)) (m : MessageView Bracket) → F t ≡ m ∷ [] → ((b : ℕ) → b ≢ t → F b ≡ []) → one_for (g.who t) m ≡ (λ q. by_pos [] F (g.pos q))
  pick t l F m here other = fun_ext (pick_at g team t l F m here other)

  abbrev nils : ℕ → List (MessageView Bracket)
  nils q = []

  none : (F : ℕ → List (MessageView Bracket)) → ((b : ℕ) → F b ≡ []) → nils ≡ (λ q. by_pos [] F (g.pos q))
  none F h = fun_ext (none_at g team F h)

  -- what a round leaves
  pub record Round (i : ℕ) (o : Option ℕ) (ops : List Op) (before : ℕ → Option (Piece Bracket)) : Type 0 where
    pub after : ℕ → Option (Piece Bracket)
    pub does : Does c r tiles ops (λ q. by_pair (tree_messages g i) (g.pos q) o) before after (λ q. by_pair (tree_messages g i) o (g.pos q)) []
    pub holds : (p : ℕ) → o ≡ Some p → p % (2 * 2 ^ i) ≡ 0 → after 0 ≡ Some (tree_piece g (suc i) p)

  module _ (i p : ℕ) (e : g.pos r ≡ Some p) (before : ℕ → Option (Piece Bracket)) (h : p % 2 ^ i ≡ 0 → before 0 ≡ Some (tree_piece g i p)) where
    abbrev msg : ℕ → ℕ → MessageView Bracket
    msg a b = record { round = g.first + i; from = g.who a; to = g.who b; piece = tree_piece g i a }

    place : (g.who p ≡ r) × (p < g.n)
    place = team.forth r p e

    none_in : takes g.n (2 ^ i) p ≡ false → (a : ℕ) → tree_messages g i a p ≡ []
    none_in t a = ap (λ z. cond (z && (p + 2 ^ i == a)) (msg a p ∷ []) []) t

    none_out : gives g.n (2 ^ i) p ≡ false → (b : ℕ) → tree_messages g i p b ≡ []
    none_out n b = out (takes g.n (2 ^ i) b) refl (b + 2 ^ i == p) refl
      where
        out : (x : Bool) → takes g.n (2 ^ i) b ≡ x → (y : Bool) → (b + 2 ^ i == p) ≡ y → cond (x && y) (msg p b ∷ []) [] ≡ []
        out true t true s = let k : gives g.n (2 ^ i) p ≡ true = subst (λ z. gives g.n (2 ^ i) z ≡ true) (eqb-true (b + 2 ^ i) p s) (gives_is g.n (2 ^ i) b t) in absurd (cc)
        out true t false s = refl
        out false t y s = refl

    giving : gives g.n (2 ^ i) p ≡ true → Round i (Some p) (Swap (tree_swap g i Send (p - 2 ^ i)) 0 ∷ []) before
    giving q =
        let w = 2 ^ i in
        let f = gives_says g.n w p q in
        let t = p - w in
        let back : t + w ≡ p = omega (arith, f.high) in
        let even = (takes_says g.n w t f.taking).even in
        let low : p % w ≡ 0 = ap (λ z. z % w) (sym back) ∙ (add-mod_right t w ∙ half_low t w even) in
        let nt = not_both g.n w p (pow_pos i) q in
        let m_is : message_of (tree_swap g i Send t) r (tree_piece g i p) ≡ msg p t = ap (λ z. record { round = g.first + i; from = z; to = g.who t; piece = tree_piece g i p }) (sym place.0) in
        let here : tree_messages g i p t ≡ message_of (tree_swap g i Send t) r (tree_piece g i p) ∷ [] = ap (λ z. cond z (msg p t ∷ []) []) (and_both (takes g.n w t) (t + w == p) f.taking (eq-eqb (t + w) p back)) ∙ ap (λ z. z ∷ []) (sym m_is) in
        let other : (b : ℕ) → b ≢ t → tree_messages g i p b ≡ [] = λ b n. ap (λ z. cond z (msg p b ∷ []) []) (and_false (takes g.n w b) (b + w == p) (ne_eqb (b + w) p (λ s. n (omega (arith, s, back))))) in
        record {
          after = put before 0 None;
          does = does_as (Swap (tree_swap g i Send t) 0 ∷ []) nils (λ a. by_pair (tree_messages g i) (g.pos a) (Some p)) before (put before 0 None) (one_for (g.who t) (message_of (tree_swap g i Send t) r (tree_piece g i p))) (λ b. by_pair (tree_messages g i) (Some p) (g.pos b)) []
              (none (λ a. tree_messages g i a p) (none_in nt)) (pick t (omega (arith, f.high, place.1)) (tree_messages g i p) (message_of (tree_swap g i Send t) r (tree_piece g i p)) here other) (give_does i t (tree_of g p i) before (h low));
          holds = λ x s z. let v : p ≡ x = cc in absurd (
              let hl = half_left t w (pow_pos i) even in
              let tw : p % (2 * w) ≡ w = ap (λ y. y % (2 * w)) (sym back) ∙ hl in
              let pz : p % (2 * w) ≡ 0 = ap (λ y. y % (2 * w)) v ∙ z in
              omega (arith, tw, pz, pow_pos i));
        }

    taking : gives g.n (2 ^ i) p ≡ false → takes g.n (2 ^ i) p ≡ true → Round i (Some p) (Swap (tree_swap g i Take (p + 2 ^ i)) 1 ∷ Join 0 1 0 ∷ []) before
    taking ng q =
        let w = 2 ^ i in
        let f = takes_says g.n w p q in
        let t = p + w in
        let low : p % w ≡ 0 = half_low p w f.even in
        let here : tree_messages g i t p ≡ msg t p ∷ [] = ap (λ z. cond z (msg t p ∷ []) []) (and_both (takes g.n w p) (p + w == t) q (eq-eqb (p + w) t refl)) in
        let other : (a : ℕ) → a ≢ t → tree_messages g i a p ≡ [] = λ a n. ap (λ z. cond z (msg a p ∷ []) []) (and_false (takes g.n w p) (p + w == a) (ne_eqb (p + w) a (λ s. n (sym s)))) in
        let grown : tree_of g p (suc i) ≡ Pair (tree_of g p i) (tree_of g t i) = ap (λ z. cond z (Pair (tree_of g p i) (tree_of g t i)) (tree_of g p i)) (below_test (p + w) g.n f.below) in
        record {
          after = put (put (put (put before 1 (Some (full (tree_of g t i)))) 0 None) 1 None) 0 (Some (full (Pair (tree_of g p i) (tree_of g t i))));
          does = does_as (Swap (tree_swap g i Take t) 1 ∷ Join 0 1 0 ∷ []) (one_for (g.who t) (msg t p)) (λ a. by_pair (tree_messages g i) (g.pos a) (Some p)) before (put (put (put (put before 1 (Some (full (tree_of g t i)))) 0 None) 1 None) 0 (Some (full (Pair (tree_of g p i) (tree_of g t i))))) nils (λ b. by_pair (tree_messages g i) (Some p) (g.pos b)) []
              (pick t f.below (λ a. tree_messages g i a p) (msg t p) here other) (none (tree_messages g i p) (none_out ng)) (take_does i t (tree_of g p i) (tree_of g t i) (msg t p) before refl (h low));
          holds = λ x s z. let v : p ≡ x = cc in ap (λ b. Some (full b)) (sym grown) ∙ ap (λ y. Some (tree_piece g (suc i) y)) v;
        }

    resting : gives g.n (2 ^ i) p ≡ false → takes g.n (2 ^ i) p ≡ false → Round i (Some p) [] before
    resting ng nt = record {
      after = before;
      does = does_as [] nils (λ a. by_pair (tree_messages g i) (g.pos a) (Some p)) before before nils (λ b. by_pair (tree_messages g i) (Some p) (g.pos b)) [] (none (λ a. tree_messages g i a p) (none_in nt)) (none (tree_messages g i p) (none_out ng)) (does_nothing c r tiles before);
      holds = λ x s z.
          let v : p ≡ x = cc in
          let even : p % (2 * 2 ^ i) ≡ 0 = ap (λ y. y % (2 * 2 ^ i)) v ∙ z in
          let high : nat_lt (p + 2 ^ i) g.n ≡ false = not_below (p % (2 * 2 ^ i) == 0) (nat_lt (p + 2 ^ i) g.n) (eq-eqb (p % (2 * 2 ^ i)) 0 even) nt in
          h (half_low p (2 ^ i) even) ∙ (ap (λ y. Some (full (cond y (Pair (tree_of g p i) (tree_of g (p + 2 ^ i) i)) (tree_of g p i)))) (sym high) ∙ ap (λ y. Some (tree_piece g (suc i) y)) v);
    }

    round_at : Round i (Some p) (tree_ops g i p) before
    round_at = go (gives g.n (2 ^ i) p) refl (takes g.n (2 ^ i) p) refl
      where
        go : (x : Bool) → gives g.n (2 ^ i) p ≡ x → (y : Bool) → takes g.n (2 ^ i) p ≡ y → Round i (Some p) (cond x (Swap (tree_swap g i Send (p - 2 ^ i)) 0 ∷ []) (cond y (Swap (tree_swap g i Take (p + 2 ^ i)) 1 ∷ Join 0 1 0 ∷ []) [])) before
        go true q y t = giving q
        go false q true t = taking q t
        go false q false t = resting q t

  round_of : (i : ℕ) (o : Option ℕ) → g.pos r ≡ o → (before : ℕ → Option (Piece Bracket)) → ((p : ℕ) → o ≡ Some p → p % 2 ^ i ≡ 0 → before 0 ≡ Some (tree_piece g i p)) → Round i o (by_pos [] (tree_ops g i) o) before
  round_of i None e before h = record {
    after = before;
    does = does_as [] nils (λ q. by_pair (tree_messages g i) (g.pos q) None) before before nils nils [] (none (λ a. []) (λ b. refl)) refl (does_nothing c r tiles before);
    holds = λ p s. absurd (cc);
  }
  round_of i (Some p) e before h = round_at i p e before (h p refl)

  -- the first m rounds
  pub record Rounds (m : ℕ) (before : ℕ → Option (Piece Bracket)) : Type 0 where
    pub after : ℕ → Option (Piece Bracket)
    pub does : Does c r tiles (rounds_ops g m r) (λ q. rounds_messages g m q r) before after (λ q. rounds_messages g m r q) []
    pub holds : (p : ℕ) → g.pos r ≡ Some p → p % 2 ^ m ≡ 0 → after 0 ≡ Some (tree_piece g m p)

  pub tree_rounds : (m : ℕ) (before : ℕ → Option (Piece Bracket)) → ((p : ℕ) → g.pos r ≡ Some p → before 0 ≡ Some (full (g.leaf p))) → Rounds m before
  tree_rounds zero before h = record { after = before; does = does_nothing c r tiles before; holds = λ p e z. h p e }
  tree_rounds (suc m) before h =
      let past = tree_rounds m before h in
      let next = round_of m (g.pos r) refl past.after past.holds in
      record {
        after = next.after;
        does = does_both c r tiles (rounds_ops g m r) (round_ops g m r) (λ q. rounds_messages g m q r) (λ q. round_messages g m q r) before past.after next.after (λ q. rounds_messages g m r q) (λ q. round_messages g m r q) [] [] past.does next.does;
        holds = λ p e z. next.holds p e (ap (λ y. p % y) (sym (pow-succ' 2 m)) ∙ z);
      }

-- the exchanges of a round go together
module _ (g : Team) (team : IsTeam g) (i : ℕ) where
  abbrev swap_heading : Heading
  swap_heading = record { round = g.first + i; tile = g.tile; lo = 0; hi = g.size }

  abbrev headings : ℕ → ℕ → List Heading
  headings a b = cond (takes g.n (2 ^ i) b && (b + 2 ^ i == a)) (swap_heading ∷ []) []

  headings_none : (a b : ℕ) → gives g.n (2 ^ i) a ≡ false → headings a b ≡ []
  headings_none a b n = out (takes g.n (2 ^ i) b) refl (b + 2 ^ i == a) refl
    where
      out : (x : Bool) → takes g.n (2 ^ i) b ≡ x → (y : Bool) → (b + 2 ^ i == a) ≡ y → cond (x && y) (swap_heading ∷ []) [] ≡ []
      out true t true s = let k : gives g.n (2 ^ i) a ≡ true = subst (λ z. gives g.n (2 ^ i) z ≡ true) (eqb-true (b + 2 ^ i) a s) (gives_is g.n (2 ^ i) b t) in absurd (cc)
      out true t false s = refl
      out false t y s = refl

  map_cond : (b : Bool) (e : Exchange) → heading e ≡ swap_heading → map heading (cond b (e ∷ []) []) ≡ cond b (swap_heading ∷ []) []
  map_cond true e h = ap (λ z. z ∷ []) h
  map_cond false e h = refl

  sends_are : (r : ℕ) (o : Option ℕ) → ((a : ℕ) → o ≡ Some a → a < g.n) → map heading (filter (sends_to r) (exchanges (by_pos [] (tree_ops g i) o))) ≡ by_pair headings o (g.pos r)
  sends_are r None l = refl
  sends_are r (Some a) l = go (gives g.n (2 ^ i) a) refl (takes g.n (2 ^ i) a)
    where
      go : (x : Bool) → gives g.n (2 ^ i) a ≡ x → (y : Bool) → map heading (filter (sends_to r) (exchanges (cond x (Swap (tree_swap g i Send (a - 2 ^ i)) 0 ∷ []) (cond y (Swap (tree_swap g i Take (a + 2 ^ i)) 1 ∷ Join 0 1 0 ∷ []) [])))) ≡ by_pos [] (headings a) (g.pos r)
      go true q y =
          let f = gives_says g.n (2 ^ i) a q in
          let t = a - 2 ^ i in
          let back : t + 2 ^ i ≡ a = omega (arith, f.high) in
          let here : headings a t ≡ swap_heading ∷ [] = ap (λ z. cond z (swap_heading ∷ []) []) (and_both (takes g.n (2 ^ i) t) (t + 2 ^ i == a) f.taking (eq-eqb (t + 2 ^ i) a back)) in
          map_cond (g.who t == r) (tree_swap g i Send t) refl
          ∙ pick_at g team t (omega (arith, f.high, l a refl)) (headings a) swap_heading here (λ b n. ap (λ z. cond z (swap_heading ∷ []) []) (and_false (takes g.n (2 ^ i) b) (b + 2 ^ i == a) (ne_eqb (b + 2 ^ i) a (λ s. n (omega (arith, s, back)))))) r
      go false q true = none_at g team (headings a) (λ b. headings_none a b q) r
      go false q false = none_at g team (headings a) (λ b. headings_none a b q) r

  takes_are : (q : ℕ) (o : Option ℕ) → map heading (filter (takes_from q) (exchanges (by_pos [] (tree_ops g i) o))) ≡ by_pair headings (g.pos q) o
  takes_are q None = none_at g team (λ a. []) (λ a. refl) q
  takes_are q (Some b) = go (gives g.n (2 ^ i) b) refl (takes g.n (2 ^ i) b) refl
    where
      go : (x : Bool) → gives g.n (2 ^ i) b ≡ x → (y : Bool) → takes g.n (2 ^ i) b ≡ y → map heading (filter (takes_from q) (exchanges (cond x (Swap (tree_swap g i Send (b - 2 ^ i)) 0 ∷ []) (cond y (Swap (tree_swap g i Take (b + 2 ^ i)) 1 ∷ Join 0 1 0 ∷ []) [])))) ≡ by_pos [] (λ a. headings a b) (g.pos q)
      go true x y t = none_at g team (λ a. headings a b) (λ a. ap (λ z. cond (z && (b + 2 ^ i == a)) (swap_heading ∷ []) []) (not_both g.n (2 ^ i) b (pow_pos i) x)) q
      go false x true t =
          let f = takes_says g.n (2 ^ i) b t in
          map_cond (g.who (b + 2 ^ i) == q) (tree_swap g i Take (b + 2 ^ i)) refl
          ∙ pick_at g team (b + 2 ^ i) f.below (λ a. headings a b) swap_heading
          (ap (λ z. cond z (swap_heading ∷ []) []) (and_both (takes g.n (2 ^ i) b) (b + 2 ^ i == b + 2 ^ i) t (eq-eqb (b + 2 ^ i) (b + 2 ^ i) refl)))
          (λ a n. ap (λ z. cond z (swap_heading ∷ []) []) (and_false (takes g.n (2 ^ i) b) (b + 2 ^ i == a) (ne_eqb (b + 2 ^ i) a (λ s. n (sym s))))) q
      go false x false t = none_at g team (λ a. headings a b) (λ a. ap (λ z. cond (z && (b + 2 ^ i == a)) (swap_heading ∷ []) []) t) q

  low_key : ℕ
  low_key = 2 * (g.first + i)

  alone : (o : Option ℕ) → IsRising (exchanges (by_pos [] (tree_ops g i) o)) × AreWithin (2 * (g.first + i)) (2 * (g.first + suc i)) (exchanges (by_pos [] (tree_ops g i) o))
  alone None = (tt, tt)
  alone (Some a) = go (gives g.n (2 ^ i) a) (takes g.n (2 ^ i) a)
    where
      go : (x y : Bool) → IsRising (exchanges (cond x (Swap (tree_swap g i Send (a - 2 ^ i)) 0 ∷ []) (cond y (Swap (tree_swap g i Take (a + 2 ^ i)) 1 ∷ Join 0 1 0 ∷ []) []))) × AreWithin (2 * (g.first + i)) (2 * (g.first + suc i)) (exchanges (cond x (Swap (tree_swap g i Send (a - 2 ^ i)) 0 ∷ []) (cond y (Swap (tree_swap g i Take (a + 2 ^ i)) 1 ∷ Join 0 1 0 ∷ []) [])))
      go true y = ((tt, tt), ((omega arith, omega arith), tt))
      go false true = ((tt, tt), ((omega arith, omega arith), tt))
      go false false = (tt, tt)

  pub round_part : IsPart (round_ops g i) (2 * (g.first + i)) (2 * (g.first + suc i))
  round_part = record {
    ordered = omega arith;
    matched = record {
      rising = λ r. (alone (g.pos r)).0;
      pairs = λ q r. sends_are r (g.pos q) (λ a e. (team.forth q a e).1) ∙ sym (takes_are q (g.pos r));
    };
    within = λ r. (alone (g.pos r)).1;
  }

pub rounds_part : (g : Team) → IsTeam g → (m : ℕ) → IsPart (rounds_ops g m) (2 * (g.first + 0)) (2 * (g.first + m))
rounds_part g team zero = record { ordered = omega arith; matched = record { rising = λ r. tt; pairs = λ q r. refl }; within = λ r. tt }
rounds_part g team (suc m) = parts_join (rounds_ops g m) (round_ops g m) (2 * (g.first + 0)) (2 * (g.first + m)) (2 * (g.first + suc m)) (rounds_part g team m) (round_part g team m)
