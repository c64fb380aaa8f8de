-- A round of groups: each position does what is said, with exactly the messages that are said.
use Rattle.std.proofs.Common.{◌≡◌, ℕ, zero, suc, ◌+◌, ◌-◌, ◌*◌, ◌/◌, ◌%◌, ◌<◌, ◌≤◌, Bool, true, false, cond, List, [], ◌∷◌, ◌++◌, get_or, refl, sym, ap, ◌∙◌, subst, arith, Option, Some, None, ⊎_elim, eqb-true, eq-eqb, ne_eqb}
use Rattle.std.proofs.lemmas.List.{append-nil}
use Rattle.std.proofs.lemmas.Bool.Decides.{nat_tests}
use Rattle.std.proofs.lemmas.Bool.{eqb-false}
use Rattle.std.specs.Prelude.{◌==◌, ◌&&◌, ◌⊎◌, ◌≢◌, nat_lt, not}
use mathlib.Core.Path.{fun_ext}
use Rattle.std.proofs.lemmas.Nat.{mod_below}
use Rattle.icet_legs.proofs.Collects.{each_nil}
use Rattle.icet_legs.proofs.Digits.{cut_first, cut_grows, cut_last, cut_low, member_block, member_digit, member_mod, member_own}
use Rattle.icet_legs.proofs.Positions.{OnTiles, one_at}
use Rattle.icet_legs.proofs.Tests.{and_both, and_parts, below_test, past_test}
use Rattle.icet_legs.specs.Group.{Group, cut_at, digit, group_cuts, group_fold, group_joins, group_messages, group_ops, group_sends, group_swap, group_takes, mates, member, part_of}
use Rattle.icet_legs.specs.Team.{IsTeam, Team, by_pair, by_pos}
use Rattle.icet_model.specs.Fit.{Tiles}
use Rattle.icet_model.specs.Plan.{bracket_carrier}
use Rattle.icet_model.specs.Run.{Carrier, MessageView, Piece, put}
use Rattle.icet_model.specs.declared.bracket.Bracket.{Bracket}
use Rattle.icet_model.specs.declared.exchange.Kind.TheVariants.{Send, Take}
use Rattle.icet_model.specs.declared.exchange.Op.{Op}
use Rattle.icet_model.specs.declared.exchange.Op.TheVariants.{Swap}
use Rattle.icet_plan.proofs.Segments.{does_both, does_nothing}
use Rattle.icet_plan.proofs.SingleSteps.{Ran, cut_does, give_does, join_does, ran_each, take_does}
use Rattle.icet_plan.specs.Each.{each}

pub record IsGroup (g : Team) (u : Group) : Type 0 where
  pub wide : 0 < u.w
  pub many : 0 < u.k
  pub inside : (p h : ℕ) → p < g.n → h < u.k → member u.w u.k p h < g.n
  pub ordered : (p : ℕ) → u.lo p ≤ u.hi p
  pub capped : (p : ℕ) → u.hi p ≤ g.size
  pub low : (p h : ℕ) → h < u.k → u.lo (member u.w u.k p h) ≡ u.lo p
  pub high : (p h : ℕ) → h < u.k → u.hi (member u.w u.k p h) ≡ u.hi p

-- a test that tells the mates of p
pub record IsMates (u : Group) (p : ℕ) (F : ℕ → Bool) : Type 0 where
  pub holds : (x : ℕ) → x ≡ member u.w u.k p (digit u.w u.k x) → digit u.w u.k x ≢ digit u.w u.k p → F x ≡ true
  pub tells : (x : ℕ) → F x ≡ true → (x ≡ member u.w u.k p (digit u.w u.k x)) × (digit u.w u.k x ≢ digit u.w u.k p)

module _ {V : Type 0} (g : Team) (team : IsTeam g) (u : Group) (is : IsGroup g u) (p : ℕ) (below : p < g.n) (F : ℕ → Bool) (f : IsMates u p F) (m : ℕ → V) (q : ℕ) where
  abbrev mem : ℕ → ℕ
  mem h = member u.w u.k p h

  abbrev dig : ℕ → ℕ
  dig x = digit u.w u.k x

  abbrev at_h : ℕ → List V
  at_h h = cond (h == dig p) [] (one_at (g.who (mem h)) (m h) q)

  miss_own : (h : ℕ) → h ≡ dig p → at_h h ≡ []
  miss_own h s = ap (λ z. cond z [] (one_at (g.who (mem h)) (m h) q)) (eq-eqb h (dig p) s)

  miss_away : (h : ℕ) → (g.who (mem h) ≡ q → ⊥) → at_h h ≡ []
  miss_away h n = go (h == dig p)
    where
      go : (t : Bool) → cond t [] (one_at (g.who (mem h)) (m h) q) ≡ []
      go true = refl
      go false = ap (λ z. cond z (m h ∷ []) []) (ne_eqb (g.who (mem h)) q n)

  hit : (h : ℕ) → h ≢ dig p → g.who (mem h) ≡ q → at_h h ≡ m h ∷ []
  hit h n s = ap (λ z. cond z [] (one_at (g.who (mem h)) (m h) q)) (ne_eqb h (dig p) n) ∙ ap (λ z. cond z (m h ∷ []) []) (eq-eqb (g.who (mem h)) q s)

  back : (h : ℕ) → h < u.k → g.pos (g.who (mem h)) ≡ Some (mem h)
  back h l = team.back (mem h) (is.inside p h below l)

  group_none : g.pos q ≡ None → (j : ℕ) → j ≤ u.k → each at_h j ≡ []
  group_none e zero l = refl
  group_none e (suc j) l = ap (λ z. z ++ at_h j) (group_none e j (omega arith)) ∙ miss_away j (λ s. let b : g.pos q ≡ Some (mem j) = subst (λ z. g.pos z ≡ Some (mem j)) s (back j (omega arith)) in absurd (cc))

  group_some : (x : ℕ) → g.pos q ≡ Some x → (j : ℕ) → j ≤ u.k → each at_h j ≡ cond (nat_lt (dig x) j && F x) (m (dig x) ∷ []) []
  group_some x e zero l = sym (ap (λ z. cond (z && F x) (m (dig x) ∷ []) []) (past_test (dig x) 0 (omega arith)))
  group_some x e (suc j) l = ⊎_elim
      (λ (s : j ≡ dig x).
      ap (λ z. z ++ at_h j) (group_some x e j (omega arith) ∙ ap (λ z. cond (z && F x) (m (dig x) ∷ []) []) (past_test (dig x) j (omega (arith, s))))
      ∙ (here s (F x) refl ∙ ap (λ z. cond (z && F x) (m (dig x) ∷ []) []) (sym (below_test (dig x) (suc j) (omega (arith, s))))))
      (λ (n : j ≢ dig x).
      let away : at_h j ≡ [] = miss_away j (λ s.
      let k : mem j ≡ x = found j s in
      let d : dig (mem j) ≡ j = member_digit u.w u.k p j is.wide (omega arith) in
      n (sym d ∙ ap dig k)) in
      let same : nat_lt (dig x) j ≡ nat_lt (dig x) (suc j) = grind (arith, nat_tests) in
      ap (λ z. each at_h j ++ z) away ∙ (append-nil (each at_h j) ∙ (group_some x e j (omega arith) ∙ ap (λ z. cond (z && F x) (m (dig x) ∷ []) []) same)))
      (let s : (j ≡ dig x) ⊎ (j ≢ dig x) = grind arith in s)
    where
      found : (h : ℕ) → g.who (mem j) ≡ q → mem j ≡ x
      found h s = let b : g.pos q ≡ Some (mem j) = subst (λ z. g.pos z ≡ Some (mem j)) s (back j (omega arith)) in cc

      here : j ≡ dig x → (t : Bool) → F x ≡ t → at_h j ≡ cond t (m (dig x) ∷ []) []
      here s true h =
          let w = f.tells x h in
          let on : mem j ≡ x = ap mem s ∙ sym w.0 in
          hit j (λ z. w.1 (sym s ∙ z)) (ap g.who on ∙ (team.forth q x e).0) ∙ ap (λ z. m z ∷ []) s
      here s false h = miss_away_or (λ z. (let k : mem j ≡ x = found j z in let d : dig (mem j) ≡ j = member_digit u.w u.k p j is.wide (omega arith) in sym k ∙ ap mem s))
        where
          miss_away_or : (g.who (mem j) ≡ q → x ≡ mem (dig x)) → at_h j ≡ []
          miss_away_or k = ⊎_elim (λ (o : j ≡ dig p). miss_own j o)
              (λ (o : j ≢ dig p). miss_away j (λ z. let t : F x ≡ true = f.holds x (k z) (λ y. o (s ∙ y)) in absurd (cc)))
              (let c : (j ≡ dig p) ⊎ (j ≢ dig p) = grind arith in c)

  pub group_is : each at_h u.k ≡ by_pos [] (λ x. cond (F x) (m (dig x) ∷ []) []) (g.pos q)
  group_is = go (g.pos q) refl
    where
      go : (o : Option ℕ) → g.pos q ≡ o → each at_h u.k ≡ by_pos [] (λ x. cond (F x) (m (dig x) ∷ []) []) o
      go None e = group_none e u.k (omega arith)
      go (Some x) e = group_some x e u.k (omega arith) ∙ ap (λ z. cond (z && F x) (m (dig x) ∷ []) []) (below_test (dig x) u.k (mod_below (x / u.w) u.k is.many))

not_true : (x : Bool) → not x ≡ true → x ≡ false
not_true true h = absurd (cc)
not_true false h = refl

not_false : (x : Bool) → x ≡ false → not x ≡ true
not_false true h = absurd (cc)
not_false false h = refl

-- x lies in the group of p, as a member by its digit
in_group : (u : Group) (p x : ℕ) → x / u.w / u.k ≡ p / u.w / u.k → x % u.w ≡ p % u.w → x ≡ member u.w u.k p (digit u.w u.k x)
in_group u p x b l = sym (member_own u.w u.k x) ∙ (ap (λ z. (z * u.k + digit u.w u.k x) * u.w + x % u.w) b ∙ ap (λ z. (p / u.w / u.k * u.k + digit u.w u.k x) * u.w + z) l)

pub mates_out : (g : Team) (u : Group) → IsGroup g u → (p : ℕ) → IsMates u p (λ x. mates u p x)
mates_out g u is p = record {
  holds = λ x e n.
      let l : digit u.w u.k x < u.k = mod_below (x / u.w) u.k is.many in
      and_both (p / u.w / u.k == x / u.w / u.k) ((p % u.w == x % u.w) && not (digit u.w u.k x == digit u.w u.k p))
      (eq-eqb (p / u.w / u.k) (x / u.w / u.k) (sym (ap (λ z. z / u.w / u.k) e ∙ member_block u.w u.k p (digit u.w u.k x) is.wide l)))
      (and_both (p % u.w == x % u.w) (not (digit u.w u.k x == digit u.w u.k p)) (eq-eqb (p % u.w) (x % u.w) (sym (ap (λ z. z % u.w) e ∙ member_mod u.w u.k p (digit u.w u.k x) is.wide l)))
      (not_false (digit u.w u.k x == digit u.w u.k p) (ne_eqb (digit u.w u.k x) (digit u.w u.k p) n)));
  tells = λ x h.
      let a = and_parts (p / u.w / u.k == x / u.w / u.k) ((p % u.w == x % u.w) && not (digit u.w u.k x == digit u.w u.k p)) h in
      let b = and_parts (p % u.w == x % u.w) (not (digit u.w u.k x == digit u.w u.k p)) a.1 in (
        in_group u p x (sym (eqb-true (p / u.w / u.k) (x / u.w / u.k) a.0)) (sym (eqb-true (p % u.w) (x % u.w) b.0)),
        eqb-false (digit u.w u.k x) (digit u.w u.k p) (not_true (digit u.w u.k x == digit u.w u.k p) b.1),
      );
}

pub mates_in : (g : Team) (u : Group) → IsGroup g u → (p : ℕ) → IsMates u p (λ x. mates u x p)
mates_in g u is p = record {
  holds = λ x e n.
      let l : digit u.w u.k x < u.k = mod_below (x / u.w) u.k is.many in
      and_both (x / u.w / u.k == p / u.w / u.k) ((x % u.w == p % u.w) && not (digit u.w u.k p == digit u.w u.k x))
      (eq-eqb (x / u.w / u.k) (p / u.w / u.k) (ap (λ z. z / u.w / u.k) e ∙ member_block u.w u.k p (digit u.w u.k x) is.wide l))
      (and_both (x % u.w == p % u.w) (not (digit u.w u.k p == digit u.w u.k x)) (eq-eqb (x % u.w) (p % u.w) (ap (λ z. z % u.w) e ∙ member_mod u.w u.k p (digit u.w u.k x) is.wide l))
      (not_false (digit u.w u.k p == digit u.w u.k x) (ne_eqb (digit u.w u.k p) (digit u.w u.k x) (λ z. n (sym z)))));
  tells = λ x h.
      let a = and_parts (x / u.w / u.k == p / u.w / u.k) ((x % u.w == p % u.w) && not (digit u.w u.k p == digit u.w u.k x)) h in
      let b = and_parts (x % u.w == p % u.w) (not (digit u.w u.k p == digit u.w u.k x)) a.1 in (
        in_group u p x (eqb-true (x / u.w / u.k) (p / u.w / u.k) a.0) (eqb-true (x % u.w) (p % u.w) b.0),
        λ z. eqb-false (digit u.w u.k p) (digit u.w u.k x) (not_true (digit u.w u.k p == digit u.w u.k x) b.1) (sym z),
      );
}

pub cond_agree : {V : Type 0} (b : Bool) (v w : V) → (b ≡ true → v ≡ w) → cond b (v ∷ []) [] ≡ cond b (w ∷ []) []
cond_agree true v w h = ap (λ z. z ∷ []) (h refl)
cond_agree false v w h = refl

pub by_pos_agree : {V : Type 0} (F G : ℕ → List V) → ((x : ℕ) → F x ≡ G x) → (o : Option ℕ) → by_pos [] F o ≡ by_pos [] G o
by_pos_agree F G h None = refl
by_pos_agree F G h (Some x) = h x

put_other : {V : Type 0} (f : ℕ → V) (i : ℕ) (v : V) (k : ℕ) → i ≢ k → put f i v k ≡ f k
put_other f i v k n = ap (λ z. cond z v (f k)) (ne_eqb i k n)

put_same : {V : Type 0} (f : ℕ → V) (i : ℕ) (v : V) → put f i v i ≡ v
put_same f i v = ap (λ z. cond z v (f i)) (eq-eqb i i refl)

module _ (tiles : Tiles) (g : Team) (team : IsTeam g) (on : OnTiles tiles g) (u : Group) (is : IsGroup g u) (r p : ℕ) (e : g.pos r ≡ Some p) where
  abbrev c : Carrier Bracket
  c = bracket_carrier tiles.sizes r

  abbrev Slots : Type 0
  Slots = ℕ → Option (Piece Bracket)

  abbrev nil : ℕ → List (MessageView Bracket)
  nil q = []

  abbrev d : ℕ
  d = digit u.w u.k p

  abbrev at : ℕ → ℕ
  at h = cut_at (u.lo p) (u.hi p) u.k h

  -- the own parts, and what the members give
  abbrev P : ℕ → Piece Bracket
  P h = part_of g u p h p

  abbrev Q : ℕ → Piece Bracket
  Q h = part_of g u p d (member u.w u.k p h)

  d_below : d < u.k
  d_below = mod_below (p / u.w) u.k is.many

  ran_as : (I : Slots → Type 0) (ops : List Op) (sl : Slots) (a b S R : ℕ → List (MessageView Bracket)) (K L : List (Piece Bracket)) → a ≡ b → S ≡ R → K ≡ L → Ran c r tiles I ops a sl S K → Ran c r tiles I ops b sl R L
  ran_as I ops sl a b S R K L x y z h = subst (λ t. Ran c r tiles I ops b sl R t) z (subst (λ t. Ran c r tiles I ops b sl t K) y (subst (λ t. Ran c r tiles I ops t sl S K) x h))

  -- cutting from behind
  pub record CutTo (b : ℕ) (sl : Slots) : Type 0 where
    pub first : sl 0 ≡ Some (record { tile = g.tile; lo = u.lo p; hi = at (u.k - b); content = u.content p })
    pub done : (h : ℕ) → u.k - b ≤ h → h < u.k → sl h ≡ Some (P h)

  cut_step : (b : ℕ) (sl : Slots) → b < u.k - 1 → CutTo b sl → Ran c r tiles (CutTo (suc b)) (group_cuts u p b) nil sl nil []
  cut_step b sl l i =
      let j = u.k - 1 - b in
      let next : suc j ≡ u.k - b = omega arith in
      let whole : Piece Bracket = record { tile = g.tile; lo = u.lo p; hi = at (u.k - b); content = u.content p } in
      let grow = cut_grows (u.lo p) (u.hi p) u.k j is.many in
      let up : at j ≤ at (u.k - b) = subst (λ z. at j ≤ at z) next grow in
      let front : Piece Bracket = record { tile = g.tile; lo = u.lo p; hi = at j; content = u.content p } in
      let back : Piece Bracket = record { tile = g.tile; lo = at j; hi = at (u.k - b); content = u.content p } in
      record {
        after = put (put sl 0 (Some front)) j (Some back);
        does = cut_does c r tiles 0 (at j) j whole sl i.first (λ z. absurd (omega (arith, z, l))) (cut_low (u.lo p) (u.hi p) u.k j is.many) up;
        holds = record {
          first = put_other (put sl 0 (Some front)) j (Some back) 0 (λ z. absurd (omega (arith, z, l))) ∙ ap (λ z. Some (record { tile = g.tile; lo = u.lo p; hi = at z; content = u.content p })) (let s : j ≡ u.k - suc b = omega arith in s);
          done = λ h lh lk. ⊎_elim
              (λ (s : j ≡ h). subst (λ z. put (put sl 0 (Some front)) j (Some back) z ≡ Some (P z)) s (put_same (put sl 0 (Some front)) j (Some back) ∙ ap (λ z. Some (record { tile = g.tile; lo = at j; hi = at z; content = u.content p })) (sym next)))
              (λ (n : j ≢ h). put_other (put sl 0 (Some front)) j (Some back) h n ∙ (put_other sl 0 (Some front) h (λ z. absurd (omega (arith, z, lh, l))) ∙ i.done h (omega (arith, lh, n)) lk))
              (let s : (j ≡ h) ⊎ (j ≢ h) = grind arith in s);
        };
      }

  pub record Parts (sl : Slots) : Type 0 where
    pub parts : (h : ℕ) → h < u.k → sl h ≡ Some (P h)

  cut_all : (sl : Slots) → sl 0 ≡ Some (record { tile = g.tile; lo = u.lo p; hi = u.hi p; content = u.content p }) → Ran c r tiles Parts (each (group_cuts u p) (u.k - 1)) nil sl nil []
  cut_all sl h =
      let last = cut_last (u.lo p) (u.hi p) u.k is.many (is.ordered p) in
      let start : CutTo 0 sl = record {
        first = h ∙ ap (λ z. Some (record { tile = g.tile; lo = u.lo p; hi = z; content = u.content p })) (sym last ∙ ap at (let s : u.k ≡ u.k - 0 = omega arith in s));
        done = λ h lh lk. absurd (omega (arith, lh, lk));
      } in
      let ran = ran_each c r tiles CutTo (group_cuts u p) (λ b. nil) (λ b. nil) (λ b. []) (u.k - 1) cut_step sl start in
      ran_as Parts (each (group_cuts u p) (u.k - 1)) sl (λ q. each (λ b. []) (u.k - 1)) nil (λ q. each (λ b. []) (u.k - 1)) nil (each (λ b. []) (u.k - 1)) []
      (fun_ext (λ q. each_nil (u.k - 1))) (fun_ext (λ q. each_nil (u.k - 1))) (each_nil (u.k - 1))
      (record {
        after = ran.after;
        does = ran.does;
        holds = record {
          parts = λ h lk. ⊎_elim
              (λ (s : 0 ≡ h). subst (λ z. ran.after z ≡ Some (P z)) s (ran.holds.first ∙ (ap (λ z. Some (record { tile = g.tile; lo = z; hi = at (u.k - (u.k - 1)); content = u.content p })) (sym (cut_first (u.lo p) (u.hi p) u.k is.many)) ∙ ap (λ z. Some (record { tile = g.tile; lo = at 0; hi = at z; content = u.content p })) (let m = is.many in let t : u.k - (u.k - 1) ≡ 1 = omega (arith, m) in t))))
              (λ (n : 0 ≢ h). ran.holds.done h (let m = is.many in omega (arith, n, m)) lk)
              (let s : (0 ≡ h) ⊎ (0 ≢ h) = grind arith in s);
        };
      })

  -- sending all but the own part
  pub record SentTo (b : ℕ) (sl : Slots) : Type 0 where
    pub rest : (h : ℕ) → b ≤ h → h < u.k → sl h ≡ Some (P h)
    pub own : sl d ≡ Some (P d)

  abbrev given_msg : ℕ → MessageView Bracket
  given_msg h = record { round = u.round; from = r; to = g.who (member u.w u.k p h); piece = P h }

  send_step : (b : ℕ) (sl : Slots) → b < u.k → SentTo b sl → Ran c r tiles (SentTo (suc b)) (group_sends g u p b) nil sl (λ q. cond (b == d) [] (one_at (g.who (member u.w u.k p b)) (given_msg b) q)) []
  send_step b sl l i = go (b == d) refl
    where
      go : (t : Bool) → (b == d) ≡ t → Ran c r tiles (SentTo (suc b)) (cond t [] (Swap (group_swap g u Send (member u.w u.k p b) p b) b ∷ [])) nil sl (λ q. cond t [] (one_at (g.who (member u.w u.k p b)) (given_msg b) q)) []
      go true s = record { after = sl; does = does_nothing c r tiles sl; holds = record { rest = λ h lh lk. i.rest h (omega (arith, lh)) lk; own = i.own } }
      go false s =
          let n : b ≢ d = eqb-false b d s in
          record {
            after = put sl b None;
            does = give_does c r tiles u.round (g.who (member u.w u.k p b)) b (P b) sl (i.rest b (omega arith) l);
            holds = record { rest = λ h lh lk. put_other sl b None h (λ z. absurd (omega (arith, z, lh))) ∙ i.rest h (omega (arith, lh)) lk; own = put_other sl b None d n ∙ i.own };
          }

  pub record Own (sl : Slots) : Type 0 where
    pub own : sl d ≡ Some (P d)

  send_all : (sl : Slots) → Parts sl → Ran c r tiles Own (each (group_sends g u p) u.k) nil sl (λ q. by_pos [] (group_messages g u p) (g.pos q)) []
  send_all sl h =
      let place = team.forth r p e in
      let ran = ran_each c r tiles SentTo (group_sends g u p) (λ b. nil) (λ b q. cond (b == d) [] (one_at (g.who (member u.w u.k p b)) (given_msg b) q)) (λ b. []) u.k send_step sl (record { rest = λ h' lh lk. h.parts h' lk; own = h.parts d d_below }) in
      let agree : (x : ℕ) → cond (mates u p x) (given_msg (digit u.w u.k x) ∷ []) [] ≡ group_messages g u p x =
      λ x. cond_agree (mates u p x) (given_msg (digit u.w u.k x)) (record { round = u.round; from = g.who p; to = g.who x; piece = part_of g u p (digit u.w u.k x) p })
      (λ m. ap (λ z. record { round = u.round; from = z; to = g.who (member u.w u.k p (digit u.w u.k x)); piece = P (digit u.w u.k x) }) (sym place.0)
      ∙ ap (λ z. record { round = u.round; from = g.who p; to = g.who z; piece = P (digit u.w u.k x) }) (sym ((mates_out g u is p).tells x m).0)) in
      ran_as Own (each (group_sends g u p) u.k) sl (λ q. each (λ b. []) u.k) nil (λ q. each (λ b. cond (b == d) [] (one_at (g.who (member u.w u.k p b)) (given_msg b) q)) u.k) (λ q. by_pos [] (group_messages g u p) (g.pos q)) (each (λ b. []) u.k) []
      (fun_ext (λ q. each_nil u.k))
      (fun_ext (λ q. group_is g team u is p place.1 (λ x. mates u p x) (mates_out g u is p) given_msg q ∙ by_pos_agree (λ x. cond (mates u p x) (given_msg (digit u.w u.k x) ∷ []) []) (group_messages g u p) agree (g.pos q)))
      (each_nil u.k)
      (record { after = ran.after; does = ran.does; holds = record { own = ran.holds.own } })

  -- taking from the others
  pub record TookTo (b : ℕ) (sl : Slots) : Type 0 where
    pub got : (h : ℕ) → h < b → sl h ≡ Some (Q h)
    pub own : sl d ≡ Some (Q d)

  abbrev taken_msg : ℕ → MessageView Bracket
  taken_msg h = record { round = u.round; from = g.who (member u.w u.k p h); to = g.who p; piece = Q h }

  take_step : (b : ℕ) (sl : Slots) → b < u.k → TookTo b sl → Ran c r tiles (TookTo (suc b)) (group_takes g u p b) (λ q. cond (b == d) [] (one_at (g.who (member u.w u.k p b)) (taken_msg b) q)) sl nil []
  take_step b sl l i = go (b == d) refl
    where
      more : (sl' : Slots) → sl' b ≡ Some (Q b) → ((h : ℕ) → h < b → sl' h ≡ Some (Q h)) → (h : ℕ) → h < suc b → sl' h ≡ Some (Q h)
      more sl' x f h lh = ⊎_elim (λ (s : b ≡ h). subst (λ z. sl' z ≡ Some (Q z)) s x) (λ (n : b ≢ h). f h (omega (arith, lh, n))) (let s : (b ≡ h) ⊎ (b ≢ h) = grind arith in s)

      go : (t : Bool) → (b == d) ≡ t → Ran c r tiles (TookTo (suc b)) (cond t [] (Swap (group_swap g u Take (member u.w u.k p b) p d) b ∷ [])) (λ q. cond t [] (one_at (g.who (member u.w u.k p b)) (taken_msg b) q)) sl nil []
      go true s = record { after = sl; does = does_nothing c r tiles sl; holds = record { got = more sl (let z = eqb-true b d s in subst (λ y. sl y ≡ Some (Q y)) (sym z) i.own) i.got; own = i.own } }
      go false s =
          let n : b ≢ d = eqb-false b d s in
          let many = is.many in
          let fits : at (suc d) ≤ get_or tiles.sizes g.tile 0 = (let a = cut_most (suc d) d_below in let b = is.capped p in omega (arith, a, b, on.size)) in
          record {
            after = put sl b (Some (Q b));
            does = take_does c r tiles u.round (g.who (member u.w u.k p b)) b (taken_msg b) sl on.tile (cut_grows (u.lo p) (u.hi p) u.k d many) fits;
            holds = record { got = more (put sl b (Some (Q b))) (put_same sl b (Some (Q b))) (λ h lh. put_other sl b (Some (Q b)) h (λ z. absurd (omega (arith, z, lh))) ∙ i.got h lh); own = put_other sl b (Some (Q b)) d n ∙ i.own };
          }
        where
          climbs : (h m : ℕ) → at h ≤ at (h + m)
          climbs h zero = let z : h + 0 ≡ h = omega arith in subst (λ y. at h ≤ at y) (sym z) (omega arith)
          climbs h (suc m) = let z : suc (h + m) ≡ h + suc m = omega arith in let s = cut_grows (u.lo p) (u.hi p) u.k (h + m) is.many in let t = climbs h m in subst (λ y. at h ≤ at y) z (omega (arith, s, t))

          cut_most : (h : ℕ) → h ≤ u.k → at h ≤ u.hi p
          cut_most h lh = let c = climbs h (u.k - h) in let z : h + (u.k - h) ≡ u.k = omega arith in let t = cut_last (u.lo p) (u.hi p) u.k is.many (is.ordered p) in subst (λ y. at h ≤ y) (ap at z ∙ t) c

  pub record Got (sl : Slots) : Type 0 where
    pub got : (h : ℕ) → h < u.k → sl h ≡ Some (Q h)

  take_all : (sl : Slots) → Own sl → Ran c r tiles Got (each (group_takes g u p) u.k) (λ q. by_pos [] (λ a. group_messages g u a p) (g.pos q)) sl nil []
  take_all sl h =
      let place = team.forth r p e in
      let mine : Some (P d) ≡ Some (Q d) = ap (λ z. Some (part_of g u p d z)) (sym (member_own u.w u.k p)) in
      let ran = ran_each c r tiles TookTo (group_takes g u p) (λ b q. cond (b == d) [] (one_at (g.who (member u.w u.k p b)) (taken_msg b) q)) (λ b. nil) (λ b. []) u.k take_step sl (record { got = λ h lh. absurd (omega (arith, lh)); own = h.own ∙ mine }) in
      let agree : (x : ℕ) → cond (mates u x p) (taken_msg (digit u.w u.k x) ∷ []) [] ≡ group_messages g u x p =
      λ x. cond_agree (mates u x p) (taken_msg (digit u.w u.k x)) (record { round = u.round; from = g.who x; to = g.who p; piece = part_of g u x d x })
      (λ m.
      let w = ((mates_in g u is p).tells x m).0 in
      let l : digit u.w u.k x < u.k = mod_below (x / u.w) u.k is.many in
      let lo : u.lo p ≡ u.lo x = sym (ap u.lo w ∙ is.low p (digit u.w u.k x) l) in
      let hi : u.hi p ≡ u.hi x = sym (ap u.hi w ∙ is.high p (digit u.w u.k x) l) in
      ap (λ z. record { round = u.round; from = g.who z; to = g.who p; piece = part_of g u p d z }) (sym w)
      ∙ (λ i. record { round = u.round; from = g.who x; to = g.who p; piece = record { tile = g.tile; lo = cut_at (lo i) (hi i) u.k d; hi = cut_at (lo i) (hi i) u.k (suc d); content = u.content x } })) in
      ran_as Got (each (group_takes g u p) u.k) sl (λ q. each (λ b. cond (b == d) [] (one_at (g.who (member u.w u.k p b)) (taken_msg b) q)) u.k) (λ q. by_pos [] (λ a. group_messages g u a p) (g.pos q)) (λ q. each (λ b. []) u.k) nil (each (λ b. []) u.k) []
      (fun_ext (λ q. group_is g team u is p place.1 (λ x. mates u x p) (mates_in g u is p) taken_msg q ∙ by_pos_agree (λ x. cond (mates u x p) (taken_msg (digit u.w u.k x) ∷ []) []) (λ a. group_messages g u a p) agree (g.pos q)))
      (fun_ext (λ q. each_nil u.k)) (each_nil u.k)
      (record { after = ran.after; does = ran.does; holds = record { got = ran.holds.got } })

  -- folding from the left
  abbrev folded : ℕ → Piece Bracket
  folded b = record { tile = g.tile; lo = at d; hi = at (suc d); content = group_fold u p b }

  pub record FoldTo (b : ℕ) (sl : Slots) : Type 0 where
    pub first : sl 0 ≡ Some (folded b)
    pub rest : (h : ℕ) → b < h → h < u.k → sl h ≡ Some (Q h)

  join_step : (b : ℕ) (sl : Slots) → b < u.k - 1 → FoldTo b sl → Ran c r tiles (FoldTo (suc b)) (group_joins b) nil sl nil []
  join_step b sl l i =
      let s1 = put sl 0 None in
      let s2 = put s1 (suc b) None in
      record {
        after = put s2 0 (Some (folded (suc b)));
        does = join_does c r tiles 0 (suc b) 0 (folded b) (Q (suc b)) sl i.first (i.rest (suc b) (omega arith) (omega arith)) (λ z. absurd (omega (arith, z))) refl;
        holds = record {
          first = refl;
          rest = λ h lh lk.
              put_other s2 0 (Some (folded (suc b))) h (λ z. absurd (omega (arith, z, lh))) ∙ (put_other s1 (suc b) None h (λ z. absurd (omega (arith, z, lh))) ∙ (put_other sl 0 None h (λ z. absurd (omega (arith, z, lh))) ∙ i.rest h (omega (arith, lh)) lk));
        };
      }

  pub record Folded (sl : Slots) : Type 0 where
    pub first : sl 0 ≡ Some (folded (u.k - 1))

  join_all : (sl : Slots) → Got sl → Ran c r tiles Folded (each group_joins (u.k - 1)) nil sl nil []
  join_all sl h =
      let ran = ran_each c r tiles FoldTo group_joins (λ b. nil) (λ b. nil) (λ b. []) (u.k - 1) join_step sl (record { first = h.got 0 is.many; rest = λ h' lh lk. h.got h' lk }) in
      ran_as Folded (each group_joins (u.k - 1)) sl (λ q. each (λ b. []) (u.k - 1)) nil (λ q. each (λ b. []) (u.k - 1)) nil (each (λ b. []) (u.k - 1)) []
      (fun_ext (λ q. each_nil (u.k - 1))) (fun_ext (λ q. each_nil (u.k - 1))) (each_nil (u.k - 1))
      (record { after = ran.after; does = ran.does; holds = record { first = ran.holds.first } })

  -- the whole round
  pub group_round : (sl : Slots) → sl 0 ≡ Some (record { tile = g.tile; lo = u.lo p; hi = u.hi p; content = u.content p }) → Ran c r tiles Folded (group_ops g u p) (λ q. by_pair (group_messages g u) (g.pos q) (Some p)) sl (λ q. by_pair (group_messages g u) (Some p) (g.pos q)) []
  group_round sl h =
      let T : ℕ → List (MessageView Bracket) = λ q. by_pos [] (λ a. group_messages g u a p) (g.pos q) in
      let S : ℕ → List (MessageView Bracket) = λ q. by_pos [] (group_messages g u p) (g.pos q) in
      let cuts = each (group_cuts u p) (u.k - 1) in
      let sends = each (group_sends g u p) u.k in
      let takes = each (group_takes g u p) u.k in
      let joins = each group_joins (u.k - 1) in
      let one = cut_all sl h in
      let two = send_all one.after one.holds in
      let three = take_all two.after two.holds in
      let four = join_all three.after three.holds in
      let a = does_both c r tiles cuts sends nil nil sl one.after two.after nil S [] [] one.does two.does in
      let b = does_both c r tiles takes joins T nil two.after three.after four.after nil nil [] [] three.does four.does in
      let all = does_both c r tiles (cuts ++ sends) (takes ++ joins) nil (λ q. T q ++ []) sl two.after four.after S nil [] [] a b in
      ran_as Folded (group_ops g u p) sl (λ q. T q ++ []) T (λ q. S q ++ []) S [] [] (fun_ext (λ q. append-nil (T q))) (fun_ext (λ q. append-nil (S q))) refl
      (record { after = four.after; does = all; holds = four.holds })
