-- A round of merges, whichever positions take.
use Rattle.std.proofs.Common.{◌≡◌, ℕ, suc, ◌+◌, ◌-◌, ◌*◌, ◌<◌, Bool, true, false, cond, List, [], ◌∷◌, ◌++◌, map, refl, sym, ap, ◌∙◌, subst, arith, Option, Some, None, eqb-true, eq-eqb, ne_eqb}
use Rattle.std.proofs.lemmas.List.{append-nil}
use Rattle.std.proofs.lemmas.Bool.Decides.{nat_tests}
use Rattle.std.specs.Prelude.{◌==◌, ◌&&◌, ◌≢◌, nat_le}
use Rattle.std.specs.List.{filter}
use mathlib.Core.Path.{fun_ext}
use Rattle.icet_legs.proofs.Positions.{OnTiles, none_at, one_at, pick_at}
use Rattle.icet_legs.proofs.Tests.{and_both, and_false, and_parts}
use Rattle.icet_legs.specs.Team.{IsTeam, Team, by_pair, by_pos}
use Rattle.icet_legs.specs.Merge.{Merge, merge_gives, merge_messages, merge_ops, merge_piece, merge_swap, merged}
use Rattle.icet_model.specs.Exchange.{Heading, IsRising, exchanges, heading, sends_to, takes_from}
use Rattle.icet_model.specs.Fit.{Tiles}
use Rattle.icet_model.specs.Plan.{bracket_carrier}
use Rattle.icet_model.specs.Run.{Carrier, MessageView, Piece, put}
use Rattle.icet_model.specs.declared.bracket.Bracket.{Bracket}
use Rattle.icet_model.specs.declared.bracket.Bracket.TheVariants.{Pair}
use Rattle.icet_model.specs.declared.exchange.Exchange.{Exchange}
use Rattle.icet_model.specs.declared.exchange.Kind.TheVariants.{Send, Take}
use Rattle.icet_model.specs.declared.exchange.Op.{Op}
use Rattle.icet_model.specs.declared.exchange.Op.TheVariants.{Join, Swap}
use Rattle.icet_plan.proofs.Segments.{AreWithin, Does, IsPart, does_both, does_nothing}
use Rattle.icet_plan.proofs.SingleSteps.{does_as, give_does, join_does, take_does}

pub record IsMerge (g : Team) (u : Merge) : Type 0 where
  pub inside : (p : ℕ) → u.takes p ≡ true → p + u.w < g.n
  pub not_both : (p : ℕ) → merge_gives u p ≡ true → u.takes p ≡ false
  pub moves : 0 < u.w

pub record Giving (u : Merge) (q : ℕ) : Type 0 where
  pub back : (q - u.w) + u.w ≡ q
  pub taking : u.takes (q - u.w) ≡ true

pub gives_says : (u : Merge) (q : ℕ) → merge_gives u q ≡ true → Giving u q
gives_says u q h = let f = and_parts (nat_le u.w q) (u.takes (q - u.w)) h in record { back = high u.w q f.0; taking = f.1 }
  where
    high : (a b : ℕ) → nat_le a b ≡ true → (b - a) + a ≡ b
    high a b h = grind (arith, nat_tests)

gives_is : (u : Merge) (p : ℕ) → u.takes p ≡ true → merge_gives u (p + u.w) ≡ true
gives_is u p h = and_both (nat_le u.w (p + u.w)) (u.takes ((p + u.w) - u.w)) (low u.w p) (let e : (p + u.w) - u.w ≡ p = omega arith in ap u.takes e ∙ h)
  where
    low : (a b : ℕ) → nat_le a (b + a) ≡ true
    low a b = grind (arith, nat_tests)

-- nothing of any kind goes out of a position that gives nothing
none_from : {V : Type 0} (u : Merge) (v : V) (a b : ℕ) → merge_gives u a ≡ false → cond (u.takes b && (b + u.w == a)) (v ∷ []) [] ≡ []
none_from u v a b n = out (u.takes b) refl (b + u.w == a) refl
  where
    out : (x : Bool) → u.takes b ≡ x → (y : Bool) → (b + u.w == a) ≡ y → cond (x && y) (v ∷ []) [] ≡ []
    out true t true s = let k : merge_gives u a ≡ true = subst (λ z. merge_gives u z ≡ true) (eqb-true (b + u.w) a s) (gives_is u b t) in absurd (cc)
    out true t false s = refl
    out false t y s = refl

none_into : {V : Type 0} (u : Merge) (v : V) (a b : ℕ) → u.takes b ≡ false → cond (u.takes b && (b + u.w == a)) (v ∷ []) [] ≡ []
none_into u v a b n = ap (λ z. cond (z && (b + u.w == a)) (v ∷ []) []) n

one_pair : {V : Type 0} (u : Merge) (v : V) (a b : ℕ) → u.takes b ≡ true → b + u.w ≡ a → cond (u.takes b && (b + u.w == a)) (v ∷ []) [] ≡ v ∷ []
one_pair u v a b t e = ap (λ z. cond z (v ∷ []) []) (and_both (u.takes b) (b + u.w == a) t (eq-eqb (b + u.w) a e))

no_pair : {V : Type 0} (u : Merge) (v : V) (a b : ℕ) → b + u.w ≢ a → cond (u.takes b && (b + u.w == a)) (v ∷ []) [] ≡ []
no_pair u v a b n = ap (λ z. cond z (v ∷ []) []) (and_false (u.takes b) (b + u.w == a) (ne_eqb (b + u.w) a n))

module _ (tiles : Tiles) (g : Team) (team : IsTeam g) (on : OnTiles tiles g) (u : Merge) (is : IsMerge g u) (r p : ℕ) (e : g.pos r ≡ Some p) (before : ℕ → Option (Piece Bracket)) where
  abbrev c : Carrier Bracket
  c = bracket_carrier tiles.sizes r

  abbrev nil : ℕ → List (MessageView Bracket)
  nil q = []

  abbrev full : Bracket → Piece Bracket
  full b = merge_piece g b

  abbrev msg : ℕ → ℕ → MessageView Bracket
  msg a b = record { round = u.round; from = g.who a; to = g.who b; piece = full (u.content a) }

  -- what the round leaves at a position that gave nothing
  pub record Round (ops : List Op) : Type 0 where
    pub after : ℕ → Option (Piece Bracket)
    pub does : Does c r tiles ops (λ q. by_pair (merge_messages g u) (g.pos q) (Some p)) before after (λ q. by_pair (merge_messages g u) (Some p) (g.pos q)) []
    pub holds : merge_gives u p ≡ false → before 0 ≡ Some (full (u.content p)) → after 0 ≡ Some (full (merged u p))

  giving : merge_gives u p ≡ true → before 0 ≡ Some (full (u.content p)) → Round (Swap (merge_swap g u Send (p - u.w)) 0 ∷ [])
  giving q h =
      let f = gives_says u p q in
      let t = p - u.w in
      let place = team.forth r p e in
      let given : MessageView Bracket = record { round = u.round; from = r; to = g.who t; piece = full (u.content p) } in
      let m_is : msg p t ≡ given = ap (λ z. record { round = u.round; from = z; to = g.who t; piece = full (u.content p) }) place.0 in
      record {
        after = put before 0 None;
        does = does_as c r tiles (Swap (merge_swap g u Send t) 0 ∷ []) nil (λ a. by_pair (merge_messages g u) (g.pos a) (Some p)) before (put before 0 None) (one_at (g.who t) given) (λ b. by_pair (merge_messages g u) (Some p) (g.pos b)) []
            (fun_ext (none_at g team (λ a. merge_messages g u a p) (λ a. none_into u (msg a p) a p (is.not_both p q))))
            (fun_ext (pick_at g team t (let b = f.back in let l = place.1 in omega (arith, b, l)) (merge_messages g u p) given (one_pair u (msg p t) p t f.taking f.back ∙ ap (λ z. z ∷ []) m_is) (λ b n. no_pair u (msg p b) p b (λ s. n (let k = f.back in omega (arith, s, k))))))
            (give_does c r tiles u.round (g.who t) 0 (full (u.content p)) before h);
        holds = λ n. absurd (cc);
      }

  taking : merge_gives u p ≡ false → u.takes p ≡ true → before 0 ≡ Some (full (u.content p)) → Round (Swap (merge_swap g u Take (p + u.w)) 1 ∷ Join 0 1 0 ∷ [])
  taking n q h =
      let t = p + u.w in
      let s1 = put before 1 (Some (full (u.content t))) in
      let s2 = put (put (put s1 0 None) 1 None) 0 (Some (full (Pair (u.content p) (u.content t)))) in
      let grown : merged u p ≡ Pair (u.content p) (u.content t) = ap (λ z. cond z (Pair (u.content p) (u.content t)) (u.content p)) q in
      let one = take_does c r tiles u.round (g.who t) 1 (msg t p) before on.tile (omega arith) (let s = on.size in omega (arith, s)) in
      let two = join_does c r tiles 0 1 0 (full (u.content p)) (full (u.content t)) s1 h refl (λ z. absurd (omega (arith, z))) refl in
      let both = does_both c r tiles (Swap (merge_swap g u Take t) 1 ∷ []) (Join 0 1 0 ∷ []) (one_at (g.who t) (msg t p)) nil before s1 s2 nil nil [] [] one two in
      record {
        after = s2;
        does = does_as c r tiles (Swap (merge_swap g u Take t) 1 ∷ Join 0 1 0 ∷ []) (λ a. one_at (g.who t) (msg t p) a ++ []) (λ a. by_pair (merge_messages g u) (g.pos a) (Some p)) before s2 nil (λ b. by_pair (merge_messages g u) (Some p) (g.pos b)) []
            (fun_ext (λ a. append-nil (one_at (g.who t) (msg t p) a) ∙ pick_at g team t (is.inside p q) (λ x. merge_messages g u x p) (msg t p) (one_pair u (msg t p) t p q refl) (λ x k. no_pair u (msg x p) x p (λ s. k (sym s))) a))
            (fun_ext (none_at g team (merge_messages g u p) (λ b. none_from u (msg p b) p b n)))
            both;
        holds = λ k b. ap (λ z. Some (full z)) (sym grown);
      }

  resting : merge_gives u p ≡ false → u.takes p ≡ false → Round []
  resting n k = record {
    after = before;
    does = does_as c r tiles [] nil (λ a. by_pair (merge_messages g u) (g.pos a) (Some p)) before before nil (λ b. by_pair (merge_messages g u) (Some p) (g.pos b)) []
        (fun_ext (none_at g team (λ a. merge_messages g u a p) (λ a. none_into u (msg a p) a p k)))
        (fun_ext (none_at g team (merge_messages g u p) (λ b. none_from u (msg p b) p b n))) (does_nothing c r tiles before);
    holds = λ z b. b ∙ ap (λ y. Some (full (cond y (Pair (u.content p) (u.content (p + u.w))) (u.content p)))) (sym k);
  }

  -- a position that takes or gives has its piece; of the others nothing is asked
  pub merge_round : (merge_gives u p ≡ true → before 0 ≡ Some (full (u.content p))) → (u.takes p ≡ true → before 0 ≡ Some (full (u.content p))) → Round (merge_ops g u p)
  merge_round f h = go (merge_gives u p) refl (u.takes p) refl
    where
      go : (x : Bool) → merge_gives u p ≡ x → (y : Bool) → u.takes p ≡ y → Round (cond x (Swap (merge_swap g u Send (p - u.w)) 0 ∷ []) (cond y (Swap (merge_swap g u Take (p + u.w)) 1 ∷ Join 0 1 0 ∷ []) []))
      go true q y t = giving q (f q)
      go false q true t = taking q t (h t)
      go false q false t = resting q t

-- the exchanges go together
module _ (g : Team) (team : IsTeam g) (u : Merge) (is : IsMerge g u) where
  abbrev swap_heading : Heading
  swap_heading = record { round = u.round; tile = g.tile; lo = 0; hi = g.size }

  abbrev headings : ℕ → ℕ → List Heading
  headings a b = cond (u.takes b && (b + u.w == a)) (swap_heading ∷ []) []

  map_cond : (b : Bool) (e : Exchange) → heading e ≡ swap_heading → map heading (cond b (e ∷ []) []) ≡ cond b (swap_heading ∷ []) []
  map_cond true e h = ap (λ z. z ∷ []) h
  map_cond false e h = refl

  sends_are : (r : ℕ) (o : Option ℕ) → ((a : ℕ) → o ≡ Some a → a < g.n) → map heading (filter (sends_to r) (exchanges (by_pos [] (merge_ops g u) o))) ≡ by_pair headings o (g.pos r)
  sends_are r None l = refl
  sends_are r (Some a) l = go (merge_gives u a) refl (u.takes a)
    where
      go : (x : Bool) → merge_gives u a ≡ x → (y : Bool) → map heading (filter (sends_to r) (exchanges (cond x (Swap (merge_swap g u Send (a - u.w)) 0 ∷ []) (cond y (Swap (merge_swap g u Take (a + u.w)) 1 ∷ Join 0 1 0 ∷ []) [])))) ≡ by_pos [] (headings a) (g.pos r)
      go true q y =
          let f = gives_says u a q in
          let t = a - u.w in
          map_cond (g.who t == r) (merge_swap g u Send t) refl
          ∙ pick_at g team t (let b = f.back in let k = l a refl in omega (arith, b, k)) (headings a) swap_heading (one_pair u swap_heading a t f.taking f.back) (λ b n. no_pair u swap_heading a b (λ s. n (let k = f.back in omega (arith, s, k)))) r
      go false q true = none_at g team (headings a) (λ b. none_from u swap_heading a b q) r
      go false q false = none_at g team (headings a) (λ b. none_from u swap_heading a b q) r

  takes_are : (q : ℕ) (o : Option ℕ) → map heading (filter (takes_from q) (exchanges (by_pos [] (merge_ops g u) o))) ≡ by_pair headings (g.pos q) o
  takes_are q None = none_at g team (λ a. []) (λ a. refl) q
  takes_are q (Some b) = go (merge_gives u b) refl (u.takes b) refl
    where
      go : (x : Bool) → merge_gives u b ≡ x → (y : Bool) → u.takes b ≡ y → map heading (filter (takes_from q) (exchanges (cond x (Swap (merge_swap g u Send (b - u.w)) 0 ∷ []) (cond y (Swap (merge_swap g u Take (b + u.w)) 1 ∷ Join 0 1 0 ∷ []) [])))) ≡ by_pos [] (λ a. headings a b) (g.pos q)
      go true x y t = none_at g team (λ a. headings a b) (λ a. none_into u swap_heading a b (is.not_both b x)) q
      go false x true t =
          map_cond (g.who (b + u.w) == q) (merge_swap g u Take (b + u.w)) refl
          ∙ pick_at g team (b + u.w) (is.inside b t) (λ a. headings a b) swap_heading (one_pair u swap_heading (b + u.w) b t refl) (λ a n. no_pair u swap_heading a b (λ s. n (sym s))) q
      go false x false t = none_at g team (λ a. headings a b) (λ a. none_into u swap_heading a b t) q

  alone : (o : Option ℕ) → IsRising (exchanges (by_pos [] (merge_ops g u) o)) × AreWithin (2 * u.round) (2 * suc u.round) (exchanges (by_pos [] (merge_ops g u) o))
  alone None = (tt, tt)
  alone (Some a) = go (merge_gives u a) (u.takes a)
    where
      go : (x y : Bool) → IsRising (exchanges (cond x (Swap (merge_swap g u Send (a - u.w)) 0 ∷ []) (cond y (Swap (merge_swap g u Take (a + u.w)) 1 ∷ Join 0 1 0 ∷ []) []))) × AreWithin (2 * u.round) (2 * suc u.round) (exchanges (cond x (Swap (merge_swap g u Send (a - u.w)) 0 ∷ []) (cond y (Swap (merge_swap g u Take (a + u.w)) 1 ∷ Join 0 1 0 ∷ []) [])))
      go true y = ((tt, tt), ((omega arith, omega arith), tt))
      go false true = ((tt, tt), ((omega arith, omega arith), tt))
      go false false = (tt, tt)

  pub merge_part : IsPart (λ r. by_pos [] (merge_ops g u) (g.pos r)) (2 * u.round) (2 * suc u.round)
  merge_part = record {
    ordered = omega arith;
    matched = record { rising = λ r. (alone (g.pos r)).0; pairs = λ q r. sends_are r (g.pos q) (λ a k. (team.forth q a k).1) ∙ sym (takes_are q (g.pos r)) };
    within = λ r. (alone (g.pos r)).1;
  }
