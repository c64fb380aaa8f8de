-- The collection: each holder hands in its piece, and the display keeps all.
use Rattle.std.proofs.Common.{◌≡◌, ℕ, zero, suc, ◌<◌, ◌≤◌, Bool, true, false, cond, List, [], ◌∷◌, ◌++◌, length, get_or, refl, sym, ap, ◌∙◌, subst, arith, Option, Some, None, ⊎_elim, eqb-true, eq-eqb, ne_eqb}
use Rattle.std.proofs.lemmas.List.{append-nil}
use Rattle.std.proofs.lemmas.Bool.Decides.{nat_tests}
use Rattle.std.specs.Prelude.{◌==◌, ◌&&◌, ◌⊎◌, ◌≢◌, nat_lt, not}
use Rattle.std.specs.List.{slice_get}
use mathlib.Core.Path.{fun_ext}
use Rattle.icet_legs.proofs.Positions.{none_at, nothing, one_at, pick_at}
use Rattle.icet_legs.proofs.Tests.{and_both, and_false, and_parts, below_test}
use Rattle.icet_legs.specs.Collect.{Final, fetch_ops, final_kept, final_messages, final_ops, final_piece, final_swap, hands_in, own_ops}
use Rattle.icet_legs.specs.Team.{IsTeam, Team, by_pair, by_pos}
use Rattle.icet_model.specs.Fit.{Tiles}
use Rattle.icet_model.specs.Plan.{bracket_carrier}
use Rattle.icet_model.specs.Run.{Carrier, MessageView, Piece, put}
use Rattle.icet_model.specs.declared.bracket.Bracket.{Bracket}
use Rattle.icet_model.specs.declared.exchange.Kind.TheVariants.{Send, Take}
use Rattle.icet_model.specs.declared.exchange.Op.{Op}
use Rattle.icet_model.specs.declared.exchange.Op.TheVariants.{Keep, Swap}
use Rattle.icet_plan.proofs.Segments.{Does, does_both, does_nothing}
use Rattle.icet_plan.proofs.SingleSteps.{does_as, does_each, give_does, keep_does, take_does}
use Rattle.icet_plan.specs.Each.{each}

not_below_test : (a b : ℕ) → b ≤ a → nat_lt a b ≡ false
not_below_test a b l = grind (arith, nat_tests)

module _ {V : Type 0} (g : Team) (team : IsTeam g) (test : ℕ → Bool) (m : ℕ → V) (q : ℕ) where
  abbrev at_who : ℕ → List V
  at_who b = cond (test b) (one_at (g.who b) (m b) q) []

  away : (b : ℕ) → (g.who b ≡ q → ⊥) → at_who b ≡ []
  away b n = go (test b)
    where
      go : (t : Bool) → cond t (one_at (g.who b) (m b) q) [] ≡ []
      go true = ap (λ z. cond z (m b ∷ []) []) (ne_eqb (g.who b) q n)
      go false = refl

  each_none : g.pos q ≡ None → (k : ℕ) → k ≤ g.n → each at_who k ≡ []
  each_none e zero l = refl
  each_none e (suc k) l =
      ap (λ z. z ++ at_who k) (each_none e k (omega arith)) ∙ away k (λ h. let b : g.pos q ≡ Some k = subst (λ z. g.pos z ≡ Some k) h (team.back k (omega arith)) in absurd (cc))

  each_some : (x : ℕ) → g.pos q ≡ Some x → (k : ℕ) → k ≤ g.n → each at_who k ≡ cond (nat_lt x k && test x) (m x ∷ []) []
  each_some x e zero l = sym (ap (λ z. cond (z && test x) (m x ∷ []) []) (not_below_test x 0 (omega arith)))
  each_some x e (suc k) l =
      let ih = each_some x e k (omega arith) in
      let back = team.back k (omega arith) in
      ⊎_elim
      (λ (s : k ≡ x).
      let hit : at_who k ≡ cond (test x) (m x ∷ []) [] =
      ap (λ z. cond (test z) (one_at (g.who z) (m z) q) []) s ∙ ap (λ z. cond (test x) (cond z (m x ∷ []) []) []) (eq-eqb (g.who x) q (team.forth q x e).0) in
      ap (λ z. z ++ at_who k) (ih ∙ ap (λ z. cond (z && test x) (m x ∷ []) []) (not_below_test x k (omega (arith, s))))
      ∙ (hit ∙ sym (ap (λ z. cond (z && test x) (m x ∷ []) []) (below_test x (suc k) (omega (arith, s))))))
      (λ (n : k ≢ x).
      let miss : at_who k ≡ [] = away k (λ h. let b : g.pos q ≡ Some k = subst (λ z. g.pos z ≡ Some k) h back in let s : k ≡ x = cc in n s) in
      let same : nat_lt x k ≡ nat_lt x (suc k) = grind (arith, nat_tests) in
      ap (λ z. each at_who k ++ z) miss ∙ (append-nil (each at_who k) ∙ (ih ∙ ap (λ z. cond (z && test x) (m x ∷ []) []) same)))
      (let s : (k ≡ x) ⊎ (k ≢ x) = grind arith in s)

  -- one entry for each participant, seen from a rank
  pub each_is : each at_who g.n ≡ by_pos [] (λ x. cond (test x) (m x ∷ []) []) (g.pos q)
  each_is = go (g.pos q) refl
    where
      go : (o : Option ℕ) → g.pos q ≡ o → each at_who g.n ≡ by_pos [] (λ x. cond (test x) (m x ∷ []) []) o
      go None e = each_none e g.n (omega arith)
      go (Some x) e = each_some x e g.n (omega arith) ∙ ap (λ z. cond (z && test x) (m x ∷ []) []) (below_test x g.n (team.forth q x e).1)

pub each_nil : {V : Type 0} (k : ℕ) → each {V = V} nothing k ≡ []
each_nil zero = refl
each_nil {V} (suc k) = append-nil (each {V = V} nothing k) ∙ each_nil k

pub record IsFinal (tiles : Tiles) (g : Team) (f : Final) : Type 0 where
  pub shown : f.shows < g.n
  pub display : slice_get tiles.displays g.tile ≡ Some (g.who f.shows)
  pub tile : g.tile < length tiles.sizes
  pub ranges : (a : ℕ) → f.holds a ≡ true → (f.lo a ≤ f.hi a) × (f.hi a ≤ get_or tiles.sizes g.tile 0)

module _ (tiles : Tiles) (g : Team) (team : IsTeam g) (f : Final) (ok : IsFinal tiles g f) (r p : ℕ) (e : g.pos r ≡ Some p) (before : ℕ → Option (Piece Bracket)) (has : f.holds p ≡ true → before 0 ≡ Some (final_piece g f p)) where
  abbrev c : Carrier Bracket
  c = bracket_carrier tiles.sizes r

  abbrev msg : ℕ → ℕ → MessageView Bracket
  msg a b = record { round = f.round; from = g.who a; to = g.who b; piece = final_piece g f a }

  abbrev nil : ℕ → List (MessageView Bracket)
  nil q = []

  place : (g.who p ≡ r) × (p < g.n)
  place = team.forth r p e

  pub record Collected (ops : List Op) (kept : List (Piece Bracket)) : Type 0 where
    pub after : ℕ → Option (Piece Bracket)
    pub does : Does c r tiles ops (λ q. by_pair (final_messages g f) (g.pos q) (Some p)) before after (λ q. by_pair (final_messages g f) (Some p) (g.pos q)) kept

  -- a rank that isn't the display gets nothing
  none_in : (p == f.shows) ≡ false → nil ≡ (λ q. by_pair (final_messages g f) (g.pos q) (Some p))
  none_in n = fun_ext (none_at g team (λ a. final_messages g f a p) (λ a. ap (λ z. cond (z && hands_in f a) (msg a p ∷ []) []) n))

  none_out : hands_in f p ≡ false → nil ≡ (λ q. by_pair (final_messages g f) (Some p) (g.pos q))
  none_out n = fun_ext (none_at g team (final_messages g f p) (λ b. ap (λ z. cond z (msg p b ∷ []) []) (and_false (b == f.shows) (hands_in f p) n)))

  not_true : (x : Bool) → x ≡ true → not x ≡ false
  not_true true h = refl
  not_true false h = absurd (cc)

  not_false : (x : Bool) → x ≡ false → not x ≡ true
  not_false true h = absurd (cc)
  not_false false h = refl

  holder : (p == f.shows) ≡ false → f.holds p ≡ true → Collected (Swap (final_swap g f Send f.shows p) 0 ∷ []) []
  holder n h =
      let hands : hands_in f p ≡ true = and_both (f.holds p) (not (p == f.shows)) h (not_false (p == f.shows) n) in
      let from_is : record { round = f.round; from = r; to = g.who f.shows; piece = final_piece g f p } ≡ msg p f.shows = ap (λ z. record { round = f.round; from = z; to = g.who f.shows; piece = final_piece g f p }) (sym place.0) in
      record {
        after = put before 0 None;
        does = does_as c r tiles (Swap (final_swap g f Send f.shows p) 0 ∷ []) nil (λ q. by_pair (final_messages g f) (g.pos q) (Some p)) before (put before 0 None) (one_at (g.who f.shows) (record { round = f.round; from = r; to = g.who f.shows; piece = final_piece g f p })) (λ q. by_pair (final_messages g f) (Some p) (g.pos q)) []
            (none_in n)
            (fun_ext (pick_at g team f.shows ok.shown (final_messages g f p) (record { round = f.round; from = r; to = g.who f.shows; piece = final_piece g f p })
            (ap (λ z. cond z (msg p f.shows ∷ []) []) (and_both (f.shows == f.shows) (hands_in f p) (eq-eqb f.shows f.shows refl) hands) ∙ ap (λ z. z ∷ []) (sym from_is))
            (λ b k. ap (λ z. cond (z && hands_in f p) (msg p b ∷ []) []) (ne_eqb b f.shows k))))
            (give_does c r tiles f.round (g.who f.shows) 0 (final_piece g f p) before (has h));
      }

  other : (p == f.shows) ≡ false → f.holds p ≡ false → Collected [] []
  other n h = record { after = before; does = does_as c r tiles [] nil (λ q. by_pair (final_messages g f) (g.pos q) (Some p)) before before nil (λ q. by_pair (final_messages g f) (Some p) (g.pos q)) [] (none_in n) (none_out (ap (λ z. z && not (p == f.shows)) h)) (does_nothing c r tiles before) }

  -- the display takes from each that hands in, and keeps
  abbrev slots_at : ℕ → ℕ → Option (Piece Bracket)
  slots_at zero = before
  slots_at (suc b) = cond (hands_in f b) (put (slots_at b) 1 (Some (final_piece g f b))) (slots_at b)

  abbrev got : ℕ → ℕ → List (MessageView Bracket)
  got b q = cond (hands_in f b) (one_at (g.who b) (msg b p) q) []

  abbrev keeps : ℕ → List (Piece Bracket)
  keeps b = cond (hands_in f b) (final_piece g f b ∷ []) []

  own_keeps : List (Piece Bracket)
  own_keeps = cond (f.holds f.shows) (final_piece g f f.shows ∷ []) []

  fetch : p ≡ f.shows → (b : ℕ) → b < g.n → Does c r tiles (fetch_ops g f b) (got b) (slots_at b) (slots_at (suc b)) nil (keeps b)
  fetch s b l = go (hands_in f b) refl
    where
      me : Some (g.who f.shows) ≡ Some r
      me = ap (λ z. Some (g.who z)) (sym s) ∙ ap (λ z. Some z) place.0

      go : (t : Bool) → hands_in f b ≡ t → Does c r tiles (cond t (Swap (final_swap g f Take b b) 1 ∷ Keep 1 ∷ []) []) (λ q. cond t (one_at (g.who b) (msg b p) q) []) (slots_at b) (cond t (put (slots_at b) 1 (Some (final_piece g f b))) (slots_at b)) nil (cond t (final_piece g f b ∷ []) [])
      go true h =
          let rg = ok.ranges b (and_parts (f.holds b) (not (b == f.shows)) h).0 in
          let sl = put (slots_at b) 1 (Some (final_piece g f b)) in
          does_as c r tiles (Swap (final_swap g f Take b b) 1 ∷ Keep 1 ∷ []) (λ q. one_at (g.who b) (msg b p) q ++ []) (one_at (g.who b) (msg b p)) (slots_at b) sl nil nil (final_piece g f b ∷ []) (fun_ext (λ q. append-nil (one_at (g.who b) (msg b p) q))) refl
          (does_both c r tiles (Swap (final_swap g f Take b b) 1 ∷ []) (Keep 1 ∷ []) (one_at (g.who b) (msg b p)) nil (slots_at b) sl sl nil nil [] (final_piece g f b ∷ [])
          (take_does c r tiles f.round (g.who b) 1 (msg b p) (slots_at b) ok.tile rg.0 rg.1)
          (keep_does c r tiles 1 (final_piece g f b) sl refl (ok.display ∙ me)))
      go false h = does_nothing c r tiles (slots_at b)

  display : p ≡ f.shows → Collected (own_ops f ++ each (fetch_ops g f) g.n) (cond (f.holds f.shows) (final_piece g f f.shows ∷ []) [] ++ each keeps g.n)
  display s =
      let own : Does c r tiles (own_ops f) nil before before nil (cond (f.holds f.shows) (final_piece g f f.shows ∷ []) []) = keep_own (f.holds f.shows) refl in
      let all = does_each c r tiles (fetch_ops g f) slots_at got (λ b. nil) keeps g.n (fetch s) in
      let both = does_both c r tiles (own_ops f) (each (fetch_ops g f) g.n) nil (λ q. each (λ b. got b q) g.n) before before (slots_at g.n) nil (λ q. each (λ b. []) g.n) (cond (f.holds f.shows) (final_piece g f f.shows ∷ []) []) (each keeps g.n) own all in
      record {
        after = slots_at g.n;
        does = does_as c r tiles (own_ops f ++ each (fetch_ops g f) g.n) (λ q. each (λ b. got b q) g.n) (λ q. by_pair (final_messages g f) (g.pos q) (Some p)) before (slots_at g.n) (λ q. each (λ b. []) g.n) (λ q. by_pair (final_messages g f) (Some p) (g.pos q)) (cond (f.holds f.shows) (final_piece g f f.shows ∷ []) [] ++ each keeps g.n)
            (fun_ext (λ q. each_is g team (hands_in f) (λ b. msg b p) q ∙ ap (λ z. by_pos [] (λ x. cond (z && hands_in f x) (msg x p ∷ []) []) (g.pos q)) (sym (eq-eqb p f.shows s))))
            (fun_ext (λ q. each_nil g.n ∙ ap (λ (h : ℕ → List (MessageView Bracket)). h q) (none_out (and_false (f.holds p) (not (p == f.shows)) (not_true (p == f.shows) (eq-eqb p f.shows s))))))
            both;
      }
    where
      me : Some (g.who f.shows) ≡ Some r
      me = ap (λ z. Some (g.who z)) (sym s) ∙ ap (λ z. Some z) place.0

      keep_own : (t : Bool) → f.holds f.shows ≡ t → Does c r tiles (cond t (Keep 0 ∷ []) []) nil before before nil (cond t (final_piece g f f.shows ∷ []) [])
      keep_own true h = keep_does c r tiles 0 (final_piece g f f.shows) before (subst (λ z. before 0 ≡ Some (final_piece g f z)) s (has (ap f.holds s ∙ h))) (ok.display ∙ me)
      keep_own false h = does_nothing c r tiles before

  pub collected : Collected (final_ops g f p) (final_kept g f p)
  collected = go (p == f.shows) refl (f.holds p) refl
    where
      go : (x : Bool) → (p == f.shows) ≡ x → (y : Bool) → f.holds p ≡ y → Collected (cond x (own_ops f ++ each (fetch_ops g f) g.n) (cond y (Swap (final_swap g f Send f.shows p) 0 ∷ []) [])) (cond x (cond (f.holds f.shows) (final_piece g f f.shows ∷ []) [] ++ each keeps g.n) [])
      go true s y h = display (eqb-true p f.shows s)
      go false n true h = holder n h
      go false n false h = other n h
