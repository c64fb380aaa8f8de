-- The rounds of radix-k, one behind the other.
use Rattle.std.proofs.Common.{◌≡◌, ℕ, zero, suc, ◌+◌, ◌-◌, ◌*◌, ◌/◌, ◌%◌, ◌<◌, ◌≤◌, List, [], refl, sym, ap, ◌∙◌, subst, arith, Option, Some, None}
use Rattle.std.proofs.Math.Nat.{div-lt_iff_lt-mul, mul-le-mul_left, div-div-eq-div-mul}
use Rattle.std.proofs.Math.Arith.{mod-mul}
use Rattle.std.proofs.lemmas.Nat.{mod-mul-add, div-mul-add, mod_below}
use mathlib.Core.Path.{fun_ext}
use Rattle.icet_legs.proofs.Digits.{cut_grows, cut_last, member_mod}
use Rattle.icet_legs.proofs.GroupMatched.{group_part}
use Rattle.icet_legs.proofs.Groups.{IsGroup, group_round}
use Rattle.icet_legs.proofs.Positions.{OnTiles, none_at}
use Rattle.icet_legs.specs.Group.{cut_at, digit, group_fold, group_messages, group_ops, member}
use Rattle.icet_legs.specs.Team.{IsTeam, Team, by_pair, by_pos}
use Rattle.icet_legs.specs.Radix.{group_at, left_of, radix_messages, radix_of, radix_ops, range_of, stride}
use Rattle.icet_model.specs.Fit.{Tiles}
use Rattle.icet_model.specs.Plan.{bracket_carrier}
use Rattle.icet_model.specs.Run.{Carrier, MessageView, Piece}
use Rattle.icet_model.specs.declared.bracket.Bracket.{Bracket}
use Rattle.icet_model.specs.declared.bracket.Bracket.TheVariants.{Pair}
use Rattle.icet_plan.proofs.Segments.{Does, IsPart, does_both, does_nothing, parts_join}
use Rattle.icet_plan.proofs.SingleSteps.{does_as}

-- the factors of the number of participants
pub record AreFactors (g : Team) (factor : ℕ → ℕ) (m : ℕ) : Type 0 where
  pub many : (i : ℕ) → 0 < factor i
  pub above : ℕ → ℕ
  pub whole : (i : ℕ) → i < m → g.n ≡ above i * factor i * stride factor i

module _ (g : Team) (factor : ℕ → ℕ) (m : ℕ) (f : AreFactors g factor m) where
  pub stride_wide : (i : ℕ) → 0 < stride factor i
  stride_wide zero = omega arith
  stride_wide (suc i) = let a = f.many i in let s = mul-le-mul_left (factor i) (stride_wide i) in omega (arith, a, s)

  -- equal low digits, equal ranges
  pub range_low : (i p x : ℕ) → p % stride factor i ≡ x % stride factor i → range_of factor g.size i p ≡ range_of factor g.size i x
  range_low zero p x e = refl
  range_low (suc i) p x e =
      let s = stride factor i in
      let k = factor i in
      let w = stride_wide i in
      let a = mod-mul p {m = factor i} {c = stride factor i} (f.many i) w in
      let b = mod-mul x {m = factor i} {c = stride factor i} (f.many i) w in
      let both : digit s k p * s + p % s ≡ digit s k x * s + x % s = sym a ∙ (e ∙ b) in
      let low : p % s ≡ x % s = sym (mod-mul-add (digit s k p) s (p % s) (mod_below p s w)) ∙ (ap (λ z. z % s) both ∙ mod-mul-add (digit s k x) s (x % s) (mod_below x s w)) in
      let same : digit s k p ≡ digit s k x = sym (div-mul-add (digit s k p) s (p % s) (mod_below p s w)) ∙ (ap (λ z. z / s) both ∙ div-mul-add (digit s k x) s (x % s) (mod_below x s w)) in
      let ih = range_low i p x low in
      λ j. (cut_at ((ih j).0) ((ih j).1) k (same j), cut_at ((ih j).0) ((ih j).1) k (suc (same j)))

  pub record InSize (i p : ℕ) : Type 0 where
    pub ordered : (range_of factor g.size i p).0 ≤ (range_of factor g.size i p).1
    pub capped : (range_of factor g.size i p).1 ≤ g.size

  pub in_size : (i p : ℕ) → InSize i p
  in_size zero p = record { ordered = omega arith; capped = omega arith }
  in_size (suc i) p =
      let h = in_size i p in
      let lo = (range_of factor g.size i p).0 in
      let hi = (range_of factor g.size i p).1 in
      let k = factor i in
      let d = digit (stride factor i) k p in
      let most = capped_at lo hi k (f.many i) h.ordered (suc d) (mod_below (p / stride factor i) k (f.many i)) in
      record { ordered = cut_grows lo hi k d (f.many i); capped = omega (arith, most, h.capped) }
    where
      climbs : (lo hi k : ℕ) → 0 < k → (h m : ℕ) → cut_at lo hi k h ≤ cut_at lo hi k (h + m)
      climbs lo hi k l h zero = let z : h + 0 ≡ h = omega arith in subst (λ y. cut_at lo hi k h ≤ cut_at lo hi k y) (sym z) (omega arith)
      climbs lo hi k l h (suc m) = let z : suc (h + m) ≡ h + suc m = omega arith in let s = cut_grows lo hi k (h + m) l in let t = climbs lo hi k l h m in subst (λ y. cut_at lo hi k h ≤ cut_at lo hi k y) z (omega (arith, s, t))

      capped_at : (lo hi k : ℕ) → 0 < k → lo ≤ hi → (h : ℕ) → h ≤ k → cut_at lo hi k h ≤ hi
      capped_at lo hi k l o h lh = let c = climbs lo hi k l h (k - h) in let z : h + (k - h) ≡ k = omega arith in let t = cut_last lo hi k l o in subst (λ y. cut_at lo hi k h ≤ y) (ap (cut_at lo hi k) z ∙ t) c

  stays_inside : (i : ℕ) → i < m → (p h : ℕ) → p < g.n → h < factor i → member (stride factor i) (factor i) p h < g.n
  stays_inside i l p h b lh =
      let s = stride factor i in
      let k = factor i in
      let c = f.above i in
      let w = f.whole i l in
      let one : p / s < c * k = (div-lt_iff_lt-mul (stride_wide i)).1 (omega (arith, b, w)) in
      let two : p / s / k < c = (div-lt_iff_lt-mul (f.many i)).1 one in
      let up = mul-le-mul_left k two in
      let top : p / s / k * k + h < c * k = omega (arith, up, lh) in
      let all = mul-le-mul_left s top in
      let low = mod_below p s (stride_wide i) in
      omega (arith, all, low, w)

  pub is_group : (i : ℕ) → i < m → IsGroup g (group_at g factor i)
  is_group i l = record {
    wide = stride_wide i;
    many = f.many i;
    inside = stays_inside i l;
    ordered = λ p. (in_size i p).ordered;
    capped = λ p. (in_size i p).capped;
    low = λ p h lh. ap (λ z. z.0) (range_low i (member (stride factor i) (factor i) p h) p (member_mod (stride factor i) (factor i) p h (stride_wide i) lh));
    high = λ p h lh. ap (λ z. z.1) (range_low i (member (stride factor i) (factor i) p h) p (member_mod (stride factor i) (factor i) p h (stride_wide i) lh));
  }

  -- the fold of the round is the bracket of the next
  fold_is : (i p b : ℕ) → group_fold (group_at g factor i) p b ≡ left_of (λ h. radix_of g factor i (member (stride factor i) (factor i) p h)) b
  fold_is i p zero = refl
  fold_is i p (suc b) = ap (λ z. Pair z (radix_of g factor i (member (stride factor i) (factor i) p (suc b)))) (fold_is i p b)

  -- the bracket is that of the aligned block
  pub radix_block : (i p x : ℕ) → p / stride factor i ≡ x / stride factor i → radix_of g factor i p ≡ radix_of g factor i x
  radix_block zero p x e = ap g.leaf (sym (div_one p) ∙ (e ∙ div_one x))
    where
      div_one : (n : ℕ) → n / 1 ≡ n
      div_one n = let z : n ≡ n * 1 + 0 = omega arith in ap (λ y. y / 1) z ∙ div-mul-add n 1 0 (omega arith)
  radix_block (suc i) p x e =
      let s = stride factor i in
      let k = factor i in
      let flip : k * s ≡ s * k = omega arith in
      let up : p / s / k ≡ x / s / k = div-div-eq-div-mul p s k ∙ (ap (λ z. p / z) (sym flip) ∙ (e ∙ (ap (λ z. x / z) flip ∙ sym (div-div-eq-div-mul x s k)))) in
      fold (factor i - 1) (λ h. radix_block i (member s k p h) (member s k x h)
      (div-mul-add (p / s / k * k + h) s (p % s) (mod_below p s (stride_wide i)) ∙ (ap (λ z. z * k + h) up ∙ sym (div-mul-add (x / s / k * k + h) s (x % s) (mod_below x s (stride_wide i))))))
    where
      fold : (b : ℕ) → ((h : ℕ) → radix_of g factor i (member (stride factor i) (factor i) p h) ≡ radix_of g factor i (member (stride factor i) (factor i) x h)) → left_of (λ h. radix_of g factor i (member (stride factor i) (factor i) p h)) b ≡ left_of (λ h. radix_of g factor i (member (stride factor i) (factor i) x h)) b
      fold zero h = h 0
      fold (suc b) h = let a = fold b h in let c = h (suc b) in cc

  module _ (team : IsTeam g) where
    pub radix_part : (i : ℕ) → i ≤ m → IsPart (radix_ops g factor i) (2 * (g.first + 0)) (2 * (g.first + i))
    radix_part zero l = record { ordered = omega arith; matched = record { rising = λ r. tt; pairs = λ q r. refl }; within = λ r. tt }
    radix_part (suc i) l =
        let z : suc (g.first + i) ≡ g.first + suc i = omega arith in
        parts_join (radix_ops g factor i) (λ r. by_pos [] (group_ops g (group_at g factor i)) (g.pos r)) (2 * (g.first + 0)) (2 * (g.first + i)) (2 * (g.first + suc i)) (radix_part i (omega arith))
        (subst (λ y. IsPart (λ r. by_pos [] (group_ops g (group_at g factor i)) (g.pos r)) (2 * (g.first + i)) (2 * y)) z (group_part g team (group_at g factor i) (is_group i (omega arith))))

    module _ (tiles : Tiles) (on : OnTiles tiles g) (r : ℕ) where
      abbrev c : Carrier Bracket
      c = bracket_carrier tiles.sizes r

      abbrev Slots : Type 0
      Slots = ℕ → Option (Piece Bracket)

      abbrev nil : ℕ → List (MessageView Bracket)
      nil q = []

      abbrev piece_at : ℕ → ℕ → Piece Bracket
      piece_at i p = record { tile = g.tile; lo = (range_of factor g.size i p).0; hi = (range_of factor g.size i p).1; content = radix_of g factor i p }

      pub record Next (i : ℕ) (o : Option ℕ) (before : Slots) : Type 0 where
        pub after : Slots
        pub does : Does c r tiles (by_pos [] (group_ops g (group_at g factor i)) o) (λ q. by_pair (group_messages g (group_at g factor i)) (g.pos q) o) before after (λ q. by_pair (group_messages g (group_at g factor i)) o (g.pos q)) []
        pub holds : (p : ℕ) → o ≡ Some p → after 0 ≡ Some (piece_at (suc i) p)

      next_of : (i : ℕ) → i < m → (o : Option ℕ) → g.pos r ≡ o → (before : Slots) → ((p : ℕ) → o ≡ Some p → before 0 ≡ Some (piece_at i p)) → Next i o before
      next_of i l None e before h = record {
        after = before;
        does = does_as c r tiles [] nil (λ q. by_pair (group_messages g (group_at g factor i)) (g.pos q) None) before before nil nil [] (fun_ext (none_at g team (λ a. []) (λ a. refl))) refl (does_nothing c r tiles before);
        holds = λ p s. absurd (cc);
      }
      next_of i l (Some p) e before h =
          let ran = group_round tiles g team on (group_at g factor i) (is_group i l) r p e before (h p refl) in
          record {
            after = ran.after;
            does = ran.does;
            holds = λ x s. ran.holds.first ∙ (ap (λ b. Some (record { tile = g.tile; lo = (range_of factor g.size (suc i) p).0; hi = (range_of factor g.size (suc i) p).1; content = b })) (fold_is i p (factor i - 1)) ∙ ap (λ y. Some (piece_at (suc i) y)) (let z : p ≡ x = cc in z));
          }

      pub record Upto (i : ℕ) (before : Slots) : Type 0 where
        pub after : Slots
        pub does : Does c r tiles (radix_ops g factor i r) (λ q. radix_messages g factor i q r) before after (λ q. radix_messages g factor i r q) []
        pub holds : (p : ℕ) → g.pos r ≡ Some p → after 0 ≡ Some (piece_at i p)

      pub radix_rounds : (i : ℕ) → i ≤ m → (before : Slots) → ((p : ℕ) → g.pos r ≡ Some p → before 0 ≡ Some (record { tile = g.tile; lo = 0; hi = g.size; content = g.leaf p })) → Upto i before
      radix_rounds zero l before h = record { after = before; does = does_nothing c r tiles before; holds = λ p e. h p e }
      radix_rounds (suc i) l before h =
          let past = radix_rounds i (omega arith) before h in
          let next = next_of i (omega arith) (g.pos r) refl past.after past.holds in
          record {
            after = next.after;
            does = does_both c r tiles (radix_ops g factor i r) (by_pos [] (group_ops g (group_at g factor i)) (g.pos r)) (λ q. radix_messages g factor i q r) (λ q. by_pair (group_messages g (group_at g factor i)) (g.pos q) (g.pos r)) before past.after next.after (λ q. radix_messages g factor i r q) (λ q. by_pair (group_messages g (group_at g factor i)) (g.pos r) (g.pos q)) [] [] past.does next.does;
            holds = next.holds;
          }
