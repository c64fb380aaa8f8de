-- The swapping in halves is the exchange in groups with all factors 2.
use Rattle.std.proofs.Common.{◌≡◌, ℕ, zero, suc, ◌+◌, ◌-◌, ◌*◌, ◌/◌, ◌%◌, ◌^◌, ◌<◌, ◌≤◌, Bool, true, false, cond, List, [], ◌∷◌, ◌++◌, refl, sym, ap, ◌∙◌, subst, arith, eqb-true, eq-eqb, Option, Some, None}
use Rattle.std.proofs.Math.Nat.{pow-succ'}
use Rattle.std.proofs.lemmas.Nat.{pow-add, mod_below}
use Rattle.std.specs.Prelude.{◌==◌, ◌≢◌}
use Rattle.icet_model.specs.declared.bracket.Bracket.{Bracket}
use Rattle.icet_model.specs.declared.bracket.Bracket.TheVariants.{Pair}
use Rattle.icet_model.specs.declared.exchange.Kind.TheVariants.{Send, Take}
use Rattle.icet_model.specs.declared.exchange.Op.{Op}
use Rattle.icet_model.specs.declared.exchange.Op.TheVariants.{Cut, Join, Swap}
use Rattle.icet_model.specs.Run.{MessageView}
use Rattle.icet_plan.specs.Each.{each}
use Rattle.icet_legs.specs.Team.{Team, by_pos}
use Rattle.icet_legs.specs.Group.{digit, member, cut_at, Group, mates, group_ops, group_messages, part_of}
use Rattle.icet_legs.specs.Radix.{stride, range_of, radix_of, group_at, radix_ops}
use Rattle.icet_legs.proofs.Digits.{member_mod, member_own, member_digit, cut_first, cut_last}
use Rattle.icet_legs.proofs.Groups.{mates_out, cond_agree}
use Rattle.icet_legs.proofs.Radixes.{AreFactors, stride_wide, range_low, in_size, is_group}
use Rattle.icet_bswap.specs.Bswap.{side, partner, other, middle, half, range, swap_ops}

pub same_test : (p q : Bool) → (p ≡ true → q ≡ true) → (q ≡ true → p ≡ true) → p ≡ q
same_test true q f h = sym (f refl)
same_test false true f h = h refl
same_test false false f h = refl

-- in front stands what digit 0 had
abbrev pub side_by_side : ℕ → Bracket → Bracket → Bracket
side_by_side zero own its = Pair own its
side_by_side (suc d) own its = Pair its own

-- the bracket of swapper s before round i, round by round
abbrev pub held : Team → ℕ → ℕ → Bracket
held g zero s = g.leaf s
held g (suc i) s = side_by_side (side i s) (held g i s) (held g i (partner i s))

-- the part and the bracket that a sends, as the operations have them
abbrev pub sent_half : Team → ℕ → ℕ → ℕ → List (MessageView Bracket)
sent_half g i a b = cond (partner i a == b) (record {
  round = g.first + i;
  from = g.who a;
  to = g.who b;
  piece = record { tile = g.tile; lo = (half (other (side i a)) (range g.size i a)).0; hi = (half (other (side i a)) (range g.size i a)).1; content = held g i a };
} ∷ []) []

abbrev pub twos : ℕ → ℕ
twos i = 2

pub stride_twos : (i : ℕ) → stride twos i ≡ 2 ^ i
stride_twos zero = refl
stride_twos (suc i) = let e = stride_twos i in let p = pow-succ' 2 i in omega (arith, e, p)

-- a digit is 0 or 1
pub side_below : (i s : ℕ) → side i s < 2
side_below i s = mod_below (s / 2 ^ i) 2 (omega arith)

digit_is : (i s : ℕ) → digit (stride twos i) 2 s ≡ side i s
digit_is i s = ap (λ w. (s / w) % 2) (stride_twos i)

-- the other of the two in the group is the partner
mate_is : (w s d : ℕ) → (s / w) % 2 ≡ d → d < 2 → member w 2 s (other d) ≡ cond (d == 0) (s + w) (s - w)
mate_is w s zero e l =
    let own : (s / w / 2 * 2 + 0) * w + s % w ≡ s = ap (λ d. member w 2 s d) (sym e) ∙ member_own w 2 s in
    omega (arith, own)
mate_is w s (suc zero) e l =
    let own : (s / w / 2 * 2 + 1) * w + s % w ≡ s = ap (λ d. member w 2 s d) (sym e) ∙ member_own w 2 s in
    omega (arith, own)
mate_is w s (suc (suc d)) e l = absurd (omega arith)

pub partner_is : (i s : ℕ) → member (stride twos i) 2 s (other (side i s)) ≡ partner i s
partner_is i s = ap (λ w. member w 2 s (other (side i s))) (stride_twos i) ∙ mate_is (2 ^ i) s (side i s) refl (side_below i s)

own_is : (i s : ℕ) → member (stride twos i) 2 s (side i s) ≡ s
own_is i s = ap (member (stride twos i) 2 s) (sym (digit_is i s)) ∙ member_own (stride twos i) 2 s

-- the parts of a range cut in two are its halves
half_is : (lo hi d : ℕ) → lo ≤ hi → d < 2 → (cut_at lo hi 2 d ≡ (half d (lo, hi)).0) × (cut_at lo hi 2 (suc d) ≡ (half d (lo, hi)).1)
half_is lo hi zero o l = (cut_first lo hi 2 (omega arith), ap (λ z. lo + z / 2) (let e : (hi - lo) * 1 ≡ hi - lo = omega arith in e))
half_is lo hi (suc zero) o l = (ap (λ z. lo + z / 2) (let e : (hi - lo) * 1 ≡ hi - lo = omega arith in e), cut_last lo hi 2 (omega arith) o)
half_is lo hi (suc (suc d)) o l = absurd (omega arith)

pow_parts : (i m : ℕ) → i < m → 2 ^ m ≡ 2 ^ (m - suc i) * 2 * 2 ^ i
pow_parts i m l =
    let e : m ≡ (m - suc i) + suc i = omega arith in
    let a = pow-add 2 (m - suc i) (suc i) in
    let b = pow-succ' 2 i in
    ap (λ z. 2 ^ z) e ∙ (a ∙ (ap (λ z. 2 ^ (m - suc i) * z) b ∙ (let c : 2 ^ (m - suc i) * (2 * 2 ^ i) ≡ 2 ^ (m - suc i) * 2 * 2 ^ i = omega arith in c)))

module _ (g : Team) (m : ℕ) (count : g.n ≡ 2 ^ m) where
  pub are_twos : AreFactors g twos m
  are_twos = record {
    many = λ i. omega arith;
    above = λ i. 2 ^ (m - suc i);
    whole = λ i l. count ∙ (pow_parts i m l ∙ ap (λ z. 2 ^ (m - suc i) * 2 * z) (sym (stride_twos i)));
  }

  abbrev group : ℕ → Group
  group i = group_at g twos i

  ordered : (i s : ℕ) → (range_of twos g.size i s).0 ≤ (range_of twos g.size i s).1
  ordered i s = (in_size g twos m are_twos i s).ordered

  pub range_is : (i s : ℕ) → range_of twos g.size i s ≡ range g.size i s
  range_is zero s = refl
  range_is (suc i) s =
      let r = range_of twos g.size i s in
      let h = half_is r.0 r.1 (side i s) (ordered i s) (side_below i s) in
      let cuts : range_of twos g.size (suc i) s ≡ (cut_at r.0 r.1 2 (side i s), cut_at r.0 r.1 2 (suc (side i s))) = ap (λ d. (cut_at r.0 r.1 2 d, cut_at r.0 r.1 2 (suc d))) (digit_is i s) in
      let halves : (cut_at r.0 r.1 2 (side i s), cut_at r.0 r.1 2 (suc (side i s))) ≡ half (side i s) r = λ j. ((h.0) j, (h.1) j) in
      cuts ∙ (halves ∙ ap (half (side i s)) (range_is i s))

  -- a part of what s has before round i
  pub part_is : (i s d : ℕ) → d < 2 → (cut_at (range_of twos g.size i s).0 (range_of twos g.size i s).1 2 d ≡ (half d (range g.size i s)).0) × (cut_at (range_of twos g.size i s).0 (range_of twos g.size i s).1 2 (suc d) ≡ (half d (range g.size i s)).1)
  part_is i s d l =
      let r = range_of twos g.size i s in
      let h = half_is r.0 r.1 d (ordered i s) l in
      (h.0 ∙ ap (λ z. (half d z).0) (range_is i s), h.1 ∙ ap (λ z. (half d z).1) (range_is i s))

  pub held_is : (i s : ℕ) → radix_of g twos i s ≡ held g i s
  held_is zero s = refl
  held_is (suc i) s = go (side i s) refl (side_below i s) (held_is i s) (held_is i (partner i s))
    where
      go : (d : ℕ) → side i s ≡ d → d < 2 → radix_of g twos i s ≡ held g i s → radix_of g twos i (partner i s) ≡ held g i (partner i s) → radix_of g twos (suc i) s ≡ side_by_side d (held g i s) (held g i (partner i s))
      go zero e l a b =
          let own : member (stride twos i) 2 s 0 ≡ s = ap (member (stride twos i) 2 s) (sym e) ∙ own_is i s in
          let its : member (stride twos i) 2 s 1 ≡ partner i s = ap (λ d. member (stride twos i) 2 s (other d)) (sym e) ∙ partner_is i s in
          λ j. Pair ((ap (radix_of g twos i) own ∙ a) j) ((ap (radix_of g twos i) its ∙ b) j)
      go (suc zero) e l a b =
          let own : member (stride twos i) 2 s 1 ≡ s = ap (member (stride twos i) 2 s) (sym e) ∙ own_is i s in
          let its : member (stride twos i) 2 s 0 ≡ partner i s = ap (λ d. member (stride twos i) 2 s (other d)) (sym e) ∙ partner_is i s in
          λ j. Pair ((ap (radix_of g twos i) its ∙ b) j) ((ap (radix_of g twos i) own ∙ a) j)
      go (suc (suc d)) e l a b = absurd (omega arith)

  -- the operations of a round, given the digit and the members of the group
  abbrev shape : ℕ → ℕ → ℕ → ℕ → (ℕ → ℕ) → List Op
  shape i lo hi d mem =
      (each (λ b. Cut 0 (cut_at lo hi 2 (2 - 1 - b)) (2 - 1 - b) ∷ []) 1
      ++ each (λ h. cond (h == d) [] (Swap (record { round = g.first + i; kind = Send; peer = g.who (mem h); tile = g.tile; lo = cut_at lo hi 2 h; hi = cut_at lo hi 2 (suc h) }) h ∷ [])) 2)
      ++ (each (λ h. cond (h == d) [] (Swap (record { round = g.first + i; kind = Take; peer = g.who (mem h); tile = g.tile; lo = cut_at lo hi 2 d; hi = cut_at lo hi 2 (suc d) }) h ∷ [])) 2
      ++ each (λ b. Join 0 (suc b) 0 ∷ []) 1)

  abbrev goal : ℕ → ℕ × ℕ → ℕ → ℕ → List Op
  goal i r d peer =
      Cut 0 (middle r) 1
      ∷ Swap (record { round = g.first + i; kind = Send; peer = g.who peer; tile = g.tile; lo = (half (other d) r).0; hi = (half (other d) r).1 }) (other d)
      ∷ Swap (record { round = g.first + i; kind = Take; peer = g.who peer; tile = g.tile; lo = (half d r).0; hi = (half d r).1 }) (other d)
      ∷ Join 0 1 0
      ∷ []

  shape_is : (i lo hi d : ℕ) (mem : ℕ → ℕ) → lo ≤ hi → d < 2 → shape i lo hi d mem ≡ goal i (lo, hi) d (mem (other d))
  shape_is i lo hi zero mem o l =
      let a = half_is lo hi 0 o (omega arith) in
      let b = half_is lo hi 1 o (omega arith) in
      λ j.
      Cut 0 ((a.1) j) 1
      ∷ Swap (record { round = g.first + i; kind = Send; peer = g.who (mem 1); tile = g.tile; lo = (b.0) j; hi = (b.1) j }) 1
      ∷ Swap (record { round = g.first + i; kind = Take; peer = g.who (mem 1); tile = g.tile; lo = (a.0) j; hi = (a.1) j }) 1
      ∷ Join 0 1 0
      ∷ []
  shape_is i lo hi (suc zero) mem o l =
      let a = half_is lo hi 0 o (omega arith) in
      let b = half_is lo hi 1 o (omega arith) in
      λ j.
      Cut 0 ((a.1) j) 1
      ∷ Swap (record { round = g.first + i; kind = Send; peer = g.who (mem 0); tile = g.tile; lo = (a.0) j; hi = (a.1) j }) 0
      ∷ Swap (record { round = g.first + i; kind = Take; peer = g.who (mem 0); tile = g.tile; lo = (b.0) j; hi = (b.1) j }) 0
      ∷ Join 0 1 0
      ∷ []
  shape_is i lo hi (suc (suc d)) mem o l = absurd (omega arith)

  pub ops_are : (i s : ℕ) → group_ops g (group i) s ≡ swap_ops g i s
  ops_are i s =
      let r = range_of twos g.size i s in
      ap (λ d. shape i r.0 r.1 d (member (stride twos i) 2 s)) (digit_is i s)
      ∙ (shape_is i r.0 r.1 (side i s) (member (stride twos i) 2 s) (ordered i s) (side_below i s)
      ∙ (ap (λ z. goal i z (side i s) (member (stride twos i) 2 s (other (side i s)))) (range_is i s)
      ∙ ap (λ p. goal i (range g.size i s) (side i s) p) (partner_is i s)))

  -- what is known of the partner
  pub partner_within : (i s : ℕ) → i < m → s < g.n → partner i s < g.n
  partner_within i s l b =
      let in_group = (is_group g twos m are_twos i l).inside s (other (side i s)) b (other_below (side i s) (side_below i s)) in
      subst (λ p. p < g.n) (partner_is i s) in_group
    where
      other_below : (d : ℕ) → d < 2 → other d < 2
      other_below zero l = omega arith
      other_below (suc d) l = omega arith

  -- the two digits there are
  the_other : (d k : ℕ) → d < 2 → k < 2 → k ≢ d → k ≡ other d
  the_other zero k l u n = let s : k ≡ 1 = grind arith in s
  the_other (suc zero) k l u n = let s : k ≡ 0 = grind arith in s
  the_other (suc (suc d)) k l u n = absurd (omega arith)

  other_differs : (d : ℕ) → other d ≢ d
  other_differs zero e = absurd (omega (arith, e))
  other_differs (suc d) e = absurd (omega (arith, e))

  other_within : (d : ℕ) → other d < 2
  other_within zero = omega arith
  other_within (suc d) = omega arith

  -- the partner's digit is the other one
  pub partner_side : (i s : ℕ) → side i (partner i s) ≡ other (side i s)
  partner_side i s =
      sym (digit_is i (partner i s))
      ∙ (ap (digit (stride twos i) 2) (sym (partner_is i s))
      ∙ member_digit (stride twos i) 2 s (other (side i s)) (stride_wide g twos m are_twos i) (other_within (side i s)))

  pub partner_differs : (i s : ℕ) → partner i s ≢ s
  partner_differs i s e = other_differs (side i s) (sym (partner_side i s) ∙ ap (side i) e)

  module _ (i : ℕ) (l : i < m) (a b : ℕ) where
    mate_side : mates (group i) a b ≡ true → digit (stride twos i) 2 b ≡ other (side i a)
    mate_side h =
        let f = (mates_out g (group i) (is_group g twos m are_twos i l) a).tells b h in
        the_other (side i a) (digit (stride twos i) 2 b) (side_below i a) (mod_below (b / stride twos i) 2 (omega arith)) (λ e. f.1 (e ∙ sym (digit_is i a)))

    mates_are : mates (group i) a b ≡ (partner i a == b)
    mates_are = same_test (mates (group i) a b) (partner i a == b)
        (λ h.
        let f = (mates_out g (group i) (is_group g twos m are_twos i l) a).tells b h in
        eq-eqb (partner i a) b (sym (f.0 ∙ (ap (member (stride twos i) 2 a) (mate_side h) ∙ partner_is i a))))
        (λ h.
        let e = eqb-true (partner i a) b h in
        let s : digit (stride twos i) 2 b ≡ other (side i a) = digit_is i b ∙ (ap (side i) (sym e) ∙ partner_side i a) in
        (mates_out g (group i) (is_group g twos m are_twos i l) a).holds b
        (sym e ∙ (sym (partner_is i a) ∙ ap (member (stride twos i) 2 a) (sym s)))
        (λ z. other_differs (side i a) (sym s ∙ (z ∙ digit_is i a))))

    pub messages_are : group_messages g (group i) a b ≡ sent_half g i a b
    messages_are =
        let part = part_is i a (other (side i a)) (other_within (side i a)) in
        let sent : ℕ → MessageView Bracket = λ d. record { round = g.first + i; from = g.who a; to = g.who b; piece = part_of g (group i) a d a } in
        let said : MessageView Bracket = record { round = g.first + i; from = g.who a; to = g.who b; piece = record { tile = g.tile; lo = (half (other (side i a)) (range g.size i a)).0; hi = (half (other (side i a)) (range g.size i a)).1; content = held g i a } } in
        let same : sent (other (side i a)) ≡ said = λ j. record { round = g.first + i; from = g.who a; to = g.who b; piece = record { tile = g.tile; lo = (part.0) j; hi = (part.1) j; content = held_is i a j } } in
        cond_agree (mates (group i) a b) (sent (digit (stride twos i) 2 b)) said (λ h. ap sent (mate_side h) ∙ same)
        ∙ ap (λ t. cond t (said ∷ []) []) mates_are

  -- all rounds, by position
  module _ (r : ℕ) where
    pub rounds_are : (k : ℕ) (o : Option ℕ) → g.pos r ≡ o → radix_ops g twos k r ≡ by_pos [] (λ s. each (λ i. swap_ops g i s) k) o
    rounds_are zero None e = refl
    rounds_are zero (Some s) e = refl
    rounds_are (suc k) None e = ap (λ z. z ++ by_pos [] (group_ops g (group k)) (g.pos r)) (rounds_are k None e) ∙ ap (λ z. by_pos [] (group_ops g (group k)) z) e
    rounds_are (suc k) (Some s) e =
        ap (λ z. z ++ by_pos [] (group_ops g (group k)) (g.pos r)) (rounds_are k (Some s) e)
        ∙ ap (λ z. each (λ i. swap_ops g i s) k ++ z) (ap (by_pos [] (group_ops g (group k))) e ∙ ops_are k s)

  -- the range that the partner has behind the round
  pub partner_has : (i s : ℕ) → range g.size (suc i) (partner i s) ≡ half (other (side i s)) (range g.size i s)
  partner_has i s =
      let w = stride twos i in
      let low : partner i s % w ≡ s % w = ap (λ z. z % w) (sym (partner_is i s)) ∙ member_mod w 2 s (other (side i s)) (stride_wide g twos m are_twos i) (other_within (side i s)) in
      let same : range g.size i (partner i s) ≡ range g.size i s = sym (range_is i (partner i s)) ∙ (range_low g twos m are_twos i (partner i s) s low ∙ range_is i s) in
      ap (λ d. half d (range g.size i (partner i s))) (partner_side i s) ∙ ap (half (other (side i s))) same
