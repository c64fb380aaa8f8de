-- Before each round the ranges of the residues hold every position once.
use Rattle.std.proofs.Common.{◌≡◌, ℕ, zero, suc, ◌+◌, ◌-◌, ◌*◌, ◌/◌, ◌%◌, ◌<◌, ◌≤◌, sym, ap, ◌∙◌, subst, arith, ⊎_elim}
use Rattle.std.specs.Prelude.{◌⊎◌}
use Rattle.std.proofs.Math.Arith.{mod-mul}
use Rattle.std.proofs.Math.Nat.{mul-le-mul_left}
use Rattle.std.proofs.lemmas.Nat.{mod-mul-add, div-mul-add, mod_below}
use Rattle.icet_legs.proofs.Digits.{cut_first, cut_grows, cut_last}
use Rattle.icet_legs.proofs.Radixes.{AreFactors, in_size, range_low, stride_wide}
use Rattle.icet_legs.specs.Group.{cut_at, digit}
use Rattle.icet_legs.specs.Team.{Team}
use Rattle.icet_legs.specs.Radix.{range_of, stride}

-- the part in which a position lies
pub record InPart (lo hi k x : ℕ) : Type 0 where
  pub part : ℕ
  pub below : part < k
  pub from : cut_at lo hi k part ≤ x
  pub to : x < cut_at lo hi k (suc part)

find_part : (lo hi k x : ℕ) (j : ℕ) → j ≤ k → cut_at lo hi k 0 ≤ x → x < cut_at lo hi k j → InPart lo hi k x
find_part lo hi k x zero l a b = absurd (omega arith)
find_part lo hi k x (suc j) l a b = ⊎_elim
    (λ (s : x < cut_at lo hi k j). find_part lo hi k x j (omega arith) a s)
    (λ (s : cut_at lo hi k j ≤ x). record { part = j; below = omega arith; from = s; to = b })
    (let s : (x < cut_at lo hi k j) ⊎ (cut_at lo hi k j ≤ x) = grind arith in s)

-- cuts rise
cut_climbs : (lo hi k : ℕ) → 0 < k → (h m : ℕ) → cut_at lo hi k h ≤ cut_at lo hi k (h + m)
cut_climbs lo hi k l h zero = let z : h + 0 ≡ h = omega arith in subst (λ y. cut_at lo hi k h ≤ cut_at lo hi k y) (sym z) (omega arith)
cut_climbs lo hi k l h (suc m) = let z : suc (h + m) ≡ h + suc m = omega arith in let s = cut_grows lo hi k (h + m) l in let t = cut_climbs lo hi k l h m in subst (λ y. cut_at lo hi k h ≤ cut_at lo hi k y) z (omega (arith, s, t))

cut_rises : (lo hi k : ℕ) → 0 < k → (i j : ℕ) → i ≤ j → cut_at lo hi k i ≤ cut_at lo hi k j
cut_rises lo hi k l i j o = let c = cut_climbs lo hi k l i (j - i) in let z : i + (j - i) ≡ j = omega arith in subst (λ y. cut_at lo hi k i ≤ cut_at lo hi k y) z c

one_part : (lo hi k x : ℕ) → 0 < k → (i j : ℕ) → cut_at lo hi k i ≤ x → x < cut_at lo hi k (suc i) → cut_at lo hi k j ≤ x → x < cut_at lo hi k (suc j) → i ≡ j
one_part lo hi k x l i j a b c d = ⊎_elim
    (λ (s : i < j). absurd (let r = cut_rises lo hi k l (suc i) j s in omega (arith, r)))
    (λ (s : j ≤ i). ⊎_elim (λ (t : j < i). absurd (let r = cut_rises lo hi k l (suc j) i t in omega (arith, r))) (λ (t : i ≤ j). omega arith) (let t : (j < i) ⊎ (i ≤ j) = grind arith in t))
    (let s : (i < j) ⊎ (j ≤ i) = grind arith in s)

module _ (g : Team) (factor : ℕ → ℕ) (m : ℕ) (f : AreFactors g factor m) (x : ℕ) (inside : x < g.size) where
  pub record Has (i p : ℕ) : Type 0 where
    pub from : (range_of factor g.size i p).0 ≤ x
    pub to : x < (range_of factor g.size i p).1

  -- the one residue whose range holds x
  pub record Owner (i : ℕ) : Type 0 where
    pub owner : ℕ
    pub below : owner < stride factor i
    pub only : (p : ℕ) → Has i p → p % stride factor i ≡ owner
    pub there : (p : ℕ) → p % stride factor i ≡ owner → Has i p

  small_mod : (n k : ℕ) → n < k → n % k ≡ n
  small_mod n k l = let z : n ≡ 0 * k + n = omega arith in ap (λ y. y % k) z ∙ mod-mul-add 0 k n l

  pub owner_of : (i : ℕ) → Owner i
  owner_of zero = record { owner = 0; below = omega arith; only = λ p h. let l = mod_below p 1 (omega arith) in omega (arith, l); there = λ p e. record { from = omega arith; to = inside } }
  owner_of (suc i) =
      let past = owner_of i in
      let s = stride factor i in
      let k = factor i in
      let o = past.owner in
      let wide = stride_wide g factor m f i in
      let here = past.there o (small_mod o s past.below) in
      let lo = (range_of factor g.size i o).0 in
      let hi = (range_of factor g.size i o).1 in
      let ordered = (in_size g factor m f i o).ordered in
      let part = find_part lo hi k x k (omega arith) (let c = cut_first lo hi k (f.many i) in let h = here.from in omega (arith, c, h)) (let c = cut_last lo hi k (f.many i) ordered in let h = here.to in omega (arith, c, h)) in
      record {
        owner = part.part * s + o;
        below = (let a = part.below in let b = past.below in let up = mul-le-mul_left s a in omega (arith, up, b));
        only = λ p h.
            let d = digit s k p in
            let dl : d < k = mod_below (p / s) k (f.many i) in
            let olo = (range_of factor g.size i p).0 in
            let ohi = (range_of factor g.size i p).1 in
            let po = (in_size g factor m f i p).ordered in
            let cl = cut_rises olo ohi k (f.many i) (suc d) k dl in
            let c0 = cut_rises olo ohi k (f.many i) 0 d (omega arith) in
            let e0 = cut_first olo ohi k (f.many i) in
            let e1 = cut_last olo ohi k (f.many i) po in
            let hf = h.from in
            let ht = h.to in
            let old : Has i p = record { from = omega (arith, hf, c0, e0); to = omega (arith, ht, cl, e1) } in
            let low = past.only p old in
            let same = range_low g factor m f i p o (low ∙ sym (small_mod o s past.below)) in
            let hf' : cut_at lo hi k d ≤ x = subst (λ z. cut_at z.0 z.1 k d ≤ x) same hf in
            let ht' : x < cut_at lo hi k (suc d) = subst (λ z. x < cut_at z.0 z.1 k (suc d)) same ht in
            let dp : d ≡ part.part = one_part lo hi k x (f.many i) d part.part hf' ht' part.from part.to in
            mod-mul p {m = factor i} {c = stride factor i} (f.many i) wide ∙ (ap (λ z. z * s + p % s) dp ∙ ap (λ z. part.part * s + z) low);
        there = λ p e.
            let a = mod-mul p {m = factor i} {c = stride factor i} (f.many i) wide in
            let both : digit s k p * s + p % s ≡ part.part * s + o = sym a ∙ e in
            let low : p % s ≡ o = sym (mod-mul-add (digit s k p) s (p % s) (mod_below p s wide)) ∙ (ap (λ z. z % s) both ∙ mod-mul-add part.part s o past.below) in
            let dp : digit s k p ≡ part.part = sym (div-mul-add (digit s k p) s (p % s) (mod_below p s wide)) ∙ (ap (λ z. z / s) both ∙ div-mul-add part.part s o past.below) in
            let same = range_low g factor m f i p o (low ∙ sym (small_mod o s past.below)) in
            record {
              from = subst (λ z. cut_at z.0 z.1 k (digit s k p) ≤ x) (sym same) (subst (λ z. cut_at lo hi k z ≤ x) (sym dp) part.from);
              to = subst (λ z. x < cut_at z.0 z.1 k (suc (digit s k p))) (sym same) (subst (λ z. x < cut_at lo hi k (suc z)) (sym dp) part.to);
            };
      }
