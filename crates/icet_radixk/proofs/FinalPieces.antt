-- Each position lies in one final piece and in no other.
use Rattle.std.proofs.Common.{◌≡◌, ℕ, ◌+◌, ◌*◌, ◌%◌, ◌<◌, length, refl, sym, ap, ◌∙◌, arith}
use Rattle.std.proofs.lemmas.Nat.{mod-mul-add}
use Rattle.icet_legs.specs.Collect.{OneHolds}
use Rattle.icet_legs.specs.Radix.{stride}
use Rattle.icet_legs.specs.Team.{Team}
use Rattle.icet_legs.proofs.Covers.{Has, Owner, owner_of}
use Rattle.icet_legs.proofs.Radixes.{AreFactors}
use Rattle.icet_radixk.specs.Factors.{factor_at, factors}
use Rattle.icet_radixk.specs.Radixk.{AreFactorsOf, finals_by}
use Rattle.icet_radixk.proofs.FactorLists.{factors_of}
use Rattle.icet_radixk.proofs.Folded.{factors_are}

small : (n k : ℕ) → n < k → n % k ≡ n
small n k l = let z : n ≡ 0 * k + n = omega arith in ap (λ y. y % k) z ∙ mod-mul-add 0 k n l

pub one_holds : (k : ℕ) (g : Team) (shows : ℕ) → shows < g.n → (x : ℕ) → x < g.size → OneHolds g.n (finals_by k g shows) x
one_holds k g shows shown x l =
    let factor = factor_at (factors k g.n) in
    let q = length (factors k g.n) in
    let of : AreFactorsOf g.n factor q = factors_of k g.n (omega (arith, shown)) in
    let are : AreFactors g factor q = factors_are g factor q of in
    let own : Owner g factor q are x l q = owner_of g factor q are x l q in
    let n = of.product in
    let b = own.below in
    let here = own.there own.owner (small own.owner (stride factor q) b) in
    record {
      at = own.owner;
      within = omega (arith, b, n);
      final = refl;
      holds = record { from = here.from; to = here.to };
      only = λ c m v s.
          let has : Has g factor q are x l q c = record { from = s.from; to = s.to } in
          sym (small c (stride factor q) (omega (arith, m, n))) ∙ own.only c has;
    }
