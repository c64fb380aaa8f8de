use Rattle.std.proofs.Common.{subst, sym}
use Rattle.icet_radixk.specs.Factors.{AreFactors}
use Rattle.icet_radixk.proofs.FactorLists.{all_factors, are_factors, factor_pushed, product_is}
use Rattle.icet_radixk.proofs.divisors.factors.Goals as goal

pub loop-rest-preserved : goal.loop-rest-preserved
loop-rest-preserved c = factor_pushed c.args.k c.args.n c.loop-rest.rest c.next_factor-factor.result c.loop-rest.all.items c.push.new.self.items c.loop-rest-test.true c.next_factor-factor.ensures.divisor c.loop-rest.invariant c.in_ok-push.ensures.items

pub returns-clause-are : goal.returns-clause-are
returns-clause-are c = subst (AreFactors c.args.k c.args.n) (sym (all_factors c.args.k c.args.n c.loop-rest.rest c.loop-rest.all.items c.loop-rest-test.false c.loop-rest.invariant)) (are_factors c.args.k c.args.n c.requires.some)

pub returns-clause-product : goal.returns-clause-product
returns-clause-product c = product_is c.args.k c.args.n c.loop-rest.all.items (subst (AreFactors c.args.k c.args.n) (sym (all_factors c.args.k c.args.n c.loop-rest.rest c.loop-rest.all.items c.loop-rest-test.false c.loop-rest.invariant)) (are_factors c.args.k c.args.n c.requires.some))

pub returns-clause-factors : goal.returns-clause-factors
returns-clause-factors c = all_factors c.args.k c.args.n c.loop-rest.rest c.loop-rest.all.items c.loop-rest-test.false c.loop-rest.invariant
