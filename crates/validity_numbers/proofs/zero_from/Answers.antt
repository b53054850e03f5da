-- `validity_numbers::zero_from`: what a chain's `all` gives is the test of every element.
use Rattle.std.proofs.Common.{◌∙◌, rules, tests, eqb, drop}
use Rattle.std.proofs.lemmas.Iterator.{YieldsList-from_slice}
use Rattle.std.proofs.lemmas.Iterator.Adapters.{YieldsList-from_skip}
use Rattle.std.proofs.lemmas.Iterator.Search.{all_from_yields_List}
use Rattle.laws.specs.Chains.{every_is}
use Rattle.validity_numbers.specs.Numbers.{zero_from}
use Rattle.validity_numbers.proofs.zero_from.Goals as goal

pub returns : goal.returns
unfolding zero_from
returns c =
    all_from_yields_List (λ x. eqb x 0) _ _ _ c.all.ensures.ran
    (YieldsList-from_skip c.args.n (YieldsList-from_slice c.args.numbers.now cc) c.skip.ensures.count)
    (λ x b q k. search (rules, tests))
    ∙ every_is _ (drop c.args.n c.args.numbers.now)
