-- `read_limiting::longest`: the quotient, or a word that stands for no limit.
use Rattle.std.proofs.Common.{ap, ◌∙◌, unwrap_or}
use Rattle.read_limiting.specs.Slots.{no_limit}
use Rattle.read_limiting.proofs.ShortestPlace.{word-given, none_given}
use Rattle.read_limiting.proofs.longest.Goals as goal

pub returns-then-sum-eq0 : goal.returns-then-sum-eq0
unfolding no_limit
returns-then-sum-eq0 c = none_given _ _ c.if-sum-eq0.true

pub returns-else-sum-eq0 : goal.returns-else-sum-eq0
unfolding no_limit
returns-else-sum-eq0 c = c.unwrap_or.ensures ∙ ap (λ q. unwrap_or q no_limit) c.quotient.ensures ∙ word-given _ _ c.if-sum-eq0.false
