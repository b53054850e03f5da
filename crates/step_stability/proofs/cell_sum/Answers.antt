-- `step_stability::cell_sum`: four C, none over the limit, add up within the word.
use Rattle.std.proofs.Common.{arith}
use Rattle.step_stability.specs.Stability.{cell_sum}
use Rattle.step_stability.proofs.Laws.{inward_le, upper_le}
use Rattle.step_stability.proofs.cell_sum.Goals as goal

pub overflow_add-result : goal.overflow_add-result
overflow_add-result c = let s = c in omega (arith, c.inward.ensures, inward_le s.requires.1 s.args.k s.requires.0, s.requires.1.across s.args.k s.requires.0)

pub overflow_add-result-2 : goal.overflow_add-result-2
overflow_add-result-2 c = let s = c in omega (arith, c.inward.ensures, inward_le s.requires.1 s.args.k s.requires.0, s.requires.1.across s.args.k s.requires.0, s.requires.1.down s.args.k s.requires.0)

pub overflow_add-result-3 : goal.overflow_add-result-3
overflow_add-result-3 c = let s = c in omega (arith, c.inward.ensures, c.upper.ensures, inward_le s.requires.1 s.args.k s.requires.0, upper_le s.requires.1 s.args.k s.requires.0, s.requires.1.across s.args.k s.requires.0, s.requires.1.down s.args.k s.requires.0)

pub returns : goal.returns
unfolding cell_sum
returns c = omega (arith, c.inward.ensures, c.upper.ensures)
