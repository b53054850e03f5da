-- `step_drawdowns::drawdown` meets its contract: a loss that is not negative is the same as a word, and the quotient is within the limit of a D.
use Rattle.std.proofs.Common.{sym, ap, ◌∙◌, lt_of_le_of_lt, arith, lit<, pos, to_z-of_z}
use native.Mathlib.Nat.{div-zero}
use Rattle.step_drawdowns.proofs.Laws.{depth_is, depth_small}
use Rattle.step_drawdowns.proofs.drawdown.Goals as goal

pub returns-then-s-eq0 : goal.returns-then-s-eq0
returns-then-s-eq0 c = sym (depth_is _ c.requires.0 ∙ rw (c.if-s-eq0.true, div-zero))

pub quotient_word-requires : goal.quotient_word-requires
quotient_word-requires c = rw (to_z-of_z c.ranges.v) (omega arith, lt_of_le_of_lt (depth_small c.args.s c.requires.0 c.requires.1) (lit< tt))

pub returns-else-s-eq0 : goal.returns-else-s-eq0
returns-else-s-eq0 c =
    let s = c in
    ap pos (rw (to_z-of_z s.ranges.v) at c.quotient_word.ensures) ∙ sym (depth_is s.args.s s.requires.0)
