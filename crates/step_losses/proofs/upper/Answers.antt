-- `step_losses::upper` meets its contract: only the top layer has none above it.
use Rattle.std.proofs.Common.{SFits, w64, to_z-of_z, get_or, pos, ◌-◌, refl, ◌≤◌, arith, rules, le-leb}
use borrow.Author.Tests.{lt-leb}
use Rattle.laws.specs.Lists.{ifℤ}
use Rattle.step_losses.proofs.upper.Goals as goal

pub returns-then-start-eq0 : goal.returns-then-start-eq0
unfolding ifℤ
returns-then-start-eq0 c = rw (lt-leb _ _ (c.requires.1 c.if-start-eq0.true))

pub returns-else-start-eq0 : goal.returns-else-start-eq0
unfolding ifℤ
returns-else-start-eq0 c =
    let h : 50 ≤ c.args.k = c.requires.2 (omega (arith, c.if-start-eq0.false)) in
    let f : SFits w64 (get_or c.args.down.now (c.args.k - 50) (pos 0)) = search rules in
    rw (le-leb _ _ h, to_z-of_z f) refl
