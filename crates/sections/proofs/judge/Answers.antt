-- `sections::judge` meets its contract: the three tests of the section are walked as the code goes.
use Rattle.std.proofs.Common.{sym, ◌∙◌, drop, arith, length-drop}
use Rattle.refusals.specs.Refusals.{refusal}
use Rattle.sections.proofs.Judging.{no_count, bad_count, few_numbers, section_whole, refused_by, given_by}
use Rattle.sections.proofs.judge.Goals as goal

pub returns-then-total-at-clause-value : goal.returns-then-total-at-clause-value
unfolding refusal
returns-then-total-at-clause-value c ns limits whole w n =
    refused_by _ (no_count limits c.args.width (drop c.args.at ns) (omega (arith, length-drop c.args.at ns)))

pub returns-then-not-within-clause-value : goal.returns-then-not-within-clause-value
unfolding refusal
returns-then-not-within-clause-value c ns limits whole w n =
    refused_by _ (bad_count limits c.args.width (drop c.args.at ns) (omega (arith, length-drop c.args.at ns)) (rw (← n) (sym w ∙ c.if-not-within.true)))

pub returns-then-total-at-2-clause-value : goal.returns-then-total-at-2-clause-value
unfolding refusal
returns-then-total-at-2-clause-value c ns limits whole w n =
    refused_by _
    (few_numbers limits c.args.width (drop c.args.at ns) (omega (arith, length-drop c.args.at ns)) (rw (← n) (sym w ∙ c.if-not-within.false)) (rw (← n) (omega (arith, length-drop c.args.at ns))))

pub returns-clause-value : goal.returns-clause-value
returns-clause-value c ns limits whole w n =
    given_by _
    (section_whole limits c.args.width (drop c.args.at ns) (rw (← n) (sym w ∙ c.if-not-within.false)) (rw (← n) (omega (arith, length-drop c.args.at ns))))
