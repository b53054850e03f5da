-- `sections::repeats_hold` meets its contract: the repeats of the first i entries are within their limits.
use Rattle.std.proofs.Common.{sym, ap, ◌∙◌, ◌<◌, arith}
use Rattle.laws.specs.Every.{every_fails}
use Rattle.laws.specs.Pointwise.{every_from}
use Rattle.limits.specs.Limits.{repeat_limits}
use Rattle.sections.specs.Sections.{entries_of, repeats_hold}
use Rattle.sections.specs.Laws.{length-field}
use Rattle.sections.proofs.Places.{form, places, entry_near, entries_read, repeats_read}
use Rattle.sections.proofs.repeats_hold.Goals as goal

pub offset_bounds-values-layout : goal.offset_bounds-values-layout
offset_bounds-values-layout c = omega (arith, places c.requires.1)

pub bounds-values-layout : goal.bounds-values-layout
bounds-values-layout c = omega (arith, places c.requires.1)

pub overflow_mul-i : goal.overflow_mul-i
overflow_mul-i c = omega (arith, entry_near c.requires.1 c.loop-i.i (omega (arith, entries_read c.requires.1)))

pub overflow_add-layout-in-loop-i : goal.overflow_add-layout-in-loop-i
overflow_add-layout-in-loop-i c = omega (arith, entry_near c.requires.1 c.loop-i.i (omega (arith, entries_read c.requires.1)))

pub offset_bounds-values-layout-in-loop-i : goal.offset_bounds-values-layout-in-loop-i
offset_bounds-values-layout-in-loop-i c = omega (arith, entry_near c.requires.1 c.loop-i.i (omega (arith, entries_read c.requires.1)))

pub bounds-values-layout-in-loop-i : goal.bounds-values-layout-in-loop-i
bounds-values-layout-in-loop-i c = omega (arith, entry_near c.requires.1 c.loop-i.i (omega (arith, entries_read c.requires.1)))

pub returns-then-not-repeat_limits : goal.returns-then-not-repeat_limits
unfolding repeats_hold entries_of
returns-then-not-repeat_limits c ns r =
    let i = c.loop-i.i in
    let h : i < entries_of ns = omega (arith, c.loop-i-test.true, entries_read r) in
    sym (every_fails repeat_limits _ i 0 (ap repeat_limits (sym (repeats_read r i h)) ∙ sym c.repeat_limits.ensures ∙ c.if-not-repeat_limits.true) (omega (arith, h, length-field 2 (omega arith) (form r).pumping)))

pub returns : goal.returns
unfolding repeats_hold entries_of
returns c ns r =
    sym (every_from repeat_limits _ 0 (λ k lt.
    let h : k < entries_of ns = omega (arith, lt, length-field 2 (omega arith) (form r).pumping) in
    ap repeat_limits (sym (repeats_read r k h)) ∙ c.loop-i.invariant k (omega (arith, h, entries_read r, c.loop-i-test.false))))
