-- `sections::site_of` meets its contract: each field is a copy of its section's numbers.
use Rattle.std.proofs.Common.{arith}
use Rattle.sections.proofs.Places.{known, site-read}
use Rattle.sections.proofs.site_of.Goals as goal

pub overflow_add-layout : goal.overflow_add-layout
overflow_add-layout c = omega (arith, known c.requires.1)

pub copied-well-requires : goal.copied-well-requires
copied-well-requires c = omega (arith, known c.requires.1)

pub offset_bounds-values-layout : goal.offset_bounds-values-layout
offset_bounds-values-layout c = omega (arith, known c.requires.1)

pub bounds-values-layout : goal.bounds-values-layout
bounds-values-layout c = omega (arith, known c.requires.1)

pub offset_bounds-values-layout-2 : goal.offset_bounds-values-layout-2
offset_bounds-values-layout-2 c = omega (arith, known c.requires.1)

pub bounds-values-layout-2 : goal.bounds-values-layout-2
bounds-values-layout-2 c = omega (arith, known c.requires.1)

pub copied-requires : goal.copied-requires
copied-requires c = omega (arith, known c.requires.1)

pub copied-requires-2 : goal.copied-requires-2
copied-requires-2 c = omega (arith, known c.requires.1)

pub copied-requires-3 : goal.copied-requires-3
copied-requires-3 c = omega (arith, known c.requires.1)

pub copied-requires-4 : goal.copied-requires-4
copied-requires-4 c = omega (arith, known c.requires.1)

pub copied-requires-5 : goal.copied-requires-5
copied-requires-5 c = omega (arith, known c.requires.1)

pub overflow_add-layout-2 : goal.overflow_add-layout-2
overflow_add-layout-2 c = omega (arith, known c.requires.1)

pub copied-requires-6 : goal.copied-requires-6
copied-requires-6 c = omega (arith, known c.requires.1)

pub overflow_add-layout-3 : goal.overflow_add-layout-3
overflow_add-layout-3 c = omega (arith, known c.requires.1)

pub copied-requires-7 : goal.copied-requires-7
copied-requires-7 c = omega (arith, known c.requires.1)

pub returns : goal.returns
returns c ns r =
    site-read r c.copied.ensures c.copied-2.ensures c.copied-3.ensures c.copied-4.ensures c.copied-5.ensures
    c.copied-6.ensures c.copied-well.ensures c.copied-7.ensures
