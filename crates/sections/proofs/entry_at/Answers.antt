-- `sections::entry_at` meets its contract.
use Rattle.std.proofs.Common.{◌≡◌, ◌+◌, ◌*◌, ◌<◌, arith, get_or}
use Rattle.sections.specs.declared.Entry.{Entry}
use Rattle.sections.specs.Sections.{entries_of, entry_at}
use Rattle.sections.proofs.Places.{entry_near, entries_read, entry_read}
use Rattle.sections.proofs.entry_at.Goals as goal

pub overflow_mul-at : goal.overflow_mul-at
overflow_mul-at c = omega (arith, entry_near c.requires.1 c.args.i c.requires.2)

pub overflow_add-at : goal.overflow_add-at
overflow_add-at c = omega (arith, entry_near c.requires.1 c.args.i c.requires.2)

pub overflow_add-result : goal.overflow_add-result
overflow_add-result c = omega (arith, entry_near c.requires.1 c.args.i c.requires.2)

pub offset_bounds-values-at : goal.offset_bounds-values-at
offset_bounds-values-at c = omega (arith, entry_near c.requires.1 c.args.i c.requires.2)

pub bounds-values-at : goal.bounds-values-at
bounds-values-at c = omega (arith, entry_near c.requires.1 c.args.i c.requires.2)

pub overflow_add-result-2 : goal.overflow_add-result-2
overflow_add-result-2 c = omega (arith, entry_near c.requires.1 c.args.i c.requires.2)

pub offset_bounds-values-at-2 : goal.offset_bounds-values-at-2
offset_bounds-values-at-2 c = omega (arith, entry_near c.requires.1 c.args.i c.requires.2)

pub bounds-values-at-2 : goal.bounds-values-at-2
bounds-values-at-2 c = omega (arith, entry_near c.requires.1 c.args.i c.requires.2)

pub overflow_add-result-3 : goal.overflow_add-result-3
overflow_add-result-3 c = omega (arith, entry_near c.requires.1 c.args.i c.requires.2)

pub offset_bounds-values-at-3 : goal.offset_bounds-values-at-3
offset_bounds-values-at-3 c = omega (arith, entry_near c.requires.1 c.args.i c.requires.2)

pub bounds-values-at-3 : goal.bounds-values-at-3
bounds-values-at-3 c = omega (arith, entry_near c.requires.1 c.args.i c.requires.2)

pub returns : goal.returns
unfolding entry_at
returns c ns r =
    let i = c.args.i in
    let h : i < entries_of ns = omega (arith, c.requires.2, entries_read c.requires.1, entries_read r) in
    let at = c.args.layout.pumping + 3 * i in
    let values = c.args.values.now in
    let three : ◌≡◌ {A = Entry} (record { rate = get_or values (at + 1) 0; length = get_or values (at + 2) 0; repeats = get_or values (at + 3) 0 }) (entry_at ns i) =
    rw (entry_read r (3 * i) {j = at + 1} (omega arith) (omega arith), entry_read r (3 * i + 1) {j = at + 2} (omega arith) (omega arith), entry_read r (3 * i + 2) {j = at + 3} (omega arith) (omega arith)) in
    three
