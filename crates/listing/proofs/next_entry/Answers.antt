-- `listing::next_entry` meets its contract.
use Rattle.std.proofs.Common.{sym, ◌+◌, add-one}
use Rattle.listing_lines.specs.Laws.{holds_length}
use Rattle.listing.specs.Laws.{next_end, next_line}
use Rattle.listing.specs.Printed.{next_past}
use Rattle.listing.proofs.next_entry.Goals as goal

pub returns-then-done-ge-ENTRY_LIMIT : goal.returns-then-done-ge-ENTRY_LIMIT
returns-then-done-ge-ENTRY_LIMIT c =
    let a = c.args in
    (sym (next_past a.text.now a.«record» a.done c.if-done-ge-ENTRY_LIMIT.true), tt)

pub returns-in_default : goal.returns-in_default
returns-in_default c =
    let a = c.args in
    (sym (next_end a.text.now a.«record» a.done (a.done + 1) (add-one a.done) (sym c.in_default.ensures)), tt)

pub returns : goal.returns
returns c =
    let a = c.args in
    (next_line a.text.now a.«record» a.done (a.done + 1) (add-one a.done) (sym c.in-Ok.ensures) c.run_entry-ran.ensures c.line.ensures, holds_length _ c.line.ensures)
