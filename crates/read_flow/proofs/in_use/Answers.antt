-- `read_flow::in_use`: the definition, by the kinds of the ends.
use Rattle.std.proofs.Common.{◌≡◌, ◌∙◌, arith}
use Rattle.network.specs.Network.{in_use_by}
use Rattle.read_flow.specs.Ends.{conductance_from, rule_from, in_use_from}
use Rattle.read_flow.proofs.Laws.{slot_in, none_to_well, down_in, table_in, across_in_lem, reduced_in, at_top}
use Rattle.read_flow.proofs.in_use.Goals as goal

pub returns-in_default : goal.returns-in_default
returns-in_default c = rw c.in_default.is (none_to_well _ _ _ _ _ _ c.args.from)

pub overflow_sub-result : goal.overflow_sub-result
overflow_sub-result c = (slot_in _ _ (rw c.in-Cell.is at c.requires.in_limits.2)).0

pub offset_bounds-rec-k : goal.offset_bounds-rec-k
offset_bounds-rec-k c = omega (arith, slot_in _ _ (rw c.in-Cell.is at c.requires.in_limits.2))

pub bounds-rec-k : goal.bounds-rec-k
bounds-rec-k c = omega (arith, slot_in _ _ (rw c.in-Cell.is at c.requires.in_limits.2))

pub returns-in_default-from : goal.returns-in_default-from
unfolding in_use_from in_use_by rule_from conductance_from
returns-in_default-from c = rw (c.in_default-from.is, c.in-Cell.is)

pub slot_of-first-requires : goal.slot_of-first-requires
slot_of-first-requires c = slot_in _ _ (rw c.in-Cell-from.is at c.requires.in_limits.1)

pub returns-then-i-gt1 : goal.returns-then-i-gt1
returns-then-i-gt1 c = down_in _ _ _ _ _ _ c.in-Cell-from.is c.in-Cell.is c.slot_of-first.ensures.0 c.if-k-i.true c.if-i-gt1.true

pub column_at_table-requires : goal.column_at_table-requires
column_at_table-requires c =
    let first : c.in-Cell-from.i ≡ 1 = omega (arith, c.if-i-gt1.false, slot_in _ _ (rw c.in-Cell-from.is at c.requires.in_limits.1)) in
    let top = at_top c.in-Cell-from.is first in
    (c.requires.in_limits.0, (c.requires.table_fits _ top).0, c.requires.in_limits.3 _ top, (c.requires.table_fits _ top).1)

pub returns-then-k-i : goal.returns-then-k-i
returns-then-k-i c =
    let first : c.in-Cell-from.i ≡ 1 = omega (arith, c.if-i-gt1.false, slot_in _ _ (rw c.in-Cell-from.is at c.requires.in_limits.1)) in
    c.column_at_table.ensures ∙ table_in _ _ _ _ _ _ c.in-Cell-from.is c.in-Cell.is c.slot_of-first.ensures.0 c.if-k-i.true first

pub returns-then-i-ne1 : goal.returns-then-i-ne1
returns-then-i-ne1 c = across_in_lem _ _ _ _ _ _ c.in-Cell-from.is c.in-Cell.is c.slot_of-first.ensures.0 c.if-k-i.false c.if-i-ne1.true

pub returns : goal.returns
returns c = c.reduced.ensures ∙ reduced_in _ _ _ _ _ _ c.in-Cell-from.is c.in-Cell.is c.slot_of-first.ensures.0 c.if-k-i.false c.if-i-ne1.false
