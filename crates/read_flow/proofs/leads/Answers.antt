-- `read_flow::leads`: the tests on the way are the definition's, by the kinds of the ends.
use Rattle.read_flow.proofs.Laws.{to_well, no_layer, from_well_lem, no_cell, next_cell}
use Rattle.read_flow.proofs.leads.Goals as goal

pub returns-in_default : goal.returns-in_default
returns-in_default c = λ q e. rw c.in_default.is (to_well q _ e c.args.from)

pub returns-then-not-k-site : goal.returns-then-not-k-site
returns-then-not-k-site c = λ q e. rw c.in-Cell.is (no_layer q _ e c.args.from _ _ c.if-not-k-site.true)

pub returns-in_default-from : goal.returns-in_default-from
returns-in_default-from c = λ q e. rw (c.in_default-from.is, c.in-Cell.is) (from_well_lem q _ e c.in-Cell.k c.in-Cell.l c.if-not-k-site.false)

pub returns-then-not-i-site : goal.returns-then-not-i-site
returns-then-not-i-site c =
    λ q e. rw (c.in-Cell-from.is, c.in-Cell.is) (no_cell q _ e _ _ c.if-not-k-site.false c.in-Cell-from.i c.in-Cell-from.j c.if-not-i-site.true)

pub returns : goal.returns
returns c = λ q e. rw (c.in-Cell-from.is, c.in-Cell.is) (next_cell q _ e _ _ c.if-not-k-site.false c.in-Cell-from.i c.in-Cell-from.j c.if-not-i-site.false)
