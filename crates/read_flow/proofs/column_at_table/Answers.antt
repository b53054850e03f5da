-- `read_flow::column_at_table`: A_j from the areas of the scenario's columns.
use Rattle.std.proofs.Common.{◌≡◌, sym, subst, ◌∙◌, arith, pos, get_or}
use Rattle.step_flows.specs.Flows.{table_c}
use Rattle.coefficient_cells.specs.Cells.{down_of}
use Rattle.coefficient_cells.specs.Laws.{areas_of_lem}
use Rattle.coefficient_cells.specs.Worked.{Areas}
use Rattle.read_flow.proofs.column_at_table.Goals as goal

pub returns : goal.returns
returns c =
    let rings = subst (Areas c.args.site) (sym c.areas_of-areas.ensures) (areas_of_lem _ c.requires.0) in
    let s = c.args.site in
    let worked : pos c.at_table.result ≡ table_c (get_or c.areas_of-areas.result c.args.j 0) (get_or s.thickness 0 0) (get_or s.kv 0 0) (get_or s.thickness 1 0) (get_or s.kv 1 0) (pos c.args.here) = c.at_table.ensures in
    worked ∙ rw (rings.at c.args.j c.requires.1)

pub at_table-requires-clause-a_bound : goal.at_table-requires-clause-a_bound
at_table-requires-clause-a_bound c =
    let rings = subst (Areas c.args.site) (sym c.areas_of-areas.ensures) (areas_of_lem _ c.requires.0) in
    let limits = c.requires.0 in
    let upper = limits.numbers.layer 0 (omega (arith, limits.counts.layers_least)) in
    let lower = limits.numbers.layer 1 limits.counts.layers_least in
    (rings.most c.args.j c.requires.1, upper.thickness_most, upper.kv_most, lower.thickness_least, lower.thickness_most, lower.kv_most)

pub at_table-requires-clause-here_bound : goal.at_table-requires-clause-here_bound
unfolding down_of
at_table-requires-clause-here_bound c =
    let rings = subst (Areas c.args.site) (sym c.areas_of-areas.ensures) (areas_of_lem _ c.requires.0) in
    (c.requires.2, rw (rings.at c.args.j c.requires.1) c.requires.3)
