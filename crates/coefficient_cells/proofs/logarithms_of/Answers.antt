-- `coefficient_cells::logarithms_of`: the slots before the loop's place are filled. The loop has R_j, the radius before it and with both u_j, and keeps
-- that each logarithm is above 0.
use Rattle.std.proofs.Common.{◌≡◌, refl, sym, ◌∙◌, arith, add-one, below_none, below_more}
use Rattle.laws.specs.Fill.{fill_none, fill_more}
use Rattle.site.specs.Site.{midsection}
use Rattle.site.specs.Columns.{logarithm_at}
use Rattle.coefficient_cells.proofs.Laws.{logarithm_is, filled}
use Rattle.coefficient_cells.proofs.logarithms_of.Goals as goal

pub loop-j-init : goal.loop-j-init
unfolding midsection
loop-j-init c =
    let well = c.requires.numbers.well in
    (c.requires.counts.columns_most, refl, omega arith, omega arith, omega arith, sym (fill_none _ _), below_none _)

pub logarithm-requires : goal.logarithm-requires
unfolding midsection
logarithm-requires c =
    let rises = c.requires.rises c.loop-j.j (omega arith) in
    (omega arith, omega arith, omega arith)

pub loop-j-preserved : goal.loop-j-preserved
unfolding midsection
loop-j-preserved c =
    let inv = c.loop-j.invariant in
    let rises = c.requires.rises c.loop-j.j (omega arith) in
    let log : c.logarithm.result ≡ logarithm_at c.args.site c.loop-j.j = c.logarithm.ensures.0 ∙ logarithm_is _ c.loop-j.j _ _ inv.1 inv.2 in (
      omega arith,
      rw add-one,
      rw add-one (omega arith),
      omega arith,
      omega arith,
      fill_more _ _ c.loop-j.j inv.5 log,
      below_more _ _ inv.6 (omega (arith, log, c.logarithm.ensures.1)),
    )

pub returns : goal.returns
returns c =
    let inv = c.loop-j.invariant in
    let log = filled _ inv.5 (omega arith) in
    record { at = λ j h. log j (omega arith); above = λ j h. omega (arith, log j (omega arith), inv.6 j (omega arith)) }
