-- `site::radii_hold`: rule 4 holds at every column before the loop's place, whose R_j and u_j = R_(j-1) + R_j the loop has.
use Rattle.std.proofs.Common.{◌≡◌, refl, sym, ◌∙◌, add-one, arith, le-leb}
use Rattle.laws.specs.All.{all_none, all_more, all_fails}
use Rattle.site.specs.Laws.{counts_hold_lem, numbers_hold_lem}
use Rattle.site.specs.Site.{midsection, radii_hold}
use Rattle.site.proofs.Laws.{fails, holds, rises_at}
use Rattle.site.proofs.radii_hold.Goals as goal

pub loop-j-init : goal.loop-j-init
unfolding midsection
loop-j-init c =
    let counts = counts_hold_lem _ c.requires.0 in
    let well = (numbers_hold_lem _ c.requires.1).well in
    (omega arith, refl, omega arith, omega arith, omega arith, all_none _)

pub column_rises-requires : goal.column_rises-requires
column_rises-requires c =
    let next = (numbers_hold_lem _ c.requires.1).column c.loop-j.j (omega arith) in
    (le-leb _ _ c.loop-j.invariant.3, le-leb _ _ c.loop-j.invariant.4, le-leb _ _ next)

pub returns-then-not-column_rises : goal.returns-then-not-column_rises
unfolding radii_hold
returns-then-not-column_rises c =
    sym (all_fails _ _ c.loop-j.j (omega arith) (fails (c.column_rises.ensures ∙ rises_at _ _ _ _ c.loop-j.invariant.1 c.loop-j.invariant.2) c.if-not-column_rises.true))

pub loop-j-preserved : goal.loop-j-preserved
unfolding midsection
loop-j-preserved c =
    let next = (numbers_hold_lem _ c.requires.1).column c.loop-j.j (omega arith) in (
      c.loop-j.invariant.0,
      rw add-one,
      rw add-one (omega arith),
      omega arith,
      omega arith,
      all_more _ c.loop-j.j c.loop-j.invariant.5 (holds (c.column_rises.ensures ∙ rises_at _ _ _ _ c.loop-j.invariant.1 c.loop-j.invariant.2) c.if-not-column_rises.false),
    )

pub returns : goal.returns
unfolding radii_hold
returns c =
    let e : c.args.site.columns ≡ c.loop-j.j = omega arith in
    rw e (sym c.loop-j.invariant.5)
