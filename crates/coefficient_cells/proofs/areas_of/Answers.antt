-- `coefficient_cells::areas_of`: the slots before the loop's place are filled. The loop has R_j and the radius before it.
use Rattle.std.proofs.Common.{◌≡◌, refl, sym, ◌∙◌, arith, ◌+◌, ◌-◌, add-one}
use Rattle.laws.specs.Fill.{fill_none, fill_more}
use Rattle.geometry.specs.Geometry.{area}
use Rattle.site.specs.Columns.{area_at}
use Rattle.coefficient_cells.specs.Worked.{areas_of}
use Rattle.coefficient_cells.proofs.Laws.{area_is}
use Rattle.coefficient_cells.proofs.areas_of.Goals as goal

pub loop-j-init : goal.loop-j-init
loop-j-init c =
    let well = c.requires.numbers.well in
    (c.requires.counts.columns_most, refl, refl, omega arith, omega arith, sym (fill_none _ _))

pub loop-j-preserved : goal.loop-j-preserved
loop-j-preserved c =
    let inv = c.loop-j.invariant in
    let rises = c.requires.rises c.loop-j.j (omega arith) in
    let of-radii : c.area.result ≡ area c.loop-j.radius c.loop-j.previous = c.area.ensures.0 in
    let ring : c.area.result ≡ area_at c.args.site c.loop-j.j = of-radii ∙ area_is _ c.loop-j.j _ _ inv.1 inv.2 in
    let back : c.loop-j.j + 1 - 1 ≡ c.loop-j.j = omega arith in (
      omega arith,
      rw add-one,
      rw back inv.1,
      omega arith,
      omega arith,
      fill_more _ _ c.loop-j.j inv.5 ring,
    )

pub returns : goal.returns
unfolding areas_of
returns c =
    let e : c.loop-j.j ≡ c.args.site.columns = omega arith in
    c.loop-j.invariant.5 ∙ rw e
