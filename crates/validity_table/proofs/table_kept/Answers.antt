-- `validity_table::table_kept`: every C before the loop's place is the value at s = 0.
use Rattle.std.proofs.Common.{◌≡◌, sym, ◌∙◌, Bool, List, ℕ, suc, ◌+◌, ◌-◌, ◌<◌, add-one, arith, eqb, get_or}
use Rattle.laws.specs.All.{all_none, all_more, all_fails}
use Rattle.geometry.specs.Geometry.{from_table}
use Rattle.site.specs.declared.Site.{Site}
use Rattle.coefficient_cells.specs.Cells.{down_of}
use Rattle.coefficient_cells.specs.Laws.{areas_of_lem}
use Rattle.coefficient_cells.specs.Worked.{Areas}
use Rattle.validity_table.specs.Table.{table_kept}
use Rattle.validity_table.proofs.table_kept.Goals as goal

-- ---- one column: its C is tested against what the scenario's numbers give
tested : (s : Site) (vertical : List ℕ) {areas : List ℕ} (k : ℕ) {t : Bool} → Areas s areas → k + 1 < s.columns
    → t ≡ eqb (get_or vertical k 0) (from_table (get_or areas (k + 1) 0) (get_or s.kv 0 0) (get_or s.thickness 1 0) (get_or s.kv 1 0) 0)
    → t ≡ eqb (get_or vertical k 0) (down_of s 0 (suc k))
unfolding down_of
tested s vertical k rings h e = e ∙ rw (rings.at (k + 1) h, add-one k)

pub loop-k-init : goal.loop-k-init
loop-k-init c = all_none _

pub slot_kept-requires : goal.slot_kept-requires
slot_kept-requires c =
    let rings : Areas c.args.rec.now.site c.areas_of-areas.result = rw c.areas_of-areas.ensures (areas_of_lem _ c.requires) in
    let p = c.requires in
    let upper = p.numbers.layer 0 (omega (arith, p.counts.layers_least)) in
    let lower = p.numbers.layer 1 p.counts.layers_least in
    (rings.most (c.loop-k.k + 1) (omega arith), upper.kv_most, lower.thickness_least, lower.thickness_most, lower.kv_most)

pub returns-then-not-slot_kept : goal.returns-then-not-slot_kept
unfolding table_kept
returns-then-not-slot_kept c =
    let rings : Areas c.args.rec.now.site c.areas_of-areas.result = rw c.areas_of-areas.ensures (areas_of_lem _ c.requires) in
    let test = tested c.args.rec.now.site c.args.rec.now.vertical c.loop-k.k rings (omega arith) c.slot_kept.ensures in
    sym (all_fails _ _ c.loop-k.k (omega arith) (sym test ∙ c.if-not-slot_kept.true))

pub loop-k-preserved : goal.loop-k-preserved
loop-k-preserved c =
    let rings : Areas c.args.rec.now.site c.areas_of-areas.result = rw c.areas_of-areas.ensures (areas_of_lem _ c.requires) in
    let test = tested c.args.rec.now.site c.args.rec.now.vertical c.loop-k.k rings (omega arith) c.slot_kept.ensures in
    all_more _ c.loop-k.k c.loop-k.invariant (sym test ∙ c.if-not-slot_kept.false)

pub returns : goal.returns
unfolding table_kept
returns c =
    let e : c.args.rec.now.site.columns - 1 ≡ c.loop-k.k = omega arith in
    rw e (sym c.loop-k.invariant)
