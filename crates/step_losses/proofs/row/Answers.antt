-- `step_losses::row` meets its contract: after n turns the first n slots are moved and what V was in them is kept, and `left` is the water of the
-- face before the next.
use Rattle.std.proofs.Common.{◌≡◌, sym, ap, ◌∙◌, ℕ, List, ◌+◌, arith, rules, ℤ, pos, get_or, w64, SFits, to_z, of_z, to_z-of_z}
use Rattle.laws.specs.Span.{span, span_none, span_more}
use Rattle.laws.specs.Signed.{back}
use Rattle.step_flows.specs.Flows.{flow_at}
use Rattle.step_losses.specs.Losses.{Water, water_in, upper, changed}
use Rattle.step_losses.proofs.Laws.{row_first, row_next, parts_room, parts_sum, span_rest}
use Rattle.step_losses.proofs.row.Goals as goal

-- the water of the faces
abbrev water : List ℕ → List ℕ → List ℤ → ℕ → ℤ → Water
water cs ds down dt from_well = water_in cs ds down dt (λ i. to_z w64 (of_z w64 from_well))

-- a turn reads what V was: no turn before it wrote the slot
was : (f : ℕ → ℤ) (l l' : List ℤ) (start n : ℕ) → l' ≡ span start n f l → SFits w64 (get_or l' (start + n) (pos 0))
    → to_z w64 (of_z w64 (get_or l' (start + n) (pos 0))) ≡ get_or l (start + n) (pos 0)
was f l l' start n e h = to_z-of_z h ∙ ap (λ x. get_or x (start + n) (pos 0)) e ∙ span_rest f l (start + n) (pos 0) start n (omega arith)

pub loop-n-init : goal.loop-n-init
loop-n-init c =
    let a = c.args in
    (sym (row_first (water a.faces.now.conductances a.faces.now.depths a.faces.now.down a.dt a.from_well) a.start c.requires.start_value.0), sym (span_none _ _ _), sym (span_none _ _ _))

pub crossing-right-requires-clause-dt_bound : goal.crossing-right-requires-clause-dt_bound
unfolding flow_at
crossing-right-requires-clause-dt_bound c = (c.requires.by_index_2 c.loop-n.n (omega arith)).water

pub changed-requires : goal.changed-requires
unfolding flow_at upper
changed-requires c =
    let a = c.args in
    let k = a.start + c.loop-n.n in
    let w = water a.faces.now.conductances a.faces.now.depths a.faces.now.down a.dt a.from_well in
    let f : SFits w64 (get_or c.loop-n.losses k (pos 0)) = search rules in
    let d : SFits w64 (get_or a.faces.now.down k (pos 0)) = search rules in
    let v = was (changed w a.losses.now) a.losses.now c.loop-n.losses a.start c.loop-n.n c.loop-n.invariant.1 f in
    let crossed : to_z w64 (of_z w64 c.crossing-right.result) ≡ w.right k = back _ c.crossing-right.type_inv ∙ c.crossing-right.ensures in
    let above : to_z w64 (of_z w64 c.upper.result) ≡ upper w k = back _ c.upper.type_inv ∙ c.upper.ensures in
    parts_room v crossed (to_z-of_z d) c.loop-n.invariant.0 above (rw (to_z-of_z c.ranges.from_well) (c.requires.by_index_2 c.loop-n.n (omega arith)).room)

pub loop-n-preserved : goal.loop-n-preserved
unfolding flow_at upper changed
loop-n-preserved c =
    let a = c.args in
    let n = c.loop-n.n in
    let k = a.start + n in
    let w = water a.faces.now.conductances a.faces.now.depths a.faces.now.down a.dt a.from_well in
    let f : SFits w64 (get_or c.loop-n.losses k (pos 0)) = search rules in
    let d : SFits w64 (get_or a.faces.now.down k (pos 0)) = search rules in
    let v = was (changed w a.losses.now) a.losses.now c.loop-n.losses a.start n c.loop-n.invariant.1 f in
    let crossed : to_z w64 (of_z w64 c.crossing-right.result) ≡ w.right k = back _ c.crossing-right.type_inv ∙ c.crossing-right.ensures in
    let above : to_z w64 (of_z w64 c.upper.result) ≡ upper w k = back _ c.upper.type_inv ∙ c.upper.ensures in (
      crossed ∙ sym (row_next w a.start c.requires.start_value.0 n (omega arith)),
      span_more (changed w a.losses.now) a.losses.now a.start n c.loop-n.invariant.1
          (back _ c.changed.type_inv ∙ c.changed.ensures ∙ parts_sum v crossed (to_z-of_z d) c.loop-n.invariant.0 above),
      span_more (λ j. get_or a.losses.now j (pos 0)) a.before.now a.start n c.loop-n.invariant.2 v,
    )
