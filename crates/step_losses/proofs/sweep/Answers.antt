-- `step_losses::sweep` meets its contract: after i turns the first i layers are swept, and their water with the well and the last column is added.
use Rattle.std.proofs.Common.{◌≡◌, sym, ◌∙◌, ℕ, List, ◌≤◌, ◌-◌, ◌+◌, ◌*◌, arith, ℤ, pos, get_or, w64, to_z, of_z, to_z-of_z}
use Rattle.laws.specs.Span.{spans, spans_none, spans_more, span_ext}
use Rattle.laws.specs.Signed.{back, room_fits, adding_start, adding_more, adding_done}
use Rattle.step_flows.specs.Flows.{screen_at}
use Rattle.step_losses.specs.Losses.{Water, water_in, changed, inflow_from, swept_of}
use Rattle.step_losses.proofs.Laws.{row_last, row-loss, row_within, spans_rest}
use Rattle.step_losses.proofs.sweep.Goals as goal

-- the water of the faces
abbrev water : List ℕ → List ℕ → List ℕ → List ℤ → ℕ → ℕ → Water
water screen cs ds down well dt = water_in cs ds down dt (screen_at screen well ds dt)

-- a turn finds what V was in its layer: the turns before it wrote to the layers above
entered : (f : ℕ → ℤ) (l l' : List ℤ) (stored i n : ℕ) → stored ≤ 50 → l' ≡ spans stored i f l → get_or l' (50 * i + n) (pos 0) ≡ get_or l (50 * i + n) (pos 0)
entered f l l' stored i n h e = rw e (spans_rest f l (50 * i + n) (pos 0) stored i h (omega arith))

pub loop-i-init : goal.loop-i-init
loop-i-init c =
    let a = c.args in
    let p = c.requires.sweepable in
    let w = water a.screen.now a.faces.now.conductances a.faces.now.depths a.faces.now.down a.well a.dt in (
      rw (to_z-of_z c.ranges.well_loss) (adding_start w.screen a.layers p.well),
      rw (to_z-of_z c.ranges.inflow) (adding_start (inflow_from w a.stored) a.layers p.last),
      sym (spans_none _ _ _),
      sym (spans_none _ _ _),
    )

pub crossing-from_well-requires-clause-dt_bound : goal.crossing-from_well-requires-clause-dt_bound
unfolding screen_at
crossing-from_well-requires-clause-dt_bound c = c.requires.sweepable.screens c.loop-i.i (omega arith)

pub overflow_add-loss : goal.overflow_add-loss
unfolding screen_at
overflow_add-loss c =
    let a = c.args in
    let w = water a.screen.now a.faces.now.conductances a.faces.now.depths a.faces.now.down a.well a.dt in
    let given : to_z w64 (of_z w64 c.crossing-from_well.result) ≡ w.screen c.loop-i.i = back _ c.crossing-from_well.type_inv ∙ c.crossing-from_well.ensures in
    let more = adding_more w.screen c.loop-i.invariant.0 (omega arith) in
    rw given (room_fits more.room (omega arith))

pub row-total-requires-clause-by_index_2 : goal.row-total-requires-clause-by_index_2
unfolding screen_at
row-total-requires-clause-by_index_2 c =
    let a = c.args in
    let i = c.loop-i.i in
    let w = water a.screen.now a.faces.now.conductances a.faces.now.depths a.faces.now.down a.well a.dt in
    let given : to_z w64 (of_z w64 c.crossing-from_well.result) ≡ w.screen i = back _ c.crossing-from_well.type_inv ∙ c.crossing-from_well.ensures in
    λ n h. row_within w.right w.lower w.screen i n (omega arith) given a.losses.now c.loop-i.losses
    (entered (changed w a.losses.now) a.losses.now c.loop-i.losses a.stored i n (omega arith) c.loop-i.invariant.2)
    (c.requires.sweepable.cells (50 * i + n) (omega arith) (omega arith))

pub overflow_sub-total : goal.overflow_sub-total
overflow_sub-total c =
    let a = c.args in
    let i = c.loop-i.i in
    let w = water a.screen.now a.faces.now.conductances a.faces.now.depths a.faces.now.down a.well a.dt in
    let taken : to_z w64 (of_z w64 c.row-total.result) ≡ w.right (50 * i + (a.stored - 1)) = back _ c.row-total.type_inv ∙ c.row-total.ensures.value ∙ row_last _ (50 * i) (omega arith) a.stored (omega arith) (omega arith) in
    let more = adding_more (inflow_from w a.stored) c.loop-i.invariant.1 (omega arith) in
    rw taken (room_fits more.room (omega arith))

pub loop-i-preserved : goal.loop-i-preserved
unfolding screen_at
loop-i-preserved c =
    let a = c.args in
    let i = c.loop-i.i in
    let w = water a.screen.now a.faces.now.conductances a.faces.now.depths a.faces.now.down a.well a.dt in
    let given : to_z w64 (of_z w64 c.crossing-from_well.result) ≡ w.screen i = back _ c.crossing-from_well.type_inv ∙ c.crossing-from_well.ensures in
    let taken : to_z w64 (of_z w64 c.row-total.result) ≡ w.right (50 * i + (a.stored - 1)) = back _ c.row-total.type_inv ∙ c.row-total.ensures.value ∙ row_last _ (50 * i) (omega arith) a.stored (omega arith) (omega arith) in
    let well = adding_more w.screen c.loop-i.invariant.0 (omega arith) in
    let total = adding_more (inflow_from w a.stored) c.loop-i.invariant.1 (omega arith) in
    let same = λ (n : ℕ). entered (changed w a.losses.now) a.losses.now c.loop-i.losses a.stored i n (omega arith) c.loop-i.invariant.2 in (
      rw (given, to_z-of_z (room_fits well.room (omega arith))) well,
      rw (taken, to_z-of_z (room_fits total.room (omega arith))) total,
      spans_more (changed w a.losses.now) a.losses.now a.stored i c.loop-i.invariant.2
          (c.row-total.ensures.losses_after ∙ span_ext _ _ _ _ _ (λ n h. row-loss w.right w.lower w.screen i n (omega arith) given a.losses.now c.loop-i.losses (same n))),
      spans_more (λ k. get_or a.losses.now k (pos 0)) a.before.now a.stored i c.loop-i.invariant.3 (c.row-total.ensures.before_after ∙ span_ext _ _ _ _ _ (λ n h. same n)),
    )

pub returns-clause-value : goal.returns-clause-value
unfolding swept_of
returns-clause-value c =
    let a = c.args in
    let w = water a.screen.now a.faces.now.conductances a.faces.now.depths a.faces.now.down a.well a.dt in
    let well = rw (to_z-of_z c.ranges.well_loss) at (adding_done w.screen c.loop-i.invariant.0 (omega arith)) in
    let total = rw (to_z-of_z c.ranges.inflow) at (adding_done (inflow_from w a.stored) c.loop-i.invariant.1 (omega arith)) in
    rw (well, total)
