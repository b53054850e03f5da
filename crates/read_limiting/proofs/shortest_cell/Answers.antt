-- `read_limiting::shortest_cell`: the first of the shortest slots before the loop's place, and its longest step.
use Rattle.std.proofs.Common.{◌≡◌, true, false, sym, ap, ◌∙◌, ◌-◌, arith, lt-ltb, le-ltb}
use Rattle.read_limiting.specs.Limiting.{foremost}
use Rattle.read_limiting.specs.Slots.{slot_longest, less_at}
use Rattle.read_limiting.proofs.Foremost.{foremost_is, foremost_none, replaced_by, stays_at}
use Rattle.read_limiting.proofs.Orders.{less_order}
use Rattle.read_limiting.proofs.shortest_cell.Goals as goal
use Rattle.read_limiting.proofs.shortest_cell.Goals.{then-here-best, else-here-best}

pub loop-k-init : goal.loop-k-init
loop-k-init c = (sym (foremost_none _ 0), c.cell_longest.ensures)

pub loop-k-preserved : goal.loop-k-preserved
unfolding less_at
loop-k-preserved c =
    let i = c.loop-k.invariant in
    let f = slot_longest c.args.rec.now in
    elim c.if-here-best.branch [
      | then-here-best w ↦
          let shorter : less_at f c.loop-k.k c.loop-k.best.slot ≡ true = rw (← c.cell_longest-here.ensures, ← i.1) (lt-ltb _ _ w.if-here-best.true) in
          rw w.best-is (replaced_by (less_at f) (omega arith) i.0 shorter, c.cell_longest-here.ensures)
      | else-here-best w ↦
          let shorter : less_at f c.loop-k.k c.loop-k.best.slot ≡ false = rw (← c.cell_longest-here.ensures, ← i.1) (le-ltb _ _ w.if-here-best.false) in
          rw w.best-is (stays_at (less_at f) (omega arith) i.0 shorter, i.1)
    ]

pub returns-clause-slot_value : goal.returns-clause-slot_value
returns-clause-slot_value c =
    let f = slot_longest c.args.rec.now in
    let end : c.loop-k.k ≡ c.args.n = omega arith in
    let e : c.loop-k.best.slot ≡ foremost (less_at f) 0 (c.args.n - 1) = c.loop-k.invariant.0 ∙ ap (λ n. foremost (less_at f) 0 (n - 1)) end in
    (e, omega (arith, e, (foremost_is (less_order f) 0 (c.args.n - 1)).most, c.requires.0))
