-- `read_limiting::deepest_slot`: the first of the deepest slots before the loop's place.
use Rattle.std.proofs.Common.{◌≡◌, true, false, sym, ap, ◌∙◌, ◌+◌, ◌-◌, ◌≤◌, arith, lt-ltb, le-ltb}
use Rattle.read_limiting.specs.Limiting.{foremost}
use Rattle.read_limiting.specs.Slots.{deeper_slot}
use Rattle.read_limiting.proofs.DeepestCell.{fewer}
use Rattle.read_limiting.proofs.Foremost.{foremost_is, foremost_none, replaced_by, stays_at}
use Rattle.read_limiting.proofs.Orders.{slot_order}
use Rattle.read_limiting.proofs.deepest_slot.Goals as goal
use Rattle.read_limiting.proofs.deepest_slot.Goals.{then-deepest-depth, else-deepest-depth}

pub loop-k-init : goal.loop-k-init
loop-k-init c = sym (foremost_none _ 0)

pub depth-deepest-requires : goal.depth-deepest-requires
depth-deepest-requires c =
    let k = c.loop-k.k in
    let first : c.loop-k.best ≤ 0 + (k - 1) = omega (arith, c.loop-k.invariant, (foremost_is (slot_order c.args.losses.now c.args.storages.now) 0 (k - 1)).most) in
    (omega (arith, first), fewer c.requires.2 (omega (arith, first)))

pub depth-requires : goal.depth-requires
depth-requires c = (omega arith, fewer c.requires.2 (omega arith))

pub loop-k-preserved : goal.loop-k-preserved
unfolding deeper_slot
loop-k-preserved c =
    let before = deeper_slot c.args.losses.now c.args.storages.now in
    let k = c.loop-k.k in
    elim c.if-deepest-depth.branch [
      | then-deepest-depth w ↦
          let deeper : before k c.loop-k.best ≡ true = rw (← c.depth.ensures, ← c.depth-deepest.ensures) (lt-ltb _ _ w.if-deepest-depth.true) in
          rw w.best-is (replaced_by before (omega arith) c.loop-k.invariant deeper)
      | else-deepest-depth w ↦
          let deeper : before k c.loop-k.best ≡ false = rw (← c.depth.ensures, ← c.depth-deepest.ensures) (le-ltb _ _ w.if-deepest-depth.false) in
          rw w.best-is (stays_at before (omega arith) c.loop-k.invariant deeper)
    ]

pub returns : goal.returns
returns c =
    let before = deeper_slot c.args.losses.now c.args.storages.now in
    let end : c.loop-k.k ≡ c.args.n = omega arith in
    let e : c.loop-k.best ≡ foremost before 0 (c.args.n - 1) = c.loop-k.invariant ∙ ap (λ n. foremost before 0 (n - 1)) end in
    (e, omega (arith, e, (foremost_is (slot_order c.args.losses.now c.args.storages.now) 0 (c.args.n - 1)).most, c.requires.0))
