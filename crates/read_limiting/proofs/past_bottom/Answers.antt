-- `read_limiting::past_bottom`: the deepest slot of layer 1 after the step is the deepest cell.
use Rattle.std.proofs.Common.{arith, ◌≡◌, true}
use Rattle.site.specs.Laws.{counts_hold_lem}
use Rattle.site.specs.Limited.{Counts}
use Rattle.validity.specs.Laws.{valid_record}
use Rattle.read_limiting.proofs.DeepestCell.{after_shallow, bottom_answer}
use Rattle.read_limiting.proofs.past_bottom.Goals as goal
use Rattle.record.specs.declared.Record.{Record}
use Rattle.validity.specs.Validity.{valid}

counts : (r : Record) → valid r ≡ true → Counts r.site
counts r ok = counts_hold_lem _ (valid_record _ ok).counts

pub overflow_sub-stored : goal.overflow_sub-stored
overflow_sub-stored c = omega (arith, (counts _ c.requires.passed).columns_least)

pub deepest_slot-slot-requires : goal.deepest_slot-slot-requires
deepest_slot-slot-requires c =
    let n = counts _ c.requires.passed in
    (omega (arith, n.columns_least), omega (arith, n.columns_most), rw c.losses_after-losses.ensures (after_shallow _ _ _ c.requires))

pub place_of-requires : goal.place_of-requires
place_of-requires c = omega (arith, c.deepest_slot-slot.ensures.1, (counts _ c.requires.passed).columns_most)

pub returns : goal.returns
returns c = bottom_answer _ _ _ c.requires c.losses_after-losses.ensures c.deepest_slot-slot.ensures.0 c.place_of.ensures
