-- `read_limiting::too_long`: the well's longest step against the shortest of the cells'.
use Rattle.std.proofs.Common.{◌≡◌, ℕ, ap, ◌∙◌, arith}
use Rattle.network.specs.Grid.{network_of}
use Rattle.record.specs.Record.{grid_of}
use Rattle.site.specs.Laws.{counts_hold_lem}
use Rattle.site.specs.Limited.{Counts}
use Rattle.validity.specs.Laws.{valid_record}
use Rattle.step_stability.specs.Laws.{steady_asks}
use Rattle.step_stability.specs.Stability.{well_sum}
use Rattle.read_limiting.specs.declared.Limiting.{Limiting}
use Rattle.read_limiting.specs.Slots.{longest_word}
use Rattle.read_limiting.proofs.ShortestPlace.{word, well_word, well_answer, cell_answer}
use Rattle.read_limiting.proofs.too_long.Goals as goal
use Rattle.record.specs.declared.Record.{Record}
use Rattle.read_limiting.specs.Slots.{TooLongFor}

counts : (r : Record) → TooLongFor r → Counts r.site
counts r h = counts_hold_lem _ (valid_record _ h.passed).counts

-- the well's longest step
well-is : (r : Record) → TooLongFor r → {n w : ℕ} → w ≡ well_sum r.site.layers r.screen → n ≡ longest_word w r.well_storage → n ≡ word (network_of (grid_of r)) 0
well-is r h e q = q ∙ ap (λ c. longest_word c r.well_storage) e ∙ well_word r h

pub well_sum-requires : goal.well_sum-requires
well_sum-requires c = let a = steady_asks _ c.requires.passed in (omega (arith, a.0), a.1.well)

pub overflow_mul-layers : goal.overflow_mul-layers
overflow_mul-layers c = omega (arith, (counts _ c.requires).layers_most)

pub shortest_cell-cell-requires : goal.shortest_cell-cell-requires
shortest_cell-cell-requires c =
    let n = counts _ c.requires in (omega (arith, n.layers_least), omega (arith, n.layers_most), (steady_asks _ c.requires.passed).1)

pub returns-then-well-cell : goal.returns-then-well-cell
returns-then-well-cell c =
    well_answer _ c.requires (well-is _ c.requires c.well_sum.ensures c.longest-well.ensures) c.shortest_cell-cell.ensures.slot_value.0 c.shortest_cell-cell.ensures.longest_value c.if-well-cell.true

pub place_of-requires : goal.place_of-requires
place_of-requires c = omega (arith, c.shortest_cell-cell.ensures.slot_value.1, (counts _ c.requires).layers_most)

pub returns-else-well-cell : goal.returns-else-well-cell
returns-else-well-cell c =
    ap (λ p. Limiting.TooLong p c.shortest_cell-cell.result.longest) c.place_of.ensures
    ∙ cell_answer _ c.requires (well-is _ c.requires c.well_sum.ensures c.longest-well.ensures) c.shortest_cell-cell.ensures.slot_value.0 c.shortest_cell-cell.ensures.longest_value (omega (arith, c.if-well-cell.false))
