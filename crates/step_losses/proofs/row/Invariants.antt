-- `step_losses::row` meets its contract: after n turns the first n slots are moved and what V was in them is kept, and `left` is the water of the
-- face before the next.
use Rattle.std.proofs.Common.{◌≡◌, ◌+◌, pos, get_or}
use Rattle.laws.specs.Span.{span}
use Rattle.step_losses.specs.Losses.{water_in, left, changed}
use Rattle.step_losses.proofs.row.Given as goal

abbrev pub invariant-loop-n : goal.invariant-loop-n
invariant-loop-n l =
    (l.left ≡ left (water_in l.faces.conductances l.faces.depths l.faces.down l.dt (λ i. l.from_well)) (l.start + l.n))
    × (l.losses ≡ span l.start l.n (changed (water_in l.faces.conductances l.faces.depths l.faces.down l.dt (λ i. l.from_well)) l.initial.losses) l.initial.losses)
    × (l.before ≡ span l.start l.n (λ k. get_or l.initial.losses k (pos 0)) l.initial.before)
