-- `read_deep_cells::keep_codes` meets its contract: the slots passed hold codes, the others still keys.
use Rattle.std.proofs.Common.{◌≡◌, ◌%◌, get_or}
use Rattle.laws.specs.Fill.{fill}
use Rattle.read_deep_cells.proofs.keep_codes.Given as goal

abbrev pub invariant-loop-x : goal.invariant-loop-x
invariant-loop-x l = l.list ≡ fill l.x-index (λ k. get_or l.initial.list k 0 % 10000) l.initial.list
