-- The run of a pumping entry: its steps, one after the other (document 01, the last paragraph of 'A step').
use Rattle.std.specs.Prelude.{ℕ}
use Rattle.record.specs.declared.Record.{Record}
use Rattle.record.specs.declared.Answer.{Answer}
use Rattle.step.specs.Repeat.{repeat_of, answered}

-- the run of an entry, of which the number of steps taken is left out: 14 is judged first, also where no step is asked; a refusal ends the
-- steps, and those before it stay
unfoldable pub run_of : Record → ℕ → ℕ → ℕ → Answer
run_of r rate dt n = answered (repeat_of r rate dt n)
