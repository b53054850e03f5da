-- Many equal steps on a record: the answer of `repeat`.
use Rattle.std.specs.Prelude.{cond, ℕ}
use Rattle.validity.specs.Validity.{valid}
use Rattle.record.specs.declared.Record.{Record}
use Rattle.record.specs.declared.Answer.{Answer}
use Rattle.record.specs.declared.Repeated.{Repeated}
use Rattle.record.specs.Record.{repeated_of}
use Rattle.step_rules.specs.Steps.{steps_of}

-- what `repeat` answers for n steps of dt µs at a rate in ml/s: 14 is judged first, also where no step is asked
unfoldable pub repeat_of : Record → ℕ → ℕ → ℕ → Repeated
repeat_of r rate dt n = cond (valid r) (steps_of rate dt 0 n r) (repeated_of 14 r 0)

-- what became of many steps, without their number
abbrev pub answered : Repeated → Answer
answered x = record { outcome = x.outcome; «record» = x.«record» }
