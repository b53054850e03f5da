-- Many equal steps on a record, with the number of steps taken (document 01, 'A step', last paragraph: a refused step ends the repeats).
use Rattle.std.specs.Prelude.{ℕ, zero, suc}
use Rattle.record.specs.declared.Record.{Record}
use Rattle.record.specs.declared.Repeated.{Repeated}
use Rattle.record.specs.Record.{repeated_of}
use Rattle.step_rules.specs.Step.{step_refusal, step_of}

-- what comes of a step on r that this number forbids, 0 for none, after `taken` others: a refusal ends them, else
-- it is `next`, what comes of this step and those after it
unfoldable pub onward : ℕ → Record → ℕ → Repeated → Repeated
onward zero r taken next = next
onward (suc k) r taken next = repeated_of (suc k) r taken

-- n equal steps of dt µs at a rate in ml/s, one after the other, after `taken` others: a refusal ends them, and the steps before it stay
unfoldable pub steps_of : ℕ → ℕ → ℕ → ℕ → Record → Repeated
steps_of rate dt taken zero r = repeated_of 0 r taken
steps_of rate dt taken (suc n) r = onward (step_refusal r rate dt) r taken (steps_of rate dt (suc taken) n (step_of r rate dt).«record»)
