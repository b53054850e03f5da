-- Two records of which `same` says yes are equal, and so is all that is made of them.
use Rattle.std.proofs.Common.{ap₂}
use Rattle.refusals.specs.Refusals.{given}
use Rattle.ledger.specs.Calls.{replies_to}
use Rattle.readings.proofs.SameLaws.{same_answer}
use Rattle.ledger_same.specs.SameCalls.{records_after}
use Rattle.ledger_same.proofs.Same.{same_calls, same_itself, after_each}
use Rattle.ledger_same.proofs.same_runs.Goals as goal

pub returns : goal.returns
unfolding given
returns c = (
  λ one other yes calls others same.
      (ap₂ replies_to (same_answer one other yes).2 (same_calls same), ap₂ records_after (same_answer one other yes).2 (same_calls same)),
  same_itself,
  after_each,
)
