-- The calls of a run and what they answer (document 01, 'The ledger of a run'): step and every reading, with any arguments beside the record.
-- What each answers is the definition in its own contract.
use Rattle.std.specs.Prelude.{List, [], ◌∷◌, ℕ, Bool, ℤ, Result}
use Rattle.refusals.specs.declared.Refusal.{Refusal}
use Rattle.record.specs.declared.Record.{Record}
use Rattle.record.specs.declared.Answer.{Answer}
use Rattle.step_rules.specs.Step.{step_of}
use Rattle.readings.specs.declared.Place.{Place}
use Rattle.readings.specs.declared.Totals.{Totals}
use Rattle.read_head_loss.specs.declared.Losses.{Losses}
use Rattle.read_head_loss.specs.HeadLoss.{head_loss_of}
use Rattle.readings.specs.Readings.{drawdown_of, budget_of, loss_of, flow_of, Listed, deep_of, same_of}
use Rattle.read_limiting.specs.declared.Limiting.{Limiting}
use Rattle.read_limiting.specs.Limiting.{limiting_of}

-- a reading, with its arguments beside the record
pub data Reading : Type 0 where
  drawdown : Place → Reading
  budget : Reading
  loss : List ℕ → Reading  -- the bytes of a set
  flow : Place → Place → ℕ → Reading  -- from the first end to the second, for a step Δt
  deep : ℕ → List ℕ → Reading  -- the threshold and the lent list
  same : Record → Reading  -- the run's record first, the other second
  same_as : Record → Reading  -- the other first
  head_loss : ℕ → ℕ → Reading  -- the layer, for a step Δt
  limiting : ℕ → ℕ → Reading  -- rate and Δt of a step not taken

pub data Call : Type 0 where
  step : ℕ → ℕ → Call  -- rate and Δt
  read : Reading → Call

-- what a call gives back: its answer, and what a list lent to it holds after it
pub data Reply : Type 0 where
  stepped : Answer → Reply
  amount : Result ℤ Refusal → Reply
  balance : Result Totals Refusal → Reply
  listed : Listed → Reply
  compared : Result Bool Refusal → Reply
  losses : Result Losses Refusal → Reply
  limited : Result Limiting Refusal → Reply

-- what a call on the record r gives back
unfoldable pub reply_to : Record → Call → Reply
reply_to r (step rate dt) = stepped (step_of r rate dt)
reply_to r (read (drawdown p)) = amount (drawdown_of r p)
reply_to r (read budget) = balance (budget_of r)
reply_to r (read (loss bytes)) = amount (loss_of r bytes)
reply_to r (read (flow a b dt)) = amount (flow_of r a b dt)
reply_to r (read (deep D old)) = listed (deep_of r D old)
reply_to r (read (same q)) = compared (same_of r q)
reply_to r (read (same_as q)) = compared (same_of q r)
reply_to r (read (head_loss layer dt)) = losses (head_loss_of r layer dt)
reply_to r (read (limiting rate dt)) = limited (limiting_of r rate dt)

-- the record that it leaves: a step the one that it returns, a reading the one that it was handed
unfoldable pub left : Record → Call → Record
left r (step rate dt) = (step_of r rate dt).«record»
left r (read q) = r

unfoldable pub left_by_all : Record → List Call → Record
left_by_all r [] = r
left_by_all r (c ∷ cs) = left_by_all (left r c) cs

-- what calls give back that are made one after another from the record r, each on the record that the last one left
unfoldable pub replies_to : Record → List Call → List Reply
replies_to r [] = []
replies_to r (c ∷ cs) = reply_to r c ∷ replies_to (left r c) cs
