-- The same list of calls, made on one record and on another (document 02, N10): with equal arguments beside the record, each on the record that the last
-- one left.
use Rattle.std.specs.Prelude.{◌≡◌, ℕ, suc, ◌<◌, List, [], ◌∷◌, length, get_or, take}
use mathlib.Core.List.{get_last_d}
use Rattle.record.specs.declared.Record.{Record}
use Rattle.readings.specs.declared.Place.{Place}
use Rattle.ledger.specs.Calls.{drawdown, budget, loss, flow, deep, same, same_as, head_loss, limiting, Call, step, read, left, left_by_all}

-- two calls of one kind with equal arguments: numbers, places, the bytes of a set, a lent list as it is before the call, another record
pub data SameCall : Call → Call → Type 0 where
  same_step : {rate dt : ℕ} → SameCall (step rate dt) (step rate dt)
  same_drawdown : {p : Place} → SameCall (read (drawdown p)) (read (drawdown p))
  same_budget : SameCall (read budget) (read budget)
  same_loss : {bytes : List ℕ} → SameCall (read (loss bytes)) (read (loss bytes))
  same_flow : {a b : Place} {dt : ℕ} → SameCall (read (flow a b dt)) (read (flow a b dt))
  same_deep : {D : ℕ} {old : List ℕ} → SameCall (read (deep D old)) (read (deep D old))
  same_same : {q : Record} → SameCall (read (same q)) (read (same q))
  same_same_as : {q : Record} → SameCall (read (same_as q)) (read (same_as q))
  same_head_loss : {layer dt : ℕ} → SameCall (read (head_loss layer dt)) (read (head_loss layer dt))
  same_limiting : {rate dt : ℕ} → SameCall (read (limiting rate dt)) (read (limiting rate dt))

pub data SameCalls : List Call → List Call → Type 0 where
  none : SameCalls [] []
  further : {c d : Call} {cs ds : List Call} → SameCall c d → SameCalls cs ds → SameCalls (c ∷ cs) (d ∷ ds)

-- the record after each call of a list, from the record r on
unfoldable pub records_after : Record → List Call → List Record
records_after r [] = []
records_after r (c ∷ cs) = left r c ∷ records_after (left r c) cs

-- what that list has to be, by what demand 3 says that calls leave (`left_by_all`)
pub record AfterEach (r : Record) (calls : List Call) (records : List Record) : Type 0 where
  -- as many records as calls
  pub count : length records ≡ length calls
  -- number k, counted from 0, is what the calls up to number k leave
  pub each : (k : ℕ) → k < length calls → get_or records k r ≡ left_by_all r (take (suc k) calls)
  -- and so the last is what all of them leave; without a call that is r
  pub last : get_last_d records r ≡ left_by_all r calls
