-- The same calls are equal calls, and the records after each call: laws only, nothing to believe.
--     same_calls     the same list of calls is an equal list; same_itself: any list of calls is the same as itself
--     after_each     the records after each call are those that the calls up to it leave
use Rattle.std.proofs.Common.{◌≡◌, ℕ, zero, suc, ◌<◌, List, [], ◌∷◌, length, get_or, take, refl, ap, ap₂, arith}
use mathlib.Core.List.{get_last_d}
use Rattle.record.specs.declared.Record.{Record}
use Rattle.ledger.specs.Calls.{drawdown, budget, loss, flow, deep, same, same_as, head_loss, limiting, Call, step, read, left, left_by_all}
use Rattle.ledger_same.specs.SameCalls.{SameCall, same_step, same_drawdown, same_budget, same_loss, same_flow, same_deep, same_same, same_same_as, same_head_loss, same_limiting, SameCalls, none, further, records_after, AfterEach}

same_call : {c d : Call} → SameCall c d → c ≡ d
same_call same_step = refl
same_call same_drawdown = refl
same_call same_budget = refl
same_call same_loss = refl
same_call same_flow = refl
same_call same_deep = refl
same_call same_same = refl
same_call same_same_as = refl
same_call same_head_loss = refl
same_call same_limiting = refl

pub same_calls : {cs ds : List Call} → SameCalls cs ds → cs ≡ ds
same_calls none = refl
same_calls (further c cs) = ap₂ ◌∷◌ (same_call c) (same_calls cs)

one_itself : (c : Call) → SameCall c c
one_itself (step rate dt) = same_step
one_itself (read (drawdown p)) = same_drawdown
one_itself (read budget) = same_budget
one_itself (read (loss bytes)) = same_loss
one_itself (read (flow a b dt)) = same_flow
one_itself (read (deep D old)) = same_deep
one_itself (read (same q)) = same_same
one_itself (read (same_as q)) = same_same_as
one_itself (read (head_loss layer dt)) = same_head_loss
one_itself (read (limiting rate dt)) = same_limiting

pub same_itself : (cs : List Call) → SameCalls cs cs
same_itself [] = none
same_itself (c ∷ cs) = further (one_itself c) (same_itself cs)

-- ---- the records after each call

count_is : (r : Record) (cs : List Call) → length (records_after r cs) ≡ length cs
unfolding records_after
count_is r [] = refl
count_is r (c ∷ cs) = ap suc (count_is (left r c) cs)

each_is : (d r : Record) (cs : List Call) (k : ℕ) → k < length cs → get_or (records_after r cs) k d ≡ left_by_all r (take (suc k) cs)
unfolding records_after left_by_all
each_is d r [] k h = absurd (omega (arith, h))
each_is d r (c ∷ cs) zero h = refl
each_is d r (c ∷ cs) (suc k) h = each_is d (left r c) cs k (omega (arith, h))

last_is : (r : Record) (cs : List Call) → get_last_d (records_after r cs) r ≡ left_by_all r cs
unfolding records_after left_by_all get_last_d
last_is r [] = refl
last_is r (c ∷ []) = refl
last_is r (c ∷ d ∷ cs) = last_is (left r c) (d ∷ cs)

pub after_each : (r : Record) (cs : List Call) → AfterEach r cs (records_after r cs)
after_each r cs = record { count = count_is r cs; each = each_is r r cs; last = last_is r cs }
