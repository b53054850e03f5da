-- The replies of a run are what the ledger has for its calls: laws only, nothing to believe.
--     tells        the reply to one call on a record of a run
--     told_all     the replies to a list of calls from such a record
use Rattle.std.proofs.Common.{◌≡◌, List, [], ◌∷◌, sym, refl, ap, ◌∙◌}
use Rattle.network.specs.Network.{State}
use Rattle.network.specs.Grid.{network_of}
use Rattle.site.specs.declared.Site.{Site}
use Rattle.record.specs.declared.Record.{Record}
use Rattle.record.specs.Record.{state_of}
use Rattle.coefficients.specs.Coefficients.{scenario_grid}
use Rattle.step_rules.specs.Step.{step_of}
use Rattle.start_laws.specs.Steps.{outcome_is}
use Rattle.ledger.specs.Calls.{drawdown, budget, loss, flow, deep, same, same_as, head_loss, limiting, Call, step, read, stepped, amount, balance, listed, compared, losses, limited, reply_to, left, replies_to}
use Rattle.ledger.specs.Ledger.{Accepted, after_call}
use Rattle.ledger.specs.Told.{steps_after, record_left, Tells, Told, nothing, further}
use Rattle.ledger.proofs.Readings.{told_depth, told_budget, told_loss, told_flow, told_deep, told_same, told_same_as, told_head_loss, told_limiting}
use Rattle.ledger.proofs.Records.{Runs, mark_is, runs_left}

tells : {scenario : Site} {steps : List Accepted} {s : State} {r : Record} → Runs scenario steps s r → (c : Call) → Tells scenario steps s c (reply_to r c)
unfolding reply_to Tells left
tells {scenario} {steps} {s} {r} h (step rate dt) =
    let after = runs_left _ h (step rate dt) in
    let left_is : (step_of r rate dt).«record» ≡ record_left scenario steps s (step rate dt) = after.whole in
    (λ i. stepped (record { outcome = outcome_is h.carries rate dt i; «record» = left_is i }), ap state_of (sym left_is) ∙ after.carries.state, refl)
tells h (read (drawdown p)) = ap amount (told_depth h.carries p)
tells h (read budget) = ap balance (told_budget h.carries (mark_is h))
tells h (read (loss bytes)) = ap amount (told_loss h.carries bytes)
tells h (read (flow a b dt)) = ap amount (told_flow h.carries a b dt)
tells h (read (deep D old)) = ap listed (told_deep h.carries D old)
tells h (read (same q)) = ap compared (told_same h.carries h.whole q)
tells h (read (same_as q)) = ap compared (told_same_as h.carries h.whole q)
tells h (read (head_loss layer dt)) = ap losses (told_head_loss h.carries layer dt)
tells h (read (limiting rate dt)) = ap limited (told_limiting h.carries rate dt)

pub told_all : {scenario : Site} {steps : List Accepted} {s : State} {r : Record} (cs : List Call) → Runs scenario steps s r → Told scenario steps s cs (replies_to r cs)
unfolding replies_to
told_all {scenario = scenario} {steps = steps} {s = s} {r = r} [] h = nothing
told_all {scenario = scenario} {steps = steps} {s = s} {r = r} (c ∷ cs) h =
    further (tells h c)
    (told_all {steps = steps_after scenario steps s c} {s = after_call (network_of (scenario_grid scenario)) s c} {r = left r c} cs (runs_left _ h c))
