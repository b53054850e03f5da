-- The record of a run and the ledger, call by call: laws only, nothing to believe.
--     Runs              a record carries the ledger's state after some accepted steps, and is the one that holds the scenario with its C and S, that state and
--                       the largest D that the well has had in them; start_whole: so is the record at the start; mark_is: its mark
--     runs_left         so does the record that a call leaves; runs_all: that a list of calls leaves
--     same_outcomes     the outcomes among their replies are the ledger's
use Rattle.std.proofs.Common.{◌≡◌, ℕ, ◌+◌, ◌/◌, ◌%◌, Bool, true, false, cond, eqb, List, [], ◌∷◌, ◌++◌, ℤ, pos, sym, refl, ap, ◌∙◌, subst, ap₂, append_assoc, append-nil, eqb-true}
use Rattle.laws.specs.Lists.{larger}
use Rattle.laws.specs.Ranges.{map-range_same}
use Rattle.limits.specs.Limits.{column_places, cell_places}
use Rattle.network.specs.Network.{Network, State, at_rest, loss_at, moved, refusal}
use Rattle.network.specs.Network as network
use Rattle.network.specs.Grid.{place, network_of}
use Rattle.network.proofs.laws.Preserve.{loss-at_rest, depth-at_rest}
use Rattle.site.specs.declared.Site.{Site}
use Rattle.record.specs.declared.Record.{Record}
use Rattle.record.specs.Record.{slots, is_cell, grid_of}
use Rattle.coefficients.specs.Coefficients.{scenario_grid, start_record}
use Rattle.step_rules.specs.Step.{holding, with_state}
use Rattle.start_laws.specs.Laws.{Carries, network_is}
use Rattle.start_laws.specs.Steps.{outcome_is, carries_on, record_on}
use Rattle.ledger.specs.Calls.{Reading, drawdown, budget, loss, flow, deep, same, same_as, head_loss, limiting, Call, step, read, Reply, reply_to, left, left_by_all, replies_to}
use Rattle.ledger.specs.Ledger.{after_call, after_calls, outcomes_from, Accepted, accepted_from, greatest}
use Rattle.ledger.specs.Told.{steps_after}
use Rattle.ledger.proofs.AcceptedSteps.{Steps, one_more, greatest_more}
use Rattle.ledger.specs.Promise.{outcomes_in}

carries_left : {scenario : Site} {s : State} {r : Record} → Carries scenario s r → (c : Call)
    → Carries scenario (after_call (network_of (scenario_grid scenario)) s c) (left r c)
unfolding after_call left
carries_left h (read q) = h
carries_left h (step rate dt) = carries_on h rate dt

-- a record of a run that has come to the ledger's state s by these accepted steps
pub record Runs (scenario : Site) (ts : List Accepted) (s : State) (r : Record) : Type 0 where
  pub carries : Carries scenario s r
  pub steps : Steps (network_of (scenario_grid scenario)) (at_rest (network_of (scenario_grid scenario))) ts s
  pub whole : r ≡ holding (start_record scenario) s (greatest (network_of (scenario_grid scenario)) ts)

pub mark_is : {scenario : Site} {ts : List Accepted} {s : State} {r : Record} → Runs scenario ts s r → r.mark ≡ greatest (network_of (scenario_grid scenario)) ts
mark_is h = ap (λ q. q.mark) h.whole

module _ (scenario : Site) where
  abbrev N : Network
  N = network_of (scenario_grid scenario)

  -- V of a layer and column at rest
  abbrev lost : ℕ → ℕ → ℤ
  lost i j = cond (is_cell scenario i j) (loss_at (at_rest N).losses (place (grid_of (start_record scenario)) i j)) (pos 0)

  none_lost : (i j : ℕ) → lost i j ≡ pos 0
  none_lost i j = by_test (is_cell scenario i j) (place (grid_of (start_record scenario)) i j)
    where
      by_test : (t : Bool) (p : ℕ) → cond t (loss_at (at_rest N).losses p) (pos 0) ≡ pos 0
      by_test true p = loss-at_rest N p
      by_test false p = refl

  pub start_whole : start_record scenario ≡ holding (start_record scenario) (at_rest N) (greatest N [])
  unfolding start_record slots greatest at_rest
  start_whole = rw (loss-at_rest N 0, depth-at_rest N 0, map-range_same (pos 0) (λ k. lost (k / column_places) (k % column_places + 1)) 0 cell_places (λ k. none_lost (k / column_places) (k % column_places + 1)))

  -- a record of a run with another state
  moved_whole : {ts : List Accepted} {s : State} {r : Record} → Runs scenario ts s r → (s' : State)
      → with_state r s' ≡ holding (start_record scenario) s' (larger (greatest N ts) (network.drawdown N s'.losses 0))
  unfolding with_state grid_of
  moved_whole h s' = rw (network_is h.carries, h.whole)

  runs_step : {ts : List Accepted} {s : State} {r : Record} → Runs scenario ts s r → (rate dt : ℕ)
      → Runs scenario (steps_after scenario ts s (step rate dt)) (after_call N s (step rate dt)) (left r (step rate dt))
  unfolding after_call left accepted_from
  runs_step {ts} {s} {r} h rate dt = record {
    carries = carries_left h.carries (step rate dt);
    steps = stepped (eqb (refusal N s rate dt) 0) (eqb-true (refusal N s rate dt) 0);
    whole = record_on h.carries rate dt ∙ whole (eqb (refusal N s rate dt) 0);
  }
    where
      more : List Accepted
      more = record { before = s; rate = rate; dt = dt } ∷ []

      stepped : (t : Bool) → (t ≡ true → refusal N s rate dt ≡ 0) → Steps N (at_rest N) (ts ++ cond t more []) (cond t (moved N s rate dt) s)
      stepped true e = one_more N rate dt h.steps (e refl)
      stepped false e = rw (append-nil ts) h.steps

      whole : (t : Bool) → cond t (with_state r (moved N s rate dt)) r ≡ holding (start_record scenario) (cond t (moved N s rate dt) s) (greatest N (ts ++ cond t more []))
      whole true = moved_whole h (moved N s rate dt) ∙ ap (holding (start_record scenario) (moved N s rate dt)) (greatest_more N rate dt s ts)
      whole false = rw (append-nil ts) h.whole

  pub runs_left : {ts : List Accepted} {s : State} {r : Record} → Runs scenario ts s r → (c : Call)
      → Runs scenario (steps_after scenario ts s c) (after_call N s c) (left r c)
  unfolding after_call left accepted_from
  runs_left h (step rate dt) = runs_step h rate dt
  runs_left {ts} h (read q) = rw (append-nil ts) h

  -- the accepted steps of a list of calls are those of the first and then those of the others
  accepted_first : (s : State) (c : Call) (cs : List Call) → accepted_from N s (c ∷ cs) ≡ accepted_from N s (c ∷ []) ++ accepted_from N (after_call N s c) cs
  unfolding accepted_from after_call
  accepted_first s (read q) cs = refl
  accepted_first s (step rate dt) cs = by_test (eqb (refusal N s rate dt) 0)
    where
      by_test : (t : Bool) → cond t (record { before = s; rate = rate; dt = dt } ∷ accepted_from N (moved N s rate dt) cs) (accepted_from N s cs)
          ≡ cond t (record { before = s; rate = rate; dt = dt } ∷ []) [] ++ accepted_from N (cond t (moved N s rate dt) s) cs
      by_test true = refl
      by_test false = refl

  pub runs_all : {ts : List Accepted} {s : State} {r : Record} (cs : List Call) → Runs scenario ts s r
      → Runs scenario (ts ++ accepted_from N s cs) (after_calls N s cs) (left_by_all r cs)
  unfolding after_calls left_by_all accepted_from
  runs_all {ts} [] h = rw (append-nil ts) h
  runs_all {ts} {s} {r} (c ∷ cs) h =
      subst (λ l. Runs scenario l (after_calls N (after_call N s c) cs) (left_by_all (left r c) cs))
      (append_assoc ts (accepted_from N s (c ∷ [])) (accepted_from N (after_call N s c) cs) ∙ ap (λ l. ts ++ l) (sym (accepted_first s c cs)))
      (runs_all {ts = ts ++ accepted_from N s (c ∷ [])} {s = after_call N s c} {r = left r c} cs (runs_left h c))

-- ---- outcomes
-- the reply to a reading holds no outcome of a step
no_outcome : (r : Record) (q : Reading) (replies : List Reply) → outcomes_in (reply_to r (read q) ∷ replies) ≡ outcomes_in replies
unfolding reply_to outcomes_in
no_outcome r (drawdown p) replies = refl
no_outcome r budget replies = refl
no_outcome r (loss bytes) replies = refl
no_outcome r (flow a b dt) replies = refl
no_outcome r (deep D old) replies = refl
no_outcome r (same q) replies = refl
no_outcome r (same_as q) replies = refl
no_outcome r (head_loss layer dt) replies = refl
no_outcome r (limiting rate dt) replies = refl

pub same_outcomes : {scenario : Site} {s : State} {r : Record} (cs : List Call) → Carries scenario s r
    → outcomes_in (replies_to r cs) ≡ outcomes_from (network_of (scenario_grid scenario)) s cs
unfolding outcomes_from replies_to reply_to left outcomes_in
same_outcomes [] h = refl
same_outcomes {scenario = scenario} {s = s} {r = r} (step rate dt ∷ cs) h =
    ap₂ ◌∷◌ (outcome_is h rate dt)
    (same_outcomes {scenario = scenario} {s = after_call (network_of (scenario_grid scenario)) s (step rate dt)} {r = left r (step rate dt)} cs (carries_left h (step rate dt)))
same_outcomes {scenario = scenario} {s = s} {r = r} (read q ∷ cs) h = no_outcome r q (replies_to r cs) ∙ same_outcomes {scenario = scenario} {s = s} {r = r} cs h
