-- Demand 3 over every run.
use Rattle.std.proofs.Common.{◌≡◌, ℕ, List, [], pos, ◌-ℤ◌, Ok, ap, ◌∙◌}
use lib.IntN.{+ℤ_idl}
use Rattle.laws.specs.Lists.{ifℤ}
use Rattle.network.specs.Network.{at_rest, loss_in}
use Rattle.network.specs.Grid.{network_of}
use Rattle.network.proofs.laws.Bounds.{depth_natural}
use Rattle.network.proofs.laws.Preserve.{loss_in-at_rest}
use Rattle.record.specs.declared.Record.{Record}
use Rattle.record.specs.Record.{grid_of, state_of}
use Rattle.readings.specs.Readings.{number_of, set_of}
use Rattle.readings.specs.Laws.{named-place}
use Rattle.validity.specs.Laws.{Valid, valid_record, valid_proper}
use Rattle.scenario.specs.Scenario.{scenario_of, start_of}
use Rattle.start_laws.specs.Laws.{network_is, begun, begun_record}
use Rattle.ledger.specs.Calls.{Call, left_by_all, replies_to}
use Rattle.ledger.specs.Ledger.{grid_from, network_from, ledger_of, accepted_of, pumped_by, in_set, net_into}
use Rattle.ledger.specs.Promise.{Holds}
use Rattle.ledger.proofs.AcceptedSteps.{none, gained, conserved_over}
use Rattle.ledger.proofs.Readings.{same_budget, same_loss, same_depth, set-inside, set-loss}
use Rattle.ledger.proofs.Records.{Runs, mark_is, start_whole, runs_all, same_outcomes}
use Rattle.ledger.proofs.Told.{told_all}
use Rattle.ledger.proofs.ledger.Goals as goal

module _ (text : List ℕ) (r : Record) (h : Runs (scenario_of text) [] (at_rest (network_from text)) r) (calls : List Call) where
  end : Runs (scenario_of text) (accepted_of text calls) (ledger_of text calls) (left_by_all r calls)
  unfolding ledger_of accepted_of
  end = runs_all (scenario_of text) calls h

  known : Valid (left_by_all r calls)
  known = valid_record (left_by_all r calls) end.carries.valid

  same_network : network_of (grid_of (left_by_all r calls)) ≡ network_from text
  same_network = network_is end.carries

  -- the storage loss of a set
  set_balance : (bytes : List ℕ) → loss_in (network_from text) (set_of bytes) (ledger_of text calls).losses
      ≡ ifℤ (in_set (network_from text) bytes 0) (pos (pumped_by (accepted_of text calls))) -ℤ net_into (network_from text) (in_set (network_from text) bytes) (accepted_of text calls)
  unfolding gained
  set_balance bytes =
      set-loss (network_from text) bytes (ledger_of text calls).losses
      ∙ conserved_over (network_from text) (in_set (network_from text) bytes) (set-inside (network_from text) bytes) end.steps
      ∙ rw (loss_in-at_rest (network_from text) (in_set (network_from text) bytes)) (+ℤ_idl _)

  holds : Holds text calls (replies_to r calls) (left_by_all r calls)
  holds = record {
    told = told_all calls h;
    outcomes = same_outcomes calls h.carries;
    state = end.carries.state;
    accepted = end.carries.valid;
    mark = mark_is end;
    budget = same_budget end.carries (mark_is end);
    loss = λ bytes e. same_loss end.carries bytes e ∙ ap Ok (set_balance bytes);
    depth = same_depth end.carries;
    natural = λ p e. rw (same_network, end.carries.state) at (depth_natural _ (valid_proper _ known) (state_of (left_by_all r calls)) known.kept (number_of (grid_from text) p));
    within = λ p e. rw (same_network, end.carries.state) at (known.marked.depths (number_of (grid_from text) p) (rw same_network (named-place (grid_from text) p e)));
  }

at_start : (text : List ℕ) → (start_of text).outcome ≡ Ok tt → Runs (scenario_of text) [] (at_rest (network_from text)) (start_of text).«record»
at_start text taken = record { carries = begun text taken; steps = none; whole = begun_record text taken ∙ start_whole (scenario_of text) }

pub returns : goal.returns
returns c text taken calls = holds text (start_of text).«record» (at_start text taken) calls
