-- Levels after the pump stops, from any record that 14 does not refuse.
use Rattle.std.proofs.Common.{◌≡◌, ℕ, true, List, pos, ◌-ℤ◌, neg_ℤ, sym, refl, ap, ◌∙◌}
use Rattle.laws.specs.Lists.{every}
use Rattle.record.specs.declared.Record.{Record}
use Rattle.record.specs.Record.{state_of}
use Rattle.validity.specs.Validity.{valid}
use Rattle.readings.specs.Readings.{totals_in}
use Rattle.ledger.specs.Calls.{Reading, Call, step, read, left_by_all}
use Rattle.ledger_recovery.specs.Recovery.{is_at_rest, Reads, lost, Recovers}
use Rattle.ledger_recovery.proofs.Resting.{reads, lost_is, no_intake, turned, rest_each, rest_all}
use Rattle.ledger_recovery.proofs.recovery.Goals as goal

module _ (r : Record) (ok : valid r ≡ true) (calls : List Call) (rest : every is_at_rest calls ≡ true) where
  end : (valid (left_by_all r calls) ≡ true) × ((state_of (left_by_all r calls)).pumped ≡ (state_of r).pumped) × ((left_by_all r calls).mark ≡ r.mark)
  end = rest_all calls r ok rest

  abbrev begun : Reads r
  begun = reads r ok

  abbrev ended : Reads (left_by_all r calls)
  ended = reads (left_by_all r calls) end.0

  gained : lost ended.totals -ℤ lost begun.totals ≡ neg_ℤ (ended.totals.inflow -ℤ begun.totals.inflow)
  unfolding reads totals_in
  gained = turned (lost begun.totals) (lost ended.totals) begun.totals.inflow ended.totals.inflow
      (lost_is r ok ∙ ap pos (sym end.1) ∙ sym (lost_is (left_by_all r calls) end.0))

  kept : ended.totals.mark ≡ begun.totals.mark
  unfolding reads totals_in
  kept = end.2

  recovers : Recovers r calls
  recovers = record {
    each = rest_each calls r ok rest;
    begun = begun;
    ended = ended;
    stored = gained;
    mark = kept;
    intake = no_intake (left_by_all r calls) end.0;
  }

-- what may be in the list
step_rests : (dt : ℕ) → is_at_rest (step 0 dt) ≡ true
unfolding is_at_rest
step_rests dt = refl

reading_rests : (q : Reading) → is_at_rest (read q) ≡ true
unfolding is_at_rest
reading_rests q = refl

pub returns : goal.returns
returns c = (recovers, step_rests, reading_rests)
