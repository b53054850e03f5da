-- A step from a record that carries a scenario in a state: laws only, nothing to believe.
--     refusal_is     it is refused as the scenario's network in that state refuses it
--     outcome_is     so its outcome has that number
--     state_after     the state after it, where a refused step changes nothing
--     carries_on     the record that it gives carries the scenario in that state; record_on: that record whole
use Rattle.std.proofs.Common.{◌≡◌, ℕ, zero, suc, cond, eqb, length, sym, refl, ap, ◌∙◌, subst, ap₂, arith, eq-eqb, ne_eqb}
use Rattle.std.proofs.Math.ListN.{length-map}
use Rattle.refusals.specs.Refusals.{outcome_of}
use Rattle.laws.specs.Lists.{first, range}
use Rattle.laws.specs.Sums.{length-range}
use Rattle.network.specs.Network.{Network, State, loss_after, losses_after, moved, refusal}
use Rattle.network.specs.Grid.{place_count, network_of}
use Rattle.site.specs.declared.Site.{Site}
use Rattle.site.specs.Laws.{counts_hold_lem}
use Rattle.record.specs.declared.Record.{Record}
use Rattle.record.specs.Record.{grid_of, state_of, answer_of}
use Rattle.validity.specs.Laws.{valid_record}
use Rattle.coefficients.specs.Coefficients.{scenario_grid}
use Rattle.step_rules.specs.Step.{with_state, step_refusal, step_of}
use Rattle.step_rules.specs.Laws.{step_outcome, same_grid, same_state, step_valid}
use Rattle.start_laws.specs.Laws.{Carries, network_is}

abbrev pub state_after : Network → State → ℕ → ℕ → State
state_after N s rate dt = cond (eqb (refusal N s rate dt) 0) (moved N s rate dt) s

module _ {scenario : Site} {s : State} {r : Record} (h : Carries scenario s r) (rate dt : ℕ) where
  abbrev N : Network
  N = network_of (scenario_grid scenario)

  abbrev next : State
  next = moved (network_of (grid_of r)) (state_of r) rate dt

  pub refusal_is : step_refusal r rate dt ≡ refusal N s rate dt
  unfolding step_refusal refusal first
  refusal_is = rw (h.valid, network_is h, h.state)

  pub outcome_is : (step_of r rate dt).outcome ≡ outcome_of (refusal N s rate dt)
  outcome_is = step_outcome r rate dt ∙ ap outcome_of refusal_is

  -- a step that is taken
  carries_moved : refusal N s rate dt ≡ 0 → Carries scenario (moved N s rate dt) (with_state r next)
  unfolding grid_of with_state network_of moved losses_after
  carries_moved e = record {
    valid = step_valid r rate dt h.valid (refusal_is ∙ e);
    site = h.site;
    grid = same_grid r next ∙ h.grid;
    state = same_state r next (counts_hold_lem r.site (valid_record r h.valid).counts) listed ∙ ap₂ (λ N s. moved N s rate dt) (network_is h) h.state;
  }
    where
      listed : length next.losses ≡ place_count (grid_of r)
      listed = length-map (range 0 (place_count (grid_of r))) (loss_after (network_of (grid_of r)) (state_of r).losses rate dt) ∙ length-range 0 (place_count (grid_of r))

  pub carries_on : Carries scenario (state_after N s rate dt) (step_of r rate dt).«record»
  unfolding step_of answer_of
  carries_on = subst After (sym refusal_is) (by_number (refusal N s rate dt) refl)
    where
      After : ℕ → Type 0
      After n = Carries scenario (state_after N s rate dt) (answer_of n r (with_state r next)).«record»

      by_number : (n : ℕ) → refusal N s rate dt ≡ n → After n
      by_number zero e = rw (eq-eqb (refusal N s rate dt) 0 e) (carries_moved e)
      by_number (suc n) e = rw (ne_eqb (refusal N s rate dt) 0 (λ z. omega arith)) h

  -- and it is the one before with that state, where the step is taken
  pub record_on : (step_of r rate dt).«record» ≡ cond (eqb (refusal N s rate dt) 0) (with_state r (moved N s rate dt)) r
  unfolding step_of answer_of
  record_on = subst Given (sym refusal_is) (by_number (refusal N s rate dt) refl)
    where
      Given : ℕ → Type 0
      Given n = (answer_of n r (with_state r next)).«record» ≡ cond (eqb (refusal N s rate dt) 0) (with_state r (moved N s rate dt)) r

      by_number : (n : ℕ) → refusal N s rate dt ≡ n → Given n
      by_number zero e = rw (eq-eqb (refusal N s rate dt) 0 e, network_is h, h.state)
      by_number (suc n) e = rw (ne_eqb (refusal N s rate dt) 0 (λ z. omega arith))
