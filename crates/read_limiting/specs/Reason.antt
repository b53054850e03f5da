-- The true reason (document 02, N12): what holds of the answer to a step of dt at a rate on a record, in terms of what `step` answers and of the tests that it
-- judges by.
-- Units: D µm; lengths of steps µs; rates ml/s.
use Rattle.std.specs.Prelude.{◌≡◌, Bool, true, false, ◌⊎◌, ℕ, suc, ◌*◌, ◌^◌, ◌<◌, leb, ℤ, pos, ◌≤ℤ◌, ◌<ℤ◌, Result, Ok, Err}
use Rattle.refusals.specs.Refusals.{outcome_of, refusal_number}
use Rattle.refusals.specs.declared.Refusal.{Refusal}
use Rattle.network.specs.Network.{Network, storage_at, drawdown, losses_after, conductance_sum, unstable}
use Rattle.network.specs.Grid.{Grid, network_of}
use Rattle.record.specs.declared.Record.{Record}
use Rattle.record.specs.Record.{grid_of, state_of}
use Rattle.step_rules.specs.Step.{step_of}
use Rattle.readings.specs.declared.Place.{Place}
use Rattle.readings.specs.declared.Place.TheVariants.{Well, Cell}
use Rattle.readings.specs.Readings.{is_named, number_of}
use Rattle.read_limiting.specs.declared.Limiting.{Limiting}
use Rattle.read_limiting.specs.Limiting.{limiting_of}

-- the refusal of which an answer gives the place, or that of the record, or 0 for nothing of this kind
unfoldable pub number_in : Result Limiting Refusal → ℕ
number_in (Ok (Limiting.TooLong p n)) = 8
number_in (Ok (Limiting.PastIntake p)) = 10
number_in (Ok (Limiting.PastBottom p)) = 11
number_in (Ok Limiting.Nothing) = 0
number_in (Err k) = refusal_number k

module _ (r : Record) (rate dt : ℕ) where
  abbrev G : Grid
  G = grid_of r

  abbrev N : Network
  N = network_of G

  -- D of a place after the step worked
  abbrev pub depth_after : Place → ℤ
  depth_after p = drawdown N (losses_after N (state_of r).losses rate dt) (number_of G p)

  -- 8 at one place, for a step of n
  abbrev pub bears : Place → ℕ → Bool
  bears p n = leb (n * conductance_sum N (number_of G p)) (10 ^ 6 * storage_at N (number_of G p))

  -- 8 with the place p and the length n
  pub record OfLength (p : Place) (n : ℕ) : Type 0 where
    pub named : is_named G p ≡ true
    -- that length passes 8 on this record and one µs more does not, in the test that `step` judges 8 by, also where n is 0
    pub passes : unstable N n ≡ false
    pub fails : unstable N (suc n) ≡ true
    -- so `step` refuses the longer one with 8, and never the given one
    pub allowed : (step_of r rate n).outcome ≡ outcome_of 8 → ⊥
    pub refused : (step_of r rate (suc n)).outcome ≡ outcome_of 8
    -- the place alone bears that length, and already forbids one µs more
    pub bearing : bears p n ≡ true
    pub alone : bears p (suc n) ≡ false
    -- it is the first that does: each place that comes before it, the well first, then by layer and column, bears one µs more
    pub first : (q : Place) → is_named G q ≡ true → number_of G q < number_of G p → bears q (suc n) ≡ true

  -- 11 with the place p
  pub record OfBottom (p : Place) : Type 0 where
    pub named : is_named G p ≡ true
    pub column : ℕ
    pub cell : p ≡ Cell 1 column
    -- its D after the step is above 1000×b_1
    pub past : pos (1000 * N.thickness) <ℤ depth_after p
    -- no cell of layer 1 is deeper, and each in a lower column is less deep
    pub deepest : (j : ℕ) → is_named G (Cell 1 j) ≡ true → depth_after (Cell 1 j) ≤ℤ depth_after p
    pub first : (j : ℕ) → is_named G (Cell 1 j) ≡ true → j < column → depth_after (Cell 1 j) <ℤ depth_after p

  -- nothing of this kind: `step` takes the step, or refuses it with 7 or 9
  abbrev pub OfNothing : Type 0
  OfNothing = ((step_of r rate dt).outcome ≡ outcome_of 0) ⊎ (((step_of r rate dt).outcome ≡ outcome_of 7) ⊎ ((step_of r rate dt).outcome ≡ outcome_of 9))

  -- what the answer says
  unfoldable pub Says : Result Limiting Refusal → Type 0
  Says (Ok (Limiting.TooLong p n)) = OfLength p n
  -- the well's D after the step is above 1000×p
  Says (Ok (Limiting.PastIntake p)) = (p ≡ Well) × (pos (1000 * N.intake) <ℤ depth_after p)
  Says (Ok (Limiting.PastBottom p)) = OfBottom p
  Says (Ok Limiting.Nothing) = OfNothing
  Says (Err k) = k ≡ Refusal.Record

  -- an answer of the refusal n is given exactly when `step` answers n
  abbrev pub Agrees : ℕ → Type 0
  Agrees n =
      (number_in (limiting_of r rate dt) ≡ n → (step_of r rate dt).outcome ≡ outcome_of n)
      × ((step_of r rate dt).outcome ≡ outcome_of n → number_in (limiting_of r rate dt) ≡ n)

  pub record Reason : Type 0 where
    pub numbers : Agrees 8 × Agrees 10 × Agrees 11 × Agrees 14
    pub says : Says (limiting_of r rate dt)
    -- and of no other answer with its number could this be said
    pub only : (a : Result Limiting Refusal) → number_in a ≡ number_in (limiting_of r rate dt) → Says a → a ≡ limiting_of r rate dt
