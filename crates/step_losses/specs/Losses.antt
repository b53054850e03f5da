-- Losses after a step by slot: what stands in slot k, from the losses before it and the water of the faces.
-- Slots are the record's, units the network's.
use Rattle.std.specs.Prelude.{cond, List, [], ◌∷◌, map, ℕ, ◌+◌, ◌*◌, ◌-◌, ◌/◌, ◌%◌, ◌≤◌, ◌<◌, ℤ, pos, neg_ℤ, nat_abs, ◌+ℤ◌, ◌-ℤ◌, eqb, leb, get_or}
use Rattle.laws.specs.Lists.{ifℤ, sumℤ, range}
use Rattle.laws.specs.Sums.{Room}
use Rattle.limits.specs.Limits.{rate_limit, length_limit, total_limit}
use Rattle.step_flows.specs.Flows.{flow_at}
use Rattle.step_losses.specs.declared.Swept.{Swept}

-- the water of a step's faces
pub record Water : Type 0 where
  pub right : ℕ → ℤ  -- from slot k to the next column
  pub lower : ℕ → ℤ  -- from slot k to the layer below, where there is one
  pub screen : ℕ → ℤ  -- from the well to column 1 of layer i

-- as arrays of C in use, D and the water to the layer below give it
abbrev pub water_in : List ℕ → List ℕ → List ℤ → ℕ → (ℕ → ℤ) → Water
water_in conductances depths down dt screen = record { right = flow_at conductances depths 1 dt; lower = λ k. get_or down k (pos 0); screen = screen }

module _ (w : Water) where
  -- to slot k from the column before it, which for column 1 is the well
  unfoldable pub left : ℕ → ℤ
  left k = cond (eqb (k % 50) 0) (w.screen (k / 50)) (w.right (k - 1))

  -- to slot k from the layer above, where there is one
  unfoldable pub upper : ℕ → ℤ
  upper k = ifℤ (leb 50 k) (w.lower (k - 50))

  -- V of slot k after the step: water leaving a place raises its V
  unfoldable pub changed : List ℤ → ℕ → ℤ
  changed losses k = get_or losses k (pos 0) +ℤ w.right k +ℤ w.lower k -ℤ left k -ℤ upper k

  -- the sums on the way to it stay between 0 and the largest total, and so does the water to the right
  pub record Within (losses : List ℤ) (k : ℕ) : Type 0 where
    pub water : nat_abs (w.right k) ≤ total_limit
    pub room : Room total_limit (get_or losses k (pos 0)) (w.right k ∷ w.lower k ∷ neg_ℤ (left k) ∷ neg_ℤ (upper k) ∷ [])

  -- the water to the last column, `stored` slots from column 1, is that of the slot before it, and joins the inflow total
  abbrev pub inflow_from : ℕ → ℕ → ℤ
  inflow_from stored i = neg_ℤ (w.right (50 * i + (stored - 1)))

  -- V of the well, which water leaves for the layers, and the inflow total
  unfoldable pub swept_of : ℕ → ℕ → ℤ → ℤ → Swept
  swept_of layers stored loss inflow = record { well_loss = loss +ℤ sumℤ (range 0 layers) w.screen; inflow = inflow +ℤ sumℤ (range 0 layers) (inflow_from stored) }

-- the most that V of the well comes to in a step: a total, and what the step pumps
abbrev pub well_limit : ℕ
well_limit = total_limit + rate_limit * length_limit

-- ---- what is asked of the water: room for every sum
pub record Sweepable (w : Water) (losses : List ℤ) (layers stored : ℕ) (loss inflow : ℤ) : Type 0 where
  pub cells : (k : ℕ) → k < 50 * layers → k % 50 < stored → Within w losses k
  pub screens : (i : ℕ) → i < layers → nat_abs (w.screen i) ≤ total_limit
  pub well : Room well_limit loss (map w.screen (range 0 layers))
  pub last : Room total_limit inflow (map (inflow_from w stored) (range 0 layers))
