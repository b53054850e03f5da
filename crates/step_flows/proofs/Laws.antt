-- What the leaves work out: C in use in layer 1 and below it and the water of a face, as whole quotients of words; and the rows of the water downward.
use Rattle.std.proofs.Common.{◌≡◌, sym, ap, ◌∙◌, List, ℕ, ◌+◌, ◌*◌, ◌-◌, ◌/◌, ◌^◌, ◌≤◌, ◌<◌, mul_assoc, mul-le-mul, arith, lt-ltb, le-ltb, ℤ, pos, neg_ℤ, nat_abs}
use Rattle.laws.specs.Fill.{fill, fill_ext}
use Rattle.laws.specs.Integer.{diff_le, abs_up_to}
use Rattle.laws.specs.Signed.{abs_neg}
use Rattle.laws.specs.Span.{span, span-first, span_ext, spans, spans_none, spans_more}
use Rattle.limits.specs.Limits.{total_limit, drawdown_limit, length_limit}
use Rattle.geometry.specs.Geometry.{from_table}
use Rattle.network.specs.Network.{in_use_by, saturated, at_table, water}
use Rattle.network.proofs.laws.Water.{reduced, size, runs_ahead, runs_back}
use Rattle.step_flows.specs.Flows.{reduced_c, table_c, flow_at, table_flow_at, down_flow_at}

-- ---- C in use in layer 1
module _ (b₁ c here next : ℕ) (h : here ≤ 1000 * b₁) (k : next ≤ 1000 * b₁) where
  pub reduced_is : reduced_c b₁ c (pos here) (pos next) ≡ pos (c * (1000 * b₁ - here + (1000 * b₁ - next)) / (2000 * b₁))
  unfolding reduced_c in_use_by saturated
  reduced_is = rw (diff_le (1000 * b₁) here h, diff_le (1000 * b₁) next k)

  at_most : nat_abs (reduced_c b₁ c (pos here) (pos next)) ≤ c
  unfolding reduced_c
  at_most = abs_up_to (reduced b₁ c here next h k)

  pub reduced_le : c * (1000 * b₁ - here + (1000 * b₁ - next)) / (2000 * b₁) ≤ c
  reduced_le = rw reduced_is at at_most

-- ---- C in use between layers 1 and 2
module _ (a b₁ kv₁ b₂ kv₂ here : ℕ) (h : here ≤ 1000 * b₁) where
  pub table_is : table_c a b₁ kv₁ b₂ kv₂ (pos here) ≡ pos (from_table a kv₁ b₂ kv₂ (1000 * b₁ - here))
  unfolding table_c in_use_by saturated at_table
  table_is = rw (diff_le (1000 * b₁) here h)

-- ---- the rows of the water to the layer below

-- by the water table in the first slots, by the kept C in the others
pub record Joined (stored : ℕ) (table kept both : ℕ → ℤ) : Type 0 where
  pub first : (k : ℕ) → k < stored → table k ≡ both k
  pub rest : (k : ℕ) → stored ≤ k → kept k ≡ both k

pub down_joined : (b₁ kv₁ b₂ kv₂ : ℕ) (areas cs ds : List ℕ) (stored dt : ℕ)
    → Joined stored (table_flow_at b₁ kv₁ b₂ kv₂ areas ds dt) (flow_at cs ds 50 dt) (down_flow_at b₁ kv₁ b₂ kv₂ areas cs ds stored dt)
unfolding down_flow_at
down_joined b₁ kv₁ b₂ kv₂ areas cs ds stored dt = record { first = λ k h. rw (lt-ltb k stored h); rest = λ k h. rw (le-ltb k stored h) }

module _ {stored : ℕ} {table kept both : ℕ → ℤ} (j : Joined stored table kept both) (l : List ℤ) where
  pub first-row : {l' : List ℤ} → l' ≡ fill stored table l → l' ≡ spans stored 1 both l
  first-row e = spans_more both l stored 0 (sym (spans_none both l stored)) (e ∙ fill_ext table both l stored j.first ∙ sym (span-first both l stored))

  pub next_row : {l' l'' : List ℤ} (i : ℕ) → 1 ≤ i → stored ≤ 50 → l' ≡ spans stored i both l → l'' ≡ span (50 * i) stored kept l' → l'' ≡ spans stored (i + 1) both l
  next_row {l'} i h few e q = spans_more both l stored i e (q ∙ span_ext kept both l' (50 * i) stored (λ k u. j.rest (50 * i + k) (omega arith)))

-- ---- the water of a face
-- D×Δt fits a word
pub over_time : {d dt : ℕ} → d ≤ drawdown_limit → dt ≤ length_limit → d * dt ≤ 10 ^ 18
over_time h k = mul-le-mul h k

module _ (c a b dt : ℕ) where
  pub ahead_is : a ≤ b → water (pos c) (pos a) (pos b) dt ≡ pos (c * ((b - a) * dt) / 10 ^ 12)
  unfolding size
  ahead_is h = runs_ahead c a b dt h ∙ ap (λ n. pos (n / 10 ^ 12)) (mul_assoc c (b - a) dt)

  pub back_is : b ≤ a → water (pos c) (pos a) (pos b) dt ≡ neg_ℤ (pos (c * ((a - b) * dt) / 10 ^ 12))
  unfolding size
  back_is h = runs_back c a b dt h ∙ ap (λ n. neg_ℤ (pos (n / 10 ^ 12))) (mul_assoc c (a - b) dt)

  module _ (small : nat_abs (water (pos c) (pos a) (pos b) dt) ≤ total_limit) where
    pub ahead_small : a ≤ b → c * ((b - a) * dt) / 10 ^ 12 ≤ total_limit
    ahead_small h = rw (ahead_is h) at small

    pub back_small : b ≤ a → c * ((a - b) * dt) / 10 ^ 12 ≤ total_limit
    back_small h = rw (back_is h, abs_neg (pos (c * ((a - b) * dt) / 10 ^ 12))) at small
