-- What the parts of a step made of lent arrays that are workable: the array of each part holds, slot by slot, what the step's definition says,
-- and what the arrays worked in are asked to hold they hold again.
use Rattle.std.proofs.Common.{◌≡◌, refl, sym, ap, ap₂, subst, ◌∙◌, inl, inr, ⊎_elim, List, map, ℕ, zero, suc, ◌+◌, ◌*◌, ◌-◌, ◌%◌, ◌^◌, ◌≤◌, ◌<◌, zero-le, mul-le-mul, zero-mul, arith, ℤ, pos, neg_ℤ, nat_abs, ◌+ℤ◌, ◌*ℤ◌, ◌≤ℤ◌, length, get_or, replicate, ext_get_or, lt-ltb, le-ltb}
use mathlib.Core.Path.{fun_ext}
use native.Mathlib.Decide.{dec_lt}
use native.Mathlib.Nat.{zero-div}
use lib.IntN.{+ℤ_assoc, +ℤ_comm}
use lib.Signed.{shr_z}
use lib.ListN.{length-replicate, length-map, get_or-map, get_or-eq_default}
use Rattle.laws.specs.Fill.{fill, length-fill, get_or-fill, get_or-fill_rest, fill_ext, fill-every, get_or_same}
use Rattle.laws.specs.Integer.{≤ℤ_pos, pos_≤ℤ, natural}
use Rattle.laws.specs.Signed.{room_up}
use Rattle.laws.specs.Span.{span, spans, span_ext, spans-fill, fill_alike}
use Rattle.laws.specs.Lists.{ifℤ, sumℤ, range}
use Rattle.laws.specs.Sums.{Room}
use Rattle.limits.specs.Limits.{total_limit, drawdown_limit}
use Rattle.step_drawdowns.specs.Drawdowns.{depth_of, depth_at}
use Rattle.step_flows.specs.Flows.{reduced_at, flow_at, table_flow_at, down_flow_at, screen_at}
use Rattle.step_losses.specs.Losses.{Water, changed, inflow_from, swept_of, Sweepable}
use Rattle.step_losses.specs.declared.Swept.{Swept}
use Rattle.step_sweep.specs.Worked.{Lent, slot_count, depth, well_depth, conductance, lower_conductance, right, lower, well_flow, water_of, to_last, slot_after, well_after, inflow_after, worked_of, losses_of, Workable, Unused, Scratch}
use Rattle.step_sweep.specs.Laws.{reduced_none}

-- ---- zeros filled from the front
module _ (f : ℕ → ℤ) (n m k : ℕ) where
  filled : k < n → k < m → get_or (fill n f (replicate m (pos 0))) k (pos 0) ≡ f k
  filled h g = get_or-fill f (replicate m (pos 0)) n k (pos 0) h (rw (length-replicate m (pos 0)) g)

  unfilled : n ≤ k → get_or (fill n f (replicate m (pos 0))) k (pos 0) ≡ pos 0
  unfilled h = get_or-fill_rest f (replicate m (pos 0)) n k (pos 0) h ∙ get_or_same m k (pos 0)

  -- where f is 0 they stay
  idle_slot : n ≤ m → (k < n → f k ≡ pos 0) → get_or (fill n f (replicate m (pos 0))) k (pos 0) ≡ pos 0
  idle_slot few h = elim (dec_lt k n) [
    | yes u ↦ filled u (omega arith) ∙ h u
    | no u ↦ unfilled (omega arith)
  ]

-- ---- spans

spans_ext : (f g : ℕ → ℤ) (l : List ℤ) (w n : ℕ) → w ≤ 50 → ((k : ℕ) → k < 50 * n → k % 50 < w → f k ≡ g k) → spans w n f l ≡ spans w n g l
unfolding spans
spans_ext f g l w zero few h = refl
spans_ext f g l w (suc n) few h =
    ap (span (50 * n) w f) (spans_ext f g l w n few (λ k u v. h k (omega arith) v))
    ∙ span_ext f g (spans w n g l) (50 * n) w (λ k u. h (50 * n + k) (omega arith) (omega arith))

-- in a list that holds 0 where no cell is, by an f that is 0 there too
spans_zeros : (f : ℕ → ℤ) (l : List ℤ) (layers columns : ℕ) → length l ≡ 1000 → (layers ≤ 20) × (columns ≤ 50)
    → ((k : ℕ) → Unused layers columns k → get_or l k (pos 0) ≡ pos 0)
    → ((k : ℕ) → k < 50 * layers → columns ≤ k % 50 + 1 → f k ≡ pos 0)
    → spans (columns - 1) layers f l ≡ fill (50 * layers) f (replicate 1000 (pos 0))
spans_zeros f l layers columns long few none idle =
    spans-fill f (pos 0) l (columns - 1) layers (omega arith) (omega arith)
    (λ k u v. let past : columns ≤ k % 50 + 1 = omega arith in idle k u past ∙ sym (none k (inr past)))
    ∙ fill_alike f (pos 0) l (replicate 1000 (pos 0)) (50 * layers) (long ∙ sym (length-replicate 1000 (pos 0)))
    (λ k u. none k (inl u) ∙ sym (get_or_same 1000 k (pos 0)))

-- ---- sums

+ℤ_last : (x y z : ℤ) → x +ℤ y +ℤ z ≡ x +ℤ z +ℤ y
+ℤ_last x y z = +ℤ_assoc x y z ∙ ap (λ t. x +ℤ t) (+ℤ_comm y z) ∙ sym (+ℤ_assoc x z y)

-- a V that is raised has room for what the lower one had
raised : {limit : ℕ} {v : ℤ} {ts : List ℤ} (n : ℕ) → Room limit v ts → Room (limit + n) (v +ℤ pos n) ts
raised {v = v} n r = rw (natural r.natural) (record { natural = pos_≤ℤ zero-le; falls = omega (arith, r.falls); rises = omega (arith, r.rises) })

-- no D where nothing is lost
depth_none : (S : ℕ) → depth_of (pos 0) S ≡ pos 0
unfolding depth_of
depth_none S = go (10 ^ 6)
  where
    go : (n : ℕ) → shr_z (pos 0 *ℤ pos n) S ≡ pos 0
    go n = rw (zero-mul n, zero-div S)

module _ (a : Lent) (ok : Workable a) where
  few : (a.layers ≤ 20) × (a.columns ≤ 50)
  few = (ok.layers.1, ok.columns.1)

  -- a slot of the layers that no cell uses is one from the last column on
  past : (k : ℕ) → k < slot_count a → Unused a.layers a.columns k → a.columns ≤ k % 50 + 1
  past k h = ⊎_elim (λ le. absurd (omega arith)) (λ p. p)

  -- nothing is lost where there is no cell, nor past the array's end
  unused : length a.losses ≡ 1000 → (k : ℕ) → Unused a.layers a.columns k → get_or a.losses k (pos 0) ≡ pos 0
  unused long k u = elim (dec_lt k 1000) [
    | yes h ↦ ok.unused k h u
    | no h ↦ get_or-eq_default a.losses (pos 0) {n = k} (omega (arith, h, long))
  ]

  -- ---- ds: the drawdowns
  abbrev pub Drawn : List ℕ → Type 0
  Drawn ds = map pos ds ≡ fill (slot_count a) (depth_at a.losses a.storages) (replicate 1000 (pos 0))

  pub drawn : (old ds : List ℕ) → length old ≡ 1000 → ((k : ℕ) → Unused a.layers a.columns k → get_or old k 0 ≡ 0)
      → map pos ds ≡ spans (a.columns - 1) a.layers (depth_at a.losses a.storages) (map pos old) → Drawn ds
  unfolding depth
  drawn old ds long none e =
      e ∙ spans_zeros (depth_at a.losses a.storages) (map pos old) a.layers a.columns (length-map old pos ∙ long) few
      (λ k u. get_or-map pos old k 0 ∙ ap pos (none k u))
      (λ k h p. (ok.idle k h p).0)

  -- the water to the layer below by them
  abbrev pub flow_down : List ℕ → ℕ → ℤ
  flow_down ds = down_flow_at a.thickness a.kv₁ a.b₂ a.kv₂ a.areas a.vertical ds (a.columns - 1) a.dt

  module _ (ds : List ℕ) (hd : Drawn ds) where
    depth_at_lem : (k : ℕ) → k < slot_count a → pos (get_or ds k 0) ≡ depth a k
    unfolding depth
    depth_at_lem k h =
        sym (get_or-map pos ds k 0)
        ∙ ap (λ l. get_or l k (pos 0)) hd
        ∙ filled (depth_at a.losses a.storages) (slot_count a) 1000 k h (omega (arith, ok.layers))

    pub depth_le : (k : ℕ) → get_or ds k 0 ≤ drawdown_limit
    unfolding depth
    depth_le k = ≤ℤ_pos (subst Shallow (ap (λ l. get_or l k (pos 0)) (sym hd) ∙ get_or-map pos ds k 0)
        (fill-every Shallow (depth_at a.losses a.storages) (replicate 1000 (pos 0)) (pos 0) (slot_count a) ok.depths
        (λ j. subst Shallow (sym (get_or_same 1000 j (pos 0))) (pos_≤ℤ zero-le)) k))
      where
        Shallow : ℤ → Type 0
        Shallow z = z ≤ℤ pos drawdown_limit

    pub table_le : (k : ℕ) → k ≤ a.columns - 1 → get_or ds k 0 ≤ 1000 * a.thickness
    table_le k h = ≤ℤ_pos (subst (λ z. z ≤ℤ pos (1000 * a.thickness)) (sym (depth_at_lem k (omega (arith, ok.layers, ok.columns)))) (ok.table k (omega (arith, ok.columns))))

    depths_long : length ds ≡ 1000
    depths_long = sym (length-map ds pos) ∙ ap length hd ∙ length-fill (depth_at a.losses a.storages) (replicate 1000 (pos 0)) (slot_count a) ∙ length-replicate 1000 (pos 0)

    depths_idle : (k : ℕ) → Unused a.layers a.columns k → get_or ds k 0 ≡ 0
    unfolding depth
    depths_idle k u = ap nat_abs (sym (get_or-map pos ds k 0) ∙ ap (λ l. get_or l k (pos 0)) hd
        ∙ idle_slot (depth_at a.losses a.storages) (slot_count a) 1000 k (omega (arith, ok.layers)) (λ h. (ok.idle k h (past k h u)).0))

    depth_each : length a.losses ≡ 1000 → (k : ℕ) → pos (get_or ds k 0) ≡ depth a k
    unfolding depth depth_at
    depth_each whole k = elim (dec_lt k (slot_count a)) [
      | yes h ↦ depth_at_lem k h
      | no h ↦
          let free : Unused a.layers a.columns k = inl (omega arith) in
          let none : depth a k ≡ pos 0 = rw (unused whole k free) (depth_none (get_or a.storages k 0)) in
          ap pos (depths_idle k free) ∙ sym none
    ]

    -- ---- cs: C in use
    module _ (old cs : List ℕ) (long : length old ≡ length a.horizontal) (same : (k : ℕ) → a.columns ≤ k + 1 → get_or old k 0 ≡ get_or a.horizontal k 0)
        (hc : map pos cs ≡ fill (a.columns - 1) (reduced_at a.thickness a.horizontal ds) (map pos old)) where
      conductances_long : length cs ≡ length a.horizontal
      conductances_long = sym (length-map cs pos) ∙ ap length hc ∙ length-fill (reduced_at a.thickness a.horizontal ds) (map pos old) (a.columns - 1) ∙ length-map old pos ∙ long

      rest : (k : ℕ) → a.columns ≤ k + 1 → get_or (map pos cs) k (pos 0) ≡ pos (get_or a.horizontal k 0)
      rest k h = ap (λ l. get_or l k (pos 0)) hc ∙ get_or-fill_rest (reduced_at a.thickness a.horizontal ds) (map pos old) (a.columns - 1) k (pos 0) (omega arith)
          ∙ get_or-map pos old k 0 ∙ ap pos (same k h)

      pub conductances_again : (length cs ≡ length a.horizontal) × ((k : ℕ) → a.columns ≤ k + 1 → get_or cs k 0 ≡ get_or a.horizontal k 0)
      conductances_again = (conductances_long, λ k h. ap nat_abs (sym (get_or-map pos cs k 0) ∙ rest k h))

      -- past the array's end C is 0, in use too
      reduced_at_lem : (k : ℕ) → k < a.columns - 1 → get_or (map pos cs) k (pos 0) ≡ reduced_at a.thickness a.horizontal ds k
      unfolding reduced_at
      reduced_at_lem k h = elim (dec_lt k (length cs)) [
        | yes u ↦ ap (λ l. get_or l k (pos 0)) hc ∙ get_or-fill (reduced_at a.thickness a.horizontal ds) (map pos old) (a.columns - 1) k (pos 0) h (omega (arith, u, conductances_long, long, length-map old pos))
        | no u ↦ get_or-map pos cs k 0 ∙ ap pos (get_or-eq_default cs 0 {n = k} (omega arith)) ∙ sym (rw (get_or-eq_default a.horizontal 0 {n = k} (omega (arith, u, conductances_long))) (reduced_none a.thickness (pos (get_or ds k 0)) (pos (get_or ds (k + 1) 0))))
      ]

      conductance_at : length a.losses ≡ 1000 → (k : ℕ) → pos (get_or cs k 0) ≡ conductance a k
      unfolding conductance reduced_at
      conductance_at whole k = sym (get_or-map pos cs k 0) ∙ elim (dec_lt (k + 1) a.columns) [
        | yes u ↦ rw (lt-ltb (k + 1) a.columns u) (reduced_at_lem k (omega arith) ∙ rw (depth_each whole k, depth_each whole (k + 1)))
        | no u ↦ rw (le-ltb (k + 1) a.columns (omega arith)) (rest k (omega arith))
      ]

      pub flow-right : length a.losses ≡ 1000 → (k : ℕ) → flow_at cs ds 1 a.dt k ≡ right a k
      unfolding flow_at right
      flow-right whole k = rw (conductance_at whole k, depth_each whole k, depth_each whole (k + 1))

    pub flow-lower : (k : ℕ) → k < 50 * (a.layers - 1) → flow_down ds k ≡ lower a k
    unfolding down_flow_at table_flow_at flow_at lower lower_conductance ifℤ
    flow-lower k h =
        let below : k + 50 < slot_count a = omega arith in
        rw (lt-ltb (k + 50) (slot_count a) below, depth_at_lem k (omega arith), depth_at_lem (k + 50) below) (elim (dec_lt (k + 1) a.columns) [
          | yes u ↦ rw (lt-ltb k (a.columns - 1) (omega arith), lt-ltb (k + 1) a.columns u)
          | no u ↦ rw (le-ltb k (a.columns - 1) (omega arith), le-ltb (k + 1) a.columns (omega arith))
        ])

    pub flow_screen : length a.losses ≡ 1000 → (well : ℕ) → pos well ≡ well_depth a → (i : ℕ) → screen_at a.screen well ds a.dt i ≡ well_flow a i
    unfolding screen_at well_flow
    flow_screen whole well e i = rw (e, depth_each whole (50 * i))

  -- ---- ws: the water to the layer below
  abbrev pub Lowered : List ℤ → Type 0
  Lowered ws = ws ≡ fill (50 * (a.layers - 1)) (lower a) (replicate 1000 (pos 0))

  pub lowered : (ds : List ℕ) → Drawn ds → (old ws : List ℤ) → length old ≡ 1000 → ((k : ℕ) → Unused (a.layers - 1) a.columns k → get_or old k (pos 0) ≡ pos 0)
      → ws ≡ spans (a.columns - 1) (a.layers - 1) (flow_down ds) old → Lowered ws
  lowered ds hd old ws long none e =
      e ∙ spans_zeros (flow_down ds) old (a.layers - 1) a.columns long (omega (arith, few.0), few.1) none
      (λ k h p. flow-lower ds hd k h ∙ (ok.idle k (omega arith) p).1)
      ∙ fill_ext (flow_down ds) (lower a) (replicate 1000 (pos 0)) (50 * (a.layers - 1)) (flow-lower ds hd)

  module _ (ws : List ℤ) (hw : Lowered ws) where
    pub lowered_at : (k : ℕ) → get_or ws k (pos 0) ≡ lower a k
    unfolding lower ifℤ
    lowered_at k = ap (λ l. get_or l k (pos 0)) hw ∙ elim (dec_lt k (50 * (a.layers - 1))) [
      | yes u ↦ filled (lower a) (50 * (a.layers - 1)) 1000 k u (omega (arith, ok.layers))
      | no u ↦ rw (le-ltb (k + 50) (slot_count a) (omega (arith, ok.layers))) (unfilled (lower a) (50 * (a.layers - 1)) 1000 k (omega arith))
    ]

    lowered_long : length ws ≡ 1000
    lowered_long = ap length hw ∙ length-fill (lower a) (replicate 1000 (pos 0)) (50 * (a.layers - 1)) ∙ length-replicate 1000 (pos 0)

    lowered_idle : (k : ℕ) → Unused (a.layers - 1) a.columns k → get_or ws k (pos 0) ≡ pos 0
    lowered_idle k u = ap (λ l. get_or l k (pos 0)) hw ∙ idle_slot (lower a) (50 * (a.layers - 1)) 1000 k (omega (arith, ok.layers))
        (λ h. (ok.idle k (omega arith) (⊎_elim (λ le. absurd (omega arith)) (λ p. p) u)).1)

  -- ---- nothing is stored from the last column on
  after_idle : (k : ℕ) → a.columns ≤ k % 50 + 1 → slot_after a k ≡ pos 0
  unfolding slot_after ifℤ
  after_idle k h = rw (le-ltb (k % 50 + 1) a.columns h)

  after_used : (k : ℕ) → k % 50 + 1 < a.columns → changed (water_of a) a.losses k ≡ slot_after a k
  unfolding slot_after ifℤ
  after_used k h = rw (lt-ltb (k % 50 + 1) a.columns h)

  -- ---- the water of the faces: what the sweep takes for it is the step's
  pub water_same : {across down screen : ℕ → ℤ} → ((k : ℕ) → across k ≡ right a k) → ((k : ℕ) → down k ≡ lower a k) → ((i : ℕ) → screen i ≡ well_flow a i)
      → ◌≡◌ {A = Water} (record { right = across; lower = down; screen = screen }) (water_of a)
  water_same p q r = by (fun_ext p) (fun_ext q) (fun_ext r)
    where
      by : {across down screen : ℕ → ℤ} → across ≡ right a → down ≡ lower a → screen ≡ well_flow a → ◌≡◌ {A = Water} (record { right = across; lower = down; screen = screen }) (water_of a)
      by p q r = rw (p, q, r)

  from_last : inflow_from (water_of a) (a.columns - 1) ≡ (λ i. neg_ℤ (to_last a i))
  unfolding to_last
  from_last = let e : a.columns - 1 - 1 ≡ a.columns - 2 = omega arith in ap (λ n. λ i. neg_ℤ (right a (50 * i + n))) e

  -- each sum has room
  pub sweepable : {w : Water} {loss inflow : ℤ} → w ≡ water_of a → loss ≡ a.well_loss +ℤ pos (a.rate * a.dt) → inflow ≡ a.inflow
      → Sweepable w a.losses a.layers (a.columns - 1) loss inflow
  sweepable e p q = rw (e, p, q) (record {
    cells = λ k u s. record { water = ok.rights k (omega (arith, ok.columns)); room = ok.cell_room k u (omega arith) };
    screens = ok.screens;
    well = room_up (raised (a.rate * a.dt) ok.well_room) (omega (arith, mul-le-mul ok.rate ok.dt));
    last = subst (λ f. Room total_limit a.inflow (map f (range 0 a.layers))) (sym from_last) ok.last_room;
  })

  -- what the parts made is the step's answer
  abbrev sums : ℤ → ℤ → Swept
  sums well inflow = record { well_loss = well; inflow = inflow }

  pub swept_made : {w : Water} {loss inflow : ℤ} {swept : Swept} → w ≡ water_of a → loss ≡ a.well_loss +ℤ pos (a.rate * a.dt) → inflow ≡ a.inflow
      → swept ≡ swept_of w a.layers (a.columns - 1) loss inflow → swept ≡ worked_of a
  unfolding swept_of worked_of well_after inflow_after
  swept_made e p q r =
      r ∙ rw (e, p, q) (ap₂ sums (+ℤ_last a.well_loss (pos (a.rate * a.dt)) (sumℤ (range 0 a.layers) (well_flow a)))
      (ap (λ f. a.inflow +ℤ sumℤ (range 0 a.layers) f) from_last))

  pub losses_made : {w : Water} (vs : List ℤ) → w ≡ water_of a → length a.losses ≡ 1000
      → vs ≡ spans (a.columns - 1) a.layers (changed w a.losses) a.losses → vs ≡ losses_of a
  unfolding losses_of
  losses_made vs same long e =
      (rw same at e)
      ∙ spans_ext (changed (water_of a) a.losses) (slot_after a) a.losses (a.columns - 1) a.layers (omega (arith, ok.columns)) (λ k u s. after_used k (omega arith))
      ∙ spans_zeros (slot_after a) a.losses a.layers a.columns long few (unused long) (λ k h p. after_idle k p)

  -- what is kept of the losses is the losses: both hold 0 where there is no cell
  pub before_made : (old vs : List ℤ) → length a.losses ≡ 1000 → length old ≡ 1000
      → ((k : ℕ) → Unused a.layers a.columns k → get_or old k (pos 0) ≡ pos 0)
      → vs ≡ spans (a.columns - 1) a.layers (λ k. get_or a.losses k (pos 0)) old → vs ≡ a.losses
  before_made old vs long whole none e =
      e ∙ spans_zeros was old a.layers a.columns whole few none (λ k h p. unused long k (inr p))
      ∙ ext_get_or (pos 0) (fill (slot_count a) was (replicate 1000 (pos 0))) a.losses
      (filled_long ∙ sym long)
      (λ k u. elim (dec_lt k (slot_count a)) [
        | yes h ↦ filled was (slot_count a) 1000 k h (omega (arith, u, filled_long))
        | no h ↦ unfilled was (slot_count a) 1000 k (omega arith) ∙ sym (unused long k (inl (omega arith)))
      ])
    where
      was : ℕ → ℤ
      was k = get_or a.losses k (pos 0)

      filled_long : length (fill (slot_count a) was (replicate 1000 (pos 0))) ≡ 1000
      filled_long = length-fill was (replicate 1000 (pos 0)) (slot_count a) ∙ length-replicate 1000 (pos 0)

  -- the arrays worked in hold again what they are asked to
  pub scratch_again : {ds cs : List ℕ} {ws vs : List ℤ} → Drawn ds
      → (length cs ≡ length a.horizontal) × ((k : ℕ) → a.columns ≤ k + 1 → get_or cs k 0 ≡ get_or a.horizontal k 0)
      → Lowered ws → length a.losses ≡ 1000 → vs ≡ a.losses → Scratch a.layers a.columns a.horizontal ds cs ws vs
  scratch_again {ds} {cs} {ws} {vs} hd hc hw long hv = record {
    long = (depths_long ds hd, hc.0, lowered_long ws hw, ap length hv ∙ long);
    depths = depths_idle ds hd;
    conductances = hc.1;
    down = lowered_idle ws hw;
    before = λ k u. ap (λ l. get_or l k (pos 0)) hv ∙ unused long k u;
  }
