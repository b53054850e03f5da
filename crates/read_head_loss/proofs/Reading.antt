-- What is known at each place of `head_loss`, and the answer there: refused with a number, or given.
use Rattle.std.proofs.Common.{Ok, Err, ◌≡◌, refl, sym, ap, ◌∙◌, Bool, true, false, not, ◌&&◌, List, ℕ, suc, ◌*◌, ◌-◌, ◌≤◌, ◌<◌, arith, eqb, leb, ltb, Float, pos, neg_ℤ, get_or, leb-true, ltb-false}
use lib.Ieee.{nan}
use Rattle.refusals.specs.declared.Refusal.{Refusal}
use Rattle.refusals.specs.Refusals.{refusal, given}
use Rattle.laws.specs.Fill.{fill, get_or-fill}
use Rattle.laws.specs.Integer.{≤ℤ_pos}
use Rattle.laws.specs.Refusal.{first_is}
use Rattle.laws.specs.Refusal.First.{none, hit, skip}
use Rattle.laws.specs.Rows.{three_hold}
use Rattle.laws.specs.Lists.{ifℤ}
use Rattle.laws.specs.Sums.{or_no}
use Rattle.limits.specs.Limits.{length_limit, drawdown_limit}
use Rattle.network.specs.Network.{Network, flow, length_out, stable, unstable}
use Rattle.network.specs.Grid.{across_face, network_of}
use Rattle.site.specs.declared.Site.{Site}
use Rattle.site.specs.Laws.{counts_hold_lem}
use Rattle.site.specs.Limited.{Counts}
use Rattle.site.specs.Site.{is_screened}
use Rattle.record.specs.declared.Record.{Record}
use Rattle.record.specs.Record.{grid_of, state_of}
use Rattle.validity.specs.Validity.{valid}
use Rattle.validity.specs.Laws.{Valid, valid_record}
use Rattle.step_drawdowns.specs.Drawdowns.{depth_of, depth_at}
use Rattle.slot_places.specs.Slots.{loss_natural, depth_small}
use Rattle.slot_places.specs.Drawdowns.{well_ask}
use Rattle.slot_places.specs.Screen.{well_water, screen_water, screen_small_lem}
use Rattle.readings.specs.Readings.{is_layer}
use Rattle.hydraulics.specs.Hydraulics.{inflow_of}
use Rattle.pipe.specs.Asked.{e_of, Screened}
use Rattle.pipe.specs.Laws.{pipe_loss_same}
use Rattle.read_head_loss.specs.HeadLoss.{water_into, losses_at, is_screened_layer, head_loss_refusal, head_loss_of}
use Rattle.read_head_loss.specs.Slots.{layer_flow, inflow_at, no_inflows, SmallAt}

-- inflows that agree at every screened layer give the same losses
losses_same : (s : Site) (e f : ℕ → Float) → ((k : ℕ) → k < s.layers → is_screened s.screened k ≡ true → e k ≡ f k) → (i : ℕ) → Screened s i → losses_at s e i ≡ losses_at s f i
unfolding losses_at
losses_same s e f same i h = rw (same i h.layer h.screened, pipe_loss_same s e f same i)

-- the tests of 12 and 8 as the code makes them
abbrev pub named : Record → ℕ → Bool
named r layer = leb 1 layer && leb layer r.site.layers && is_screened r.site.screened (layer - 1)

module _ (r : Record) (layer dt : ℕ) where
  abbrev N : Network
  N = network_of (grid_of r)

  refused_is : {n : ℕ} → suc n ≡ head_loss_refusal r layer dt → Err (refusal (suc n)) ≡ head_loss_of r layer dt
  unfolding head_loss_of given
  refused_is e = rw (← e)

  pub refused_14 : valid r ≡ false → Err Refusal.Record ≡ head_loss_of r layer dt
  unfolding head_loss_refusal refusal
  refused_14 e = refused_is (first_is (hit (ap not e)))

  module _ (ok : valid r ≡ true) where
    known : Valid r
    known = valid_record r ok

    counted : Counts r.site
    counted = counts_hold_lem r.site known.counts

    pub few_layers : r.site.layers ≤ 20
    few_layers = counted.layers_most

    named_is : named r layer ≡ is_screened_layer (grid_of r) layer
    unfolding is_screened_layer is_layer grid_of
    named_is = refl

    pub refused_12 : named r layer ≡ false → Err Refusal.NoSuch ≡ head_loss_of r layer dt
    unfolding head_loss_refusal refusal
    refused_12 e = refused_is (first_is (skip (ap not ok) (hit (ap not (sym named_is ∙ e)))))

    pub refused_7 : named r layer ≡ true → length_out dt ≡ true → Err Refusal.RateOrLength ≡ head_loss_of r layer dt
    unfolding head_loss_refusal refusal
    refused_7 there e = refused_is (first_is (skip (ap not ok) (skip (ap not (sym named_is ∙ there)) (hit e))))

    pub refused_8 : named r layer ≡ true → length_out dt ≡ false → stable N dt ≡ false → Err Refusal.Unstable ≡ head_loss_of r layer dt
    unfolding head_loss_refusal unstable refusal
    refused_8 there sized e = refused_is (first_is (skip (ap not ok) (skip (ap not (sym named_is ∙ there)) (skip sized (hit (ap not e))))))

  -- 14, 12, 7 and 8 let the reading pass
  pub record Begun : Type 0 where
    pub passed : valid r ≡ true
    pub there : named r layer ≡ true
    pub sized : length_out dt ≡ false
    pub steady : stable N dt ≡ true

  -- from what the code's tests gave
  pub begun : {a b c d : Bool} → a ≡ valid r → a ≡ true → b ≡ named r layer → b ≡ true → c ≡ length_out dt → c ≡ false → d ≡ stable N dt → d ≡ true → Begun
  begun e f g h i j k l = record { passed = sym e ∙ f; there = sym g ∙ h; sized = sym i ∙ j; steady = sym k ∙ l }

  module _ (b : Begun) where
    v : Valid r
    v = known b.passed

    layer_is : (1 ≤ layer) × (layer ≤ r.site.layers) × (is_screened r.site.screened (layer - 1) ≡ true)
    layer_is =
        let t = three_hold (leb 1 layer) (leb layer r.site.layers) (is_screened r.site.screened (layer - 1)) b.there in
        (leb-true _ _ t.0, leb-true _ _ t.1, t.2)

    pub from_one : 1 ≤ layer
    from_one = layer_is.0

    pub screened_is : Screened r.site (layer - 1)
    screened_is = record { counts = v.counts; numbers = v.numbers; screen = v.screen; layer = omega (arith, layer_is.0, layer_is.1); screened = layer_is.2 }

    short : dt ≤ length_limit
    unfolding length_out
    short = ltb-false length_limit dt (or_no (eqb dt 0) (ltb length_limit dt) b.sized).1

    module _ (well : ℕ) (at_well : pos well ≡ depth_of r.well_loss r.well_storage) where
      water_is : (i : ℕ) → layer_flow (get_or r.screen i 0) well (get_or r.losses (50 * i) (pos 0)) (get_or r.storages (50 * i) 0) dt ≡ well_water r v dt i
      unfolding layer_flow depth_at
      water_is i = rw at_well

      pub inflows_ask : ((r.site.layers ≤ 20) × (well ≤ drawdown_limit) × (dt ≤ length_limit)) × ((i : ℕ) → i < r.site.layers → SmallAt r.screen r.storages r.losses well dt i)
      unfolding depth_at
      inflows_ask = (
        (few_layers b.passed, ≤ℤ_pos (rw at_well (well_ask r v).1), short),
        λ i h. record { loss = loss_natural r v (50 * i) (omega arith); depth = depth_small r v (50 * i) (omega arith); water = rw (water_is i) (screen_small_lem r v dt b.steady i h) },
      )

      -- e of each layer as the code has it and as the reading defines it
      abbrev es : List Float
      es = fill r.site.layers (inflow_at r.screen r.storages r.losses well dt) no_inflows

      inflow_is : (i : ℕ) → i < r.site.layers → is_screened r.site.screened i ≡ true → e_of es i ≡ inflow_of (water_into (grid_of r) (state_of r).losses dt i) dt
      unfolding inflow_at water_into ifℤ no_inflows
      inflow_is i h e =
          get_or-fill (inflow_at r.screen r.storages r.losses well dt) no_inflows r.site.layers i nan h (omega (arith, few_layers b.passed))
          ∙ ap (λ z. inflow_of (neg_ℤ z) dt) (water_is i ∙ screen_water r v dt i h ∙ ap (λ t. ifℤ t (flow N (state_of r).losses dt (across_face (grid_of r) i 0))) e)

      none_forbids : 0 ≡ head_loss_refusal r layer dt
      unfolding head_loss_refusal unstable
      none_forbids = first_is (skip (ap not b.passed) (skip (ap not (sym (named_is b.passed) ∙ b.there)) (skip b.sized (skip (ap not b.steady) none))))

      pub answered : Ok (losses_at r.site (e_of es) (layer - 1)) ≡ head_loss_of r layer dt
      unfolding head_loss_of given
      answered = rw (← none_forbids) (ap Ok (losses_same r.site (e_of es) (λ i. inflow_of (water_into (grid_of r) (state_of r).losses dt i) dt) inflow_is (layer - 1) screened_is))
