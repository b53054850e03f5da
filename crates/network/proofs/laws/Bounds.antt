-- One stable step from a kept state: how much water crosses a face, how much a place gives and gets, and how deep it can come to stand.
-- Naturals stand for losses and drawdowns, and what leaves a place and what enters it are kept apart.
--     loss_is, depth_is      the loss and the drawdown of a place as naturals; depth_natural: no drawdown is below 0
--     inflow_rises           the last column gives water and takes none; inflow_le: its total stays within the pumped total
--     entering_le            what enters a place is at most its V
--     face_le, face_fits     the water of a face is at most the V of its deeper end, and so at most the pumped total
--     supply                 a place's V and what leaves it are together at most the pumped total
--     losses_after_lem           no loss falls below 0
--     depths_after           the maximum principle, for any M
use Rattle.std.specs.Prelude.{◌≡◌, Bool, ◌&&◌, eqb, ltb, ℤ, ◌≤ℤ◌}
use Rattle.std.proofs.Math.Path.{refl, sym, ap, ap₂}
use Rattle.std.proofs.Common.{◌∙◌, add-zero, zero-add, zero-mul, mul-zero, div-mul-le_self, div-lt_iff_lt-mul}
use Rattle.std.proofs.Math.Bool.{true, false, not}
use Rattle.std.proofs.lemmas.Bool.{false≢true}
use Rattle.std.proofs.Math.Logic.{⊎_elim}
use mathlib.Core.List.{List, Memᴰ}
use Prim.Native.Nat.{ℕ, suc, ◌+◌, ◌*◌, ◌-◌, ◌/◌, ◌^◌, ◌≤◌, ◌<◌, zero-le}
use Rattle.std.proofs.Math.Decide.{dec_lt, ℕ_discrete}
use Rattle.std.proofs.Math.Nat.{le_refl, le_trans, zero-div, mul-le-mul_right, lt-div-mul-add}
use native.Mathlib.Omega.{arith}
use Rattle.std.proofs.Math.Dec.{leb}
use Rattle.std.proofs.Math.IntN.{pos, nat_abs, ◌+ℤ◌}
use Rattle.std.proofs.Math.ListN.{get_or-eq_default}
use Rattle.std.specs.Int.Signed.{lt_z}
use borrow.Author.Tests.{eqb-true, leb-true, ltb-true, ltb-false, lt-ltb, eq-eqb, ne_eqb}
use Rattle.laws.specs.All.{all_at}
use Rattle.laws.specs.Integer.{plus, minus, abs_le, natural, +ℤ_natural, pos_≤ℤ, ≤ℤ_pos, UpTo, abs_up_to, not_past, no_minus, no_plus, add_diff}
use Rattle.laws.specs.Lists.{ifℕ, ifℤ, sumℕ, range}
use Rattle.laws.specs.Sums.{ifℕ_zero, ifℤ_pos, sumℕ_le, sumℕ_ext, sumℕ_add, sumℕ_scale, sumℕ_one, sumℕ_pick, sumℤ_natural, mem_range, range-below, none_at}
use Rattle.network.specs.Network.{Face, Network, State, is_place, loss_at, storage_at, drawdown, in_use, water, crossing, flow, toward, inward, loss_in, from_last_column, loss_after, losses_after, conductance_sum, stable, table_too_deep}
use Rattle.network.specs.Kept.{OnTable, Proper, Kept}
use Rattle.network.proofs.laws.Ends.{Inside, ends, over_set, leaving, entering, outflow_parts}
use Rattle.network.proofs.laws.Conserve.{loss-after, balanced}
use Rattle.network.proofs.laws.Totals.{size, all-lost}
use Rattle.network.proofs.laws.Water.{in_use_lem, ahead_le, back_le}

module _ (N : Network) (proper : Proper N) (s : State) (kept : Kept N s) where
  -- V and D of a place
  unfoldable pub loss : ℕ → ℕ
  loss p = nat_abs (loss_at s.losses p)

  unfoldable pub depth : ℕ → ℕ
  depth p = loss p * 10 ^ 6 / storage_at N p

  outside : (p : ℕ) → N.places ≤ p → loss p ≡ 0
  unfolding loss loss_at
  outside p h = ap nat_abs (get_or-eq_default s.losses (pos 0) (rw kept.listed h))

  pub loss_is : (p : ℕ) → loss_at s.losses p ≡ pos (loss p)
  unfolding loss loss_at
  loss_is p = elim (dec_lt p N.places) [
    | yes h ↦ natural (kept.losses p h)
    | no h ↦ rw (get_or-eq_default s.losses (pos 0) {n = p} (rw kept.listed (omega arith)))
  ]

  pub depth_is : (p : ℕ) → drawdown N s.losses p ≡ pos (depth p)
  unfolding drawdown depth
  depth_is p = rw (loss_is p)

  pub depth_natural : (p : ℕ) → pos 0 ≤ℤ drawdown N s.losses p
  depth_natural p = rw (depth_is p) (pos_≤ℤ zero-le)

  depth_outside : (p : ℕ) → N.places ≤ p → depth p ≡ 0
  unfolding depth
  depth_outside p h = rw (outside p h, zero-div)

  -- in layer 1 and in the last column a drawdown is within layer 1
  in_layer : (p : ℕ) → OnTable N p → UpTo (1000 * N.thickness) (drawdown N s.losses p)
  unfolding table_too_deep
  in_layer p o = (
    depth_natural p,
    ⊎_elim (λ m. not_past (none_at (λ q. lt_z (pos (1000 * N.thickness)) (drawdown N s.losses q)) kept.table m))
        (λ h. rw (depth_is p, depth_outside p h) (pos_≤ℤ zero-le))
        o,
  )

  -- the V of all places are at most the pumped total
  all_losses : sumℕ (range 0 N.places) loss ≤ s.pumped
  unfolding loss size
  all_losses = omega (arith, all-lost N s kept)

  loss_le : (p : ℕ) → loss p ≤ s.pumped
  loss_le p = elim (dec_lt p N.places) [
    | yes h ↦ le_trans (sumℕ_one loss (mem_range N.places zero-le (omega arith))) all_losses
    | no h ↦ rw (outside p (omega arith)) zero-le
  ]

  module _ (dt : ℕ) where
    abbrev pub w : Face → ℤ
    w = flow N s.losses dt

    module _ (f : Face) (m : Memᴰ f N.faces) where
      used : UpTo f.conductance (in_use N f (drawdown N s.losses f.one) (drawdown N s.losses f.two))
      unfolding in_use
      used = in_use_lem N.thickness f.conductance f.rule (drawdown N s.losses f.one) (drawdown N s.losses f.two)
          (λ e. let o = proper.unconfined f m e in (in_layer f.one o.0, in_layer f.two o.1))
          (λ x kv₁ b₂ kv₂ e. let o = proper.table f m x kv₁ b₂ kv₂ e in (in_layer f.one o.0, o.1, o.2))

      abbrev c : ℕ
      c = nat_abs (in_use N f (drawdown N s.losses f.one) (drawdown N s.losses f.two))

      -- the water of a face, from C in use and drawdowns that are naturals
      flow_is : flow N s.losses dt f ≡ water (pos c) (pos (depth f.one)) (pos (depth f.two)) dt
      unfolding flow crossing
      flow_is = rw (← natural used.0, ← depth_is f.one, ← depth_is f.two)

      ahead : (B : ℕ) → depth f.two ≤ depth f.one + B → plus (flow N s.losses dt f) * 10 ^ 12 ≤ f.conductance * (B * dt)
      ahead B h = rw flow_is (ahead_le c f.conductance (depth f.one) (depth f.two) dt (abs_up_to used) B h)

      back : (B : ℕ) → depth f.one ≤ depth f.two + B → minus (flow N s.losses dt f) * 10 ^ 12 ≤ f.conductance * (B * dt)
      back B h = rw flow_is (back_le c f.conductance (depth f.one) (depth f.two) dt (abs_up_to used) B h)

      none_ahead : depth f.two ≤ depth f.one → plus (flow N s.losses dt f) ≡ 0
      none_ahead h = omega (arith, rw (zero-mul, mul-zero) at (ahead 0 (omega arith)))

      none_back : depth f.one ≤ depth f.two → minus (flow N s.losses dt f) ≡ 0
      none_back h = omega (arith, rw (zero-mul, mul-zero) at (back 0 (omega arith)))

    -- water over the border of all places comes in: the last column gives water and takes none
    pub last_face : (f : Face) → Memᴰ f N.faces → pos 0 ≤ℤ toward (is_place N f.one) (is_place N f.two) (w f)
    unfolding toward is_place
    last_face f m = go (ltb f.one N.places) (ltb f.two N.places) (ltb-false f.one N.places) (ltb-false f.two N.places)
      where
        go : (t u : Bool) → (t ≡ false → N.places ≤ f.one) → (u ≡ false → N.places ≤ f.two) → pos 0 ≤ℤ toward t u (w f)
        go true true h k = pos_≤ℤ zero-le
        go true false h k = no_plus (w f) (none_ahead f m (rw (depth_outside f.two (k refl)) zero-le))
        go false true h k = no_minus (w f) (none_back f m (rw (depth_outside f.one (h refl)) zero-le))
        go false false h k = pos_≤ℤ zero-le

    -- so the inflow total never falls
    pub inflow_rises : pos 0 ≤ℤ from_last_column N s.losses dt
    unfolding from_last_column inward
    inflow_rises = sumℤ_natural N.faces last_face

    -- a bound on what each face of p counts there, by its C, is one on the whole, by the sum of C
    scaled : (g h : Face → ℕ) (p B : ℕ)
        → ((f : Face) → Memᴰ f N.faces → f.one ≡ p → g f * 10 ^ 12 ≤ f.conductance * B)
        → ((f : Face) → Memᴰ f N.faces → f.two ≡ p → h f * 10 ^ 12 ≤ f.conductance * B)
        → sumℕ N.faces (ends g h p) * 10 ^ 12 ≤ conductance_sum N p * B
    unfolding ends conductance_sum ifℕ
    scaled g h p B t u = sumℕ_scale N.faces _ _ (10 ^ 12) B λ f m. omega (
      arith,
      one (eqb f.one p) (g f) f.conductance (λ e. t f m (eqb-true f.one p e)),
      one (eqb f.two p) (h f) f.conductance (λ e. u f m (eqb-true f.two p e)),
    )
      where
        one : (b : Bool) (x y : ℕ) → (b ≡ true → x * 10 ^ 12 ≤ y * B) → ifℕ b x * 10 ^ 12 ≤ ifℕ b y * B
        one true x y h = h refl
        one false x y h = omega arith

    module _ (st : stable N dt ≡ true) where
      short : (p : ℕ) → p < N.places → dt * conductance_sum N p ≤ 10 ^ 6 * storage_at N p
      unfolding stable
      short p h = leb-true _ _ (all_at (λ q. leb (dt * conductance_sum N q) (10 ^ 6 * storage_at N q)) N.places p st h)

      -- what enters a place is at most its V
      pub entering_le : (p : ℕ) → p < N.places → entering N w p ≤ loss p
      unfolding entering depth
      entering_le p h = small (entering N w p) (conductance_sum N p) (depth p) (storage_at N p) (loss p)
          (scaled (λ f. minus (w f)) (λ f. plus (w f)) p (depth p * dt) (λ f m e. back f m (depth p) (rw e (omega arith))) (λ f m e. ahead f m (depth p) (rw e (omega arith))))
          (short p h)
          (div-mul-le_self (loss p * 10 ^ 6) (storage_at N p))
        where
          small : (i G d S u : ℕ) → i * 10 ^ 12 ≤ G * (d * dt) → dt * G ≤ 10 ^ 6 * S → d * S ≤ u * 10 ^ 6 → i ≤ u
          small i G d S u a b c = omega (arith, mul-le-mul_right d b)

      -- the water of a face is at most the V of its deeper end: of its end two if it runs ahead, of its end one if it runs back
      pub face_le : (f : Face) → Memᴰ f N.faces → (plus (w f) ≤ loss f.two) × (minus (w f) ≤ loss f.one)
      unfolding entering ends ifℕ
      face_le f m = (
        at_end f.two (plus (w f)) (rw (eq-eqb f.two f.two refl) (omega arith)) (λ e. none_ahead f m (rw e zero-le)),
        at_end f.one (minus (w f)) (rw (eq-eqb f.one f.one refl) (omega arith)) (λ e. none_back f m (rw e zero-le)),
      )
        where
          at_end : (q x : ℕ) → x ≤ ends (λ g. minus (w g)) (λ g. plus (w g)) q f → (depth q ≡ 0 → x ≡ 0) → x ≤ loss q
          at_end q x h n = elim (dec_lt q N.places) [
            | yes k ↦ le_trans (le_trans h (sumℕ_one (ends (λ g. minus (w g)) (λ g. plus (w g)) q) m)) (entering_le q k)
            | no k ↦ omega (arith, n (depth_outside q (omega arith)))
          ]

      -- and so at most the pumped total
      pub face_fits : (f : Face) → Memᴰ f N.faces → nat_abs (w f) ≤ s.pumped
      face_fits f m = abs_le (w f) (le_trans (face_le f m).0 (loss_le f.two)) (le_trans (face_le f m).1 (loss_le f.one))

      -- what leaves p is at most what enters the other places: nothing runs to the last column
      module _ (p : ℕ) where
        other : ℕ → Bool
        other q = ltb q N.places && not (eqb p q)

        other_inside : Inside N other
        unfolding other
        other_inside q = go (ltb q N.places) (ltb-true q N.places)
          where
            go : (t : Bool) → (t ≡ true → q < N.places) → (t && not (eqb p q)) ≡ true → q < N.places
            go true h e = h refl
            go false h e = absurd (false≢true e)

        passes_on : (a b x : ℕ) → (depth b ≤ depth a → x ≡ 0) → ifℕ (eqb a p) x ≤ ifℕ (other b) x
        unfolding other ifℕ
        passes_on a b x n = elim (ℕ_discrete a p) [
          | no k ↦ rw (ne_eqb a p k) zero-le
          | yes e ↦ elim (ℕ_discrete p b) [
            | yes q ↦ rw (n (rw (e, q) (le_refl (depth b))), ifℕ_zero) zero-le
            | no q ↦ elim (dec_lt b N.places) [
              | yes h ↦ rw (lt-ltb b N.places h, ne_eqb p b q) (most (eqb a p))
              | no h ↦ rw (n (rw (depth_outside b (omega arith)) zero-le), ifℕ_zero) zero-le
            ]
          ]
        ]
          where
            most : (t : Bool) → ifℕ t x ≤ x
            most true = le_refl x
            most false = zero-le

        leaving_le : leaving N w p ≤ sumℕ (range 0 N.places) (λ q. ifℕ (other q) (entering N w q))
        unfolding leaving entering ends
        leaving_le = rw (over_set N other other_inside (λ f. minus (w f)) (λ f. plus (w f))) (sumℕ_le N.faces (λ f m.
            omega (arith, passes_on f.one f.two (plus (w f)) (none_ahead f m), passes_on f.two f.one (minus (w f)) (none_back f m))))

        apart : p < N.places → sumℕ (range 0 N.places) loss ≡ loss p + sumℕ (range 0 N.places) (λ q. ifℕ (other q) (loss q))
        unfolding other ifℕ
        apart h =
            sumℕ_ext (range 0 N.places) (λ q m. rw (lt-ltb q N.places (range-below N.places m)) (split (eqb p q) (loss q)))
            ∙ sumℕ_add (range 0 N.places) (λ q. ifℕ (eqb p q) (loss q)) (λ q. ifℕ (other q) (loss q))
            ∙ ap (λ n. n + sumℕ (range 0 N.places) (λ q. ifℕ (other q) (loss q))) (sumℕ_pick loss 0 N.places p zero-le (omega arith))
          where
            split : (t : Bool) (x : ℕ) → x ≡ ifℕ t x + ifℕ (not t) x
            split true x = sym (add-zero x)
            split false x = sym (zero-add x)

        -- so a place's V and what leaves it are together at most the pumped total
        pub supply : p < N.places → loss p + leaving N w p ≤ s.pumped
        unfolding ifℕ
        supply h = omega (arith, all_losses, apart h, leaving_le, sumℕ_le (range 0 N.places) (λ q m. held (other q) q (range-below N.places m)))
          where
            held : (t : Bool) (q : ℕ) → q < N.places → ifℕ t (entering N w q) ≤ ifℕ t (loss q)
            held true q h = entering_le q h
            held false q h = zero-le

      module _ (rate : ℕ) where
        next : List ℤ
        next = losses_after N s.losses rate dt

        lifted : ℕ → ℕ
        lifted p = ifℕ (eqb 0 p) (rate * dt)

        after_is : (p : ℕ) → p < N.places → loss_at next p ≡ pos (loss p + leaving N w p - entering N w p + lifted p)
        unfolding next lifted loss_after
        after_is p h =
            loss-after N s.losses rate dt p h
            ∙ ap₂ ◌+ℤ◌ (ap₂ ◌+ℤ◌ (loss_is p) (outflow_parts N w p) ∙ add_diff (loss p) (leaving N w p) (entering N w p) (omega (arith, entering_le p h))) (ifℤ_pos (eqb 0 p) (rate * dt))

        -- no loss falls below 0
        pub losses_after_lem : (p : ℕ) → p < N.places → pos 0 ≤ℤ loss_at (losses_after N s.losses rate dt) p
        unfolding next
        losses_after_lem p h = rw (after_is p h) (pos_≤ℤ zero-le)

        -- the maximum principle: no cell's drawdown rises past the largest before the step, nor does the well's where nothing is pumped
        pub depths_after : (M : ℕ) → ((q : ℕ) → q < N.places → drawdown N s.losses q ≤ℤ pos M)
            → (p : ℕ) → p < N.places → (p ≡ 0 → rate ≡ 0) → drawdown N (losses_after N s.losses rate dt) p ≤ℤ pos M
        unfolding next drawdown lifted ifℕ leaving depth
        depths_after M within p h idle = rw (after_is p h, at_rest_lem (ℕ_discrete 0 p)) (pos_≤ℤ (le_trans
            (high (leaving N w p) (conductance_sum N p) (depth p) (M - depth p) (storage_at N p) (loss p) _ (proper.storages p h)
            (scaled (λ f. plus (w f)) (λ f. minus (w f)) p ((M - depth p) * dt) (λ f m e. ahead f m (M - depth p) (rw e (room f.two))) (λ f m e. back f m (M - depth p) (rw e (room f.one))))
            (short p h) (lt-div-mul-add (proper.storages p h)) (omega arith))
            (omega (arith, deep p))))
          where
            at_rest_lem : Dec (0 ≡ p) → ifℕ (eqb 0 p) (rate * dt) ≡ 0
            at_rest_lem (yes e) = rw (eq-eqb 0 p e, idle (sym e), zero-mul)
            at_rest_lem (no k) = rw (ne_eqb 0 p k)

            deep : (q : ℕ) → depth q ≤ M
            deep q = elim (dec_lt q N.places) [
              | yes k ↦ ≤ℤ_pos (rw (depth_is q) at (within q k))
              | no k ↦ rw (depth_outside q (omega arith)) zero-le
            ]

            room : (q : ℕ) → depth q ≤ depth p + (M - depth p)
            room q = omega (arith, deep p, deep q)

            high : (o G d m S u u' : ℕ) → 0 < S → o * 10 ^ 12 ≤ G * (m * dt) → dt * G ≤ 10 ^ 6 * S → u * 10 ^ 6 < d * S + S → u' ≤ u + o → u' * 10 ^ 6 / S ≤ d + m
            high o G d m S u u' z a b c k = omega (arith, (div-lt_iff_lt-mul {k = S} {x = u' * 10 ^ 6} {y = suc (d + m)} z).1 (omega (arith, mul-le-mul_right m b)))

      -- the inflow total, too, stays within what has been pumped
      pub inflow_le : (s.inflow +ℤ from_last_column N s.losses dt) ≤ℤ pos s.pumped
      unfolding loss_in ifℤ
      inflow_le = rw (natural new) (pos_≤ℤ (omega (arith, ap nat_abs (sym (ap₂ ◌+ℤ◌ (natural left) (natural new)) ∙ balanced N proper.well s kept.budget 0 dt))))
        where
          new : pos 0 ≤ℤ (s.inflow +ℤ from_last_column N s.losses dt)
          new = +ℤ_natural kept.inflow inflow_rises

          held : (t : Bool) (z : ℤ) → pos 0 ≤ℤ z → pos 0 ≤ℤ ifℤ t z
          held true z h = h
          held false z h = pos_≤ℤ zero-le

          left : pos 0 ≤ℤ loss_in N (is_place N) (losses_after N s.losses 0 dt)
          left = sumℤ_natural (range 0 N.places) (λ p m. held (is_place N p) _ (losses_after_lem 0 p (range-below N.places m)))
