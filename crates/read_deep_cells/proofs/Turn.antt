-- What one turn of a loop does to the numbers of the slots passed.
use mathlib.Core.Path.{◌≡◌, sym, ap, ◌∙◌}
use mathlib.Core.Bool.{true, false}
use mathlib.Core.List.{List, [], ◌∷◌}
use Prim.Native.Nat.{ℕ, ◌+◌, ◌≤◌, ◌<◌}
use native.Mathlib.Omega.{arith}
use lib.ListN.{length, set, length-append}
use Rattle.read_deep_cells.specs.Codes.{below, deep_at}
use Rattle.read_deep_cells.proofs.Slots.{below_none, below_more, below_same, length_most, with_front, with_none, with_more}

module _ (D : ℕ) (ds : List ℕ) (f : ℕ → ℕ) where
  -- before the first turn
  pub none_counted : 0 ≡ length (below (deep_at D ds) f 0)
  none_counted = sym (ap length (below_none (deep_at D ds) f))

  pub none_written : (old : List ℕ) → old ≡ with_front (below (deep_at D ds) f 0) old
  none_written old = sym (ap (λ l. with_front l old) (below_none (deep_at D ds) f) ∙ with_none old)

  module _ (k : ℕ) where
    -- a turn at a slot that is not deep, and at one that is
    pub passed_over : deep_at D ds k ≡ false → below (deep_at D ds) f (k + 1) ≡ below (deep_at D ds) f k
    passed_over = below_same (deep_at D ds) f k

    module _ (h : deep_at D ds k ≡ true) where
      pub counted : length (below (deep_at D ds) f (k + 1)) ≡ length (below (deep_at D ds) f k) + 1
      counted = ap length (below_more (deep_at D ds) f k h) ∙ length-append (below (deep_at D ds) f k) (f k ∷ [])

      module _ (n : ℕ) (old : List ℕ) (past : k < n) (fits : length (below (deep_at D ds) f n) ≤ length old) where
        pub room : length (below (deep_at D ds) f k) < length old
        room = omega (arith, counted, length_most (deep_at D ds) f (k + 1) n (omega arith))

        pub written : {l : List ℕ} {at v : ℕ} → at ≡ length (below (deep_at D ds) f k) → l ≡ with_front (below (deep_at D ds) f k) old → v ≡ f k
            → set l at v ≡ with_front (below (deep_at D ds) f (k + 1)) old
        written p q e = rw (p, q, e, below_more (deep_at D ds) f k h) (with_more (below (deep_at D ds) f k) old (f k) room)
