-- What is known at each return of `deep_cells`, and the answer there; and what the theorem says of it.
use mathlib.Core.Path.{◌≡◌, sym, ap, ap₂, ◌∙◌}
use mathlib.Core.Bool.{true, false, not}
use mathlib.Core.List.{List, [], ◌∷◌, ◌++◌}
use Prim.Native.Nat.{ℕ, suc, ◌*◌, ◌≤◌, ◌<◌}
use native.Mathlib.Omega.{arith}
use lib.Dec.{ltb}
use lib.ListN.{length, take, drop, length-append, length-drop}
use lib.Seq.{take_at, drop_at}
use borrow.Author.Tests.{lt-ltb, le-ltb, ltb-false, not-false}
use Rattle.std.specs.Prelude.{Result, Ok, Err}
use Rattle.refusals.specs.declared.Refusal.{Refusal}
use Rattle.refusals.specs.Refusals.{refusal, given}
use Rattle.laws.specs.Refusal.{first_is, passed}
use Rattle.laws.specs.Refusal.First.{none, hit, skip}
use Rattle.record.specs.declared.Record.{Record}
use Rattle.validity.specs.Validity.{valid}
use Rattle.slot_places.specs.Depths.{Depths}
use Rattle.readings.specs.Readings.{deep_count, deep_refusal, deep_codes, Listed, listed_of, deep_of}
use Rattle.read_deep_cells.specs.Codes.{code_of, below, deep_at, Arrangement}
use Rattle.read_deep_cells.specs.Order.{Whole}
use Rattle.read_deep_cells.proofs.Slots.{count_codes}
use Rattle.read_deep_cells.proofs.Deep.{deep_length, deep_times, deep_order, only_arranged}
use Rattle.read_deep_cells.proofs.Keys.{same_codes, arranged}

abbrev listed : Result ℕ Refusal → List ℕ → Listed
listed n l = record { answer = n; list = l }

module _ (r : Record) (D : ℕ) (old : List ℕ) where
  refused : (k : ℕ) → deep_refusal r D (length old) ≡ suc k → listed (Err (refusal (suc k))) old ≡ deep_of r D old
  unfolding deep_of listed_of given
  refused k e = rw e

  accepted : deep_refusal r D (length old) ≡ 0 → listed (Ok (deep_count r D)) (deep_codes r D ++ drop (length (deep_codes r D)) old) ≡ deep_of r D old
  unfolding deep_of listed_of given
  accepted e = rw e

  pub refused_14 : valid r ≡ false → listed (Err Refusal.Record) old ≡ deep_of r D old
  unfolding deep_refusal refusal
  refused_14 e = refused 13 (sym (first_is (hit (ap not e))))

  -- ---- the theorem

  accepts : deep_refusal r D (length old) ≡ 0 → (valid r ≡ true) × (deep_count r D ≤ length old)
  unfolding deep_refusal
  accepts e =
      let judged = passed (not (valid r)) 13 ((ltb (length old) (deep_count r D), 13) ∷ []) e in
      (not-false (valid r) judged.0, ltb-false (length old) (deep_count r D) (passed (ltb (length old) (deep_count r D)) 12 [] judged.1).0)

  pub whole : deep_refusal r D (length old) ≡ 0 → Whole r D old (deep_of r D old)
  unfolding given
  whole e = rw (← accepted e) (record {
    answered = ap Ok (sym (ap length front ∙ count));
    slots = as_long;
    rest = drop_at (deep_codes r D) rest (deep_count r D) count ∙ ap (λ n. drop n old) count;
    arranged = rw front (record { once = deep_times r a.0 D; order = deep_order r a.0 D });
    only = λ l h. only_arranged r a.0 D l h ∙ sym front;
  })
    where
      a : (valid r ≡ true) × (deep_count r D ≤ length old)
      a = accepts e

      rest : List ℕ
      rest = drop (length (deep_codes r D)) old

      count : length (deep_codes r D) ≡ deep_count r D
      count = deep_length r a.0 D

      as_long : length (deep_codes r D ++ rest) ≡ length old
      as_long = omega (arith, length-append (deep_codes r D) rest, length-drop (length (deep_codes r D)) old, count, a.1)

      front : take (deep_count r D) (deep_codes r D ++ rest) ≡ deep_codes r D
      front = take_at (deep_codes r D) rest (deep_count r D) count

module _ (r : Record) (D : ℕ) (ok : valid r ≡ true) (ds : List ℕ) (e : Depths r ds) (old : List ℕ) {n : ℕ} (q : n ≡ length (below (deep_at D ds) code_of (50 * r.site.layers))) where
  counted : n ≡ deep_count r D
  counted = q ∙ ap length (same_codes r D ok ds e) ∙ sym (count_codes r D ok)

  pub refused_13 : length old < n → listed (Err Refusal.LentLength) old ≡ deep_of r D old
  unfolding deep_refusal refusal
  refused_13 h = refused r D old 12 (sym (first_is (skip (ap not ok) (hit (lt-ltb (length old) (deep_count r D) (omega (arith, counted)))))))

  pub given_whole : {front : List ℕ} → n ≤ length old → Arrangement D ds (50 * r.site.layers) front → listed (Ok n) (front ++ drop n old) ≡ deep_of r D old
  unfolding deep_refusal
  given_whole {front} h a =
      ap₂ listed (ap Ok counted) (ap₂ (λ l k. l ++ drop k old) (arranged r D ok ds e a) (counted ∙ sym (deep_length r ok D)))
      ∙ accepted r D old (sym (first_is (skip (ap not ok) (skip (le-ltb (length old) (deep_count r D) (omega (arith, counted))) none))))
