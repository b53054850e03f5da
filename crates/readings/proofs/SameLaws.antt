-- What the test of two records says: laws only, nothing to believe.
--     same_record_lem     records of which it holds are equal; same_itself: it holds of a record and itself
--     same_answer     so where the reading says yes, 14 refuses neither and they are equal
use Rattle.std.specs.Prelude.{◌≡◌, Bool, not, ◌&&◌, List, [], ◌∷◌, ℕ, ℤ}
use Rattle.std.proofs.Math.Path.{refl}
use Rattle.std.proofs.Math.Bool.{true, false}
use Rattle.std.proofs.Common.{◌∙◌, arith}
use borrow.Author.Tests.{eqb-true, eq-eqb}
use Rattle.std.proofs.Math.Dec.{eqb}
use Rattle.refusals.specs.Refusals.{given}
use Rattle.refusals.specs.Laws.{value_given}
use Rattle.laws.specs.All.{and_left, and_right}
use Rattle.laws.specs.Lists.{pairwise, first}
use Rattle.laws.specs.Pairwise.{pairwise_equal, pairwise_itself}
use Rattle.laws.specs.Rows.{three_hold, four_hold}
use Rattle.site.specs.declared.Site.{Site}
use Rattle.record.specs.declared.Record.{Record}
use Rattle.validity.specs.Validity.{equalℤ, valid}
use Rattle.validity.specs.Laws.{equal, itself}
use Rattle.readings.specs.Readings.{same_site, same_coefficients, same_water, same_record, same_of}

-- lists of numbers and of integers
numbers : {l m : List ℕ} → pairwise eqb l m ≡ true → l ≡ m
numbers {l} {m} e = pairwise_equal eqb eqb-true l m e

integers : {l m : List ℤ} → pairwise equalℤ l m ≡ true → l ≡ m
integers {l} {m} e = pairwise_equal equalℤ equal l m e

module _ (s t : Site) where
  same_site_lem : same_site s t ≡ true → s ≡ t
  unfolding same_site
  same_site_lem e =
      let thickness = pairwise eqb s.thickness t.thickness in
      let screened = pairwise eqb s.screened t.screened in
      let kh = pairwise eqb s.kh t.kh in
      let kv = pairwise eqb s.kv t.kv in
      let storage = pairwise eqb s.storage t.storage in
      let columns = eqb s.columns t.columns in
      let radii = pairwise eqb s.radii t.radii in
      let radius = eqb s.well_radius t.well_radius in
      let area = eqb s.water_area t.water_area in
      let intake = eqb s.intake t.intake in
      let friction = eqb s.friction t.friction in
      let count = eqb s.loss_count t.loss_count in
      let coefficients = pairwise eqb s.loss_coefficients t.loss_coefficients in
      let first = eqb s.layers t.layers && thickness in
      let second = first && screened && kh && kv in
      let third = second && storage && columns && radii in
      let last = four_hold (third && radius && area && intake) friction count coefficients e in
      let well = four_hold third radius area intake last.0 in
      let grid = four_hold second storage columns radii well.0 in
      let layers = four_hold first screened kh kv grid.0 in
      λ i. record {
        layers = eqb-true s.layers t.layers (and_left (eqb s.layers t.layers) thickness layers.0) i;
        thickness = numbers (and_right (eqb s.layers t.layers) thickness layers.0) i;
        screened = numbers layers.1 i;
        kh = numbers layers.2 i;
        kv = numbers layers.3 i;
        storage = numbers grid.1 i;
        columns = eqb-true s.columns t.columns grid.2 i;
        radii = numbers grid.3 i;
        well_radius = eqb-true s.well_radius t.well_radius well.1 i;
        water_area = eqb-true s.water_area t.water_area well.2 i;
        intake = eqb-true s.intake t.intake well.3 i;
        friction = eqb-true s.friction t.friction last.1 i;
        loss_count = eqb-true s.loss_count t.loss_count last.2 i;
        loss_coefficients = numbers last.3 i;
      }

module _ (r q : Record) where
  pub same_record_lem : same_record r q ≡ true → r ≡ q
  unfolding same_record same_coefficients same_water
  same_record_lem e =
      let screen = pairwise eqb r.screen q.screen in
      let horizontal = pairwise eqb r.horizontal q.horizontal in
      let vertical = pairwise eqb r.vertical q.vertical in
      let storages = pairwise eqb r.storages q.storages in
      let losses = pairwise equalℤ r.losses q.losses in
      let storage = eqb r.well_storage q.well_storage in
      let loss = equalℤ r.well_loss q.well_loss in
      let pumped = eqb r.pumped q.pumped in
      let inflow = equalℤ r.inflow q.inflow in
      let time = eqb r.time q.time in
      let mark = equalℤ r.mark q.mark in
      let parts = three_hold (same_site r.site q.site) (same_coefficients r q) (same_water r q) e in
      let cells = four_hold screen horizontal vertical storages parts.1 in
      let last = four_hold (losses && storage && loss && pumped) inflow time mark parts.2 in
      let well = four_hold losses storage loss pumped last.0 in
      λ i. record {
        site = same_site_lem r.site q.site parts.0 i;
        screen = numbers cells.0 i;
        horizontal = numbers cells.1 i;
        vertical = numbers cells.2 i;
        storages = numbers cells.3 i;
        losses = integers well.0 i;
        well_storage = eqb-true r.well_storage q.well_storage well.1 i;
        well_loss = equal r.well_loss q.well_loss well.2 i;
        pumped = eqb-true r.pumped q.pumped well.3 i;
        inflow = equal r.inflow q.inflow last.1 i;
        time = eqb-true r.time q.time last.2 i;
        mark = equal r.mark q.mark last.3 i;
      }

-- ---- a record and itself
number : (n : ℕ) → eqb n n ≡ true
number n = eq-eqb n n refl

list : (l : List ℕ) → pairwise eqb l l ≡ true
list l = pairwise_itself eqb number l

site_itself : (s : Site) → same_site s s ≡ true
unfolding same_site
site_itself s =
    rw (number s.layers, list s.thickness, list s.screened, list s.kh, list s.kv, list s.storage, number s.columns, list s.radii, number s.well_radius, number s.water_area, number s.intake, number s.friction, number s.loss_count, list s.loss_coefficients)

pub same_itself : (r : Record) → same_record r r ≡ true
unfolding same_record same_coefficients same_water
same_itself r =
    rw (site_itself r.site, list r.screen, list r.horizontal, list r.vertical, list r.storages, pairwise_itself equalℤ itself r.losses, number r.well_storage, itself r.well_loss, number r.pumped, itself r.inflow, number r.time, itself r.mark)

-- ---- what the reading answers
module _ (r q : Record) where
  pub same_answer : same_of r q ≡ given 0 true → (valid r ≡ true) × (valid q ≡ true) × (r ≡ q)
  unfolding same_of given first
  same_answer e = by_tests (valid r) (valid q) (same_record r q) refl refl refl (value_given _ _ e)
    where
      by_tests : (a b t : Bool) → valid r ≡ a → valid q ≡ b → same_record r q ≡ t → (first ((not a, 14) ∷ (not b, 14) ∷ []) ≡ 0) × (t ≡ true)
          → (valid r ≡ true) × (valid q ≡ true) × (r ≡ q)
      by_tests true true t p k s e = (p, k, same_record_lem r q (s ∙ e.1))
      by_tests true false t p k s e = absurd (omega (arith, e.0))
      by_tests false b t p k s e = absurd (omega (arith, e.0))
