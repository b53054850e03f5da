-- Laws about the sections, for the proofs of callers. It holds laws only and nothing to believe.
--     SectionFits limits width l    the section at the head of l has its count within the limits, and all its numbers
--     Form ns           the five sections of ns do, and nothing is left over; Most ns: how large each count can be
--     form_numbered     no test of the form has the number 0, as first-after asks
--     form_passed       where no test of the form holds, ns has the form
--     length_rest       how many numbers follow a section; length_section: how many it has; length-field: how many records
--     get_or-field        the number at place k of record i
--     between_most      a number between lo and hi is at most hi
--     counts_hold_lem       the counts of site_of ns are within their limits; counts_most: each is at most what Most says
--     entries_most      how many pumping entries there are at most
use Rattle.std.specs.Prelude.{◌≡◌, refl, Bool, true, List, ◌++◌, ℕ, ◌+◌, ◌-◌, ◌*◌, ◌/◌, ◌≤◌, ◌<◌, length, get_or, drop}
use Rattle.std.proofs.Common.{ap, ◌∙◌, zero-add, arith, length-drop, length-take-le, ltb-false, leb-true, eqb-true}
use Rattle.std.proofs.Math.Nat.{mul-div_cancel_left}
use Rattle.std.proofs.lemmas.List.{length-map}
use Rattle.std.proofs.lemmas.Bool.{not-false}
use Rattle.laws.specs.Lists.{every, first, range}
use Rattle.laws.specs.Refusal.{passed, numbered}
use Rattle.laws.specs.Sums.{length-range, get_or-map-range}
use Rattle.limits.specs.Limits.{between, layer_places, column_places, coefficient_places, entry_limit, layer_count, column_count, coefficient_count, well_count, entry_count}
use Rattle.site.specs.Site.{counts_hold}
use Rattle.site.specs.Laws.{within}
use Rattle.sections.specs.Sections.{layer_width, entry_width, section_count, section_of, rest_of, section_tests, from_columns, from_well, from_loss, from_pumping, left_over, form_tests, field, site_of, entries_of}

pub record SectionFits (limits : ℕ → Bool) (width : ℕ) (l : List ℕ) : Type 0 where
  pub count : limits (section_count l) ≡ true
  pub numbers : 1 + width * section_count l ≤ length l

pub record Form (ns : List ℕ) : Type 0 where
  pub layers : SectionFits layer_count layer_width ns
  pub columns : SectionFits column_count 1 (from_columns ns)
  pub well : SectionFits well_count 1 (from_well ns)
  pub loss : SectionFits coefficient_count 1 (from_loss ns)
  pub pumping : SectionFits entry_count entry_width (from_pumping ns)
  pub whole : length (left_over ns) ≤ 0

pub form_numbered : (ns : List ℕ) → numbered (form_tests ns) ≡ true
unfolding numbered every form_tests section_tests
form_numbered ns = refl

section_passed : (limits : ℕ → Bool) (width : ℕ) (l : List ℕ) (ts : List (Bool × ℕ)) → first (section_tests limits width l ++ ts) ≡ 0 → SectionFits limits width l × (first ts ≡ 0)
unfolding section_tests
section_passed limits width l ts e =
    let p₁ = passed _ 0 _ e in
    let p₂ = passed _ 1 _ p₁.1 in
    let p₃ = passed _ 0 _ p₂.1 in
    (record { count = not-false _ p₂.0; numbers = ltb-false _ _ p₃.0 }, p₃.1)

pub form_passed : (ns : List ℕ) → first (form_tests ns) ≡ 0 → Form ns
unfolding form_tests section_tests
form_passed ns e =
    let p₁ = section_passed layer_count layer_width ns _ e in
    let p₂ = section_passed column_count 1 (from_columns ns) _ p₁.1 in
    let p₃ = section_passed well_count 1 (from_well ns) _ p₂.1 in
    let p₄ = section_passed coefficient_count 1 (from_loss ns) _ p₃.1 in
    let p₅ = section_passed entry_count entry_width (from_pumping ns) _ p₄.1 in
    record {
      layers = p₁.0;
      columns = p₂.0;
      well = p₃.0;
      loss = p₄.0;
      pumping = p₅.0;
      whole = ltb-false 0 (length (left_over ns)) (passed _ 0 _ p₅.1).0;
    }

pub length_rest : (width : ℕ) (l : List ℕ) → length (rest_of width l) ≡ length l - (1 + width * section_count l)
unfolding rest_of
length_rest width l = length-drop (width * section_count l) (drop 1 l) ∙ omega (arith, length-drop 1 l)

pub length_section : {limits : ℕ → Bool} {width : ℕ} {l : List ℕ} → SectionFits limits width l → length (section_of width l) ≡ width * section_count l
unfolding section_of
length_section {limits} {width} {l} s = length-take-le (width * section_count l) (drop 1 l) (omega (arith, length-drop 1 l))

pub length-field : {limits : ℕ → Bool} {width : ℕ} {l : List ℕ} (k : ℕ) → 0 < width → SectionFits limits width l → length (field width k (section_of width l)) ≡ section_count l
unfolding field
length-field {limits} {width} {l} k h s =
    length-map (range 0 (length (section_of width l) / width)) _ ∙ length-range 0 (length (section_of width l) / width)
    ∙ rw (length_section s) (mul-div_cancel_left (section_count l) h)

pub get_or-field : (width k : ℕ) (l : List ℕ) (i : ℕ) → i < length (field width k l) → get_or (field width k l) i 0 ≡ get_or l (width * i + k) 0
unfolding field
get_or-field width k l i h =
    get_or-map-range (λ i. get_or l (width * i + k) 0) 0 0 (length l / width) i
    (omega (arith, h, length-map (range 0 (length l / width)) (λ i. get_or l (width * i + k) 0), length-range 0 (length l / width)))
    ∙ ap (λ j. get_or l (width * j + k) 0) (zero-add i)

-- the most that each count can be
pub record Most (ns : List ℕ) : Type 0 where
  pub layers : section_count ns ≤ layer_places
  pub columns : section_count (from_columns ns) ≤ column_places
  pub well : section_count (from_well ns) ≡ 4
  pub loss : section_count (from_loss ns) ≤ coefficient_places
  pub entries : section_count (from_pumping ns) ≤ entry_limit

pub between_most : (lo hi n : ℕ) → between lo hi n ≡ true → n ≤ hi
between_most lo hi n e = (within lo hi n e).most

module _ {ns : List ℕ} (f : Form ns) where
  pub counts_hold_lem : counts_hold (site_of ns) ≡ true
  unfolding counts_hold site_of
  counts_hold_lem = rw (f.layers.count, f.columns.count, f.loss.count)

  pub counts_most : Most ns
  counts_most = record {
    layers = between_most 2 layer_places (section_count ns) f.layers.count;
    columns = between_most 2 column_places (section_count (from_columns ns)) f.columns.count;
    well = eqb-true (section_count (from_well ns)) 4 f.well.count;
    loss = leb-true (section_count (from_loss ns)) coefficient_places f.loss.count;
    entries = leb-true (section_count (from_pumping ns)) entry_limit f.pumping.count;
  }

  pub entries_most : entries_of ns ≤ entry_limit
  unfolding entries_of
  entries_most = counts_most.entries
