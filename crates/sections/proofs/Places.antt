-- Where the sections' numbers stand in the array.
--     count_read         the count of the section whose place is known; section_read: one of its numbers
--     field_read         the number at place k of one of its records
--     copied_field, copied_section    those, copied one after the other to an array of zeros
--     places             how far from the front the sections' counts can be; counts_read: what stands there; known: both, and how large they can be
--     entry_near, entry_read, repeats_read    the places and numbers of the pumping entries; site-read: those of the first four sections, all together
use Rattle.std.proofs.Common.{◌≡◌, refl, sym, ap, ◌∙◌, Bool, List, ℕ, suc, ◌+◌, ◌*◌, ◌≤◌, ◌<◌, add-zero, mul-le-mul_left, arith, length, get_or, drop, replicate, length-drop}
use Rattle.std.proofs.Math.Seq.{get_or-take, get_or-drop}
use Rattle.laws.specs.Lists.{padded}
use Rattle.laws.specs.Padded.{get_or-padded}
use Rattle.laws.specs.Pointwise.{fill-padded}
use Rattle.limits.specs.Limits.{layer_places, column_places, coefficient_places, number_places}
use Rattle.site.specs.declared.Site.{Site}
use Rattle.sections.specs.declared.Layout.{Layout}
use Rattle.sections.specs.Sections.{layer_width, entry_width, section_count, section_of, rest_of, field, from_columns, from_well, from_loss, from_pumping, site_of, entries_of}
use Rattle.sections.specs.Reading.{Reads, field_copy}
use Rattle.sections.specs.Laws.{SectionFits, Form, form_passed, length_rest, length_section, length-field, get_or-field, Most, counts_most}

module _ (ns : List ℕ) (at : ℕ) {values rest : List ℕ} (held : values ≡ padded number_places 0 ns) (e : rest ≡ drop at ns) where
  number_read : (k : ℕ) → at + k < number_places → get_or values (at + k) 0 ≡ get_or rest k 0
  number_read k h = rw (held, e) (get_or-padded number_places 0 ns (at + k) h ∙ sym (get_or-drop at ns k 0))

  pub count_read : at < number_places → get_or values at 0 ≡ section_count rest
  unfolding section_count
  count_read h = ap (λ j. get_or values j 0) (sym (add-zero at)) ∙ number_read 0 (omega arith)

  section_read : (width k : ℕ) {j : ℕ} → k < width * section_count rest → j ≡ at + (1 + k) → j < number_places → get_or values j 0 ≡ get_or (section_of width rest) k 0
  unfolding section_of
  section_read width k {j} h q b =
      ap (λ i. get_or values i 0) q
      ∙ number_read (1 + k) (omega arith)
      ∙ sym (get_or-take (width * section_count rest) (drop 1 rest) k 0 h ∙ get_or-drop 1 rest k 0)

  module _ {limits : ℕ → Bool} {width : ℕ} (s : SectionFits limits width rest) (room : at + width * section_count rest < number_places) where
    field_read : (k i : ℕ) {j : ℕ} → k < width → i < section_count rest → j ≡ at + 1 + k + width * i → get_or values j 0 ≡ get_or (field width k (section_of width rest)) i 0
    field_read k i {j} h lt q =
        let most : width * suc i ≤ width * section_count rest = mul-le-mul_left width lt in
        section_read width (width * i + k) {j = j} (omega arith) (omega arith) (omega arith)
        ∙ sym (get_or-field width k (section_of width rest) i (omega (arith, length-field k (omega arith) s)))

    copied_field : (m k : ℕ) {from n : ℕ} → k < width → from ≡ at + 1 + k → n ≡ section_count rest → field_copy values from width n (replicate m 0) ≡ padded m 0 (field width k (section_of width rest))
    copied_field m k {from} {n} h q c =
        let long : length (field width k (section_of width rest)) ≡ section_count rest = length-field k (omega arith) s in
        fill-padded 0 (λ i. get_or values (from + width * i) 0) (field width k (section_of width rest))
        (λ i lt. field_read k i h (omega arith) (omega arith)) n m (long ∙ sym c)

  module _ {limits : ℕ → Bool} (s : SectionFits limits 1 rest) (room : at + section_count rest < number_places) where
    copied_section : (m : ℕ) {from n : ℕ} → from ≡ at + 1 → n ≡ section_count rest → field_copy values from 1 n (replicate m 0) ≡ padded m 0 (section_of 1 rest)
    copied_section m {from} {n} q c =
        let long : length (section_of 1 rest) ≡ 1 * section_count rest = length_section s in
        fill-padded 0 (λ i. get_or values (from + 1 * i) 0) (section_of 1 rest)
        (λ i lt. section_read 1 i (omega arith) (omega arith) (omega arith)) n m (omega arith)

-- the place of a section's count, from the place of the one before it
next_place : (ns rest : List ℕ) (width at next : ℕ) → rest ≡ drop at ns → rest_of width rest ≡ drop next ns → 1 ≤ length (rest_of width rest) → next ≡ at + 1 + width * section_count rest
next_place ns rest width at next e q h =
    omega (arith, length_rest width rest, ap length e, ap length q, length-drop at ns, length-drop next ns)

pub record Places (layout : Layout) : Type 0 where
  pub columns : layout.columns ≤ 101
  pub well : layout.well ≤ 152
  pub loss : layout.loss ≤ 157
  pub pumping : layout.pumping ≤ 160

pub record Counts (values : List ℕ) (layout : Layout) (ns : List ℕ) : Type 0 where
  pub layers : get_or values 0 0 ≡ section_count ns
  pub columns : get_or values layout.columns 0 ≡ section_count (from_columns ns)
  pub well : get_or values layout.well 0 ≡ section_count (from_well ns)
  pub loss : get_or values layout.loss 0 ≡ section_count (from_loss ns)
  pub entries : get_or values layout.pumping 0 ≡ section_count (from_pumping ns)

module _ {values ns : List ℕ} {layout : Layout} (r : Reads values layout ns) where
  pub form : Form ns
  form = form_passed ns r.form

  pub places : Places layout
  unfolding from_columns from_well from_loss from_pumping
  places =
      let f = form in
      let m = counts_most form in
      let c : layout.columns ≡ 0 + 1 + 5 * section_count ns = next_place ns ns 5 0 layout.columns refl r.columns (omega arith) in
      let w : layout.well ≡ layout.columns + 1 + 1 * section_count (from_columns ns) = next_place ns (from_columns ns) 1 layout.columns layout.well r.columns r.well (omega arith) in
      let l : layout.loss ≡ layout.well + 1 + 1 * section_count (from_well ns) = next_place ns (from_well ns) 1 layout.well layout.loss r.well r.loss (omega arith) in
      let p : layout.pumping ≡ layout.loss + 1 + 1 * section_count (from_loss ns) = next_place ns (from_loss ns) 1 layout.loss layout.pumping r.loss r.pumping (omega arith) in
      record { columns = omega arith; well = omega arith; loss = omega arith; pumping = omega arith }

  pub counts_read : Counts values layout ns
  counts_read =
      let p = places in
      record {
        layers = count_read ns 0 r.held refl (omega arith);
        columns = count_read ns layout.columns r.held r.columns (omega arith);
        well = count_read ns layout.well r.held r.well (omega arith);
        loss = count_read ns layout.loss r.held r.loss (omega arith);
        entries = count_read ns layout.pumping r.held r.pumping (omega arith);
      }

  pub entries_read : get_or values layout.pumping 0 ≡ entries_of ns
  unfolding entries_of
  entries_read = counts_read.entries

  -- number k of the entries
  pub entry_read : (k : ℕ) {j : ℕ} → k < entry_width * entries_of ns → j ≡ layout.pumping + 1 + k → get_or values j 0 ≡ get_or (section_of entry_width (from_pumping ns)) k 0
  unfolding entries_of
  entry_read k h q =
      let p = places in
      let m = counts_most form in
      section_read ns layout.pumping r.held r.pumping entry_width k h (omega arith) (omega arith)

  pub repeats_read : (i : ℕ) → i < entries_of ns → get_or values (layout.pumping + 3 + 3 * i) 0 ≡ get_or (field entry_width 2 (section_of entry_width (from_pumping ns))) i 0
  unfolding entries_of
  repeats_read i h =
      let p = places in
      let m = counts_most form in
      field_read ns layout.pumping r.held r.pumping form.pumping (omega arith) 2 i (omega arith) h (omega arith)

  -- an entry is near enough to the front
  pub entry_near : (i : ℕ) → i < entries_of ns → layout.pumping + 3 + 3 * i < number_places
  unfolding entries_of
  entry_near i h = omega (arith, places, counts_most form, h)

  -- the places and the counts, for the bounds
  pub known : Places layout × Counts values layout ns × Most ns
  known = (places, counts_read, counts_most form)

  layer_field : (k : ℕ) → k < 5 → field_copy values (k + 1) layer_width (get_or values 0 0) (replicate layer_places 0) ≡ padded layer_places 0 (field layer_width k (section_of layer_width ns))
  layer_field k h =
      let m = counts_most form in
      copied_field ns 0 r.held refl form.layers (omega arith) layer_places k h (omega arith) counts_read.layers

  -- the site, from the copies of its sections' numbers
  pub site-read :
      {thickness screened kh kv storage radii well losses : List ℕ} →
      thickness ≡ field_copy values 1 layer_width (get_or values 0 0) (replicate layer_places 0) →
      screened ≡ field_copy values 2 layer_width (get_or values 0 0) (replicate layer_places 0) →
      kh ≡ field_copy values 3 layer_width (get_or values 0 0) (replicate layer_places 0) →
      kv ≡ field_copy values 4 layer_width (get_or values 0 0) (replicate layer_places 0) →
      storage ≡ field_copy values 5 layer_width (get_or values 0 0) (replicate layer_places 0) →
      radii ≡ field_copy values (layout.columns + 1) 1 (get_or values layout.columns 0) (replicate column_places 0) →
      well ≡ field_copy values (layout.well + 1) 1 4 (replicate 4 0) →
      losses ≡ field_copy values (layout.loss + 1) 1 (get_or values layout.loss 0) (replicate coefficient_places 0) →
      ◌≡◌ {A = Site}
      (record {
        layers = get_or values 0 0;
        thickness = thickness;
        screened = screened;
        kh = kh;
        kv = kv;
        storage = storage;
        columns = get_or values layout.columns 0;
        radii = radii;
        well_radius = get_or well 0 0;
        water_area = get_or well 1 0;
        intake = get_or well 2 0;
        friction = get_or well 3 0;
        loss_count = get_or values layout.loss 0;
        loss_coefficients = losses;
      })
      (site_of ns)
  unfolding site_of
  site-read b screened kh kv storage radii well losses =
      let f = form in
      let m = counts_most form in
      let p = places in
      let c = counts_read in
      let kept = get_or-padded {A = ℕ} 4 0 in
      rw (
        b ∙ layer_field 0 (omega arith),
        screened ∙ layer_field 1 (omega arith),
        kh ∙ layer_field 2 (omega arith),
        kv ∙ layer_field 3 (omega arith),
        storage ∙ layer_field 4 (omega arith),
        radii ∙ copied_section ns layout.columns r.held r.columns f.columns (omega arith) column_places refl c.columns,
        well ∙ copied_section ns layout.well r.held r.well f.well (omega arith) 4 refl (sym m.well),
        losses ∙ copied_section ns layout.loss r.held r.loss f.loss (omega arith) coefficient_places refl c.loss,
        c.layers,
        c.columns,
        c.loss,
        kept (section_of 1 (from_well ns)) 0 (omega arith),
        kept (section_of 1 (from_well ns)) 1 (omega arith),
        kept (section_of 1 (from_well ns)) 2 (omega arith),
        kept (section_of 1 (from_well ns)) 3 (omega arith),
      )
