-- The five sections of a scenario's numbers (document 01, 'The scenario text'), and the refusals 1, 2 and 3 that they can bring about.
use Rattle.std.specs.Prelude.{Bool, not, List, [], ◌∷◌, ◌++◌, map, ℕ, ◌+◌, ◌*◌, ◌/◌, ltb, eqb, length, get_or, take, drop}
use Rattle.laws.specs.Lists.{every, padded, range}
use Rattle.site.specs.declared.Site.{Site}
use Rattle.limits.specs.Limits.{layer_places, column_places, coefficient_places, layer_count, column_count, coefficient_count, well_count, entry_count, repeat_limits}
use Rattle.sections.specs.declared.Entry.{Entry}

-- how many numbers a layer has, and how many a pumping entry; a record of the other sections is one number
abbrev pub layer_width : ℕ
layer_width = 5

abbrev pub entry_width : ℕ
entry_width = 3

-- ---- a section at the head of a list: its count, then `width` numbers for each record
-- the count; the section's numbers; what follows them
unfoldable pub section_count : List ℕ → ℕ
section_count ns = get_or ns 0 0

unfoldable pub section_of : ℕ → List ℕ → List ℕ
section_of width ns = take (width * section_count ns) (drop 1 ns)

unfoldable pub rest_of : ℕ → List ℕ → List ℕ
rest_of width ns = drop (width * section_count ns) (drop 1 ns)

-- its count is missing, the count is outside its limits, its numbers are missing
unfoldable pub section_tests : (ℕ → Bool) → ℕ → List ℕ → List (Bool × ℕ)
section_tests limits width ns =
    (eqb (length ns) 0, 1) ∷ (not (limits (section_count ns)), 2) ∷ (ltb (length ns) (1 + width * section_count ns), 1) ∷ []

-- ---- the five sections of a scenario's numbers: each list begins with its section's count
unfoldable pub from_columns : List ℕ → List ℕ
from_columns ns = rest_of layer_width ns

unfoldable pub from_well : List ℕ → List ℕ
from_well ns = rest_of 1 (from_columns ns)

unfoldable pub from_loss : List ℕ → List ℕ
from_loss ns = rest_of 1 (from_well ns)

unfoldable pub from_pumping : List ℕ → List ℕ
from_pumping ns = rest_of 1 (from_loss ns)

unfoldable pub left_over : List ℕ → List ℕ
left_over ns = rest_of entry_width (from_pumping ns)

-- counts and lengths, section by section, then numbers left over
unfoldable pub form_tests : List ℕ → List (Bool × ℕ)
form_tests ns =
    section_tests layer_count layer_width ns
    ++ section_tests column_count 1 (from_columns ns)
    ++ section_tests well_count 1 (from_well ns)
    ++ section_tests coefficient_count 1 (from_loss ns)
    ++ section_tests entry_count entry_width (from_pumping ns)
    ++ (ltb 0 (length (left_over ns)), 1) ∷ []

-- ---- what the sections hold
-- the number at place k of each record of `width` numbers
unfoldable pub field : ℕ → ℕ → List ℕ → List ℕ
field width k ns = map (λ i. get_or ns (width * i + k) 0) (range 0 (length ns / width))

-- the numbers of the first four sections
unfoldable pub site_of : List ℕ → Site
site_of ns = record {
  layers = section_count ns;
  thickness = padded layer_places 0 (field layer_width 0 (section_of layer_width ns));
  screened = padded layer_places 0 (field layer_width 1 (section_of layer_width ns));
  kh = padded layer_places 0 (field layer_width 2 (section_of layer_width ns));
  kv = padded layer_places 0 (field layer_width 3 (section_of layer_width ns));
  storage = padded layer_places 0 (field layer_width 4 (section_of layer_width ns));
  columns = section_count (from_columns ns);
  radii = padded column_places 0 (section_of 1 (from_columns ns));
  well_radius = get_or (section_of 1 (from_well ns)) 0 0;
  water_area = get_or (section_of 1 (from_well ns)) 1 0;
  intake = get_or (section_of 1 (from_well ns)) 2 0;
  friction = get_or (section_of 1 (from_well ns)) 3 0;
  loss_count = section_count (from_loss ns);
  loss_coefficients = padded coefficient_places 0 (section_of 1 (from_loss ns));
}

-- how many entries, and entry i, counted from 0
unfoldable pub entries_of : List ℕ → ℕ
entries_of ns = section_count (from_pumping ns)

unfoldable pub entry_at : List ℕ → ℕ → Entry
entry_at ns i = record {
  rate = get_or (section_of entry_width (from_pumping ns)) (entry_width * i) 0;
  length = get_or (section_of entry_width (from_pumping ns)) (entry_width * i + 1) 0;
  repeats = get_or (section_of entry_width (from_pumping ns)) (entry_width * i + 2) 0;
}

-- 3 for the pumping section: rate and length are judged when stepped
unfoldable pub repeats_hold : List ℕ → Bool
repeats_hold ns = every repeat_limits (field entry_width 2 (section_of entry_width (from_pumping ns)))
