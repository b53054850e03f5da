-- What the code works on the way to the record at the start: Λ and areas once a column, and slots of 64 bits.
use Rattle.std.specs.Prelude.{◌≡◌, Bool, cond, List, ℕ, ◌-◌, ◌^◌, ◌<◌, ◌≤◌, get_or, replicate, Option, Some, None}
use Rattle.laws.specs.Fill.{fill}
use Rattle.limits.specs.Limits.{column_places}
use Rattle.words.specs.Fitted.{fitted}
use Rattle.site.specs.declared.Site.{Site}
use Rattle.site.specs.Site.{radii_of}
use Rattle.site.specs.Limited.{Counts, Numbers, Rises}
use Rattle.site.specs.Columns.{logarithm_at, area_at}

-- what 2, 3 and 4 ask of a scenario's numbers
pub record InLimits (s : Site) : Type 0 where
  pub counts : Counts s
  pub numbers : Numbers s
  pub rises : (j : ℕ) → j < s.columns → Rises (radii_of s) j

-- Λ(u_(j+1), u_j) of each column j before the last, the well among them; it divides
pub record Logarithms (s : Site) (l : List ℕ) : Type 0 where
  pub at : (j : ℕ) → j < s.columns → get_or l j 0 ≡ logarithm_at s j
  pub above : (j : ℕ) → j < s.columns → 0 < get_or l j 0

-- A_j of each column j from 1 to the one before the last, mm², as an array; slot 0 holds 0
unfoldable pub areas_of : Site → List ℕ
areas_of s = fill s.columns (area_at s) (replicate column_places 0)

-- what such an array holds
pub record Areas (s : Site) (l : List ℕ) : Type 0 where
  pub at : (j : ℕ) → j < s.columns → get_or l j 0 ≡ area_at s j
  pub most : (j : ℕ) → j < s.columns → get_or l j 0 ≤ 2 ^ 44

-- a quotient as a word of 64 bits: the largest, which is over each limit of 6, stands for one that fits none
abbrev pub word_of : Option ℕ → ℕ
word_of (Some n) = n
word_of None = 2 ^ 64 - 1

unfoldable pub capped : ℕ → ℕ
capped n = word_of (fitted n)

-- what a slot holds: its coefficient where a face or cell uses it, else 0
unfoldable pub slot_of : Bool → ℕ → ℕ
slot_of used n = cond used (capped n) 0
