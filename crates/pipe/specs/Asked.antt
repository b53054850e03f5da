-- What the functions on a site ask: inner definitions, for the contracts of this crate's functions.
use Rattle.std.specs.Prelude.{◌≡◌, true, List, ℕ, ◌<◌, Float, get_or}
use Rattle.std.specs.Float.{nan}
use Rattle.site.specs.declared.Site.{Site}
use Rattle.site.specs.Site.{is_screened, counts_hold, numbers_hold, screen_holds}

-- e by layer, from an array
abbrev pub e_of : List Float → ℕ → Float
e_of l k = get_or l k nan

-- i is a screened layer of a site within its limits
pub record Screened (s : Site) (i : ℕ) : Type 0 where
  pub counts : counts_hold s ≡ true
  pub numbers : numbers_hold s ≡ true
  pub screen : screen_holds s ≡ true
  pub layer : i < s.layers
  pub screened : is_screened s.screened i ≡ true
