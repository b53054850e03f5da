-- What 14 asks of the scenario's numbers in a record (document 01, 'Who brings a refusal about').
use Rattle.std.specs.Prelude.{Bool, ◌&&◌, List, ℕ, eqb, drop}
use Rattle.laws.specs.Lists.{every}
use Rattle.site.specs.declared.Site.{Site}
use Rattle.site.specs.Site.{counts_hold, numbers_hold, radii_hold, screen_holds}

-- counts, the numbers' limits, rules 4 and 5
unfoldable pub site_holds : Site → Bool
site_holds s = counts_hold s && numbers_hold s && radii_hold s && screen_holds s

-- ---- 0 in every slot that nothing uses
-- an array by layer, column or coefficient of which the first n slots are used
unfoldable pub zero_from : ℕ → List ℕ → Bool
zero_from n l = every (λ x. eqb x 0) (drop n l)

unfoldable pub site_unused : Site → Bool
site_unused s =
    zero_from s.layers s.thickness && zero_from s.layers s.screened && zero_from s.layers s.kh && zero_from s.layers s.kv
    && zero_from s.layers s.storage && zero_from s.columns s.radii && zero_from s.loss_count s.loss_coefficients
