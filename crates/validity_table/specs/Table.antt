-- What 14 asks of the C that a record keeps between layers 1 and 2 (N6), by slot: for the inner contracts of this crate.
use Rattle.std.specs.Prelude.{Bool, List, ℕ, suc, ◌-◌, eqb, get_or}
use Rattle.laws.specs.Lists.{all_below}
use Rattle.site.specs.declared.Site.{Site}
use Rattle.coefficient_cells.specs.Cells.{down_of}

-- slot k of layer 1 holds what the scenario's numbers give column k+1, for each column before the last
unfoldable pub table_kept : Site → List ℕ → Bool
table_kept s vertical = all_below (s.columns - 1) (λ k. eqb (get_or vertical k 0) (down_of s 0 (suc k)))
