-- What 6 and 14 ask of a record's coefficients: each C and S within its limits, and 0 in every slot that no face or cell uses.
use Rattle.std.specs.Prelude.{Bool, ◌&&◌, ◌||◌, List, ℕ, ◌+◌, ◌/◌, ◌%◌, leb, eqb, get_or}
use Rattle.laws.specs.Lists.{all_below, every}
use Rattle.limits.specs.Limits.{layer_places, column_places, cell_places, conductance_limit, storage_limit, between}
use Rattle.network.specs.Grid.{Grid, layers_of, stored_columns, faces_of}
use Rattle.record.specs.declared.Record.{Record}
use Rattle.record.specs.Record.{is_cell, has_below, has_screen}

-- ---- 6 and 14: C of each face and S of each stored cell within their limits
unfoldable pub conductances_hold : Grid → Bool
conductances_hold G = every (λ f. leb f.conductance conductance_limit) (faces_of G)

unfoldable pub storages_hold : Grid → Bool
storages_hold G = every (λ i. every (λ j. between 1 storage_limit (G.storage i j)) (stored_columns G)) (layers_of G)

unfoldable pub coefficients_hold : Grid → Bool
coefficients_hold G = conductances_hold G && storages_hold G

-- ---- 14: anything but 0 in a slot that no face or cell uses
-- whether layer and column of slot k, by cell, are used
abbrev pub used_slot : (ℕ → ℕ → Bool) → ℕ → Bool
used_slot used k = used (k / column_places) (k % column_places + 1)

-- an array by cell holds 0 in each slot that is not used
unfoldable pub zero_unused : (ℕ → ℕ → Bool) → List ℕ → Bool
zero_unused used l = all_below cell_places (λ k. used_slot used k || eqb (get_or l k 0) 0)

unfoldable pub coefficients_unused : Record → Bool
coefficients_unused r =
    all_below layer_places (λ i. has_screen r.site i || eqb (get_or r.screen i 0) 0)
    && zero_unused (is_cell r.site) r.horizontal
    && zero_unused (has_below r.site) r.vertical
    && zero_unused (is_cell r.site) r.storages
