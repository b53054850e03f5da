-- D of a record's cells by slot: an inner definition, for the contract of `readings::depths`.
use Rattle.std.specs.Prelude.{◌≡◌, List, map, ℕ, ◌*◌, pos, replicate}
use Rattle.laws.specs.Fill.{fill}
use Rattle.record.specs.declared.Record.{Record}
use Rattle.step_drawdowns.specs.Drawdowns.{depth_at}

-- D of each cell in its slot, and 0 in the other slots
abbrev pub Depths : Record → List ℕ → Type 0
Depths r ds = map pos ds ≡ fill (50 * r.site.layers) (depth_at r.losses r.storages) (replicate 1000 (pos 0))
