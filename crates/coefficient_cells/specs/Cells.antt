-- C of the faces and S of the cells of a scenario, by layer and column, from the rules of geometry.
use Rattle.std.specs.Prelude.{ℕ, zero, suc, get_or}
use Rattle.geometry.specs.Geometry.{horizontal, vertical, from_table, unconfined_storage, confined_storage}
use Rattle.site.specs.declared.Site.{Site}
use Rattle.site.specs.Columns.{logarithm_at, area_at}

-- C of layer i between columns j and j+1, 10^-12 m²/s
unfoldable pub across_of : Site → ℕ → ℕ → ℕ
across_of s i j = horizontal (get_or s.thickness i 0) (get_or s.kh i 0) (logarithm_at s j)

-- C of column j between layers i and i+1, 10^-12 m²/s: between layers 1 and 2 the value at s = 0, which the record keeps (N6)
unfoldable pub down_of : Site → ℕ → ℕ → ℕ
down_of s zero j = from_table (area_at s j) (get_or s.kv 0 0) (get_or s.thickness 1 0) (get_or s.kv 1 0) 0
down_of s (suc i) j =
    vertical (area_at s j) (get_or s.thickness (suc i) 0) (get_or s.kv (suc i) 0) (get_or s.thickness (suc (suc i)) 0) (get_or s.kv (suc (suc i)) 0)

-- S of the cell of layer i and column j, nl per m: in layer 1 by its specific yield, below by its specific storage
unfoldable pub storage_of : Site → ℕ → ℕ → ℕ
storage_of s zero j = unconfined_storage (area_at s j) (get_or s.storage 0 0)
storage_of s (suc i) j = confined_storage (area_at s j) (get_or s.thickness (suc i) 0) (get_or s.storage (suc i) 0)
