-- The pipe of a well, layer by layer (document 01, 'Readings', last paragraph): the flow in it, its velocity, and its head loss up to the next
-- screened layer. The formulas stand in hydraulics. e of a layer is its inflow.
-- Lengths are mm, flows l/s, velocities m/s, head losses m.
use Rattle.std.specs.Prelude.{Bool, cond, ◌&&◌, List, [], ◌∷◌, ℕ, zero, suc, ◌+◌, ◌*◌, leb, Float, ℤ, pos, ◌-ℤ◌, get_or, Option, Some, None}
use Rattle.site.specs.declared.Site.{Site}
use Rattle.site.specs.Site.{is_screened, layer_top}
use Rattle.hydraulics.specs.Hydraulics.{◌⊕◌, float, millionths, velocity, pipe_loss}

-- ---- the velocity in the pipe

-- the screened ones of the first n layers from the deepest up to layer i
unfoldable pub screened_up_to : (ℕ → Bool) → ℕ → ℕ → List ℕ
screened_up_to screened i zero = []
screened_up_to screened i (suc n) = cond (leb i n && screened n) (n ∷ screened_up_to screened i n) (screened_up_to screened i n)

-- e of layers added to a sum, one after the other
unfoldable pub added_to : (ℕ → Float) → Float → List ℕ → Float
added_to e sum [] = sum
added_to e sum (k ∷ ks) = added_to e (sum ⊕ e k) ks

-- E of such layers: starting from e of the first, which is the deepest, upward
unfoldable pub added : (ℕ → Float) → List ℕ → Float
added e [] = float (pos 0)
added e (k ∷ ks) = added_to e (e k) ks

-- v of layer i of a site, by the e of its layers
unfoldable pub velocity_at : Site → (ℕ → Float) → ℕ → Float
velocity_at s e i = velocity (added e (screened_up_to (is_screened s.screened) i s.layers)) s.well_radius

-- ---- the pipe loss

-- twice the depth of the centre of layer i
unfoldable pub twice_centre : List ℕ → ℕ → ℕ
twice_centre thickness i = 2 * layer_top thickness i + get_or thickness i 0

-- where the pipe leads up from layer i: to the next screened layer above, or above the topmost one, None, to the intake
unfoldable pub upward_from : (ℕ → Bool) → ℕ → Option ℕ
upward_from screened zero = None
upward_from screened (suc i) = cond (screened i) (Some i) (upward_from screened i)

-- twice the distance from the centre of layer i to there
unfoldable pub twice_distance : Site → ℕ → Option ℕ → ℤ
twice_distance s i None = pos (twice_centre s.thickness i) -ℤ pos (2 * s.intake)
twice_distance s i (Some k) = pos (twice_centre s.thickness i) -ℤ pos (twice_centre s.thickness k)

-- v' there: v of that layer, and v itself above the topmost one
unfoldable pub velocity_above : Site → (ℕ → Float) → ℕ → Option ℕ → Float
velocity_above s e i None = velocity_at s e i
velocity_above s e i (Some k) = velocity_at s e k

unfoldable pub pipe_loss_at : Site → (ℕ → Float) → ℕ → Float
pipe_loss_at s e i =
    pipe_loss (millionths s.friction) (twice_distance s i (upward_from (is_screened s.screened) i)) s.well_radius
    (velocity_at s e i) (velocity_above s e i (upward_from (is_screened s.screened) i))
