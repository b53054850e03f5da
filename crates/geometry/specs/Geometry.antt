-- Geometry to coefficients (document 01, the section of that name). All divisions round down.
-- Lengths are mm, areas mm², conductivities nm/s, conductances C 10^-12 m²/s, storages S nl per m of drawdown.
use Rattle.std.specs.Prelude.{cond, ◌||◌, ℕ, zero, suc, ◌+◌, ◌*◌, ◌-◌, ◌/◌, ◌^◌, ltb, eqb}

-- n terms of Λ's series from the one numbered k on: t_k/(2k+1), with t_(k+1) = t_k×w/2^30
unfoldable pub terms : ℕ → ℕ → ℕ → ℕ → ℕ
terms zero w k t = 0
terms (suc n) w k t = t / (2 * k + 1) + terms n w (suc k) (t * w / 2 ^ 30)

-- z of Λ(p, q)
unfoldable pub ratio : ℕ → ℕ → ℕ
ratio p q = (p - q) * 2 ^ 30 / (p + q)

-- Λ(p, q), which stands for ln(p/q) × 2^30, for q < p ≤ 3q: twice the sum of its terms 0 to 15
unfoldable pub series_logarithm : ℕ → ℕ → ℕ
series_logarithm p q = 2 * terms 16 (ratio p q * ratio p q / 2 ^ 30) 0 (ratio p q)

-- ln(3) × 2^30, as document 02 prints it (N4): Λ(3q, q) of every q above 0
abbrev pub logarithm_of_three : ℕ
logarithm_of_three = 1179625948

-- Λ(p, q) for q < p as far apart as rule 4 lets them be (N4), up to 9q: above 3q it is 1179625948 + Λ(p, 3q), at 3q and below the series
unfoldable pub logarithm : ℕ → ℕ → ℕ
logarithm p q = cond (ltb (3 * q) p) (logarithm_of_three + series_logarithm p (3 * q)) (series_logarithm p q)

-- area A_j of column j from its outer radius R_j and its inner radius R_(j−1); A_0 is that of R_0 and 0
unfoldable pub area : ℕ → ℕ → ℕ
area outer inner = 3373259426 * (outer ^ 2 - inner ^ 2) / 2 ^ 30

-- horizontal C of a layer of thickness b between columns j and j+1, with Λ(u_(j+1), u_j): equation 4 of document 000, in the form of
-- equation 9 of document 003
unfoldable pub horizontal : ℕ → ℕ → ℕ → ℕ
horizontal b kh Λ = b * kh * 6746518852 / Λ

-- vertical C over area a between a layer below layer 1, of thickness b₁ and conductivity kv₁, and the next one, of b₂ and kv₂ (document 01's b_a, Kv_a, b_b
-- and Kv_b): equations 5 and 6 of document 000
unfoldable pub vertical : ℕ → ℕ → ℕ → ℕ → ℕ → ℕ
vertical a b₁ kv₁ b₂ kv₂ = cond (eqb kv₁ 0 || eqb kv₂ 0) 0 (a * 2 * kv₁ * kv₂ / (b₁ * kv₂ + b₂ * kv₁))

-- vertical C over area a between layers 1 and 2, where the water table is s µm above the bottom of layer 1 (document 02, N6): equations 5 and 6 of
-- document 000 with its second rule for cells in the top layer, by which L is the distance from the water table to the centre of layer 2, s/1000 mm and
-- half of b₂; here kv₁ is Kv_1, and b₂ and kv₂ are b_2 and Kv_2. Times the difference of drawdowns it is the listing's KBAR*ATOP*GRAD
unfoldable pub from_table : ℕ → ℕ → ℕ → ℕ → ℕ → ℕ
from_table a kv₁ b₂ kv₂ s = cond (eqb kv₁ 0 || eqb kv₂ 0) 0 (a * 1000 * kv₁ * kv₂ / (s * kv₂ + 500 * b₂ * kv₁))

-- S of a cell of layer 1 from its specific yield in millionths: the storage term of equation 10 of document 000
unfoldable pub unconfined_storage : ℕ → ℕ → ℕ
unconfined_storage a yield = a * yield

-- S of a cell below layer 1 from its specific storage in 10^-9 per m: the storage term of equation 11 of document 000
unfoldable pub confined_storage : ℕ → ℕ → ℕ → ℕ
confined_storage a b storage = a * b * storage / 1000000

-- S of the well from its free water area W: the storage term of equation 12 of document 000
unfoldable pub well_storage : ℕ → ℕ
well_storage w = w * 1000000
