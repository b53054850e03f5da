-- What the theorem says of an answer to 8 or 11 is said of no other.
--     one_length     of no other place and length; one_bottom: of no other place
use Rattle.std.proofs.Common.{◌≡◌, sym, ap, ap₂, subst, ◌∙◌, true, true≢false, ℕ, suc, ◌*◌, ◌^◌, ◌≤◌, ◌<◌, mul-le-mul_right, arith, ◌≤ℤ◌, ◌<ℤ◌, leb-true, le-leb}
use lib.Signed.{clash_ℤ}
use borrow.Author.Tests.{not-true, not-false}
use Rattle.laws.specs.All.{all_at}
use Rattle.laws.specs.Number.{neither_below}
use Rattle.laws.specs.Rows.{all_from}
use Rattle.network.specs.Network.{Network, storage_at, conductance_sum, stable, unstable}
use Rattle.network.specs.Grid.{Grid, network_of}
use Rattle.record.specs.declared.Record.{Record}
use Rattle.record.specs.Record.{grid_of}
use Rattle.readings.specs.declared.Place.{Place}
use Rattle.readings.specs.declared.Place.TheVariants.{Cell}
use Rattle.readings.specs.Readings.{is_named, number_of}
use Rattle.readings.specs.Laws.{named_once}
use Rattle.read_limiting.specs.declared.Limiting.{Limiting}
use Rattle.read_limiting.specs.Reason.{depth_after, OfLength, OfBottom}

-- what 8 lets pass it lets pass at every shorter length
shorter_stable : (N : Network) (m n : ℕ) → m ≤ n → stable N n ≡ true → stable N m ≡ true
unfolding stable
shorter_stable N m n h e = all_from _ N.places (λ p k.
    le-leb (m * conductance_sum N p) (10 ^ 6 * storage_at N p) (omega (arith, mul-le-mul_right (conductance_sum N p) h, leb-true (n * conductance_sum N p) (10 ^ 6 * storage_at N p) (all_at _ N.places p e k))))

module _ (r : Record) (rate dt : ℕ) where
  abbrev G : Grid
  G = grid_of r

  abbrev N : Network
  N = network_of G

  -- ---- 8

  not_longer : {p q : Place} {m n : ℕ} → OfLength r rate dt p m → OfLength r rate dt q n → m < n → ⊥
  unfolding unstable
  not_longer {p} {q} {m} {n} f g lt = true≢false (sym (shorter_stable N (suc m) n lt (not-false (stable N n) g.passes)) ∙ not-true (stable N (suc m)) f.fails)

  not_earlier : {p q : Place} {n : ℕ} → OfLength r rate dt p n → OfLength r rate dt q n → number_of G p < number_of G q → ⊥
  not_earlier {p} {q} {n} f g lt = true≢false (sym (g.first p f.named lt) ∙ f.alone)

  pub one_length : {p q : Place} {m n : ℕ} → OfLength r rate dt p m → OfLength r rate dt q n → Limiting.TooLong p m ≡ Limiting.TooLong q n
  one_length {p} {q} {m} {n} f g =
      let same : m ≡ n = neither_below m n (not_longer f g) (not_longer g f) in
      let h : OfLength r rate dt p n = subst (λ k. OfLength r rate dt p k) same f in
      ap₂ Limiting.TooLong (named_once G p q f.named g.named (neither_below (number_of G p) (number_of G q) (not_earlier h g) (not_earlier g h))) same

  -- ---- 11

  not_inner : {p q : Place} (f : OfBottom r rate dt p) (g : OfBottom r rate dt q) → f.column < g.column → ⊥
  not_inner {p} {q} f g lt =
      let cell : p ≡ Cell 1 f.column = f.cell in
      let other : q ≡ Cell 1 g.column = g.cell in
      let here : is_named G (Cell 1 f.column) ≡ true = subst (λ x. is_named G x ≡ true) cell f.named in
      let there : is_named G (Cell 1 g.column) ≡ true = subst (λ x. is_named G x ≡ true) other g.named in
      clash_ℤ
      (subst (λ x. depth_after r rate dt (Cell 1 f.column) <ℤ depth_after r rate dt x) other (g.first f.column here lt))
      (subst (λ x. depth_after r rate dt (Cell 1 g.column) ≤ℤ depth_after r rate dt x) cell (f.deepest g.column there))

  pub one_bottom : {p q : Place} → OfBottom r rate dt p → OfBottom r rate dt q → p ≡ q
  one_bottom f g = f.cell ∙ ap (Cell 1) (neither_below f.column g.column (not_inner f g) (not_inner g f)) ∙ sym g.cell
