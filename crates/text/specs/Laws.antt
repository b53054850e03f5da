-- Laws of the definitions in Text.antt, for the proofs of other crates; nothing here is to be believed.
--     read_none          which text reads as none
--     read_some          which reads as numbers: it has the form, and its numbers are counted and the first are kept
use Rattle.std.specs.Prelude.{◌≡◌, refl, Some, None, Bool, true, false, cond, List, ℕ, length}
use Rattle.std.proofs.Common.{sym, ap}
use Rattle.laws.specs.Lists.{padded}
use Rattle.limits.specs.Limits.{number_places}
use Rattle.text.specs.declared.Numbers.{Numbers}
use Rattle.text.specs.Text.{well_formed, numbers, formed_with, read_of}

none_by : (b : Bool) (n : Numbers) → cond b (Some n) None ≡ None → b ≡ false
none_by true n e = absurd cc
none_by false n e = refl

some_by : (b : Bool) (n r : Numbers) → cond b (Some n) None ≡ Some r → (b ≡ true) × (n ≡ r)
some_by true n r e = (refl, cc)
some_by false n r e = absurd cc

module _ (text : List ℕ) where
  pub read_none : read_of text ≡ None → well_formed text ≡ false
  unfolding read_of
  read_none e = none_by (well_formed text) (formed_with (numbers text)) e

  pub read_some : (r : Numbers) → read_of text ≡ Some r → (well_formed text ≡ true) × (r.count ≡ length (numbers text)) × (r.values ≡ padded number_places 0 (numbers text))
  unfolding read_of formed_with
  read_some r e =
      let q = some_by (well_formed text) (formed_with (numbers text)) r e in
      (q.0, sym (ap (λ n. n.count) q.1), sym (ap (λ n. n.values) q.1))
