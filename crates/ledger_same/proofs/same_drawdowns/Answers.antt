-- Two records of which `same` says yes are equal, and so are the drawdowns read of them; and document 01's rule says yes exactly where these are.
use Rattle.std.proofs.Common.{◌≡◌, ℕ, ◌<◌, Bool, true, false, ◌&&◌, ◌||◌, eqb, ℤ, Ok, sym, refl, ap, ◌∙◌, subst, eq-eqb, eqb-true}
use mathlib.Core.Bool.{false≢true}
use Rattle.refusals.specs.Refusals.{given}
use Rattle.refusals.specs.Laws.{value_given}
use Rattle.laws.specs.All.{all_at}
use Rattle.laws.specs.Lists.{first}
use Rattle.laws.specs.Rows.{both_hold, three_hold, all_from}
use Rattle.network.specs.Network.{drawdown}
use Rattle.network.specs.Grid.{place_count, network_of}
use Rattle.record.specs.declared.Record.{Record}
use Rattle.record.specs.Record.{grid_of, state_of}
use Rattle.validity.specs.Validity.{equalℤ, valid}
use Rattle.validity.specs.Laws.{equal, itself}
use Rattle.readings.specs.Readings.{is_named, number_of}
use Rattle.readings.specs.Laws.{named-place, place-named, equal_names, equal_numbers, read_depth}
use Rattle.readings.proofs.SameLaws.{same_answer}
use Rattle.read_same.specs.Same.{Compares}
use Rattle.read_same.specs.Laws.{compared}
use Rattle.ledger_same.specs.SameDrawdowns.{SameDrawdowns, same_depths, same_drawdowns_of}
use Rattle.ledger_same.proofs.same_drawdowns.Goals as goal

either : (a b : Bool) → a ≡ b → (a || b) ≡ true → b ≡ true
either true b e h = sym e
either false b e h = h

abbrev D : Record → ℕ → ℤ
D r p = drawdown (network_of (grid_of r)) (state_of r).losses p

-- the rule's test
abbrev alike : Record → Record → Bool
alike r q = eqb (grid_of r).layers (grid_of q).layers && eqb (grid_of r).columns (grid_of q).columns && same_depths r q

module _ (r q : Record) (ok : valid r ≡ true) (fine : valid q ≡ true) where
  -- the test holds: so counts and readings are equal
  from_test : alike r q ≡ true → SameDrawdowns r q
  unfolding same_depths grid_of network_of given
  from_test e =
      let parts = three_hold (eqb (grid_of r).layers (grid_of q).layers) (eqb (grid_of r).columns (grid_of q).columns) (same_depths r q) e in
      let layers = eqb-true _ _ parts.0 in
      let columns = eqb-true _ _ parts.1 in
      record {
        layers = layers;
        columns = columns;
        depths = λ p h.
            let there = either (is_named (grid_of r) p) (is_named (grid_of q) p) (equal_names (grid_of r) (grid_of q) layers columns p) h in
            let here = equal_names (grid_of r) (grid_of q) layers columns p ∙ there in
            let depth = equal _ _ (all_at _ (place_count (grid_of r)) (number_of (grid_of r) p) parts.2 (named-place (grid_of r) p here)) in
            read_depth r ok p here
            ∙ ap Ok (depth ∙ ap (D q) (equal_numbers (grid_of r) (grid_of q) layers columns p))
            ∙ sym (read_depth q fine p there);
      }

  -- they are equal: so the test holds
  to_test : SameDrawdowns r q → alike r q ≡ true
  unfolding same_depths grid_of network_of given
  to_test s =
      both_hold (both_hold (eq-eqb _ _ s.layers) (eq-eqb _ _ s.columns)) (all_from _ (place_count (grid_of r)) depth)
    where
      depth : (n : ℕ) → n < place_count (grid_of r) → equalℤ (D r n) (D q n) ≡ true
      depth n h =
          let p = place-named (grid_of r) n h in
          let there = sym (equal_names (grid_of r) (grid_of q) s.layers s.columns p.0) ∙ p.1 in
          let read = sym (read_depth r ok p.0 p.1) ∙ s.depths p.0 (rw p.1 refl) ∙ read_depth q fine p.0 there in
          let same = ap (D r) (sym p.2) ∙ (value_given 0 _ read).1 ∙ ap (D q) (sym (equal_numbers (grid_of r) (grid_of q) s.layers s.columns p.0) ∙ p.2) in
          subst (λ x. equalℤ (D r n) x ≡ true) same (itself (D r n))

rule : (r q : Record) → Compares r q (SameDrawdowns r q) (same_drawdowns_of r q)
unfolding same_drawdowns_of
rule r q = compared r q (SameDrawdowns r q) (alike r q) (from_test r q) (λ ok fine e s. false≢true (sym e ∙ to_test r q ok fine s))

-- a record and itself
drawdowns_itself : (r : Record) → SameDrawdowns r r
drawdowns_itself r = record { layers = refl; columns = refl; depths = λ p e. refl }

yes_itself : (r : Record) → valid r ≡ true → same_drawdowns_of r r ≡ Ok true
unfolding same_drawdowns_of first given
yes_itself r ok = rw ok (ap Ok (to_test r r ok ok (drawdowns_itself r)))

pub returns : goal.returns
unfolding given
returns c = (
  λ one other same.
      let e = same_answer one other same in
      subst (λ q. SameDrawdowns one q × (same_drawdowns_of one q ≡ Ok true)) e.2 (drawdowns_itself one, yes_itself one e.0),
  rule,
)
