-- What `same` answers of any two records.
use Rattle.std.proofs.Common.{◌≡◌, true, false, sym, subst, ◌∙◌}
use Rattle.std.proofs.lemmas.Bool.{false≢true}
use Rattle.record.specs.declared.Record.{Record}
use Rattle.readings.specs.Readings.{same_record, same_of}
use Rattle.readings.proofs.SameLaws.{same_record_lem, same_itself}
use Rattle.read_same.specs.Same.{Compares}
use Rattle.read_same.specs.Laws.{compared}
use Rattle.read_same.proofs.same_means_equal.Goals as goal

module _ (r q : Record) where
  -- records of which the test fails are not equal
  not_equal : same_record r q ≡ false → r ≡ q → ⊥
  not_equal e p = false≢true (sym e ∙ subst (λ x. same_record r x ≡ true) p (same_itself r))

  compares : Compares r q (r ≡ q) (same_of r q)
  unfolding same_of
  compares = compared r q (r ≡ q) (same_record r q) (λ ok fine. same_record_lem r q) (λ ok fine. not_equal)

pub returns : goal.returns
returns c one other = compares one other
