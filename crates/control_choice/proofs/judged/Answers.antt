-- `control_choice::judged`: 14 by a trial with no step, then 20, then the rates.
use Rattle.std.proofs.Common.{◌≡◌, sym, ap, ◌∙◌, Bool, Ok}
use Rattle.record.specs.declared.Record.{Record}
use Rattle.step.specs.Repeat.{repeat_of}
use Rattle.validity.specs.Validity.{valid}
use Rattle.control_choice.specs.Choice.{is_taken}
use Rattle.control_choice.proofs.laws.Row.{repeat_judges}
use Rattle.control_choice.proofs.laws.Theorem.{holds}
use Rattle.control_choice.proofs.laws.Highest.{above_rising}
use Rattle.control_choice.proofs.Answers.{answer_14, answer_20, answer_choice}
use Rattle.control_choice.proofs.judged.Goals as goal

passed : (r : Record) {t : Bool} → t ≡ is_taken (repeat_of r 0 0 0).outcome → {u : Bool} → t ≡ u → valid r ≡ u
passed r e q = sym (repeat_judges 0 0 _) ∙ sym e ∙ q

pub returns-then-not-all_taken : goal.returns-then-not-all_taken
returns-then-not-all_taken c = answer_14 _ _ _ _ (passed _ c.all_taken.ensures c.if-not-all_taken.true)

pub returns-then-not-list_holds : goal.returns-then-not-list_holds
returns-then-not-list_holds c = answer_20 _ _ _ _ (passed _ c.all_taken.ensures c.if-not-all_taken.false) (sym c.list_holds.ensures ∙ c.if-not-list_holds.true)

pub highest-requires : goal.highest-requires
highest-requires c =
    let h = holds _ _ (sym c.list_holds.ensures ∙ c.if-not-list_holds.false) in (passed _ c.all_taken.ensures c.if-not-all_taken.false, above_rising _ h.rise)

pub returns : goal.returns
returns c = ap Ok c.highest.ensures ∙ answer_choice _ _ _ _ (passed _ c.all_taken.ensures c.if-not-all_taken.false) (sym c.list_holds.ensures ∙ c.if-not-list_holds.false)
