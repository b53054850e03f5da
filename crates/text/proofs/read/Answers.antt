-- `text::read` meets its contract. The loop's invariant: the lines before the rest are read.
use Rattle.std.proofs.Common.{refl, sym, ◌∙◌, arith}
use Rattle.std.proofs.lemmas.Bool.Decides.{nat_tests}
use Rattle.std.proofs.lemmas.List.{nil_from_length}
use Rattle.decimal.specs.Laws.{number_read, malformed_read}
use Rattle.text.proofs.Passed.{passed_none, passed_more, values_length, all_passed, last-unended, line_malformed, too_long}
use Rattle.text.proofs.read.Goals as goal

pub returns-then-text-gt-TEXT_LIMIT : goal.returns-then-text-gt-TEXT_LIMIT
returns-then-text-gt-TEXT_LIMIT c = too_long c.args.text.now c.if-text-gt-TEXT_LIMIT.true

pub loop-end-init : goal.loop-end-init
loop-end-init c = passed_none c.args.text.now _ refl

pub returns-in_err-v : goal.returns-in_err-v
returns-in_err-v c =
    c.from_residual.ensures
    ∙ line_malformed _ _ _ _ c.loop-end.invariant _ (sym c.line_end.ensures ∙ c.in-Some.is) c.if-text-gt-TEXT_LIMIT.false
    (malformed_read _ (sym c.read.ensures ∙ c.in_err-v.was))

pub keep-requires : goal.keep-requires
keep-requires c = values_length _ _ _ _ c.loop-end.invariant

pub loop-end-preserved : goal.loop-end-preserved
loop-end-preserved c =
    let number = number_read _ _ (sym c.read.ensures ∙ c.in_ok-v.was) in
    rw c.keep.ensures
    (passed_more _ _ _ _ c.loop-end.invariant _ (sym c.line_end.ensures ∙ c.in-Some.is) _ number.0 number.1)

pub returns-then-not-is_empty : goal.returns-then-not-is_empty
returns-then-not-is_empty c = last-unended _ _ _ _ c.loop-end.invariant c.if-text-gt-TEXT_LIMIT.false (grind (arith, nat_tests)) (sym c.line_end.ensures ∙ c.in_default.is)

pub returns : goal.returns
returns c = all_passed _ _ _ _ c.loop-end.invariant c.if-text-gt-TEXT_LIMIT.false (nil_from_length _ (grind (arith, nat_tests)))
