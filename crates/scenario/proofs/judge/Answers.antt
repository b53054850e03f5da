-- `scenario::judge` meets its contract: the form of the lines, then that of the sections, then what `made` says.
use Rattle.std.proofs.Common.{sym, ap, ◌∙◌, Err}
use Rattle.std.proofs.lemmas.Result.{err_from_is_err_and, MatchResult-at_ok, MatchResult-at_err}
use Rattle.laws.specs.Lists.{first}
use Rattle.refusals.specs.declared.Refusal.{Refusal}
use Rattle.refusals.specs.Refusals.{refusal, given}
use Rattle.refusals.specs.Laws.{value_given, refusal_given}
use Rattle.text.specs.Text.{numbers}
use Rattle.text.specs.Laws.{read_none, read_some}
use Rattle.site.specs.Site.{counts_hold}
use Rattle.sections.specs.Laws.{form_passed, counts_hold_lem}
use Rattle.coefficients.specs.Coefficients.{start_record}
use Rattle.scenario.specs.Scenario.{scenario_of, number_tests}
use Rattle.scenario.proofs.Tests.{none_refused, refused_as, malformed, unread, read}
use Rattle.scenario.proofs.judge.Goals as goal

pub returns-in_err-read : goal.returns-in_err-read
unfolding given refusal
returns-in_err-read c =
    let p = err_from_is_err_and c.from_residual.result c.from_residual.ensures.1 in
    rw (p.1, p.2, malformed _ (read_none _ (sym c.read.ensures ∙ c.in_err-read.ensures.ok_part)))
    (ap Err (sym (none_refused {k = Refusal.Lines} c.read.result c.in_err-read.ensures.value)))

pub returns-in-Err : goal.returns-in-Err
returns-in-Err c =
    let n = read_some c.args.text.now _ (sym c.read.ensures ∙ c.in_ok-read.ensures.ok_part) in
    let refused = MatchResult-at_err _ _ _ c.in-Err.is (c.layout_of.ensures (numbers c.args.text.now) n.2 n.1) in
    rw (unread c.args.text.now n.0 (refusal_given _ tt refused).1) refused

pub repeats_hold-repeats-requires : goal.repeats_hold-repeats-requires
repeats_hold-repeats-requires c =
    let n = read_some c.args.text.now _ (sym c.read.ensures ∙ c.in_ok-read.ensures.ok_part) in
    (_, MatchResult-at_ok _ _ _ c.in-Ok.is (c.layout_of.ensures (numbers c.args.text.now) n.2 n.1))

pub site_of-requires : goal.site_of-requires
site_of-requires c =
    let n = read_some c.args.text.now _ (sym c.read.ensures ∙ c.in_ok-read.ensures.ok_part) in
    (_, MatchResult-at_ok _ _ _ c.in-Ok.is (c.layout_of.ensures (numbers c.args.text.now) n.2 n.1))

pub made-requires : goal.made-requires
made-requires c =
    let n = read_some c.args.text.now _ (sym c.read.ensures ∙ c.in_ok-read.ensures.ok_part) in
    let r = MatchResult-at_ok _ _ _ c.in-Ok.is (c.layout_of.ensures (numbers c.args.text.now) n.2 n.1) in
    ap counts_hold (c.site_of.ensures _ r) ∙ counts_hold_lem (form_passed _ r.form)

pub returns-in_err-record : goal.returns-in_err-record
returns-in_err-record c =
    let p = err_from_is_err_and c.from_residual-in_err-record.result c.from_residual-in_err-record.ensures.1 in
    let n = read_some c.args.text.now _ (sym c.read.ensures ∙ c.in_ok-read.ensures.ok_part) in
    let r = MatchResult-at_ok _ _ _ c.in-Ok.is (c.layout_of.ensures (numbers c.args.text.now) n.2 n.1) in
    let number = read c.args.text.now n.0 r.form (c.site_of.ensures _ r) (c.repeats_hold-repeats.ensures _ r) in
    rw (p.1, p.2, number) (sym (refused_as (first (number_tests c.site_of.result c.repeats_hold-repeats.result)) tt (start_record c.site_of.result) (sym c.in_err-record.ensures)))

pub returns : goal.returns
unfolding scenario_of
returns c =
    let n = read_some c.args.text.now _ (sym c.read.ensures ∙ c.in_ok-read.ensures.ok_part) in
    let r = MatchResult-at_ok _ _ _ c.in-Ok.is (c.layout_of.ensures (numbers c.args.text.now) n.2 n.1) in
    let number = read c.args.text.now n.0 r.form (c.site_of.ensures _ r) (c.repeats_hold-repeats.ensures _ r) in
    let v = value_given (first (number_tests c.site_of.result c.repeats_hold-repeats.result)) (start_record c.site_of.result) (sym c.in_ok-record.ensures) in
    record { taken = number ∙ v.0; made = sym v.1 ∙ ap start_record (c.site_of.ensures _ r); read = r }
