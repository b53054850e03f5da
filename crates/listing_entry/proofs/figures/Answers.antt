-- `listing_entry::figures`: the line by what the run and the readings answer; a record that the readings do not refuse has no figure below 0.
use Rattle.std.proofs.Common.{◌≡◌, sym, w64, to_z, of_z, rules}
use Rattle.std.proofs.lemmas.Result.{err_from_is_err_and}
use Rattle.listing_entry.specs.Length.{line_read, line_no_drawdown, line_no_budget, line_refused}
use Rattle.listing_entry.specs.Laws.{figures_read}
use Rattle.listing_entry.proofs.figures.Goals as goal

pub returns-in_err-ran : goal.returns-in_err-ran
returns-in_err-ran c =
    let p = err_from_is_err_and c.from_residual.result c.from_residual.ensures.1 in
    rw (p.1, p.2) (λ n. line_refused n c.args.ran _ c.in_err-ran.was)

pub returns-in_err-well : goal.returns-in_err-well
returns-in_err-well c =
    let p = err_from_is_err_and c.from_residual-in_err-well.result c.from_residual-in_err-well.ensures.1 in
    rw (p.1, p.2) (λ n. line_no_drawdown n c.args.ran c.in_ok-ran.was (sym c.in_err-well.ensures))

pub returns-in_err-totals : goal.returns-in_err-totals
returns-in_err-totals c =
    let p = err_from_is_err_and c.from_residual-in_err-totals.result c.from_residual-in_err-totals.ensures.1 in
    rw (p.1, p.2) (λ n. line_no_budget n c.args.ran c.in_ok-ran.was (sym c.in_ok-well.ensures) (sym c.in_err-totals.ensures))

pub returns : goal.returns
returns c =
    let depth : to_z w64 (of_z w64 c.in_ok-well.well) ≡ c.in_ok-well.well = search rules in
    rw depth (
      figures_read c.args.ran.«record» _ _ (sym c.in_ok-well.ensures) (sym c.in_ok-totals.ensures),
      λ n. line_read n c.args.ran c.in_ok-ran.was (sym c.in_ok-well.ensures) (sym c.in_ok-totals.ensures),
    )
