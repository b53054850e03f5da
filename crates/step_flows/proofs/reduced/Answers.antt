-- `step_flows::reduced` meets its contract: C in use is at most C, so that the quotient fits a word.
use Rattle.std.proofs.Common.{sym, ap, ◌∙◌, pos}
use Rattle.step_flows.proofs.Laws.{reduced_is}
use Rattle.step_flows.proofs.reduced.Goals as goal

pub returns : goal.returns
returns c =
    let a = c.args in
    let p = c.requires in
    ap pos (rw p.1 at c.quotient_word.ensures) ∙ sym (reduced_is a.thickness a.c a.here a.next p.2 p.3)
