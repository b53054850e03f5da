-- `hydraulics::screen_law` meets its contract, count by count.
use Rattle.std.proofs.Common.{sym, ap, ap₂, ◌∙◌, arith}
use Rattle.hydraulics.specs.declared.ScreenLaw.TheVariants.{Linear, Square}
use Rattle.hydraulics.specs.Hydraulics.{law_of}
use Rattle.hydraulics.proofs.Laws.{law_square}
use Rattle.hydraulics.proofs.screen_law.Goals as goal

pub returns-in-0 : goal.returns-in-0
unfolding law_of
returns-in-0 c = rw c.in-0.is

pub returns-in-1 : goal.returns-in-1
unfolding law_of
returns-in-1 c = rw c.in-1.is (ap Linear c.millionths.ensures)

pub returns-in_default : goal.returns-in_default
returns-in_default c =
    ap₂ Square c.millionths-in_default.ensures c.millionths-in_default-2.ensures ∙ sym (law_square _ _ _ (omega arith))
