-- `read_deep_cells::count_deep` meets its contract: after k turns the deep ones of the first k slots are counted.
use Rattle.std.proofs.Common.{sym, ap, ◌∙◌, arith, length}
use Rattle.read_deep_cells.specs.Codes.{code_of}
use Rattle.read_deep_cells.proofs.Turn.{none_counted, passed_over, counted}
use Rattle.read_deep_cells.proofs.count_deep.Goals as goal
use Rattle.read_deep_cells.proofs.count_deep.Goals.{then-is_deep, else-is_deep}

pub loop-k-init : goal.loop-k-init
loop-k-init c = (omega arith, none_counted _ _ code_of)

pub loop-k-preserved : goal.loop-k-preserved
loop-k-preserved c =
    let a = c.args in
    elim c.if-is_deep.branch [
      | then-is_deep w ↦ (omega arith, omega (arith, counted a.depth a.depths.now code_of c.loop-k.k (sym c.is_deep.ensures ∙ w.if-is_deep.true)))
      | else-is_deep w ↦ (omega arith, omega (arith, ap length (passed_over a.depth a.depths.now code_of c.loop-k.k (sym c.is_deep.ensures ∙ w.if-is_deep.false))))
    ]
