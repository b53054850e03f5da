-- V of the well is read back as it is, and 14 has let its D pass.
use Rattle.std.proofs.Common.{SFits, w64, to_z-of_z, rules}
use Rattle.validity.specs.Laws.{valid_record}
use Rattle.slot_places.specs.Drawdowns.{well_ask}
use Rattle.step_run.proofs.course_of.Goals as goal

pub drawdown-requires : goal.drawdown-requires
drawdown-requires c =
    let fits : SFits w64 c.args.rec.now.well_loss = search rules in
    rw (to_z-of_z fits) (well_ask c.args.rec.now (valid_record _ c.requires))
