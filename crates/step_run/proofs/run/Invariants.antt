-- What is left of the steps, from where they have come to, comes to what all of them come to from the first.
use Rattle.std.proofs.Common.{◌≡◌, ◌-◌}
use Rattle.step_sweep.specs.Worked.{Scratch}
use Rattle.step_rules.specs.Ready.{Ready, course_of, with_course}
use Rattle.step_rules.specs.Steps.{steps_of}
use Rattle.step_run.proofs.run.Given as goal

abbrev pub invariant-loop-taken : goal.invariant-loop-taken
invariant-loop-taken l =
    Scratch l.terms.layers l.terms.columns l.«record».horizontal l.work.faces.depths l.work.faces.conductances l.work.faces.down l.work.before
    × Ready (with_course l.«record» l.course l.losses) l.rate l.dt
    × (course_of (with_course l.«record» l.course l.losses) ≡ l.course)
    × (steps_of l.rate l.dt l.taken (l.steps - l.taken) (with_course l.«record» l.course l.losses) ≡ steps_of l.rate l.dt 0 l.steps l.«record»)
