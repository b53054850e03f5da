-- Where several steps come to, beside the record: an inner definition, for the contract of `run`.
use Rattle.step_rules.specs.Ready.{course_of}
use Rattle.step_run.specs.declared.Ran.{Ran}
use Rattle.record.specs.declared.Repeated.{Repeated}

unfoldable pub ran_of : Repeated → Ran
ran_of x = record { outcome = x.outcome; course = course_of x.«record»; losses = x.«record».losses; taken = x.taken }
