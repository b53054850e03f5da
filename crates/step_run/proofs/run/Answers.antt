-- A step more leaves what all the steps come to as it is; a refusal ends them there.
use Rattle.std.proofs.Common.{Ok, ◌≡◌, refl, sym, ap, ◌∙◌, ◌+◌, ◌-◌, arith}
use Rattle.validity.specs.Laws.{valid_record, valid_limits}
use Rattle.step_rules.specs.Ready.{with_course}
use Rattle.step_rules.proofs.Laws.{few_layers, asks_terms, stepped, course_kept, scratch_zeros}
use Rattle.step_rules.specs.Steps.{steps_of}
use Rattle.step_run.specs.Ran.{ran_of}
use Rattle.step_run.specs.Laws.{ready_next, ran_none, ran_taken, ran_refused}
use Rattle.step_run.proofs.run.Goals as goal

pub areas_of-areas-requires : goal.areas_of-areas-requires
areas_of-areas-requires c = valid_limits _ (valid_record _ c.requires.passed)

pub slots_built-requires : goal.slots_built-requires
slots_built-requires c =
    let e : c.terms_of-terms.result.layers ≡ c.args.«record».site.layers = ap (λ x. x.layers) c.terms_of-terms.ensures.value in
    omega (arith, e, few_layers c.args.«record» c.args.rate c.args.dt c.requires.passed)

pub loop-taken-init : goal.loop-taken-init
loop-taken-init c =
    let all : c.args.steps - 0 ≡ c.args.steps = omega arith in
    rw c.course_of-course.ensures
    (scratch_zeros c.terms_of-terms.result.layers c.terms_of-terms.result.columns c.args.«record».horizontal, c.requires, refl, ap (λ n. steps_of c.args.rate c.args.dt 0 n c.args.«record») all)

pub advance-advanced-requires-clause-advancing : goal.advance-advanced-requires-clause-advancing
advance-advanced-requires-clause-advancing c =
    asks_terms (with_course c.args.«record» c.loop-taken.course c.loop-taken.losses) c.args.rate c.args.dt c.loop-taken.invariant.1 c.terms_of-terms.ensures.value c.areas_of-areas.ensures c.loop-taken.invariant.2

pub returns-in-Err : goal.returns-in-Err
returns-in-Err c =
    let was = with_course c.args.«record» c.loop-taken.course c.loop-taken.losses in
    let i = c.loop-taken.invariant in
    let moved = stepped was c.args.rate c.args.dt i.1 c.terms_of-terms.ensures.value c.areas_of-areas.ensures i.2 c.advance-advanced.ensures in
    let kept = course_kept was c.args.rate c.args.dt i.1 c.terms_of-terms.ensures.value c.areas_of-areas.ensures i.2 c.advance-advanced.ensures in
    ran_refused c.args.rate c.args.dt was c.advance-advanced.result moved c.loop-taken.taken (c.args.steps - c.loop-taken.taken) (omega arith) kept _ c.in-Err.is
    ∙ ap ran_of i.3

pub loop-taken-preserved : goal.loop-taken-preserved
loop-taken-preserved c =
    let was = with_course c.args.«record» c.loop-taken.course c.loop-taken.losses in
    let i = c.loop-taken.invariant in
    let moved = stepped was c.args.rate c.args.dt i.1 c.terms_of-terms.ensures.value c.areas_of-areas.ensures i.2 c.advance-advanced.ensures in
    let kept = course_kept was c.args.rate c.args.dt i.1 c.terms_of-terms.ensures.value c.areas_of-areas.ensures i.2 c.advance-advanced.ensures in
    let left : c.args.steps - (c.loop-taken.taken + 1) ≡ c.args.steps - c.loop-taken.taken - 1 = omega arith in (
      c.advance-advanced.ensures.scratch,
      ready_next c.args.rate c.args.dt was c.advance-advanced.result moved i.1,
      kept,
      rw left (ran_taken c.args.rate c.args.dt was c.advance-advanced.result moved c.loop-taken.taken (c.args.steps - c.loop-taken.taken) (omega arith) c.in_default.is ∙ i.3),
    )

pub returns : goal.returns
returns c =
    let i = c.loop-taken.invariant in
    let all : c.args.steps ≡ c.loop-taken.taken = omega arith in
    ap (λ n. record { outcome = Ok tt; course = c.loop-taken.course; losses = c.loop-taken.losses; taken = n }) all
    ∙ ap (λ x. record { outcome = Ok tt; course = x; losses = c.loop-taken.losses; taken = c.loop-taken.taken }) (sym i.2)
    ∙ sym (ran_none c.args.rate c.args.dt (with_course c.args.«record» c.loop-taken.course c.loop-taken.losses) c.loop-taken.taken (c.args.steps - c.loop-taken.taken) (omega arith))
    ∙ ap ran_of i.3
