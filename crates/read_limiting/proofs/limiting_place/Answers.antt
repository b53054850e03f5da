-- `read_limiting::limiting_place` meets its contract: the answer by the refusal that `step` gives.
use Rattle.std.proofs.Common.{◌≡◌, refl, ap, ◌∙◌, ℕ, arith, Ok, Err}
use Rattle.refusals.specs.declared.Refusal.{Refusal}
use Rattle.refusals.specs.Refusals.{refusal, given, outcome_of}
use Rattle.read_limiting.proofs.Answers.{refused_number, other_number, taken_number, answer_14, answer_8, answer_10, answer_11, answer_nothing}
use Rattle.read_limiting.proofs.Judged.{refused_8, refused_11}
use Rattle.read_limiting.proofs.limiting_place.Goals as goal

pub returns-in_default : goal.returns-in_default
returns-in_default c = answer_nothing _ _ _ (taken_number _ _ _ c.step.ensures c.in_default.is) (λ e. omega arith) (λ e. omega arith) (λ e. omega arith) (λ e. omega arith)

pub returns-in-Record : goal.returns-in-Record
unfolding given refusal
returns-in-Record c = answer_14 _ _ _ (refused_number _ _ _ c.step.ensures 14 (omega arith) (omega arith) (c.in-Err.is ∙ ap Err c.in-Record.is))

pub too_long-requires : goal.too_long-requires
unfolding given refusal
too_long-requires c = refused_8 _ _ _ (refused_number _ _ _ c.step.ensures 8 (omega arith) (omega arith) (c.in-Err.is ∙ ap Err c.in-Unstable.is))

pub returns-in-Unstable : goal.returns-in-Unstable
unfolding given refusal
returns-in-Unstable c = ap Ok c.too_long.ensures ∙ answer_8 _ _ _ (refused_number _ _ _ c.step.ensures 8 (omega arith) (omega arith) (c.in-Err.is ∙ ap Err c.in-Unstable.is))

pub returns-in-PastIntake : goal.returns-in-PastIntake
unfolding given refusal
returns-in-PastIntake c = answer_10 _ _ _ (refused_number _ _ _ c.step.ensures 10 (omega arith) (omega arith) (c.in-Err.is ∙ ap Err c.in-PastIntake.is))

pub past_bottom-requires : goal.past_bottom-requires
unfolding given refusal
past_bottom-requires c = refused_11 _ _ _ (refused_number _ _ _ c.step.ensures 11 (omega arith) (omega arith) (c.in-Err.is ∙ ap Err c.in-PastBottom.is))

pub returns-in-PastBottom : goal.returns-in-PastBottom
unfolding given refusal
returns-in-PastBottom c = ap Ok c.past_bottom.ensures ∙ answer_11 _ _ _ (refused_number _ _ _ c.step.ensures 11 (omega arith) (omega arith) (c.in-Err.is ∙ ap Err c.in-PastBottom.is))

pub returns-in_default-refusal : goal.returns-in_default-refusal
unfolding given refusal
returns-in_default-refusal c =
    let other = λ (n : ℕ) (l : Refusal) (q : outcome_of n ≡ Err l) (f : c.in-Err.refusal ≡ l → ⊥). other_number c.args.«record» c.args.rate c.args.dt c.step.ensures n c.in-Err.is q f in
    answer_nothing c.args.«record» c.args.rate c.args.dt refl (other 14 Refusal.Record refl c.in_default-refusal.not-Record) (other 8 Refusal.Unstable refl c.in_default-refusal.not-Unstable)
    (other 10 Refusal.PastIntake refl c.in_default-refusal.not-PastIntake) (other 11 Refusal.PastBottom refl c.in_default-refusal.not-PastBottom)
