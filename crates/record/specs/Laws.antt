-- Laws about answers, for the proofs of this and other crates: laws only, nothing to believe.
--     outcome_of_lem         what an answer says became of the text or step
--     kept_of_lem            a refused one has the old record
--     refused_of         a number above 0 is a refusal
--     refusal_of         an outcome that is a refusal is that of its number; taken_of: one that is taken has the number 0
use Rattle.std.specs.Prelude.{◌≡◌, refl, ℕ, zero, suc, ◌<◌, Ok, Err}
use Rattle.refusals.specs.declared.Refusal.{Refusal}
use Rattle.refusals.specs.Refusals.{refusal, outcome_of}
use Rattle.refusals.specs.Laws.{value_given, refusal_given, given_refused}
use Rattle.record.specs.declared.Record.{Record}
use Rattle.record.specs.Record.{answer_of}

pub outcome_of_lem : (n : ℕ) (old new : Record) → (answer_of n old new).outcome ≡ outcome_of n
unfolding answer_of
outcome_of_lem zero old new = refl
outcome_of_lem (suc n) old new = refl

pub kept_of_lem : (n : ℕ) (old new : Record) → (n ≡ 0 → ⊥) → (answer_of n old new).«record» ≡ old
unfolding answer_of
kept_of_lem zero old new z = absurd (z refl)
kept_of_lem (suc n) old new z = refl

pub refused_of : (n : ℕ) → 0 < n → Err (refusal n) ≡ outcome_of n
refused_of n h = given_refused n tt h

pub refusal_of : (n : ℕ) (k : Refusal) → outcome_of n ≡ Err k → (refusal n ≡ k) × (n ≡ 0 → ⊥)
refusal_of n k e = refusal_given n tt e

pub taken_of : (n : ℕ) → outcome_of n ≡ Ok tt → n ≡ 0
taken_of n e = (value_given n tt e).0
