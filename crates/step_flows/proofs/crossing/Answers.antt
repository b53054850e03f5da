-- `step_flows::crossing` meets its contract: D×Δt fits a word, and the size is at most the largest total.
use Rattle.std.proofs.Common.{ℕ, sym, ap, ◌∙◌, ◌≤◌, arith, pos, neg_ℤ, ◌+ℤ◌, w64, SFits, to_z-of_z}
use lib.IntN.{+ℤ_idl}
use Rattle.laws.specs.Signed.{read, small_fits, abs_neg}
use Rattle.limits.specs.Limits.{total_limit}
use Rattle.step_flows.proofs.Laws.{ahead_is, ahead_small, back_is, back_small}
use Rattle.step_flows.proofs.crossing.Goals as goal

-- the opposite of a total fits
opposite : (q : ℕ) → q ≤ total_limit → SFits w64 (neg_ℤ (pos q))
opposite q h = small_fits _ {n = total_limit} (omega (arith, abs_neg (pos q), h)) (omega arith)

pub quotient_word-requires : goal.quotient_word-requires
quotient_word-requires c = let a = c.args in (omega arith, omega (arith, ahead_small a.c a.here a.next a.dt c.requires.dt_bound (omega arith)))

pub overflow_cast-result : goal.overflow_cast-result
overflow_cast-result c = let a = c.args in omega (arith, c.quotient_word.ensures, ahead_small a.c a.here a.next a.dt c.requires.dt_bound (omega arith))

pub quotient_word-requires-else-here-next : goal.quotient_word-requires-else-here-next
quotient_word-requires-else-here-next c = let a = c.args in (omega arith, omega (arith, back_small a.c a.here a.next a.dt c.requires.dt_bound (omega arith)))

pub overflow_cast-result-else-here-next : goal.overflow_cast-result-else-here-next
overflow_cast-result-else-here-next c = let a = c.args in omega (arith, c.quotient_word-else-here-next.ensures, back_small a.c a.here a.next a.dt c.requires.dt_bound (omega arith))

pub overflow_sub-result : goal.overflow_sub-result
overflow_sub-result c =
    let a = c.args in
    let h : c.quotient_word-else-here-next.result ≤ total_limit = rw c.quotient_word-else-here-next.ensures (back_small a.c a.here a.next a.dt c.requires.dt_bound (omega arith)) in
    let q = c.quotient_word-else-here-next.result in
    let fits : SFits w64 (pos 0 +ℤ neg_ℤ (pos q)) = rw +ℤ_idl (opposite c.quotient_word-else-here-next.result h) in
    rw (read {n = q} (omega arith)) fits

pub returns-then-here-next : goal.returns-then-here-next
returns-then-here-next c =
    let a = c.args in
    let h : c.quotient_word.result ≤ total_limit = rw c.quotient_word.ensures (ahead_small a.c a.here a.next a.dt c.requires.dt_bound (omega arith)) in
    read (omega arith) ∙ ap pos c.quotient_word.ensures ∙ sym (ahead_is a.c a.here a.next a.dt (omega arith))

pub returns-else-here-next : goal.returns-else-here-next
returns-else-here-next c =
    let a = c.args in
    let h : c.quotient_word-else-here-next.result ≤ total_limit = rw c.quotient_word-else-here-next.ensures (back_small a.c a.here a.next a.dt c.requires.dt_bound (omega arith)) in
    rw (read {n = c.quotient_word-else-here-next.result} (omega arith), +ℤ_idl)
    (to_z-of_z (opposite c.quotient_word-else-here-next.result h) ∙ ap (λ n. neg_ℤ (pos n)) c.quotient_word-else-here-next.ensures ∙ sym (back_is a.c a.here a.next a.dt (omega arith)))
