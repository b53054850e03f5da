-- `step_drawdowns::by_multiplier` meets its contract: the high word is D or one less, and what it leaves says which.
use Rattle.std.proofs.Common.{ℕ, ◌≡◌, ap, ◌∙◌, ◌*◌, ◌/◌, ◌^◌}
use Rattle.step_drawdowns.specs.Drawdowns.{multiplier_of}
use Rattle.step_drawdowns.proofs.Laws.{low, low_fits, rest_small, is_next, is_low}
use Rattle.step_drawdowns.proofs.by_multiplier.Goals as goal

-- the high word, with the multiplier written out
high_is : (v s m h : ℕ) → m ≡ multiplier_of s → h ≡ v * m / 2 ^ 64 → h ≡ low v s
high_is v s m h e k = k ∙ ap (λ x. v * x / 2 ^ 64) e

pub difference-rest-requires : goal.difference-rest-requires
difference-rest-requires c =
    let a = c.args in
    let p = c.requires in
    let e = high_is a.v a.s a.multiplier c.high_word-low.result p.3 c.high_word-low.ensures in
    rw e (low_fits a.v a.s p.0 p.1, rest_small a.v a.s p.0 p.1 p.2)

pub returns-then-s-rest : goal.returns-then-s-rest
returns-then-s-rest c =
    let at = c in
    let a = at.args in
    let p = at.requires in
    let e = high_is a.v a.s a.multiplier c.high_word-low.result p.3 c.high_word-low.ensures in
    rw e (is_next a.v a.s p.0 p.1 (rw (c.difference-rest.ensures, e) at c.if-s-rest.true))

pub returns-else-s-rest : goal.returns-else-s-rest
returns-else-s-rest c =
    let at = c in
    let a = at.args in
    let p = at.requires in
    let e = high_is a.v a.s a.multiplier c.high_word-low.result p.3 c.high_word-low.ensures in
    rw e (is_low a.v a.s p.0 p.1 (rw (c.difference-rest.ensures, e) at c.if-s-rest.false))
