-- `listing_lines::with_word`: after i bytes of the word the line has these more.
use Rattle.std.proofs.Common.{◌≡◌, sym, ap, ◌∙◌, List, ℕ, ◌+◌, ◌≤◌, ◌<◌, add-one, arith, length, get_or, take, take_all, take-suc, length-take-le}
use Rattle.listing_lines.specs.declared.Line.{Line}
use Rattle.listing_lines.specs.Appended.{followed, appended}
use Rattle.listing_lines.specs.Laws.{appended_none, appended_more, length-appended}
use Rattle.listing_lines.proofs.with_word.Goals as goal

module _ {x : Line} {i : ℕ} (x₀ : Line) (word : List ℕ) (e : x ≡ appended x₀ (take i word)) where
  long : i ≤ length word → x.length ≡ x₀.length + i
  long h = ap (λ y. y.length) e ∙ length-appended x₀ (take i word) ∙ ap (λ n. x₀.length + n) (length-take-le i word h)

  more : i < length word → followed x (get_or word i 0) ≡ appended x₀ (take (i + 1) word)
  more h = rw (e, add-one i, take-suc word i 0 h) (appended_more x₀ (take i word) (get_or word i 0))

pub loop-byte-init : goal.loop-byte-init
loop-byte-init c = sym (appended_none _)

pub followed-longer-requires : goal.followed-longer-requires
followed-longer-requires c =
    omega (arith, long c.args.line c.args.word.now c.loop-byte.invariant c.loop-byte.auto.byte-index-end, c.requires, c.loop-byte-test.true)

pub loop-byte-preserved : goal.loop-byte-preserved
loop-byte-preserved c = c.followed-longer.ensures ∙ more c.args.line c.args.word.now c.loop-byte.invariant c.loop-byte-test.true

pub returns : goal.returns
returns c =
    let whole = c.loop-byte.invariant ∙ ap (appended c.args.line) (take_all c.loop-byte.byte-index c.args.word.now c.loop-byte-test.false) in
    (whole, ap (λ x. x.length) whole ∙ length-appended c.args.line c.args.word.now)
