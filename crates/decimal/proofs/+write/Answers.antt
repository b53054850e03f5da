-- `decimal::write` meets its contract: the digits of the tenth, then the last.
use Rattle.std.proofs.Common.{◌∙◌, ap, arith}
use Rattle.decimal.proofs.Written.{first_written, next_written, place-left}
use Rattle.decimal.proofs.+write.Goals as goal
use Rattle.decimal.proofs.+write.Goals.{then-n-lt10, else-n-lt10}

pub push-requires : goal.push-requires
push-requires t c = (
  omega arith,
  elim c.if-n-lt10.branch [
    | then-n-lt10 w ↦ rw (w.digits-is, w.new-digits.ensures) (omega arith)
    | else-n-lt10 w ↦ place-left c.args.n c.ranges.n.fits _ (ap (λ d. d.items) w.digits-is ∙ w.write-digits.ensures)
  ],
)

pub returns : goal.returns
returns t c = elim c.if-n-lt10.branch [
  | then-n-lt10 w ↦ first_written c.args.n _ _ c.push.ensures.items w.if-n-lt10.true (ap (λ d. d.items) w.digits-is ∙ w.new-digits.ensures)
  | else-n-lt10 w ↦ next_written c.args.n _ _ c.push.ensures.items w.if-n-lt10.false (ap (λ d. d.items) w.digits-is ∙ w.write-digits.ensures)
]
