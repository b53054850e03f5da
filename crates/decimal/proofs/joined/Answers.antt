-- `decimal::joined` meets its contract: a digit's byte is at least that of 0.
use Rattle.decimal.specs.Laws.{digit_from}
use Rattle.decimal.proofs.joined.Goals as goal

pub overflow_sub-result : goal.overflow_sub-result
overflow_sub-result c = digit_from c.args.c c.requires.1
