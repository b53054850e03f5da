-- `words::divide::quotient` meets its contract: the quotient fits a word exactly where the product's upper word is below the divisor.
use Rattle.std.proofs.Common.{◌*◌, ◌/◌, ◌^◌, ◌<◌, Some, sym, ap, ◌∙◌, arith}
use Rattle.laws.specs.Divide.{swap_lt, swap_le}
use Rattle.words.specs.Laws.{fitted-word, fitted_over}
use Rattle.words.proofs.Parts.{of_words}
use Rattle.words.proofs.divide.quotient.Goals as goal

pub returns-then-p-d : goal.returns-then-p-d
returns-then-p-d c =
    let fits : c.args.a * c.args.b / c.args.d < 2 ^ 64 = swap_lt (c.args.a * c.args.b) (omega arith) c.requires (rw c.product-p.ensures.0 at c.if-p-d.true) in
    ap Some (of_words (c.args.a * c.args.b) c.args.d c.product-p.ensures.0 c.product-p.ensures.1 c.by_word.ensures) ∙ sym (fitted-word fits)

pub returns : goal.returns
returns c = sym (fitted_over (swap_le (c.args.a * c.args.b) (omega arith) c.requires (rw c.product-p.ensures.0 at c.if-p-d.false)))
