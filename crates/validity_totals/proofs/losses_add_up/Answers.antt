-- `validity_totals::losses_add_up`: a loss over what is left takes the sum past the total.
use Rattle.std.proofs.Common.{◌≡◌, sym, ◌+◌, arith, rules, ne_eqb, pos, nat_abs, get_or, SFits, to_z-of_z, w64}
use Rattle.validity_totals.specs.Totals.{loss_sum}
use Rattle.validity_totals.proofs.Laws.{loss_more, loss_most}
use Rattle.validity_totals.proofs.losses_add_up.Goals as goal

pub returns-then-left-loss : goal.returns-then-left-loss
returns-then-left-loss c =
    let l = c.args.losses.now in
    let k = c.loop-loss.loss-index in
    let fits : SFits w64 (get_or l k (pos 0)) = search rules in
    let taken : c.unsigned_abs-loss.result ≡ nat_abs (get_or l k (pos 0)) = rw (to_z-of_z fits) at c.unsigned_abs-loss.ensures.value in
    sym (ne_eqb (loss_sum 1000 l + c.args.rest) c.args.total
    (λ e. omega (arith, taken, loss_more l k, loss_most l (k + 1) 1000 (omega arith))))
