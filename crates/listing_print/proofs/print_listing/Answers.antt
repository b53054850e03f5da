-- `listing_print::print_listing`: what has been written and what is left make the listing.
use Rattle.std.proofs.Common.{◌≡◌, sym, ap, ◌∙◌, ◌++◌, append-nil, append_assoc, arith}
use Rattle.listing.specs.declared.Opened.{Opened}
use Rattle.listing.specs.Listing.{bytes_of}
use Rattle.listing_print.proofs.Pieces.{appends_more, appends_same, left, opening_ended, opening_going, next_ended, next_going, none_left}
use Rattle.listing_print.proofs.print_listing.Goals as goal

pub returns-in_default : goal.returns-in_default
returns-in_default g c =
    let is = c.opening-opening.ensures.0 in
    appends_same _ _ (ap (λ (o : Opened). bytes_of o.line) is ∙ opening_ended c.args.text.now (rw is at c.in_default.is)) c.in_ok-print.ensures

pub loop-done-init : goal.loop-done-init
loop-done-init g c =
    let text = c.args.text.now in
    let is = c.opening-opening.ensures.0 in
    (_, c.in_ok-print.ensures, ap (λ (o : Opened). bytes_of o.line ++ left text 0 c.in-Some.start) is ∙ opening_going text (rw is at c.in-Some.is))

pub returns-in_default-next_entry : goal.returns-in_default-next_entry
returns-in_default-next_entry g c =
    let at = c.loop-done in
    let w = at.invariant in
    let none = next_ended c.args.text.now at.«record» at.done (sym c.in_default-next_entry.ensures.0) in
    appends_same _ _ (sym (append-nil w.0) ∙ ap (λ l. w.0 ++ l) (sym none) ∙ w.2) w.1

pub loop-done-preserved : goal.loop-done-preserved
loop-done-preserved g c =
    let at = c.loop-done in
    let w = at.invariant in
    let more = next_going c.args.text.now at.«record» at.done c.loop-done-test.true (sym c.in-Some-next_entry.ensures.0) in
    (_, appends_more _ _ _ w.0 _ w.1 c.in_ok-print-2.ensures, append_assoc w.0 _ _ ∙ ap (λ l. w.0 ++ l) (sym more) ∙ w.2)

pub returns : goal.returns
returns g c =
    let text = c.args.text.now in
    let at = c.loop-done in
    let w = at.invariant in
    let last : at.done ≡ 500 = omega (arith, at.auto.done-end, c.loop-done-test.false) in
    let none = ap (λ n. left text n at.«record») last ∙ none_left text at.«record» in
    appends_same _ _ (sym (append-nil w.0) ∙ ap (λ l. w.0 ++ l) (sym none) ∙ w.2) w.1
