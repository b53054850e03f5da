-- `scenario::found` meets its contract.
use Rattle.std.proofs.Common.{◌≡◌, true, ◌||◌, ◌-◌, eqb, ltb, arith, eq-eqb, lt-ltb}
use Rattle.std.proofs.Math.Bool.{or-true}
use Rattle.refusals.specs.Refusals.{refusal}
use Rattle.sections.specs.Sections.{entries_of, entry_at}
use Rattle.scenario.proofs.Tests.{refused_by, given_by, no_entry, some_entry}
use Rattle.scenario.proofs.found.Goals as goal
use Rattle.scenario.proofs.found.Goals.{then-number-eq0-via-then-number-eq0, then-number-eq0-via-else-number-eq0+then-entries-number}

pub returns-then-number-eq0 : goal.returns-then-number-eq0
unfolding refusal
returns-then-number-eq0 c ns r =
    let n = c.args.number in
    let none : (eqb n 0 || ltb (entries_of ns) n) ≡ true =
    elim c.then-number-eq0.branch [
      | then-number-eq0-via-then-number-eq0 w ↦ rw (eq-eqb n 0 w.if-number-eq0.true)
      | then-number-eq0-via-else-number-eq0+then-entries-number w ↦ rw (lt-ltb (entries_of ns) n (omega (arith, w.entries.ensures ns r))) (or-true (eqb n 0))
    ] in
    refused_by _ (no_entry ns n none)

pub returns : goal.returns
returns c ns r =
    let n = c.args.number in
    let entry : c.entry_at.result ≡ entry_at ns (n - 1) = c.entry_at.ensures ns r in
    rw entry (given_by _ (some_entry ns n c.if-number-eq0.false (omega (arith, c.entries.ensures ns r))))
