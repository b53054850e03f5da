-- `step_flows::at_table` meets its contract: C in use is at most the value at s = 0, so that the quotient is a word.
use Rattle.std.proofs.Common.{sym, ap, ◌∙◌, ◌*◌, ◌-◌, lt_of_le_of_lt, pos}
use Rattle.words.specs.Laws.{fitted-word, word-fitted}
use Rattle.geometry.specs.Laws.{from_table_le}
use Rattle.step_flows.proofs.Laws.{table_is}
use Rattle.step_flows.proofs.at_table.Goals as goal

pub unwrap-requires : goal.unwrap-requires
unwrap-requires c =
    let a = c.args in
    let word = fitted-word (lt_of_le_of_lt (from_table_le a.a a.kv1 a.b2 a.kv2 (1000 * a.thickness - a.here) c.requires.a_bound.3) c.requires.here_bound.1) in
    rw (c.from_table.ensures, word)

pub returns : goal.returns
returns c =
    let a = c.args in
    ap pos (sym (word-fitted (sym c.from_table.ensures ∙ c.unwrap.ensures))) ∙ sym (table_is a.a a.thickness a.kv1 a.b2 a.kv2 a.here c.requires.here_bound.0)
