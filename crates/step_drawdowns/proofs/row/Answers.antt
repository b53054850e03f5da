-- `step_drawdowns::row` meets its contract: after n turns the first n cells of the row are filled.
use Rattle.std.proofs.Common.{SFits, w64, to_z-of_z, rules, get_or, sym, ◌∙◌, map, ◌+◌, arith, pos}
use Rattle.laws.specs.Span.{span_none}
use Rattle.step_drawdowns.specs.Drawdowns.{depth_at}
use Rattle.laws.specs.Words.{words_span}
use Rattle.step_drawdowns.proofs.row.Goals as goal

pub loop-n-init : goal.loop-n-init
loop-n-init c = sym (span_none _ _ _)

pub drawdown_by-requires : goal.drawdown_by-requires
unfolding depth_at
drawdown_by-requires c =
    let at = c in
    let p = at.requires in
    let h = p.by_index at.loop-n.n (omega arith) in
    let f : SFits w64 (get_or at.args.losses.now (at.args.start + at.loop-n.n) (pos 0)) = search rules in
    rw (to_z-of_z f) (h.0, h.1, h.2, p.multiplied.at (at.args.start + at.loop-n.n))

pub loop-n-preserved : goal.loop-n-preserved
unfolding depth_at
loop-n-preserved c =
    let at = c in
    let a = at.args in
    let f : SFits w64 (get_or a.losses.now (a.start + at.loop-n.n) (pos 0)) = search rules in
    words_span (depth_at a.losses.now a.storages.now) (map pos a.depths.now) at.loop-n.depths a.start at.loop-n.n at.loop-n.invariant
    (c.drawdown_by.ensures ∙ rw (to_z-of_z f))
