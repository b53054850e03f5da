-- `pipe::added`: what is left to add are the screened layers above k, up to `layer`.
use Rattle.std.proofs.Common.{◌≡◌, sym, ap, ◌∙◌, ◌+◌, ◌-◌, arith, eq-eqb, ne_eqb}
use Rattle.site.specs.Site.{is_screened}
use Rattle.pipe.specs.Pipe.{screened_up_to, added_to}
use Rattle.pipe.specs.Asked.{e_of}
use Rattle.pipe.proofs.Laws.{deepest, up_to_none, added_from, added_more}
use Rattle.pipe.proofs.added.Goals as goal

pub offset_bounds-inflows-deepest : goal.offset_bounds-inflows-deepest
offset_bounds-inflows-deepest c =
    let d = deepest c.requires.1 c.requires.2 c.upward_from.ensures c.unwrap_or-deepest.ensures in omega (arith, d.most)

pub bounds-inflows-deepest : goal.bounds-inflows-deepest
bounds-inflows-deepest c =
    let d = deepest c.requires.1 c.requires.2 c.upward_from.ensures c.unwrap_or-deepest.ensures in omega (arith, d.most)

pub loop-k-init : goal.loop-k-init
loop-k-init c =
    let d = deepest c.requires.1 c.requires.2 c.upward_from.ensures c.unwrap_or-deepest.ensures in
    (d.least, omega (arith, d.most), added_from (e_of c.args.inflows.now) _ d.front)

pub loop-k-preserved-then-screened-k-eq1 : goal.loop-k-preserved-then-screened-k-eq1
unfolding is_screened
loop-k-preserved-then-screened-k-eq1 c =
    let a = c.args in
    let k = c.loop-k.k in
    let e : k ≡ k - 1 + 1 = omega arith in (
      omega arith,
      omega arith,
      c.loop-k.invariant.2
          ∙ ap (λ n. added_to (e_of a.inflows.now) c.loop-k.sum (screened_up_to (is_screened a.screened.now) a.layer n)) e
          ∙ added_more (e_of a.inflows.now) (is_screened a.screened.now) a.layer (k - 1) c.loop-k.sum (omega arith)
          ∙ rw (eq-eqb _ _ c.if-screened-k-eq1.true),
    )

pub loop-k-preserved : goal.loop-k-preserved
unfolding is_screened
loop-k-preserved c =
    let a = c.args in
    let k = c.loop-k.k in
    let e : k ≡ k - 1 + 1 = omega arith in (
      omega arith,
      omega arith,
      c.loop-k.invariant.2
          ∙ ap (λ n. added_to (e_of a.inflows.now) c.loop-k.sum (screened_up_to (is_screened a.screened.now) a.layer n)) e
          ∙ added_more (e_of a.inflows.now) (is_screened a.screened.now) a.layer (k - 1) c.loop-k.sum (omega arith)
          ∙ rw (ne_eqb _ _ c.if-screened-k-eq1.false),
    )

pub returns : goal.returns
unfolding added_to
returns c =
    let a = c.args in
    sym (c.loop-k.invariant.2 ∙ ap (added_to (e_of a.inflows.now) c.loop-k.sum) (up_to_none (is_screened a.screened.now) a.layer c.loop-k.k (omega arith)))
