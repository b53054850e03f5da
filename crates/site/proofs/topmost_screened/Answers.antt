-- `site::topmost_screened`: the search from the top is the search from layer i on.
use Rattle.std.proofs.Common.{◌≡◌, ◌∙◌, ◌-◌, arith, eq-eqb, ne_eqb, lt-ltb, le-ltb}
use Rattle.site.specs.Laws.{counts_hold_lem}
use Rattle.site.specs.Site.{is_screened, topmost_screened, screen_layer}
use Rattle.site.proofs.Laws.{topmost_turn}
use Rattle.site.proofs.topmost_screened.Goals as goal

pub loop-i-init : goal.loop-i-init
loop-i-init c =
    let e : c.args.site.layers - 0 ≡ c.args.site.layers = omega arith in
    ((counts_hold_lem _ c.requires).layers_most, rw e)

pub returns-then-site-i-eq1 : goal.returns-then-site-i-eq1
unfolding is_screened
returns-then-site-i-eq1 c =
    let here : screen_layer c.args.site ≡ c.loop-i.i = c.loop-i.invariant.1 ∙ topmost_turn _ _ c.loop-i.i c.loop-i-test.true ∙ rw (eq-eqb _ _ c.if-site-i-eq1.true) in
    rw (here, lt-ltb c.loop-i.i c.args.site.layers c.loop-i-test.true)

pub loop-i-preserved : goal.loop-i-preserved
unfolding is_screened
loop-i-preserved c = (
  c.loop-i.invariant.0,
  c.loop-i.invariant.1 ∙ topmost_turn _ _ c.loop-i.i c.loop-i-test.true ∙ rw (ne_eqb _ _ c.if-site-i-eq1.false),
)

pub returns : goal.returns
unfolding topmost_screened
returns c =
    let e : c.args.site.layers - c.loop-i.i ≡ 0 = omega arith in
    let far : screen_layer c.args.site ≡ c.loop-i.i = c.loop-i.invariant.1 ∙ rw e in
    rw (far, le-ltb c.loop-i.i c.args.site.layers (omega arith))
