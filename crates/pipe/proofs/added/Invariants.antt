-- `pipe::added`: what is left to add are the screened layers above k, up to `layer`.
use Rattle.std.proofs.Common.{◌≡◌, ◌≤◌, ◌<◌}
use Rattle.site.specs.Site.{is_screened}
use Rattle.pipe.specs.Pipe.{screened_up_to, added_to, added}
use Rattle.pipe.specs.Asked.{e_of}
use Rattle.pipe.proofs.added.Given as goal

abbrev pub invariant-loop-k : goal.invariant-loop-k
invariant-loop-k l =
    (l.layer ≤ l.k) × (l.deepest < 20)
    × (added (e_of l.inflows) (screened_up_to (is_screened l.screened) l.layer l.layers) ≡ added_to (e_of l.inflows) l.sum (screened_up_to (is_screened l.screened) l.layer l.k))
