-- `geometry::logarithm_cases`: three laws.
use Rattle.std.proofs.Common.{◌*◌}
use Rattle.geometry.proofs.Laws.{series_at_three, series_at_one, logarithm_most}
use Rattle.geometry.proofs.logarithm_cases.Goals as goal

pub returns : goal.returns
returns c = (λ q h. (series_at_three q h, series_at_one (3 * q)), logarithm_most)
