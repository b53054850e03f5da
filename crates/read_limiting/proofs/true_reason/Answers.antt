-- The answer gives the true reason, whatever is handed in.
use Rattle.read_limiting.proofs.Reasons.{reason}
use Rattle.read_limiting.proofs.true_reason.Goals as goal

pub returns : goal.returns
returns c = reason
