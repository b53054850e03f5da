-- `read_flow::ends_turned`: the law that it states.
use Rattle.read_flow.proofs.FlowTurned.{flow_turned}
use Rattle.read_flow.proofs.ends_turned.Goals as goal

pub returns : goal.returns
returns c = flow_turned
