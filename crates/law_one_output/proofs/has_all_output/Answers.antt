-- What a check writes is there, and so are the faults beside it.
use Rattle.law_one_output.proofs.AllOne.{has-all-output}
use Rattle.law_one_output.proofs.has_all_output.Goals as goal

pub returns : goal.returns
returns g start = has-all-output g.T.Target.meaning g.met.T.Target.lawful
