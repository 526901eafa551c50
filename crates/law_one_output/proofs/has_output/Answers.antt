-- Bytes have a fault, or are a bundle; its texts have a fault of reading, or break a rule, the first
-- of which is found by going through all spots, or are a scenario; and a scenario has an answer to
-- each job.
use Rattle.law_one_output.proofs.OutputTold.{has-output}
use Rattle.law_one_output.proofs.has_output.Goals as goal

pub returns : goal.returns
returns g start = has-output g.T.Target.meaning g.met.T.Target.lawful
