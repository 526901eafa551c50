-- What each kind of output tells is settled by the texts, and the kinds exclude one another.
use Rattle.law_one_output.proofs.OutputOne.{output-one}
use Rattle.law_one_output.proofs.output_is_one.Goals as goal

pub returns : goal.returns
returns g start = output-one g.T.Target.meaning g.met.T.Target.lawful
