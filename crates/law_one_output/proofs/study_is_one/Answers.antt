-- What each study tells is settled by the events that it studies.
use Rattle.law_one_output.proofs.StudiesOne.{study-one}
use Rattle.law_one_output.proofs.study_is_one.Goals as goal

pub returns : goal.returns
returns g start = study-one g.T.Target.meaning g.met.T.Target.lawful
