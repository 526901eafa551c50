-- What a check writes is one, and so are the faults beside it.
use Rattle.law_one_output.proofs.AllOne.{all-one}
use Rattle.law_one_output.proofs.all_is_one.Goals as goal

pub returns : goal.returns
returns g start = all-one g.T.Target.meaning g.met.T.Target.lawful
