use Rattle.std.proofs.Common.{rules}
use Rattle.lab_text.proofs.RunsLemmas.{runs_list-nil}
use Rattle.lab_disk.proofs.Sequence.{concat-replicate}
use Rattle.lab_disk.proofs.runs.runs_of_zeroes.Goals as goal

-- as many zero bytes follow none as the sectors have
pub returns : goal.returns
returns c = search (rules, runs_list-nil, concat-replicate)
