-- All bytes follow none.
use Rattle.std.proofs.Common.{[], sym, ◌∙◌}
use Rattle.lab_text.proofs.RunsLemmas.{runs_list-nil, spelled-runs_list, filled-runs_list}
use Rattle.lab_text.proofs.RunsLemmas.{NeighboursDiffer-runs_list}
use Rattle.lab_text.proofs.run.runs_of.Goals as goal

-- they are the runs of no bytes and these
pub returns-clause-exact : goal.returns-clause-exact
returns-clause-exact c = c.in_ok-extend.ensures [] (c.none-runs.ensures ∙ sym runs_list-nil)

-- the runs of some bytes are made of them
pub returns-clause-spelled : goal.returns-clause-spelled
returns-clause-spelled c = rw (returns-clause-exact c) (spelled-runs_list c.args.bytes.now)

-- each has a byte
pub returns-clause-filled : goal.returns-clause-filled
returns-clause-filled c = rw (returns-clause-exact c) (filled-runs_list c.args.bytes.now)

-- and no two beside one another have one value
pub returns-clause-longest : goal.returns-clause-longest
returns-clause-longest c = rw (returns-clause-exact c) (NeighboursDiffer-runs_list c.args.bytes.now)
