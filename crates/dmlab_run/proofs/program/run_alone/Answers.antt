-- What was read is the input, and what was told is the answer to it.
use Rattle.dmlab_run.proofs.program.run_alone.Goals as goal

pub returns-in-Ok-clause-writes : goal.returns-in-Ok-clause-writes
returns-in-Ok-clause-writes g c = c.tell_job.ensures.writes _ c.in-Ok.ensures.read
