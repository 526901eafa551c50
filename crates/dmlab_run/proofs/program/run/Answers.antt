-- The run did what the words ask for.
use Rattle.dmlab_run.proofs.RunningLemmas.{Runs-written, Writes-words}
use Rattle.dmlab_run.proofs.program.run.Goals as goal

-- no work refuses words
pub returns-in-Ok-read_input-clause-words_first : goal.returns-in-Ok-read_input-clause-words_first
returns-in-Ok-read_input-clause-words_first g c words = absurd (Writes-words _ _ _ _ _ _
    (c.tell_work.ensures.writes _ c.in-Ok-read_input.ensures.read) words)

-- the work is what the words ask for
pub returns-in-Ok-read_input-clause-runs : goal.returns-in-Ok-read_input-clause-runs
returns-in-Ok-read_input-clause-runs g c =
    Runs-written _ _ c.in-Ok.work _ _ _ _ c.in-Ok.ensures.work c.in-Ok.ensures.kinds
    (c.tell_work.ensures.writes _ c.in-Ok-read_input.ensures.read)
