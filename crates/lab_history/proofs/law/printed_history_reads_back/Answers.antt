-- The lines of the printed text, from the first on, tell the events.
use Rattle.lab_history.proofs.PrintedLemmas.{events_from-history_text}
use Rattle.lab_history.proofs.law.printed_history_reads_back.Goals as goal

pub returns : goal.returns
returns c = events_from-history_text 0
