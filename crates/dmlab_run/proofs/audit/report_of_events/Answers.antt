-- The laboratory has run the events to their end, and its report is told.
use Rattle.dmlab_run.proofs.AnswerLemmas.{report-done}
use Rattle.dmlab_run.proofs.audit.report_of_events.Goals as goal

pub returns-clause-told : goal.returns-clause-told
returns-clause-told c =
    let ran = c.in_ok-lab.ensures in
    report-done _ _ _ c.in_ok-lab.lab _ ran.scenario ran.history ran.done ran.running
    c.in_ok-text.ensures
