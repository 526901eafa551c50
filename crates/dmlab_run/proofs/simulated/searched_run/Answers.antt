-- The run is the one that the seed's words pick, and the text is its report, the table of what was
-- found in it and its events.
use Rattle.lab_model.proofs.Common.{◌∙◌, ◌++◌, ap, subst, List, ℕ, IfOk-weaker, report}
use Rattle.lab_any.specs.Any.{any_meaning}
use Rattle.lab_sweep.specs.Found.{TellsRun}
use Rattle.lab_findings.specs.declared.sought.Sought.{Sought}
use Rattle.dmlab_run.specs.Answering.{told_of}
use Rattle.dmlab_run.specs.Findings.{found_with}
use Rattle.dmlab_run.specs.Output.{history_part}
use Rattle.dmlab_run.proofs.AnswerLemmas.{simulates-searched}
use Rattle.dmlab_run.proofs.simulated.searched_run.Goals as goal

pub returns : goal.returns
returns c =
    let lab = c.in_ok-lab.lab in
    let totals = c.in_ok-lab.totals in
    IfOk-weaker c.found.result _ _
    (λ answer told. simulates-searched any_meaning c.args.accepted c.args.prompt c.args.seed
    c.args.history c.args.asked lab (told_of answer) c.in_ok-lab.ensures.paced
    c.in_ok-lab.ensures.done c.in_ok-lab.table.items totals c.requires
    (subst (λ (sought : Sought). TellsRun any_meaning c.args.accepted.scenario c.args.seed sought
    lab.history c.in_ok-lab.table.items totals) c.sought_by.ensures c.in_ok-lab.ensures.told)
    (told ∙ ap (λ text. found_with c.args.asked text totals) (c.in_ok-text.ensures
    ∙ ap (λ (table : List ℕ). report any_meaning lab.scenario lab.history lab.state ++ table
    ++ history_part c.args.history lab.history) c.deref.ensures.value))) c.found.ensures
