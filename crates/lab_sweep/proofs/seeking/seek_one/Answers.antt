-- What was noted in the complete run is taken.
use Rattle.lab_model.proofs.Common.{◌∙◌, subst}
use Rattle.lab_sweep.specs.Searching.{AddsRun}
use Rattle.lab_sweep.proofs.Found.{noted-of}
use Rattle.lab_sweep.proofs.seeking.seek_one.Goals as goal

pub returns-in-Ok-clause-told : goal.returns-in-Ok-clause-told
returns-in-Ok-clause-told g c =
    let run = c.in_ok-noted.ensures in
    let noted = c.in_ok-noted.noted.items in
    let asked = c.args.asked in
    let before = c.args.searcher.now in
    let after = c.add_run.new.self in (
      noted,
      noted-of g.T.Target.meaning c.in_ok-noted.lab c.args.accepted asked.seeds.prompt c.args.seed
          asked.sought noted run.paced run.done run.noted,
      subst (λ d. AddsRun d asked.by_line c.args.seed noted before after)
          (c.scenario.ensures.value ∙ run.paced.goes.scenario)
          (subst (λ n. AddsRun c.scenario.result.now asked.by_line c.args.seed n before after)
          c.deref.ensures.value c.in-Ok.ensures),
    )
