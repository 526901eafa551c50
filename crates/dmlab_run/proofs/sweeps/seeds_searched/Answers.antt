-- The text and the totals are those of the search.
use Rattle.lab_model.proofs.Common.{subst, sym, IfOk-weaker}
use Rattle.lab_any.specs.Any.{any_meaning}
use Rattle.lab_findings.specs.declared.sought.Sought.{Sought}
use Rattle.lab_sweep.specs.Search.{IsSearch}
use Rattle.dmlab_run.specs.Answering.{told_of}
use Rattle.dmlab_run.specs.Studies.{TellsSeedsBy}
use Rattle.dmlab_run.proofs.sweeps.seeds_searched.Goals as goal

pub returns : goal.returns
returns g c disks =
    let seeds = c.args.seeds in
    let it = c.in_ok-it.it in
    IfOk-weaker c.found.result _ _ (λ answer told. subst (λ seeking. TellsSeedsBy any_meaning
    seeking c.args.accepted.scenario seeds.prompt seeds.first seeds.last c.args.asked
    c.args.by_line disks (told_of answer)) (sym c.requires) (
      it.text.items,
      it.totals,
      subst (λ (sought : Sought). IsSearch any_meaning c.args.accepted.scenario seeds.prompt
          seeds.first seeds.last sought c.args.by_line it.text.items it.totals)
          c.sought_by.ensures c.in_ok-it.ensures,
      told,
    )) c.found.ensures
