-- The first fault of the texts is left out, and that of the history added.
use Rattle.lab_model.proofs.Common.{◌∙◌, ◌++◌, ap, drop, filter_map, map}
use Rattle.lab_refusal.specs.Faults.{fault_seen}
use Rattle.dmlab_run.specs.AllParts.{history_fault}
use Rattle.dmlab_run.specs.Histories.{histories_in}
use Rattle.dmlab_run.proofs.PartLemmas.{seen-later}
use Rattle.dmlab_run.proofs.all.others_of.Goals as goal

pub returns : goal.returns
returns c = c.in_ok-push_history.ensures
    ∙ ap (λ faults. faults ++ filter_map history_fault (histories_in c.args.bundle.now.history))
    (ap (map fault_seen) c.drop_first.ensures ∙ seen-later c.in_ok-faults.faults.items
    ∙ ap (drop 1) c.in_ok-faults.ensures)
