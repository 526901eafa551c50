-- No event is listed exactly where all is done.
use Rattle.lab_model.proofs.Common.{rules, sym, ◌∙◌}
use Rattle.lab_core.proofs.Enabled.{none-listed, first-done}
use Rattle.lab_core.proofs.Known.{runs-well}
use Rattle.lab_core.proofs.lab.Lab.next_event.Goals as goal

-- none is listed, so all is done
pub returns-clause-done : goal.returns-clause-done
returns-clause-done g c = λ none.
    first-done g.T.Target.meaning g.met.T.Target.lawful c.args.self.now
    c.count_front.ensures.running (sym c.nth_behind_front.ensures ∙ none)

-- all is done, so none is listed
pub returns-clause-rests : goal.returns-clause-rests
returns-clause-rests g c = λ done. c.nth_behind_front.ensures
    ∙ (search (
      rules,
      none-listed,
      done,
      (runs-well g.T.Target.meaning g.met.T.Target.lawful
          c.args.self.now c.count_front.ensures.running).rests,
    ))
