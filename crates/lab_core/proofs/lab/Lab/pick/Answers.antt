-- Without an event all is done.
use Rattle.lab_model.proofs.Common.{rules, refl, sym, ◌∙◌}
use Rattle.lab_core.proofs.Choice.{clock-last, else-place}
use Rattle.lab_core.specs.Runs.{choice}
use Rattle.lab_core.proofs.Enabled.{number-picks}
use Rattle.lab_core.proofs.lab.Lab.pick.Goals as goal

-- there is none to pick among, so none may come
pub returns-then-count-eq0-clause-done : goal.returns-then-count-eq0-clause-done
returns-then-count-eq0-clause-done g c = search rules

-- a number picks one of the choice, which has the same place among all that may come
pub returns-clause-picked : goal.returns-clause-picked
returns-clause-picked g c = search (rules, clock-last, else-place)

-- so one is picked where some may be
pub returns-clause-done : goal.returns-clause-done
returns-clause-done g c = λ none.
    let lab = c.args.self.now in
    let empty = number-picks (choice lab.scenario c.args.prompt lab.state) c.args.word
    _ refl (sym (returns-clause-picked g c) ∙ none) in
    absurd (c.if-count-eq0.false (c.count_choice-count.ensures ∙ empty))
