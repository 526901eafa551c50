-- Those behind are counted too.
use Rattle.lab_model.proofs.Common.{rules, arith, sym, ◌∙◌}
use Rattle.lab_next.proofs.Parts.{count-parts}
use Rattle.lab_core.proofs.Enabled.{unlisted-done}
use Rattle.lab_core.proofs.Fired.{seen}
use Rattle.lab_core.proofs.Known.{can-number}
use Rattle.lab_core.proofs.lab.Lab.count_from.Goals as goal

-- the scenario's logs and the run's bios can be numbered
pub count_behind-requires : goal.count_behind-requires
count_behind-requires g c = rw c.scenario.ensures.value
    (can-number g.T.Target.meaning g.met.T.Target.lawful _ c.self.invariant.running)

-- they are few
pub overflow_add-result : goal.overflow_add-result
overflow_add-result g c = omega (arith, c.requires.few, c.count_behind.ensures.few)

-- all are counted
pub returns-clause-count : goal.returns-clause-count
returns-clause-count g c = search (rules, seen, count-parts)

-- none is listed, so all is done
pub returns-clause-done : goal.returns-clause-done
returns-clause-done g c = λ none.
    unlisted-done g.T.Target.meaning g.met.T.Target.lawful c.args.self.now
    (rw c.self.view_is at c.self.invariant.running) (sym (returns-clause-count g c) ∙ none)
