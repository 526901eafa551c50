-- The scenario's logs and the run's bios can be numbered.
use Rattle.lab_model.proofs.Common.{◌∙◌, find, enabled_events, owner_of}
use Rattle.lab_next.specs.Over.{is_same}
use Rattle.lab_core.proofs.Fired.{seen}
use Rattle.lab_core.proofs.Known.{can-number}
use Rattle.lab_core.proofs.lab.Lab.next_for.Goals as goal

pub next_for-requires-clause-numbers : goal.next_for-requires-clause-numbers
next_for-requires-clause-numbers g c = rw c.scenario.ensures.value
    (can-number g.T.Target.meaning g.met.T.Target.lawful _ c.self.invariant.running)

-- it is the first that belongs
pub returns : goal.returns
returns g c = c.next_for.ensures
    ∙ seen (λ plan s. find (λ event. is_same (owner_of s event) c.args.who)
    (enabled_events plan s)) _ _ _ c.scenario.ensures.value c.self.view_is
