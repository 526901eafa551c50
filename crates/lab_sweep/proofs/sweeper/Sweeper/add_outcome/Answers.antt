-- The outcome is what is told of the complete run.
use Rattle.lab_sweep.proofs.Found.{outcome-of}
use Rattle.lab_sweep.proofs.sweeper.Sweeper.add_outcome.Goals as goal

pub returns-in-Ok-clause-told : goal.returns-in-Ok-clause-told
returns-in-Ok-clause-told g c =
    let told = c.in-Ok.ensures.told in (
      told.0,
      outcome-of g.T.Target.meaning c.args.accepted c.args.prompt c.args.self.now.disks
          c.args.seed c.in_ok-text.lab c.in_ok-text.text.items told.0
          c.in_ok-text.ensures.paced c.in_ok-text.ensures.done
          c.in_ok-text.ensures.text told.1,
      told.2,
    )
