-- The law holds of each lawful meaning, and the target's own is lawful.
use Rattle.law_needs_met.proofs.AllReady.{numbers-fit}
use Rattle.law_needs_met.proofs.numbers_fit.Goals as goal

pub returns : goal.returns
returns g start = numbers-fit g.T.Target.meaning g.met.T.Target.lawful
