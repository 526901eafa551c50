-- The law holds of each meaning.
use Rattle.law_needs_met.proofs.InHours.{texts-in-hours}
use Rattle.law_needs_met.proofs.texts_are_in_hours.Goals as goal

pub returns : goal.returns
returns g start = texts-in-hours g.T.Target.meaning
