-- The law holds of each lawful meaning, and the target's own is lawful.
use Rattle.lab_rulebook.proofs.ReadParts.{parts-well}
use Rattle.lab_rulebook.proofs.laws.parts_are_well_read.Goals as goal

pub returns : goal.returns
returns g c = parts-well g.T.Target.meaning g.met.T.Target.lawful
