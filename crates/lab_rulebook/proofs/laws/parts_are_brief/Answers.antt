-- The law holds of each meaning.
use Rattle.lab_rulebook.proofs.ReadParts.{parts-brief}
use Rattle.lab_rulebook.proofs.laws.parts_are_brief.Goals as goal

pub returns : goal.returns
returns g c = parts-brief g.T.Target.meaning
