-- It holds of each meaning.
use Rattle.lab_split.proofs.Covering.{pieces-cover}
use Rattle.lab_split.proofs.laws.pieces_cover.Goals as goal

pub returns : goal.returns
returns g c = pieces-cover g.T.Target.meaning
