-- It holds of each lawful meaning, and the target's own is lawful.
use Rattle.lab_table.proofs.ReadBack.{reads-back}
use Rattle.lab_table.proofs.laws.table_reads_back.Goals as goal

pub returns : goal.returns
returns g c = reads-back g.T.Target.meaning (g.met.T.Target.lawful)
