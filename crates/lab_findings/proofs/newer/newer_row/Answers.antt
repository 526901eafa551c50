-- As many others stand there as the operation has sectors.
use Rattle.lab_model.proofs.Common.{rules}
use Rattle.lab_watch.proofs.Rows.{length-part}
use Rattle.lab_findings.proofs.newer.newer_row.Goals as goal

pub returns : goal.returns
returns c = search (rules, length-part)
