-- The row is the one that the definition tells, whose log is the owner's.
use Rattle.lab_model.proofs.Common.{rules}
use Rattle.lab_trace.proofs.Owners.{bio_row-log}
use Rattle.lab_trace.proofs.telling.row_of.Goals as goal

pub returns-clause-owner : goal.returns-clause-owner
returns-clause-owner g c = search (rules, bio_row-log)
