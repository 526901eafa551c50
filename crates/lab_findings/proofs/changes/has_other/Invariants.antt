-- What is asked of the bytes that are left is asked of all.
use Rattle.lab_model.proofs.Common.{◌≡◌, drop}
use Rattle.lab_findings.specs.Changes.{is_changed}
use Rattle.lab_findings.proofs.changes.has_other.Given as goal

abbrev pub invariant-loop-place : goal.invariant-loop-place
invariant-loop-place l = is_changed l.byte (drop l.place l.sector) ≡ is_changed l.byte l.sector
