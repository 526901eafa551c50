use Rattle.lab_model.proofs.Common.{rules}
use Rattle.lab_bios.proofs.recording.record_piece.Goals.{in-InFlight+then-failed}
use Rattle.lab_bios.proofs.recording.record_piece.Goals.{in-InFlight+else-failed, in_default}
use Rattle.lab_bios.proofs.recording.record_piece.Goals as goal

-- where it failed that is recorded, else the sectors are put in
pub returns : goal.returns
returns c = λ child given is. elim c.match-bio.branch [
  | in-InFlight+then-failed w ↦ search rules
  | in-InFlight+else-failed w ↦
      rw (w.if-failed.false, ← c.bio.view_is, w.in-InFlight.is, ← is) (search rules)
  | in_default w ↦ search rules
]
