-- The parent so far leads to the line that changed the sector; a step up leaves one less.
use Rattle.lab_model.proofs.Common.{◌≡◌}
use Rattle.lab_findings.specs.Heard.{changer_of, changer_within}
use Rattle.lab_findings.proofs.spoiling.changer_of.Given as goal

abbrev pub invariant-loop-parent : goal.invariant-loop-parent
invariant-loop-parent g l = changer_within g.T.Target.meaning l.state l.left l.byte l.place l.parent
    ≡ changer_of g.T.Target.meaning l.fn.state l.fn.number l.fn.byte l.fn.place

abbrev pub decreases-loop-parent : goal.decreases-loop-parent
decreases-loop-parent g l = l.left
