-- Those found, and those among the sectors that are left, are all.
use Rattle.lab_model.proofs.Common.{◌≡◌, drop, map}
use Rattle.lab_findings.specs.Changes.{is_changed}
use Rattle.lab_findings.specs.Wrongs.{joined, wrong_from}
use Rattle.lab_findings.proofs.changed.changed_of.Given as goal

abbrev pub invariant-loop-sector : goal.invariant-loop-sector
invariant-loop-sector l =
    joined l.wrong (wrong_from l.place
    (map (λ sector. is_changed l.byte sector) (drop l.sector-index l.sectors)))
    ≡ wrong_from l.fn.first (map (λ sector. is_changed l.fn.byte sector) l.fn.sectors)
