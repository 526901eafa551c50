-- What is noted of a sync of device 0 on line 6 of a log, by what stood lost when it was issued.
use Rattle.test_examples.proofs.Places.{places}
use Rattle.test_examples.proofs.WholeDevices.{AreNobodys, apart, wrong-of-two}
use Rattle.std.proofs.Common.{ap, arith, ◌∙◌, ◌≡◌, ◌+◌, List, [], ◌∷◌, ◌++◌, Option, Some, None}
use Rattle.std.proofs.Common.{false, option_map}
use Rattle.lab_sector.specs.declared.device.DevNo.TheVariants.{Dm}
use Rattle.lab_model.specs.declared.entry.Action.TheVariants.{Sync, Write}
use Rattle.lab_model.specs.Bios.{Bio}
use Rattle.lab_model.specs.LogEffect.{kind_of, operation}
use Rattle.lab_findings.specs.declared.finding.Finding.TheVariants.{BrokenSync}
use Rattle.lab_findings.specs.declared.found.Wrong.{Wrong}
use Rattle.lab_findings.specs.declared.noted.Noted.{Noted}
use Rattle.lab_findings.specs.Judged.{found_if, synced_noted, why_broken}
use Rattle.lab_findings.specs.Noted.{answered_by}
use Rattle.lab_findings.specs.Watched.{Watched}
use Rattle.test_examples.specs.Findings.{by, culprit, everything, found, sector_of, sectors}
use Rattle.test_examples.specs.Findings.{synced, with_writers, wrong}
use Rattle.test_examples.specs.Watching.{blaming, claiming, fresh, judged, knowing}

-- the sync
abbrev sync : Bio
sync = operation 1 6 (Dm 0) Sync (sectors 0 0)

-- what is noted of it
abbrev noted : Watched → Option (List Noted)
noted watched = judged watched sync [] (Some (kind_of Sync))

-- the same, where it is known which sectors of its device stood lost
abbrev noted_with : Watched → Option Wrong → Option (List Noted)
noted_with watched wrong = option_map
    (λ op. found_if watched op watched.sought.broken_sync BrokenSync 0 (why_broken watched op) wrong
    ++ synced_noted watched op)
    (answered_by 5 0 sync sync.parent)

-- line 4 wrote sector 1 by bio 1, and line 2 of the table dropped it; it stood lost when the sync was
-- issued
abbrev lost : Watched
lost = claiming (blaming (knowing fresh 4 Write 1 1 (Some 2) (Some 0)) 1 0 (culprit 0 2))
    (None ∷ Some (sector_of 1 4 0) ∷ [])

-- no other sector did
no_other : AreNobodys lost.claims 5 2
no_other more =
    simp (places, apart 5 0 (2 + more) (omega arith), apart 5 1 (2 + more) (omega arith))

-- the sync is broken at sector 1, by the line that lost it; then the sync is noted
broken : noted lost ≡ Some (with_writers None (Some (sector_of 1 4 0))
    (found BrokenSync 1 6 Sync (Dm 0) (sectors 0 0) (wrong 1 1) (by 0 2)) ∷ synced 6 (Dm 0) ∷ [])
broken = ap (noted_with lost) (wrong-of-two lost.claims 5 no_other) ∙ simp places

-- where nothing stood lost the sync alone is noted
whole : noted fresh ≡ Some (synced 6 (Dm 0) ∷ [])
whole = ap (noted_with fresh) (wrong-of-two fresh.claims 5 (λ more. simp places)) ∙ simp places

-- the same sync, where neither lost writes nor broken syncs are asked for
abbrev unasked_for : Watched
unasked_for = record lost { sought = record everything { lost = false; broken_sync = false } }

-- then nothing is noted
unasked : noted unasked_for ≡ Some []
unasked = ap (noted_with unasked_for) (wrong-of-two lost.claims 5 no_other)
