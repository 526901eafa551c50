-- The rows of what was found in a seed's run (this project's own).
use Rattle.std.specs.Prelude.{ℕ, List, [], ◌∷◌, ◌++◌, Option, Some, None, if◌then◌else◌}
use Rattle.std.specs.List.{flat_map}
use Rattle.lab_sector.specs.declared.device.DevNo.{DevNo}
use Rattle.lab_model.specs.Files.{same_device}
use Rattle.lab_model.specs.Scenario.{Scenario}
use Rattle.lab_next.specs.declared.origin.Origin.{Origin}
use Rattle.lab_findings.specs.declared.finding.Finding.{Finding}
use Rattle.lab_findings.specs.declared.finding.Finding.TheVariants.{Lost}
use Rattle.lab_findings.specs.declared.noted.Noted.{Noted}
use Rattle.lab_findings.specs.declared.noted.Noted.TheVariants.{Found as Finds, Synced as Syncs}
use Rattle.lab_sweep.specs.FoundRow.{found_row_text}
use Rattle.lab_sweep.specs.declared.found_row.FoundRow.{FoundRow}

-- the first sync of each device among something that was noted and what was noted after it, whose
-- first syncs are these
abbrev pub sync_here : Noted → (DevNo → Option Origin) → DevNo → Option Origin
sync_here (Finds found) later device = later device
sync_here (Syncs synced) later device =
    if same_device device synced.device then Some synced.origin else later device

-- the first sync of each device among what was noted
abbrev pub sync_of : List Noted → DevNo → Option Origin
sync_of [] device = None
sync_of (one ∷ rest) device = sync_here one (sync_of rest) device

-- the sync that a row tells: that of a lost operation, and of another finding none
abbrev pub sync_told : Finding → Option Origin → Option Origin
sync_told Lost sync = sync
sync_told _ sync = None

-- what the row of a finding tells, where these are the first syncs after it; a sync has no row
abbrev pub row_here : Noted → (DevNo → Option Origin) → List FoundRow
row_here (Finds found) later = record {
  found = found;
  sync = sync_told found.finding (later found.device);
} ∷ []
row_here (Syncs synced) later = []

-- what the rows tell, one for each finding, in order
abbrev pub rows_found : List Noted → List FoundRow
rows_found [] = []
rows_found (one ∷ rest) = row_here one (sync_of rest) ++ rows_found rest

-- the rows of what was noted in the run by a seed
abbrev pub found_rows : {S : Type 0} → Scenario S → ℕ → List Noted → List ℕ
found_rows c seed noted = flat_map (found_row_text c seed) (rows_found noted)
