-- What a row tells of a finding: its columns, with a tab between two (this project's own).
use Rattle.std.specs.Prelude.{ℕ, ◌-◌, ◌==◌, not, List, [], ◌∷◌, ◌++◌, Option, codes}
use Rattle.std.specs.Prelude.{decimal, take_while}
use Rattle.std.specs.List.{flat_map}
use Rattle.lab_sector.specs.declared.span.Span.{Span}
use Rattle.lab_model.specs.declared.entry.Action.{Action}
use Rattle.lab_model.specs.declared.entry.Action.TheVariants.{Sync, Datasync}
use Rattle.lab_model.specs.Lists.{numbered}
use Rattle.lab_model.specs.Report.{action_word, text_line}
use Rattle.lab_model.specs.Scenario.{Scenario}
use Rattle.lab_next.specs.declared.writer.Writer.{Writer}
use Rattle.lab_core.specs.Columns.{device_word, or_dash, origin_text}
use Rattle.lab_findings.specs.declared.culprit.Culprit.{Culprit}
use Rattle.lab_findings.specs.declared.finding.Finding.{Finding}
use Rattle.lab_findings.specs.declared.finding.Finding.TheVariants.{Eio, Lost, Corrupt, Stale}
use Rattle.lab_findings.specs.declared.finding.Finding.TheVariants.{Misplaced, BrokenSync}
use Rattle.lab_findings.specs.declared.found.Found.{Found}
use Rattle.lab_findings.specs.declared.found.Wrong.{Wrong}
use Rattle.lab_sweep.specs.declared.found_row.FoundRow.{FoundRow}

-- columns, each behind a tab
abbrev pub tabbed : List (List ℕ) → List ℕ
tabbed columns = flat_map (λ column. 9 ∷ column) columns

-- the word of a finding
abbrev pub finding_word : Finding → List ℕ
finding_word Eio = codes "eio"
finding_word Lost = codes "lost"
finding_word Corrupt = codes "corrupt"
finding_word Stale = codes "stale"
finding_word Misplaced = codes "misplaced"
finding_word BrokenSync = codes "broken-sync"

-- the name of the log of this number, and `-` where there is no such log
abbrev pub log_name : {S : Type 0} → Scenario S → ℕ → List ℕ
log_name c log = or_dash (λ plan. plan.name) (numbered c.logs log)

-- `FIRST+COUNT`, and `-` of a sync, which has no sectors
abbrev pub sectors_text : Action → Span → List ℕ
sectors_text Sync span = codes "-"
sectors_text Datasync span = codes "-"
sectors_text _ span = decimal span.first ++ 43 ∷ decimal span.len

-- `LOG.LINE+SECTOR`
abbrev pub writer_text : Writer → List ℕ
writer_text writer = origin_text writer.origin ++ 43 ∷ decimal writer.sector

-- the bytes of a type word up to its first zero
abbrev pub type_text : List ℕ → List ℕ
type_text bytes = take_while (λ byte. not (byte == 0)) bytes

-- the operation: its log, the log's name, its line, its word, its device and its sectors
abbrev pub operation_columns : {S : Type 0} → Scenario S → Found → List (List ℕ)
operation_columns c found = decimal found.origin.log ∷ log_name c found.origin.log
    ∷ decimal found.origin.line ∷ action_word found.action ∷ device_word found.device
    ∷ sectors_text found.action found.span ∷ []

-- when the log issued it, and how long it took up to its answer
abbrev pub moment_columns : Found → List (List ℕ)
moment_columns found = decimal found.issued ∷ decimal (found.answered - found.issued) ∷ []

-- the first of the wrong sectors, and how many they are
abbrev pub wrong_columns : Option Wrong → List (List ℕ)
wrong_columns wrong =
    or_dash (λ it. decimal it.first) wrong ∷ or_dash (λ it. decimal it.count) wrong ∷ []

-- the device, the line and the target that did it
abbrev pub culprit_columns : Option Culprit → List (List ℕ)
culprit_columns culprit = or_dash (λ it. codes "dm" ++ decimal it.device) culprit
    ∷ or_dash (λ it. decimal it.line) culprit ∷ or_dash (λ it. type_text it.target) culprit ∷ []

-- whose data was found, whose should have been there, and the sync that came after it
abbrev pub other_columns : FoundRow → List (List ℕ)
other_columns row = or_dash writer_text row.found.got ∷ or_dash writer_text row.found.wanted
    ∷ or_dash origin_text row.sync ∷ []

-- the row of a finding in the run by this seed
abbrev pub found_row_text : {S : Type 0} → Scenario S → ℕ → FoundRow → List ℕ
found_row_text c seed row = text_line (finding_word row.found.finding ++ 9 ∷ decimal seed
    ++ tabbed (operation_columns c row.found) ++ tabbed (moment_columns row.found)
    ++ tabbed (wrong_columns row.found.wrong) ++ tabbed (culprit_columns row.found.culprit)
    ++ tabbed (other_columns row))

-- the names of the columns
abbrev pub row_names : List ℕ
row_names = text_line (codes "finding" ++ tabbed (codes "seed" ∷ codes "log" ∷ codes "name"
    ∷ codes "line" ∷ codes "kind" ∷ codes "device" ∷ codes "sectors" ∷ codes "issued"
    ∷ codes "took" ∷ codes "at" ∷ codes "count" ∷ codes "by" ∷ codes "table_line"
    ∷ codes "target" ∷ codes "found" ∷ codes "wanted" ∷ codes "sync" ∷ []))
