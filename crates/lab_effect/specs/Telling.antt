-- Whom the answer to a bio changes: a log, or the bio that it is a piece of (this project's own).
use Rattle.std.specs.Prelude.{◌≡◌, List, [], Option, Some, None, option_map}
use Rattle.lab_model.specs.Answers.{Told, Failed, Gave, outcome_of, recorded, with_answer}
use Rattle.lab_model.specs.Bios.{Bio, Stage, InFlight}
use Rattle.lab_model.specs.declared.parent.Parent.{Parent}
use Rattle.lab_model.specs.declared.parent.Parent.TheVariants.{FromLog, FromBio}
use Rattle.lab_model.specs.Lists.{change_numbered}
use Rattle.lab_model.specs.Sectors.{Sectors, marked}
use Rattle.lab_model.specs.State.{LogState}
use Rattle.lab_logs.specs.Lines.{unanswered}
use Rattle.lab_bios.specs.Answered.{Changed, after}
use Rattle.lab_bios.specs.Recording.{told}

-- the logs after a bio is answered
abbrev pub told_logs : List LogState → Bio → Told → Parent → List LogState
told_logs logs bio answer (FromLog log line action) =
    change_numbered logs log (with_answer line action (outcome_of bio.kind answer))
told_logs logs bio answer (FromBio number piece) = logs

-- the logs where the last answer to the log of a bio is taken back
abbrev pub untold_logs : List LogState → Parent → List LogState
untold_logs logs (FromLog log line action) = change_numbered logs log unanswered
untold_logs logs (FromBio number piece) = logs

-- the bios after one of them, which lives no more, is answered
abbrev pub told_bios : List (Option Bio) → Bio → Told → Parent → List (Option Bio)
told_bios bios bio answer (FromLog log line action) = bios
told_bios bios bio answer (FromBio number piece) =
    change_numbered bios number (option_map (recorded bio piece answer))

-- the bios after one in flight, which lives no more, is answered: it failed, or gives what it
-- recorded
abbrev pub landed_bios : List (Option Bio) → Bio → Stage → List (Option Bio)
landed_bios bios bio (InFlight failed answered) =
    told_bios bios bio (told failed answered) bio.parent
landed_bios bios bio stage = bios

-- what is handed on where a bio gives these sectors: another bio gets them with its own marks
abbrev pub handed_to : Bio → Sectors → Parent → Sectors
handed_to bio sectors (FromLog log line action) = sectors
handed_to bio sectors (FromBio number piece) = marked bio.marks sectors

-- these sectors are what is handed on where a bio has this answer: none where it failed
abbrev pub IsHanded : Bio → Told → Sectors → Parent → Type 0
IsHanded bio Failed sectors parent = sectors ≡ []
IsHanded bio (Gave given) sectors parent = sectors ≡ handed_to bio given parent

-- what was recorded after these changes, and no sectors where there are none
abbrev pub landed_with : Option Changed → Sectors → Sectors
landed_with None answered = []
landed_with (Some changed) answered = after changed answered

-- a bio in flight hands on what it recorded after these changes
abbrev pub LandsWith : Option Changed → Bio → Stage → Type 0
LandsWith changed bio (InFlight failed answered) =
    IsHanded bio (told failed answered) (landed_with changed answered) bio.parent
LandsWith changed bio stage = Unit {0}
