-- A printed history is read back (this project's own).
use Rattle.std.specs.Prelude.{◌≡◌, ◌≤◌, ℕ, List, Ok, All}
use Rattle.lab_model.specs.declared.event.Event.{Event}
use Rattle.lab_model.specs.declared.event.Event.TheVariants.{Line, Map, Serve, Release}
use Rattle.lab_model.specs.declared.event.Event.TheVariants.{Finish, Control, Clock}
use Rattle.lab_history.specs.History.{history_of, history_text}

-- the greatest number of a log
abbrev pub max_log : ℕ
max_log = 4294967295

-- the greatest number of a bio
abbrev pub max_bio : ℕ
max_bio = 18446744073709551615

-- the number of an event fits: a log's 32 bits, a bio's 64
abbrev pub FitsEvent : Event → Type 0
FitsEvent (Line log) = log ≤ max_log
FitsEvent (Map bio) = bio ≤ max_bio
FitsEvent (Serve bio) = bio ≤ max_bio
FitsEvent (Release bio) = bio ≤ max_bio
FitsEvent (Finish bio) = bio ≤ max_bio
FitsEvent Control = Unit {0}
FitsEvent Clock = Unit {0}

-- the text of any events whose numbers fit is a history of just these events
abbrev pub HistoryReadsBack : Type 0
HistoryReadsBack = (events : List Event) → All FitsEvent events
    → history_of (history_text events) ≡ Ok events
