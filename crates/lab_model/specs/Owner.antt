-- Whom an event belongs to (this project's own): a log's lines, and what is done to the bios
-- that come from them, are
-- the log's; releases and the clock are the timers'.
use Rattle.std.specs.Prelude.{ℕ, suc, zero, Option, Some, None, option_and_then}
use Rattle.lab_model.specs.declared.event.Event.{Event}
use Rattle.lab_model.specs.declared.event.Event.TheVariants.{Line, Map, Serve, Release, Finish, Control as ControlEvent, Clock}
use Rattle.lab_model.specs.declared.event.Who.{Who}
use Rattle.lab_model.specs.declared.event.Who.TheVariants.{Log, Control, Timers}
use Rattle.lab_model.specs.declared.parent.Parent.{Parent}
use Rattle.lab_model.specs.declared.parent.Parent.TheVariants.{FromLog, FromBio}
use Rattle.lab_model.specs.State.{State, bio_of}

-- the parent of a bio
abbrev pub parent_of : {S : Type 0} → State S → ℕ → Option Parent
parent_of s number = option_and_then (λ bio. Some bio.parent) (bio_of s number)

-- the log that a bio with this parent comes from, so many parents up at most; no log has the
-- number 0
abbrev pub origin_within : {S : Type 0} → State S → ℕ → Option Parent → ℕ
origin_within s steps None = 0
origin_within s steps (Some (FromLog log line action)) = log
origin_within s zero (Some (FromBio number piece)) = 0
origin_within s (suc steps) (Some (FromBio number piece)) =
    origin_within s steps (parent_of s number)

-- the log that the bio of a number comes from; each parent has a lower number than its child
abbrev pub origin : {S : Type 0} → State S → ℕ → ℕ
origin s number = origin_within s number (parent_of s number)

-- whom an event belongs to where it stands
abbrev pub owner_of : {S : Type 0} → State S → Event → Who
owner_of s (Line log) = Log log
owner_of s (Map number) = Log (origin s number)
owner_of s (Serve number) = Log (origin s number)
owner_of s (Finish number) = Log (origin s number)
owner_of s (Release number) = Timers
owner_of s ControlEvent = Control
owner_of s Clock = Timers
