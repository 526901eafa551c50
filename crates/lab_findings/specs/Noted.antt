-- What is noted at an event (this project's own).
use Rattle.std.specs.Prelude.{ℕ, List, [], Option, Some, None}
use Rattle.lab_model.specs.Bios.{Bio}
use Rattle.lab_model.specs.declared.event.Event.{Event}
use Rattle.lab_model.specs.declared.parent.Parent.{Parent}
use Rattle.lab_model.specs.declared.parent.Parent.TheVariants.{FromBio, FromLog}
use Rattle.lab_model.specs.State.{State, bio_of}
use Rattle.lab_next.specs.Answering.{kind_answered, number_answered}
use Rattle.lab_findings.specs.declared.answered.Answered.{Answered}
use Rattle.lab_findings.specs.declared.noted.Noted.{Noted}
use Rattle.lab_findings.specs.Content.{content_answered}
use Rattle.lab_findings.specs.Judged.{op_noted}
use Rattle.lab_findings.specs.Watched.{Watched}

-- the operation of a log with this bio and parent, at a moment
abbrev pub answered_by : ℕ → ℕ → Bio → Parent → Option Answered
answered_by number moment bio (FromBio above piece) = None
answered_by number moment bio (FromLog log line action) = Some (record {
  number = number;
  origin = record { log = log; line = line };
  action = action;
  device = bio.device;
  span = bio.span;
  moment = moment;
})

-- the operation of a log whose bio this is, if it lives and is one
abbrev pub answered_with : ℕ → ℕ → Option Bio → Option Answered
answered_with number moment None = None
answered_with number moment (Some bio) = answered_by number moment bio bio.parent

-- the operation that an event answers in this state, if it answers one
abbrev pub op_answered : {S : Type 0} → State S → Event → Option Answered
op_answered s event =
    answered_with (number_answered event) s.clock (bio_of s (number_answered event))

-- what is noted of the operation that an event answers, if it answers one
abbrev pub noted_of : {S : Type 0} → State S → Event → Watched → Option Answered → List Noted
noted_of s event watched None = []
noted_of s event watched (Some op) =
    op_noted watched op (content_answered s event) (kind_answered s event)

-- what is noted at an event, in the state in which it comes, once it was heard of
abbrev pub watch_noted : {S : Type 0} → State S → Event → Watched → List Noted
watch_noted s event watched = noted_of s event watched (op_answered s event)
