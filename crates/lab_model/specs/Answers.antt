-- How a bio is answered: to an operation of a log, or to the bio that it is a piece of (this
-- project's own).
use Rattle.std.specs.Prelude.{ℕ, ◌+◌, ◌-◌, ◌<◌, ◌≤◌, [], ◌∷◌, ◌++◌, None, true, length}
use Rattle.lab_sector.specs.declared.request.Kind.{Kind}
use Rattle.lab_sector.specs.declared.request.Kind.TheVariants.{Read}
use Rattle.lab_model.specs.declared.answer.Outcome.{Outcome}
use Rattle.lab_model.specs.declared.answer.Outcome.TheVariants.{Fine, Eio, Runs}
use Rattle.lab_model.specs.declared.entry.Action.{Action}
use Rattle.lab_model.specs.declared.piece.Piece.{Piece}
use Rattle.lab_text.specs.Runs.{runs_list}
use Rattle.lab_model.specs.Bios.{Bio, Stage, InFlight}
use Rattle.lab_model.specs.declared.parent.Parent.{Parent}
use Rattle.lab_model.specs.declared.parent.Parent.TheVariants.{FromLog, FromBio}
use Rattle.lab_model.specs.Lists.{change_numbered}
use Rattle.lab_model.specs.Sectors.{Sectors, put, marked}
use Rattle.lab_model.specs.State.{State, LogState, with_bio}
use Rattle.std.specs.List.{concat}

-- a bio's answer: it failed, or it succeeded, a read with these sectors
pub data Told : Type 0 where
  Failed : Told
  Gave : Sectors → Told

-- what a log is told of it
abbrev pub outcome_of : Kind → Told → Outcome
outcome_of kind Failed = Eio
outcome_of Read (Gave sectors) = Runs (runs_list (concat sectors))
outcome_of _ (Gave sectors) = Fine

-- a log with one answer more
abbrev pub with_answer : ℕ → Action → Outcome → LogState → LogState
with_answer line action outcome log = record log {
  answers = log.answers ++ record { line = line; action = action; outcome = outcome } ∷ [];
}

-- what a bio in flight records of a piece: that it failed, or of a read its sectors, after the
-- piece's own marks
abbrev pub recorded_at : Bio → Piece → Told → Bio → Stage → Stage
recorded_at child piece Failed parent (InFlight failed answered) = InFlight true answered
recorded_at child piece (Gave sectors) parent (InFlight failed answered) =
    InFlight failed (put answered (piece.span.first - parent.span.first)
    (marked child.marks sectors))
recorded_at child piece told parent stage = stage

-- so many sectors, if there are any, have their place in what a bio in flight has recorded
abbrev pub HasPlaceIn : Piece → ℕ → Bio → Stage → Type 0
HasPlaceIn piece count parent (InFlight failed answered) =
    0 < count → piece.span.first - parent.span.first + count ≤ length answered
HasPlaceIn piece count parent stage = Unit {0}

-- the bio that it is a piece of, after it has recorded what the piece was told
abbrev pub recorded : Bio → Piece → Told → Bio → Bio
recorded child piece told parent =
    record parent { stage = recorded_at child piece told parent parent.stage }

-- the state after a parent is told
abbrev pub told_to : {S : Type 0} → State S → Bio → Told → Parent → State S
told_to s bio told (FromLog log line action) = record s {
  logs = change_numbered s.logs log (with_answer line action (outcome_of bio.kind told));
}
told_to s bio told (FromBio number piece) = with_bio s number (recorded bio piece told)

-- the state without a bio
abbrev pub without_bio : {S : Type 0} → State S → ℕ → State S
without_bio s number = record s { bios = change_numbered s.bios number (λ entry. None) }

-- the state after the bio of a number is answered: its parent is told, and it is gone
abbrev pub answered : {S : Type 0} → State S → ℕ → Bio → Told → State S
answered s number bio told = told_to (without_bio s number) bio told bio.parent
