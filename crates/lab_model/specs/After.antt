-- What an event leads to (this project's own).
use Rattle.std.specs.Prelude.{Option, Bool, if◌then◌else◌, ℕ}
use Rattle.std.specs.Option.{option_map_or}
use Rattle.lab_model.specs.Slots.{slot_at}
use Rattle.lab_model.specs.State.{State}
use Rattle.lab_model.specs.Tables.{Table}

-- what an event must never meet
pub data Cause : Type 0 where
  -- a line, a pass or a command names a device that isn't there
  NoDevice : Cause
  -- a bio or a command needs a live table, or a create or load a version, and there is none
  NoTable : Cause
  -- a file is used that isn't open, or opened that isn't added or is open
  Closed : Cause
  -- a sector is past the end of its device or disk
  PastEnd : Cause
  -- a message goes to a line that doesn't take it
  NoTarget : Cause

-- the next state, or a wrong
pub data After (S : Type 0) : Type 0 where
  Next : State S → After S
  Wrong : Cause → After S

-- what follows where a value is there, and a wrong where it isn't
abbrev pub given : {S X : Type 0} → Cause → Option X → (X → After S) → After S
given cause found next = option_map_or next found (Wrong cause)

-- what follows where a test passes, and a wrong where it doesn't
abbrev pub unless : {S : Type 0} → Cause → Bool → After S → After S
unless cause test after = if test then after else Wrong cause

-- what follows where a value is there; nothing changes where it isn't, which no enabled event meets
abbrev pub where_there : {S X : Type 0} → State S → Option X → (X → After S) → After S
where_there s found next = option_map_or next found (Next s)

-- what follows on a device's live table, which has to be there
abbrev pub on_live : {S : Type 0} → State S → ℕ → (Table S → After S) → After S
on_live s device next =
    given NoDevice (slot_at s.devices device) (λ slot. given NoTable slot.live next)
