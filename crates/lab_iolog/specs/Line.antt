-- One line of a log (fio's manual, "Trace file format v2"). The bounds on its numbers are this
-- project's own.
use Rattle.std.specs.Prelude.{◌≡◌, ◌<◌, ◌≤◌, ◌^◌, Bool, true, false, ℕ, ◌/◌, ◌%◌, ◌&&◌, ◌||◌, not, ◌==◌, nat_lt, nat_le, if◌then◌else◌, List, [], ◌∷◌, Option, Some, None, Result, Ok, Err, codes}
use Rattle.std.specs.Option.{ok_or, option_zip}
use Rattle.std.specs.Str.{bytes_eq}
use Rattle.lab_sector.specs.declared.span.Span.{Span}
use Rattle.lab_text.specs.Numbers.{number_to}
use Rattle.lab_model.specs.declared.entry.Action.{Action}
use Rattle.lab_model.specs.declared.entry.Action.TheVariants as actions
use Rattle.lab_model.specs.declared.entry.Entry.{Entry}
use Rattle.lab_model.specs.declared.entry.Entry.TheVariants as entries
use Rattle.lab_iolog.specs.declared.log.LogFault.{LogFault}
use Rattle.lab_iolog.specs.declared.log.LogFault.TheVariants as faults

-- the greatest number on a line
abbrev pub max_number : ℕ
max_number = 18446744073709551615

-- the greatest offset and length of a read, write or trim, in bytes
abbrev pub max_offset : ℕ
max_offset = 9223372036854775807

-- the greatest time of a wait, in microseconds
abbrev pub max_wait : ℕ
max_wait = 3600000000

-- what a line of two words asks for by its second one
abbrev pub file_entry : List ℕ → Option Entry
file_entry word =
    if bytes_eq word (codes "add") then Some entries.Add
    else if bytes_eq word (codes "open") then Some entries.Open
    else if bytes_eq word (codes "close") then Some entries.Close
    else None

-- a sync of either kind, which names no sectors
abbrev pub sync_entry : Action → Entry
sync_entry action = entries.Operate action (record { first = 0; len = 0 })

-- line n's read, write or trim of a range of bytes: the range is of whole sectors of 512 bytes, not
-- empty, and of at most 1,048,576 bytes
abbrev pub range_entry : ℕ → Action → ℕ → ℕ → Result Entry LogFault
range_entry n action offset bytes =
    if nat_lt max_offset offset || nat_lt max_offset bytes then Err (faults.BadLine n)
    else if not (offset % 512 == 0 && bytes % 512 == 0) then Err (faults.Unaligned n)
    else if bytes == 0 then Err (faults.EmptyRange n)
    else if nat_lt 1048576 bytes then Err (faults.TooLong n)
    else Ok (entries.Operate action (record { first = offset / 512; len = bytes / 512 }))

-- what a line of four words asks for by its second one and its two numbers: a wait ignores the
-- second number, a sync both
abbrev pub timed_entry : ℕ → List ℕ → ℕ → ℕ → Result Entry LogFault
timed_entry n word first second =
    if bytes_eq word (codes "wait") && nat_le first max_wait then Ok (entries.Wait first)
    else if bytes_eq word (codes "read") then range_entry n actions.Read first second
    else if bytes_eq word (codes "write") then range_entry n actions.Write first second
    else if bytes_eq word (codes "sync") then Ok (sync_entry actions.Sync)
    else if bytes_eq word (codes "datasync") then Ok (sync_entry actions.Datasync)
    else if bytes_eq word (codes "trim") then range_entry n actions.Trim first second
    else Err (faults.BadLine n)

-- what line n asks for by its words behind the first, or its first fault: a line has two words
-- or four
abbrev pub entry_of : ℕ → List (List ℕ) → Result Entry LogFault
entry_of n (word ∷ []) = ok_or (file_entry word) (faults.BadLine n)
entry_of n (word ∷ first ∷ second ∷ []) =
    elim (option_zip (number_to max_number first) (number_to max_number second))
    [ Some (one, other) ↦ timed_entry n word one other | None ↦ Err (faults.BadLine n) ]
entry_of n _ = Err (faults.BadLine n)

-- whether an operation names sectors; the syncs name none
abbrev pub names_sectors : Action → Bool
names_sectors actions.Read = true
names_sectors actions.Write = true
names_sectors actions.Trim = true
names_sectors actions.Sync = false
names_sectors actions.Datasync = false

-- 1 to 2,048 sectors, from one on that 63 bits of bytes reach, or none for a sync
pub record FitsAction (action : Action) (span : Span) : Type 0 where
  pub first : span.first < 2 ^ 54
  pub most : span.len ≤ 2048
  pub some : names_sectors action ≡ true → 0 < span.len

-- an entry in the bounds of a log
abbrev pub IsBounded : Entry → Type 0
IsBounded entries.Add = Unit {0}
IsBounded entries.Open = Unit {0}
IsBounded entries.Close = Unit {0}
IsBounded (entries.Wait time) = time ≤ max_wait
IsBounded (entries.Operate action span) = FitsAction action span
