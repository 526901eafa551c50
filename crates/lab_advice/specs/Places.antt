-- The line that stopped a bundle, and its number there (this project's own).
use Rattle.std.specs.Prelude.{◌≡◌, ℕ, ◌+◌, ◌-◌, ◌<◌, ◌==◌, ◌&&◌, Bool, false, nat_lt, if◌then◌else◌, codes, Option, Some, None, List, [], ◌∷◌, length, filter, drop, unwrap_or}
use Rattle.std.specs.List.{enumerate_from, slice_get}
use Rattle.std.specs.Option.{option_map, option_and_then}
use Rattle.std.specs.Str.{bytes_eq}
use Rattle.lab_text.specs.Lines.{lines_of, kept_from}
use Rattle.lab_text.specs.Words.{words_of}
use Rattle.lab_text.specs.Bundle.{Line, is_heading, body_of}
use Rattle.lab_refusal.specs.declared.fault.PartName.{PartName}
use Rattle.lab_refusal.specs.declared.fault.PartName.TheVariants as names
use Rattle.lab_advice.specs.declared.lines.Part.{Part}
use Rattle.lab_advice.specs.declared.lines.Part.TheVariants.{Whole, Table, Script, Log, History}
use Rattle.lab_advice.specs.declared.place.Place.{Place}
use Rattle.lab_advice.specs.declared.trouble.Trouble.{Trouble}
use Rattle.lab_advice.specs.declared.trouble.Trouble.TheVariants as troubles

-- ---- headings

-- the words are `==` and the kind
abbrev pub is_bare : List ℕ → List (List ℕ) → Bool
is_bare kind (mark ∷ word ∷ []) = bytes_eq mark (codes "==") && bytes_eq word kind
is_bare kind _ = false

-- the words are `==`, the kind and the name
abbrev pub is_named : List ℕ → List ℕ → List (List ℕ) → Bool
is_named kind name (mark ∷ word ∷ last ∷ []) =
    bytes_eq mark (codes "==") && bytes_eq word kind && bytes_eq last name
is_named kind name _ = false

-- the line is the heading of the part; none opens the whole bundle
abbrev pub opens : Part → Line → Bool
opens Whole line = false
opens (Table name) line = is_heading line && is_named (codes "table") name.now (words_of line)
opens Script line = is_heading line && is_bare (codes "script") (words_of line)
opens (Log name) line = is_heading line && is_named (codes "log") name.now (words_of line)
opens History line = is_heading line && is_bare (codes "history") (words_of line)

-- the number of the first of these lines that passes, the first line having the number n
abbrev pub first_line_from : (ℕ → Line → Bool) → ℕ → List Line → Option ℕ
first_line_from test n lines =
    option_map (λ numbered. numbered.0)
    (slice_get (filter (λ numbered. test numbered.0 numbered.1) (enumerate_from n lines)) 0)

-- the number, counted from 1, of the first line that is the heading of the part
abbrev pub first_opening : List ℕ → Part → Option ℕ
first_opening bytes part = first_line_from (λ _ line. opens part line) 1 (lines_of bytes)

-- the number, counted from 1, of the first line that opens the part; 0 for the whole bundle
abbrev pub heading_number : List ℕ → Part → Option ℕ
heading_number bytes Whole = Some 0
heading_number bytes part = first_opening bytes part

-- the number of the first heading behind the line of this number, or the one past the last line
abbrev pub end_number : List ℕ → ℕ → ℕ
end_number bytes number =
    unwrap_or (first_line_from (λ n line. nat_lt number n && is_heading line) 1 (lines_of bytes))
    (length (lines_of bytes) + 1)

-- ---- lines

-- the line of this number, counted from 1
abbrev pub line_of : List ℕ → ℕ → Option Line
line_of bytes number =
    if number == 0 then None else slice_get (lines_of bytes) (number - 1)

-- the bundle's line of this number is the one at this place of the part, counted from 1 behind the
-- part's heading
pub record IsLineOfPart (bytes : List ℕ) (part : Part) (within number : ℕ)
    (line : Line) : Type 0 where
  pub heading : ℕ
  pub opened : heading_number bytes part ≡ Some heading
  pub behind : 0 < within
  pub counted : number ≡ heading + within
  pub shown : slice_get (lines_of bytes) (number - 1) ≡ Some line

-- the line that has the event of this place, counted from 0, among these lines of a history; the
-- first line has the number n. Blank lines and comments have none, and a heading ends the history
abbrev pub event_among : ℕ → ℕ → List Line → Option ℕ
event_among n before lines =
    option_map (λ numbered. numbered.0) (slice_get (kept_from n (body_of lines)) before)

-- the line of the history, counted from 1 in it, that has its event of this place, counted from 1
abbrev pub event_line : List ℕ → ℕ → Option ℕ
event_line bytes event =
    if event == 0 then None
    else option_and_then
    (λ heading. event_among 1 (event - 1) (drop heading (lines_of bytes)))
    (heading_number bytes History)

-- ---- places

-- the part that a fault names; limits and budget are of no line
abbrev pub fault_part : PartName → Part
fault_part names.Bundle = Whole
fault_part names.Limits = Whole
fault_part names.Budget = Whole
fault_part (names.Table name) = Table name
fault_part names.Script = Script
fault_part (names.Log name) = Log name
fault_part names.History = History

-- the place is that of this line of the part
pub record ShowsLine (bytes : List ℕ) (part : Part) (within : ℕ) (place : Place) : Type 0 where
  pub part_same : place.part ≡ part
  pub within_same : place.within ≡ within
  pub names : IsLineOfPart bytes part within place.number place.line.now

-- the place is that of the history's event of this place
pub record ShowsEvent (bytes : List ℕ) (event : ℕ) (place : Place) : Type 0 where
  pub told : event_line bytes event ≡ Some place.within
  pub shows : ShowsLine bytes History place.within place

-- the place is that of the line which the trouble is of: that of a fault, or that of an event. What
-- comes too few has no line
abbrev pub Shows : List ℕ → Trouble → Place → Type 0
Shows bytes (troubles.Fault fault) place = ShowsLine bytes (fault_part fault.part) fault.line place
Shows bytes (troubles.NotARun event) place = ShowsEvent bytes event place
Shows bytes (troubles.Unfinished _) place = ⊥
