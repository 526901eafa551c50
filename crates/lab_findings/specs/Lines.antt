-- Which line of a device's table did something (this project's own).
use Rattle.std.specs.Prelude.{ℕ, ◌+◌, ◌==◌, List, [], ◌∷◌, Option, Some, None, option_map}
use Rattle.std.specs.Prelude.{position, slice_get, take, unwrap_or}
use Rattle.lab_sector.specs.declared.device.DevNo.{DevNo}
use Rattle.lab_sector.specs.declared.device.DevNo.TheVariants.{Ram, Dm}
use Rattle.lab_target.specs.Meaning.{Meaning}
use Rattle.lab_model.specs.Slots.{live_at}
use Rattle.lab_model.specs.State.{State}
use Rattle.lab_model.specs.Tables.{Table}
use Rattle.lab_model.specs.declared.table_line.TableLine.{TableLine}
use Rattle.lab_findings.specs.declared.culprit.Culprit.{Culprit}

-- a text up to a place, if there is one
abbrev pub text_to : List ℕ → Option ℕ → List ℕ
text_to text None = text
text_to text (Some end) = take end text

-- a text up to its first space
abbrev pub first_word : List ℕ → List ℕ
first_word text = text_to text (position (λ byte. byte == 32) text)

-- the byte at a place of a word, and zero behind it
abbrev pub byte_at : List ℕ → ℕ → ℕ
byte_at word place = unwrap_or (slice_get word place) 0

-- the first eight bytes of a text's first word; zeroes behind a shorter one
abbrev pub type_word : List ℕ → List ℕ
type_word text =
    byte_at (first_word text) 0 ∷ byte_at (first_word text) 1 ∷ byte_at (first_word text) 2
    ∷ byte_at (first_word text) 3 ∷ byte_at (first_word text) 4 ∷ byte_at (first_word text) 5
    ∷ byte_at (first_word text) 6 ∷ byte_at (first_word text) 7 ∷ []

-- a line of a device's table, counted from 0, as the one that did it
abbrev pub culprit_of : {S : Type 0} → Meaning S → ℕ → ℕ → TableLine S → Culprit
culprit_of m device line row = record {
  device = device;
  line = line + 1;
  target = type_word (m.shape row.target).printed;
}

-- a line of a table, if it has one of this number
abbrev pub culprit_in : {S : Type 0} → Meaning S → ℕ → ℕ → Option (Table S) → Option Culprit
culprit_in m device line None = None
culprit_in m device line (Some table) =
    option_map (culprit_of m device line) (slice_get table line)

-- a line of the live table of a device, where that is a mapped one
abbrev pub culprit_on : {S : Type 0} → Meaning S → State S → DevNo → ℕ → Option Culprit
culprit_on m s (Ram disk) line = None
culprit_on m s (Dm device) line = culprit_in m device line (live_at s.devices device)
