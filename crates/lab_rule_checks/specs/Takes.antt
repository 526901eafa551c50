-- Whether a table takes a message at a sector (dmsetup(8), message).
use Rattle.std.specs.Prelude.{ℕ, Bool, false, not, List, Option, Some, None, slice_get, option_and_then}
use Rattle.lab_target.specs.Meaning.{Shape}
use Rattle.lab_model.specs.declared.table_line.TableLine.{TableLine}
use Rattle.lab_model.specs.Tables.{Table, line_at}

-- whether a line is there and takes a message
abbrev pub takes_in : {S : Type 0} → List (List ℕ) → Option (TableLine (Shape S)) → Bool
takes_in words None = false
takes_in words (Some line) = line.target.takes words

-- whether the line that has a sector takes a message
abbrev pub line_takes : {S : Type 0} → Table (Shape S) → ℕ → List (List ℕ) → Bool
line_takes table sector words =
    takes_in words (option_and_then (λ number. slice_get table number) (line_at table sector))

-- whether a table doesn't take a message at a sector
abbrev pub refuses : {S : Type 0} → Table (Shape S) → ℕ → List (List ℕ) → Bool
refuses table sector words = not (line_takes table sector words)
