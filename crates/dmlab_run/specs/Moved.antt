-- Which bytes are read and written, where they are known (this project's own).
use Rattle.std.specs.Prelude.{◌≡◌, ℕ, ◌≤◌, List, ◌++◌, length, Option}
use Rattle.std.specs.Io.KnownBytes.{Appends, Consumes}

-- at most so many bytes of what was left are gone
abbrev pub ConsumesUpTo : ℕ → Option (List ℕ) → Option (List ℕ) → Type 0
ConsumesUpTo most old new = (bytes : List ℕ) × (length bytes ≤ most) × Consumes old new bytes

-- what the writer holds is longer by a front of the text
abbrev pub AppendsFront : Option (List ℕ) → Option (List ℕ) → List ℕ → Type 0
AppendsFront old new text = (front rest : List ℕ) × (text ≡ front ++ rest) × Appends old new front
