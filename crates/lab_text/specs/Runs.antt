-- Runs of bytes of one value, and their text (this project's own).
use Rattle.std.specs.Prelude.{◌≢◌, ℕ, ◌+◌, ◌/◌, ◌%◌, ◌==◌, if◌then◌else◌, List, [], ◌∷◌, ◌++◌, map, replicate, decimal}
use Rattle.std.specs.List.{join_with_byte}
use Rattle.std.specs.Char.{digit_char}
use Rattle.lab_text.specs.declared.run.Run.{Run}

-- the runs with the byte before the first: it joins a run of its value
abbrev pub with_byte : ℕ → List Run → List Run
with_byte byte [] = record { count = 1; value = byte } ∷ []
with_byte byte (run ∷ runs) =
    if run.value == byte
    then record { count = run.count + 1; value = byte } ∷ runs
    else record { count = 1; value = byte } ∷ run ∷ runs

-- the longest runs of one value, in order
unfoldable pub runs_list : List ℕ → List Run
runs_list [] = []
runs_list (byte ∷ bytes) = with_byte byte (runs_list bytes)

-- the bytes that the runs are made of
abbrev pub spelled : List Run → List ℕ
spelled [] = []
spelled (run ∷ runs) = replicate run.count run.value ++ spelled runs

-- no two runs beside one another have one value
abbrev pub NeighboursDiffer : List Run → Type 0
NeighboursDiffer [] = Unit {0}
NeighboursDiffer (run ∷ []) = Unit {0}
NeighboursDiffer (run ∷ next ∷ runs) = (run.value ≢ next.value) × NeighboursDiffer (next ∷ runs)

-- a run's text: its count, `x` and its value in two lower-case hexadecimal digits
abbrev pub run_text : Run → List ℕ
run_text run = decimal run.count
    ++ 120 ∷ digit_char (run.value / 16) ∷ digit_char (run.value % 16) ∷ []

-- the runs' text: one space between two runs
unfoldable pub runs_text : List Run → List ℕ
runs_text runs = join_with_byte 32 (map run_text runs)
