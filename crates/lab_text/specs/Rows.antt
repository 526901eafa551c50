-- What a text is read to, row by row: all rows, or the first fault (this project's own).
use Rattle.std.specs.Prelude.{List, [], ◌∷◌, ◌++◌, Result, Ok, Err}

-- a row and those after it, or their fault
abbrev pub with_first : {X E : Type 0} → X → Result (List X) E → Result (List X) E
with_first row (Ok others) = Ok (row ∷ others)
with_first row (Err fault) = Err fault

-- all rows, or the first fault
abbrev pub all_rows : {X E : Type 0} → List (Result X E) → Result (List X) E
all_rows [] = Ok []
all_rows (Ok row ∷ others) = with_first row (all_rows others)
all_rows (Err fault ∷ others) = Err fault

-- rows before others, if these are read
abbrev pub with_front : {X E : Type 0} → List X → Result (List X) E → Result (List X) E
with_front front (Ok others) = Ok (front ++ others)
with_front front (Err fault) = Err fault
